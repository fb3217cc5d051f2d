-- What a head's decision on a commit means for the journal of batches, if the head stores its whole journal.
use Rattle.std.proofs.Common.{◌≡◌, ℕ, List, [], ◌∷◌, ◌++◌, length, length-append, take, drop, Some, sym, ap, subst, ◌∙◌, arith}
use Rattle.std.proofs.lemmas.List.{append-nil, take-append-drop, take-append-le, take-map, take_all}
use Rattle.entry_book.specs.Rows.{Bytes}
use Rattle.entry_book.specs.Batches.{Batch}
use Rattle.entry_book.specs.History.{books_of, first_books}
use Rattle.batch_work.specs.Working.{Base, base_in}
use Rattle.batch_work.proofs.Windows.{window_represents}
use Rattle.commit_head.specs.declared.item.Item.{Item}
use Rattle.commit_head.specs.Heads.{BeganOn, Head, IsAppended, IsJournal, IsUnchangedHead, newest_of, head_place as place_at}
use Rattle.commit_head.specs.Journals.{Joins, Leads, batches_of, empty_version as first_version}
use Rattle.commit_head.proofs.Begun.{began_inside, journal_kept}
use Rattle.commit_head.proofs.Journals.{journal_extends}
use Rattle.commit_head.proofs.OnBooks.{count_of_batches, led_to}
use Rattle.call_machine.specs.Kept.{BaseIsInJournal, ExtendsJournal, IsOn, HasWholeJournal, head_domain, journal_of}

-- ---- items and batches

pub first_batches : (n : ℕ) (items : List Item) → take n (batches_of items) ≡ batches_of (take n items)
first_batches n items = take-map (λ item. item.batch) n items

pub place_is : (h : Head) → HasWholeJournal h → place_at h ≡ length (journal_of h)
place_is h w = let n = (led_to first_books (head_domain h) h.kept (newest_of h) (omega arith) w.leads).number in let c = count_of_batches h.kept in omega arith

-- ---- a begin

pub began_there : (h : Head) (batch : Batch) → HasWholeJournal h → BaseIsInJournal (head_domain h) h.kept batch (base_in batch h.window)
began_there h batch w =
    let n = (led_to first_books (head_domain h) h.kept (newest_of h) (omega arith) w.leads).number in
    let all : take (place_at h) h.kept ≡ h.kept = take_all (place_at h) h.kept (omega arith) in
    let books : take (place_at h) (journal_of h) ≡ journal_of h = first_batches (place_at h) h.kept ∙ ap batches_of all in
    let o = window_represents batch h.window (books_of (journal_of h)) w.shown in
    record {
      low = omega arith;
      leads = subst (λ l. Leads (first_version (head_domain h)) l (newest_of h)) (sym all) w.leads;
      is_on = subst (λ l. IsOn batch (base_in batch h.window) (books_of l)) (sym books) (record { reads = o.reads; wait = o.wait; reply = o.reply });
    }

-- ---- the journal grows

pub began_still : (own_domain : Bytes) (items more : List Item) (batch : Batch) (base : Base) → BaseIsInJournal own_domain items batch base → BaseIsInJournal own_domain (items ++ more) batch base
began_still own_domain items more batch base b =
    let low = b.low in
    let batches : take base.newest.number (batches_of (items ++ more)) ≡ take base.newest.number (batches_of items) =
    first_batches base.newest.number (items ++ more) ∙ (ap batches_of (take-append-le base.newest.number items more b.low) ∙ sym (first_batches base.newest.number items)) in
    record {
      low = let l = length-append items more in omega arith;
      leads = subst (λ l. Leads (first_version own_domain) l base.newest) (sym (take-append-le base.newest.number items more b.low)) b.leads;
      is_on = subst (λ l. IsOn batch base (books_of l)) (sym batches) b.is_on;
    }

-- ---- a commit

-- the head has the version on which a work began
pub began_on : (h : Head) (batch : Batch) (base : Base) → HasWholeJournal h → BaseIsInJournal (head_domain h) h.kept batch base → BeganOn (Some base) h
began_on h batch base w b =
    let n = base.newest.number in
    (began_inside first_books (take n h.kept) (drop n h.kept) base h (subst (λ l. IsJournal first_books l h) (sym (take-append-drop n h.kept)) w) b.leads).began

-- the journal after one more item
pub went_on : (old new : Head) (item : Item) → HasWholeJournal old → Joins item (newest_of old) → IsAppended old item new → ExtendsJournal old new
went_on old new item w j a = record {
  domain = ap (λ x. x.newest.domain) a.window;
  more = item ∷ [];
  kept = a.kept;
  whole = subst (λ l. IsJournal first_books l new) (sym a.kept) (journal_extends first_books old.kept item old new w j a);
}

pub stayed : (old new : Head) → HasWholeJournal old → IsUnchangedHead old new → ExtendsJournal old new
stayed old new w s = record {
  domain = ap (λ x. x.newest.domain) s.window;
  more = [];
  kept = s.kept ∙ sym (append-nil old.kept);
  whole = subst (λ l. IsJournal first_books l new) (sym s.kept) (journal_kept first_books old.kept old new w s);
}
