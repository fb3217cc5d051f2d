-- What a work that began inside a journal is to the head of that journal, and what a conflict means in terms of the plain book.
use Rattle.std.proofs.Common.{◌≡◌, ℕ, ◌+◌, ◌-◌, List, ◌++◌, length, take, Some, sym, ap, subst, ◌∙◌, arith}
use Rattle.std.proofs.lemmas.List.{take-append-le, take_all}
use mathlib.Core.List.{IsPrefix}
use Rattle.entry_book.specs.Rows.{Bytes}
use Rattle.entry_book.specs.Batches.{Batch, IsMadeFor}
use Rattle.entry_book.specs.Book.{Book}
use Rattle.entry_book.specs.History.{books_from, first_books, place_of}
use Rattle.batch_work.specs.declared.status.Status.TheVariants.{Ready}
use Rattle.batch_work.specs.Reads.{footprint_of}
use Rattle.batch_work.specs.Working.{Work, base_in, footprint_there, status_of}
use Rattle.batch_work.proofs.Windows.{window_represents}
use Rattle.commit_head.specs.declared.item.Item.{Item}
use Rattle.commit_head.specs.Heads.{BeganOn, Head, IsJournal}
use Rattle.commit_head.specs.Journals.{Leads, batches_of, first_version, place_after}
use Rattle.commit_head.specs.Laws.{IsInside}
use Rattle.commit_head.specs.Outcomes.{IsHitSince, IsReadyOn}
use Rattle.commit_head.proofs.Begun.{began_inside}
use Rattle.commit_head.proofs.OnBooks.{batches_join, count_of_batches, hit_since_empty, led_to}
use Rattle.shared_registry.specs.WriterStates.{IsTied}
use Rattle.shared_registry.specs.Outcomes.{IsOvertaken, OvertakenAreHit}
use Rattle.shared_registry.specs.Works.{IsRead}

-- ---- a work that has read

pub base_is : (first : List Book) (domain : Bytes) (seen : List Item) (batch : Batch) (w : Work) (r : IsRead first domain seen batch w) → w.base ≡ Some (base_in batch r.snapshot.window)
base_is first domain seen batch w r = r.at_end.begun.base_is

-- the items that it has seen lead to its base
leads_there : (first : List Book) (domain own_domain : Bytes) (seen : List Item) (batch : Batch) (w : Work) (r : IsRead first domain seen batch w) → own_domain ≡ domain → Leads (first_version own_domain first) seen (base_in batch r.snapshot.window).newest
leads_there first domain own_domain seen batch w r e = subst (λ d. Leads (first_version d first) seen r.snapshot.window.newest) (r.shows.domain_is ∙ sym e) r.shows.journal.leads

-- its base has the number of what it has seen
number_there : (first : List Book) (domain : Bytes) (seen : List Item) (batch : Batch) (w : Work) (r : IsRead first domain seen batch w) → r.snapshot.window.newest.number ≡ place_after first seen
number_there first domain seen batch w r = (led_to first r.snapshot.window.newest.domain seen r.snapshot.window.newest r.shows.is_first.some r.shows.journal.leads).number

-- it began inside the journal of a head whose journal extends what it has seen
inside : (first : List Book) (domain : Bytes) (seen log : List Item) (batch : Batch) (w : Work) (h : Head) (r : IsRead first domain seen batch w) (p : IsPrefix seen log) → IsTied first domain log h → IsInside (base_in batch r.snapshot.window) p.0 h
inside first domain seen log batch w h r p t =
    began_inside first seen p.0 (base_in batch r.snapshot.window) h (subst (λ l. IsJournal first l h) (sym p.1) t.journal_is) (leads_there first domain h.window.newest.domain seen batch w r t.domain_is)

pub began : (first : List Book) (domain : Bytes) (seen log : List Item) (batch : Batch) (w : Work) (h : Head) → IsRead first domain seen batch w → IsPrefix seen log → IsTied first domain log h → BeganOn w.base h
began first domain seen log batch w h r p t = subst (λ o. BeganOn o h) (sym (base_is first domain seen batch w r)) (inside first domain seen log batch w h r p t).began

-- it is ready on the journal of a head whose journal extends what it has seen
pub ready_on : (first : List Book) (domain : Bytes) (seen log : List Item) (w : Work) (h : Head) (r : IsRead first domain seen w.batch w) → status_of w ≡ Ready → IsPrefix seen log → IsTied first domain log h → IsReadyOn first h.window.newest.domain log w (base_in w.batch r.snapshot.window)
ready_on first domain seen log w h r s p t =
    let own_domain = h.window.newest.domain in
    let newest = r.snapshot.window.newest in
    let leads = leads_there first domain own_domain seen w.batch w r t.domain_is in
    let number : newest.number - place_of first ≡ length seen = (let n = number_there first domain seen w.batch w r in omega arith) in
    let prefix : take (newest.number - place_of first) log ≡ seen = ap (λ n. take n log) number ∙ (ap (take (length seen)) (sym p.1) ∙ (take-append-le (length seen) seen p.0 (omega arith) ∙ take_all (length seen) seen (omega arith))) in
    record {
      made = subst (λ d. IsMadeFor d w.batch) (sym t.domain_is) r.made;
      ready = s;
      base_is = base_is first domain seen w.batch w r;
      leads = subst (λ l. Leads (first_version own_domain first) l newest) (sym prefix) leads;
    }

-- a conflict on the whole journal, in terms of the books that the seat had seen
pub overtaken_there : (first : List Book) (domain : Bytes) (seen log : List Item) (w : Work) (n : ℕ) (r : IsRead first domain seen w.batch w) → IsPrefix seen log → n ≡ place_after first log → IsHitSince first (batches_of log) r.snapshot.window.newest.number (footprint_there w.batch (base_in w.batch r.snapshot.window)) → IsOvertaken first (batches_of log) w.batch (length seen) (n - place_of first)
overtaken_there first domain seen log w n r p e hit =
    let books = books_from first (batches_of seen) in
    let marks = footprint_of w.batch (books_from first (take (length seen) (batches_of log))) in
    let number : r.snapshot.window.newest.number ≡ length seen + place_of first = number_there first domain seen w.batch w r in
    let long : length (batches_of log) ≡ length log = count_of_batches log in
    let short : length (batches_of seen) ≡ length seen = count_of_batches seen in
    let whole : take (n - place_of first) (batches_of log) ≡ batches_of log = take_all (n - place_of first) (batches_of log) (omega arith) in
    let journal : batches_of log ≡ batches_of seen ++ batches_of p.0 = ap batches_of (sym p.1) ∙ batches_join seen p.0 in
    let front : take (length seen) (batches_of log) ≡ batches_of seen = ap (take (length seen)) journal ∙ (take-append-le (length seen) (batches_of seen) (batches_of p.0) (omega arith) ∙ take_all (length seen) (batches_of seen) (omega arith)) in
    let reads : footprint_there w.batch (base_in w.batch r.snapshot.window) ≡ marks = (window_represents w.batch r.snapshot.window books r.shows.journal.shown).reads ∙ ap (λ l. footprint_of w.batch (books_from first l)) (sym front) in
    subst (λ l. IsHitSince first l (length seen + place_of first) marks) (sym whole)
    (subst (λ b. IsHitSince first (batches_of log) b marks) number
    (subst (IsHitSince first (batches_of log) r.snapshot.window.newest.number) reads hit))

-- ---- a history that begins with the empty book

pub overtaken_are_hit : OvertakenAreHit
overtaken_are_hit journal batch base upto o =
    let n : upto - 0 ≡ upto = omega arith in
    let b : base + 0 ≡ base = omega arith in
    let marks = footprint_of batch (books_from first_books (take base journal)) in
    (hit_since_empty (take upto journal) base marks).0
    (subst (λ m. IsHitSince first_books (take upto journal) m marks) b
    (subst (λ k. IsHitSince first_books (take k journal) (base + 0) marks) n o))
