-- What a commit under the lock means for the journal and for its seat.
use Rattle.std.proofs.Common.{◌≡◌, ◌⊎◌, ℕ, ◌<◌, ◌≤◌, ◌^◌, List, [], ◌∷◌, ◌++◌, length, length-append, Option, Ok, refl, sym, ap, subst, ◌∙◌, ⊎_elim, arith}
use mathlib.Core.List.{IsPrefix}
use Rattle.logbook.specs.Pages.{Book as WordBook}
use Rattle.entry_book.specs.Book.{Book}
use Rattle.entry_book.specs.History.{IsFirst}
use Rattle.entry_book.specs.Rows.{Bytes}
use Rattle.version_book.specs.History.{version_with}
use Rattle.batch_work.specs.declared.status.Status.TheVariants.{Ready}
use Rattle.batch_work.specs.Windows.{Window, pushed}
use Rattle.batch_work.specs.Working.{Work, base_in, status_of}
use Rattle.commit_head.specs.declared.commit.Commit.{Commit}
use Rattle.commit_head.specs.declared.commit.Commit.TheVariants.{Committed, Conflict, Full, NoMemory}
use Rattle.commit_head.specs.declared.item.Item.{Item}
use Rattle.commit_head.specs.Heads.{IsPreparedFor, Head, IsAppended, IsJournal, IsRefused, Prepared, IsUnchangedHead, last_items, newest_of, head_place as place_at}
use Rattle.commit_head.specs.Journals.{IsLawfulJournal, Joins, Leads, first_version, place_after}
use Rattle.commit_head.proofs.Begun.{journal_kept, journal_unchanged}
use Rattle.commit_head.proofs.Journals.{journal_extends, journal_is_lawful, leads_more, leads_to_one, low}
use Rattle.commit_head.proofs.OnBooks.{commit_on_books, led_to}
use Rattle.shared_registry.specs.WriterStates.{IsPublished, IsTied}
use Rattle.shared_registry.specs.OutcomesPrivate.{HandsOut, HasLooked, IsCommitThere}
use Rattle.shared_registry.specs.Seated.{Seated}
use Rattle.shared_registry.specs.SeatCalls.{AllBelow, calls_of}
use Rattle.shared_registry.specs.Shown.{Shown}
use Rattle.shared_registry.specs.ShownPrivate.{ShowsJournal, whole_head}
use Rattle.shared_registry.specs.Works.{IsRead}
use Rattle.shared_registry.proofs.Once.{once_more, others}
use Rattle.shared_registry.proofs.Overtaken.{overtaken_there, ready_on}

-- ---- a checkpoint

pub checkpointed : (first : List Book) (domain : Bytes) (log : List Item) (old new : Head) → IsTied first domain log old → new.window ≡ old.window → (new ≡ old) ⊎ (new.kept ≡ last_items old.kept) → length new.kept < 4096 → IsTied first domain log new
checkpointed first domain log old new t w k few = record {
  is_first = t.is_first;
  journal_is = ⊎_elim (λ (e : new ≡ old). subst (IsJournal first log) (sym e) t.journal_is) (λ (e : new.kept ≡ last_items old.kept). journal_unchanged first log old new t.journal_is w e) k;
  domain_is = ap (λ v. v.newest.domain) w ∙ t.domain_is;
  few = omega arith;
}

pub tied_unchanged : (first : List Book) (domain : Bytes) (log : List Item) (old new : Head) → IsTied first domain log old → IsUnchangedHead old new → IsTied first domain log new
tied_unchanged first domain log old new t s = record {
  is_first = t.is_first;
  journal_is = journal_kept first log old new t.journal_is s;
  domain_is = ap (λ v. v.newest.domain) s.window ∙ t.domain_is;
  few = let same = ap length s.kept in let few = t.few in omega arith;
}

-- ---- the length of a journal

first_here : (first : List Book) (domain : Bytes) (log : List Item) (h : Head) → IsTied first domain log h → IsFirst h.window.newest.domain first
first_here first domain log h t = subst (λ d. IsFirst d first) (sym t.domain_is) t.is_first

pub place_is : (first : List Book) (domain : Bytes) (log : List Item) (h : Head) → IsTied first domain log h → place_at h ≡ place_after first log
place_is first domain log h t = (led_to first h.window.newest.domain log (newest_of h) t.is_first.some t.journal_is.leads).number

pub journal_low : (first : List Book) (domain : Bytes) (log : List Item) (h : Head) → IsTied first domain log h → length log ≤ 2 ^ 48
journal_low first domain log h t = let n = place_is first domain log h t in let l = low first log h (first_here first domain log h t) t.journal_is in omega arith

-- ---- the item that is added

pub lawful_more : (first : List Book) (domain : Bytes) (log : List Item) (item : Item) (h : Head) (s c : ℕ) → IsTied first domain log h → IsLawfulJournal first domain log → Joins item (newest_of h) → item.seat ≡ s → item.call ≡ c → AllBelow c (calls_of s log) → IsLawfulJournal first domain (log ++ item ∷ [])
lawful_more first domain log item h s c t l j seat call below =
    let leads : Leads (first_version domain first) log (newest_of h) = subst (λ d. Leads (first_version d first) log (newest_of h)) t.domain_is t.journal_is.leads in
    journal_is_lawful first domain (log ++ item ∷ []) (version_with item.batch (newest_of h)) t.is_first (leads_more log item (first_version domain first) (newest_of h) leads j) (once_more log item l.once (others c s log item seat call below))

pub tied_more : (first : List Book) (domain : Bytes) (log : List Item) (item : Item) (old new : Head) → IsTied first domain log old → Joins item (newest_of old) → IsAppended old item new → length old.kept < 4096 → IsTied first domain (log ++ item ∷ []) new
tied_more first domain log item old new t j a few = record {
  is_first = t.is_first;
  journal_is = journal_extends first log item old new t.journal_is j a;
  domain_is = ap (λ v. v.newest.domain) a.window ∙ t.domain_is;
  few = let one = ap length a.kept in let more = length-append old.kept (item ∷ []) in omega arith;
}

-- the published window has the head's newest version
same_newest : (first : List Book) (domain : Bytes) (log : List Item) (h : Head) (window : Window) → IsTied first domain log h → ShowsJournal first domain log window → newest_of h ≡ window.newest
same_newest first domain log h window t s =
    leads_to_one log (first_version domain first) (newest_of h) window.newest
    (subst (λ d. Leads (first_version d first) log (newest_of h)) t.domain_is t.journal_is.leads)
    (subst (λ d. Leads (first_version d first) log window.newest) s.domain_is s.journal.leads)

pub next_fits : (first : List Book) (domain : Bytes) (log : List Item) (h : Head) (window : Window) (p : Prepared) → IsTied first domain log h → ShowsJournal first domain log window → IsPreparedFor (newest_of h) p → IsPreparedFor window.newest p
next_fits first domain log h window p t s g = subst (λ s. IsPreparedFor s p) (same_newest first domain log h window t s) g

-- what is published shows the journal
pub shown_there : (history : WordBook) (first : List Book) (domain : Bytes) (log : List Item) (p shown : Shown) → p ≡ shown → IsPublished history first domain log shown → ShowsJournal first domain log p.window
shown_there history first domain log p shown e published =
    subst (λ l. ShowsJournal first domain l p.window) (ap (λ (s : Shown). s.journal) e ∙ published.journal_is) (subst (λ (s : Shown). ShowsJournal first domain s.journal s.window) (sym e) published.of_it.shows)

pub shows_more : (first : List Book) (domain : Bytes) (log : List Item) (p : Prepared) (window next : Window) → ShowsJournal first domain log window → IsPreparedFor window.newest p → next ≡ pushed p.version window → IsLawfulJournal first domain (log ++ p.item ∷ []) → ShowsJournal first domain (log ++ p.item ∷ []) next
shows_more first domain log p window next s g e l =
    let wider : next ≡ pushed (version_with p.item.batch window.newest) window = e ∙ ap (λ v. pushed v window) g.version in
    record {
      is_first = s.is_first;
      domain_is = ap (λ w. w.newest.domain) wider ∙ s.domain_is;
      journal = journal_extends first log p.item (whole_head window log) (whole_head next (log ++ p.item ∷ [])) s.journal g.joins (record { window = wider; kept = refl });
      once = l.once;
    }

-- ---- why a work isn't committed

unchanged_itself : (h : Head) → IsUnchangedHead h h
unchanged_itself h = record { window = refl; kept = refl; room = omega arith }

-- a work that isn't committed, of a seat that has then seen the whole journal
pub refused_there : (first : List Book) (domain : Bytes) (log : List Item) (s t : Seated) (w : Work) (h : Head) (commit : Commit) → IsRead first domain s.seen w.batch w → status_of w ≡ Ready → IsPrefix s.seen log → IsTied first domain log h → HasLooked log log s t → IsRefused h w commit → IsCommitThere first log log s t w commit
refused_there first domain log s t w h (Committed n) r ready p tied looked f = absurd f
refused_there first domain log s t w h (Conflict n) r ready p tied looked f =
    let on = commit_on_books first log h 0 0 w (base_in w.batch r.snapshot.window) (Conflict n) h (first_here first domain log h tied) tied.journal_is (ready_on first domain s.seen log w h r ready p tied) (unchanged_itself h, f) in
    (looked, on.0, overtaken_there first domain s.seen log w n r p on.0 on.1)
refused_there first domain log s t w h (Full limit n) r ready p tied looked f =
    let on = commit_on_books first log h 0 0 w (base_in w.batch r.snapshot.window) (Full limit n) h (first_here first domain log h tied) tied.journal_is (ready_on first domain s.seen log w h r ready p tied) (unchanged_itself h, f) in
    (looked, on.0, on.1)
refused_there first domain log s t w h NoMemory r ready p tied looked f = looked

-- a refused commit has replaced nothing
pub refused_hands_out : {A : Type 0} (w : Work) (h : Head) (commit : Commit) (replaced : Option A) → IsRefused h w commit → HandsOut (Ok commit) replaced
refused_hands_out w h (Committed m) replaced f n is = absurd f
refused_hands_out w h (Conflict m) replaced f n is = absurd cc
refused_hands_out w h (Full limit m) replaced f n is = absurd cc
refused_hands_out w h NoMemory replaced f n is = absurd cc
