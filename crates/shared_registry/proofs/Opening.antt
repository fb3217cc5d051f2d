-- The first published value.
use Rattle.std.proofs.Common.{◌≡◌, ℕ, List, [], length, refl, sym, subst}
use Rattle.entry_book.specs.Book.{Book}
use Rattle.entry_book.specs.History.{IsFirst, first_books}
use Rattle.entry_book.specs.Rows.{Bytes}
use Rattle.entry_book.proofs.Histories.{empty_is_first}
use Rattle.version_book.specs.CommittedRows.{VersionState}
use Rattle.batch_work.specs.Windows.{Window}
use Rattle.commit_head.specs.Heads.{Head, IsJournal}
use Rattle.commit_head.specs.Journals.{empty_version}
use Rattle.commit_head.proofs.Journals.{journal_begins}
use Rattle.shared_registry.specs.ShownPrivate.{IsCounted, ShowsJournal}
use Rattle.shared_registry.proofs.Counts.{none_counted, zeros}

-- the window with this version alone is one that has it and no older ones
pub alone_is : (w : Window) (s : VersionState) → w.older ≡ [] → s ≡ w.newest → record { older = []; newest = s } ≡ w
alone_is w s e q = λ i. record { older = sym e i; newest = q i }

pub shows_none : (first : List Book) (domain : Bytes) (h : Head) (w : Window) → IsFirst domain first → h.window.newest.domain ≡ domain → IsJournal first [] h → w ≡ h.window → ShowsJournal first domain [] w
shows_none first domain h w begins d k e = subst (ShowsJournal first domain []) (sym e) (record {
  is_first = begins;
  domain_is = d;
  journal = record { leads = k.leads; ending = ([], refl); shown = k.shown };
  once = tt;
})

pub counts_none : (counts : List ℕ) → counts ≡ zeros 32 → IsCounted counts []
counts_none counts z = none_counted counts [] z (subst (λ l. length l ≡ 32) (sym z) refl) refl

-- a new head, if the history begins with the empty book
pub begins_empty : (first : List Book) (own_domain : Bytes) (h : Head) → first ≡ first_books → h.window ≡ record { older = []; newest = empty_version own_domain } → h.kept ≡ [] → IsJournal first [] h
begins_empty first own_domain h f w k = subst (λ l. IsJournal l [] h) (sym f) (journal_begins own_domain h w k)

pub first_empty : (first : List Book) (own_domain : Bytes) → first ≡ first_books → IsFirst own_domain first
first_empty first own_domain f = subst (IsFirst own_domain) (sym f) (empty_is_first own_domain)
