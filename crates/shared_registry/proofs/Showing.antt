-- Properties of a published value.
use Rattle.std.proofs.Common.{◌≡◌, ℕ, ◌<◌, ◌≤◌, ◌^◌, List, length, refl, sym, ap, subst, ◌∙◌, arith}
use Rattle.std.specs.Prelude.{slice_index}
use Rattle.entry_book.specs.Rows.{Bytes}
use Rattle.entry_book.specs.Batches.{Batch}
use Rattle.entry_book.specs.Book.{Book}
use Rattle.entry_book.specs.History.{IsFirst}
use Rattle.batch_work.specs.Windows.{Window}
use Rattle.batch_work.specs.declared.status.Status.TheVariants.{Running}
use Rattle.batch_work.specs.Working.{Work, status_of}
use Rattle.commit_head.specs.declared.item.Item.{Item}
use Rattle.commit_head.specs.Journals.{IsLawfulJournal, Leads, first_version}
use Rattle.commit_head.proofs.Journals.{journal_is_lawful, low}
use Rattle.commit_head.proofs.OnBooks.{led_to}
use Rattle.shared_registry.specs.Shown.{Shown}
use Rattle.shared_registry.specs.ShownPrivate.{IsCounted, ShowsJournal, ShowsSome, whole_head}
use Rattle.shared_registry.specs.Works.{IsAtEnd, IsBegun}
use Rattle.shared_registry.proofs.Calls.{calls_length}

-- its journal is lawful
pub lawful_shown : (first : List Book) (domain : Bytes) (items : List Item) (w : Window) → ShowsJournal first domain items w → IsLawfulJournal first domain items
lawful_shown first domain items w s = journal_is_lawful first domain items w.newest s.is_first (subst (λ d. Leads (first_version d first) items w.newest) s.domain_is s.journal.leads) s.once

pub shows_some : (first : List Book) (domain : Bytes) (items : List Item) (w : Window) → ShowsJournal first domain items w → ShowsSome items w
shows_some first domain items w s = (first, record { is_first = subst (λ d. IsFirst d first) (sym s.domain_is) s.is_first; domain_is = refl; journal = s.journal; once = s.once })

-- ---- a work that has begun on it, after more reads

pub at_end : (batch : Batch) (snapshot : Shown) (w w' : Work) → IsBegun batch snapshot w → w' ≡ record w { steps = w'.steps } → (status_of w' ≡ Running → ⊥) → IsAtEnd batch snapshot w'
at_end batch snapshot w w' b same over = record {
  begun = record {
    batch_is = ap (λ w. w.batch) same ∙ b.batch_is;
    base_is = ap (λ w. w.base) same ∙ b.base_is;
  };
  over = over;
}

-- ---- the length of a journal

pub number_low : (items : List Item) (w : Window) → ShowsSome items w → w.newest.number ≤ 2 ^ 48
number_low items w s = low s.0 items (whole_head w items) s.1.is_first s.1.journal

journal_low : (items : List Item) (w : Window) → ShowsSome items w → length items ≤ 2 ^ 48
journal_low items w s =
    let n = (led_to s.0 w.newest.domain items w.newest s.1.is_first.some s.1.journal.leads).number in
    let l = number_low items w s in
    omega arith

-- no count is larger
pub count_low : (items : List Item) (w : Window) (counts : List ℕ) (s : ℕ) → ShowsSome items w → IsCounted counts items → s < 32 → slice_index counts s ≤ 2 ^ 48
count_low items w counts s h counted less = let c = counted.each s less in let n = calls_length s items in let l = journal_low items w h in omega arith
