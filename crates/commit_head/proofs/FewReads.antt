-- The books of a journal are those of a history, so the footprint of a batch on them is bounded.
use Rattle.std.proofs.Common.{◌≡◌, ℕ, ◌+◌, ◌*◌, ◌<◌, true, false, List, [], ◌∷◌, length, Option, Some, None, refl, ap, ◌∙◌, arith}
use Rattle.std.specs.Prelude.{slice_get, nat_lt, cond, IfSome}
use Rattle.entry_book.specs.Rows.{Bytes}
use Rattle.entry_book.specs.Book.{Book}
use Rattle.entry_book.specs.Batches.{past_place}
use Rattle.entry_book.specs.History.{IsFirst, IsHistory, book_for, books_from, last_book, place_of}
use Rattle.entry_book.proofs.Alike.{last_there}
use Rattle.entry_book.proofs.Histories.{history_some, lawful_history}
use Rattle.entry_book.proofs.WithinLimits.{all_within_limits}
use Rattle.version_book.specs.CommittedRows.{VersionState}
use Rattle.version_book.proofs.Histories.{books_follow, domain_is_unchanged}
use Rattle.batch_work.specs.Bounds.{IsBounded}
use Rattle.batch_work.proofs.Bounds.{reads_are_few_anywhere}
use Rattle.commit_head.specs.declared.item.Item.{Item}
use Rattle.commit_head.specs.Journals.{Leads, batches_of, first_version}
use Rattle.commit_head.specs.Laws.{JournalReadsFew}
use Rattle.commit_head.proofs.Journals.{first_last, leads_follow}

history_led : (first : List Book) (own_domain : Bytes) (items : List Item) (s : VersionState) → IsFirst own_domain first → Leads (first_version own_domain first) items s → IsHistory first own_domain (books_from first (batches_of items))
history_led first own_domain items s begins l =
    let start = first_version own_domain first in
    let follows = leads_follow items start s l in
    let last = first_last own_domain first in (
      batches_of items,
      record {
        is_first = begins;
        made = (domain_is_unchanged (batches_of items) start s follows).1;
        committed = (books_follow (batches_of items) start s first begins.some last.book last.place follows).0;
        books_are = refl;
      },
    )

bounded_at : (first : List Book) (own_domain : Bytes) (books : List Book) → IsHistory first own_domain books → (n : ℕ) (b : Book) → slice_get books n ≡ Some b → IsBounded own_domain b
bounded_at first own_domain books h n b e = let limits = all_within_limits first own_domain books h n b e in record { most = 64 * n; lawful = lawful_history first own_domain books h n b e; entries = limits.entries; bundles = limits.bundles }

bounded_found : (first : List Book) (own_domain : Bytes) (books : List Book) → IsHistory first own_domain books → (n : ℕ) (o : Option Book) → slice_get books n ≡ o → IfSome o (IsBounded own_domain)
bounded_found first own_domain books h n None e = tt
bounded_found first own_domain books h n (Some b) e = bounded_at first own_domain books h n b e

bounded_for : (first : List Book) (own_domain : Bytes) (books : List Book) → IsHistory first own_domain books → (o : Option ℕ) → IfSome (book_for o books) (IsBounded own_domain)
bounded_for first own_domain books h None = bounded_at first own_domain books h (place_of books) (last_book books) (last_there books (history_some first own_domain books h))
bounded_for first own_domain books h (Some n) = elim (nat_lt (place_of books) (n + 64)) as (λ t. IfSome (cond t (slice_get books n) None) (IsBounded own_domain)) [
  | true ↦ bounded_found first own_domain books h n (slice_get books n) refl
  | false ↦ tt
]

pub journal_reads_few : JournalReadsFew
journal_reads_few first own_domain items s batch begins l made =
    let books = books_from first (batches_of items) in
    reads_are_few_anywhere own_domain batch (place_of books) (book_for (past_place batch.ops) books) made (bounded_for first own_domain books (history_led first own_domain items s begins l) (past_place batch.ops))
