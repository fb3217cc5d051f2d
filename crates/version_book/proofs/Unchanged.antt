-- What follows for an older and a newer version if a mark has the same rows in both, with the same numbers.
use Rattle.std.proofs.Common.{◌≡◌, Bool, true, false, List, [], ◌∷◌, sym, ap, ◌∙◌, IsTrue}
use Rattle.std.specs.List.{AllByRecursion, list_any}
use Rattle.std.proofs.lemmas.Bool.{both_ways, cases_Bool, or_parts}
use Rattle.std.proofs.Common.{⊎_elim}
use Rattle.entry_book.specs.Batches.{Batch}
use Rattle.entry_book.specs.Book.{AscendingBook}
use Rattle.version_book.specs.declared.mark.MarkKind.{MarkKind}
use Rattle.version_book.specs.Marks.{Agree}
use Rattle.version_book.specs.CommittedRows.{VersionState, AllUpTo, book_of, marked}
use Rattle.version_book.specs.History.{Follows, IsEarlier, any_hits}
use Rattle.version_book.specs.Laws.{UnhitMarks}
use Rattle.version_book.specs.Stores.{NumbersIdentify}
use Rattle.version_book.proofs.Histories.{unhit_history}
use Rattle.version_book.proofs.NamedRows.{book_reads}
use Rattle.version_book.proofs.Numbers.{numbers_identify}

module _ (m : MarkKind) (older newer : VersionState) (ascending : AscendingBook (book_of older.rows)) (upto : AllUpTo older.number older.rows) (result : Bool) where
  abbrev Same : Type 0
  Same = marked m older.rows ≡ marked m newer.rows

  pub same_rows : (NumbersIdentify older.rows newer.rows → IsTrue result → Same) → IsEarlier older newer → IsTrue result → Same
  same_rows is_exact e h = is_exact (numbers_identify e.0 older newer ascending upto e.1) h

  pub same_reads : (NumbersIdentify older.rows newer.rows → IsTrue result → Same) → IsEarlier older newer → IsTrue result → Agree (book_of older.rows) (book_of newer.rows) m
  same_reads is_exact e h = book_reads m older.rows ∙ (ap book_of (same_rows is_exact e h) ∙ sym (book_reads m newer.rows))

  pub some_hits : (Same → IsTrue result) → (batches : List Batch) → Follows older batches newer → result ≡ false → any_hits m older batches ≡ true
  some_hits same batches f h = ⊎_elim (λ t. t) (λ n. absurd (both_ways result h (same (unhit_history m batches older newer ascending f n)))) (cases_Bool (any_hits m older batches))

-- ---- lists of marks

module _ (batches : List Batch) (older newer : VersionState) (ascending : AscendingBook (book_of older.rows)) (follows : Follows older batches newer) where
  unhit_rows : (ms : List MarkKind) → list_any (λ m. any_hits m older batches) ms ≡ false → AllByRecursion (λ m. marked m older.rows ≡ marked m newer.rows) ms
  unhit_rows [] h = tt
  unhit_rows (m ∷ ms) h = let r = or_parts (any_hits m older batches) (list_any (λ m. any_hits m older batches) ms) h in (unhit_history m batches older newer ascending follows r.0, unhit_rows ms r.1)

  all_agree : (ms : List MarkKind) → AllByRecursion (λ m. marked m older.rows ≡ marked m newer.rows) ms → AllByRecursion (λ m. Agree (book_of older.rows) (book_of newer.rows) m) ms
  all_agree [] h = tt
  all_agree (m ∷ ms) h = (book_reads m older.rows ∙ (ap book_of h.0 ∙ sym (book_reads m newer.rows)), all_agree ms h.1)

pub unhit_marks : UnhitMarks
unhit_marks ms batches older newer a f h = all_agree batches older newer a f ms (unhit_rows batches older newer a f ms h)
