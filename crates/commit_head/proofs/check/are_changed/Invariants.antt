use Rattle.std.proofs.Common.{◌≡◌, Bool, true, drop}
use Rattle.std.specs.List.{AllByRecursion, list_any}
use Rattle.version_book.specs.declared.mark.MarkKind.{MarkKind}
use Rattle.version_book.specs.CommittedRows.{book_of}
use Rattle.version_book.specs.History.{IsEarlier}
use Rattle.version_book.specs.Marks.{Agree}
use Rattle.commit_head.proofs.check.are_changed.Given as goal

abbrev pub invariant-loop-mark : goal.invariant-loop-mark
invariant-loop-mark l =
    (IsEarlier l.older l.newest → AllByRecursion (Agree (book_of l.older.rows) (book_of l.newest.rows)) (drop l.mark-index l.marks) → AllByRecursion (Agree (book_of l.older.rows) (book_of l.newest.rows)) l.marks)
    × ((f : MarkKind → Bool) → list_any f (drop l.mark-index l.marks) ≡ true → list_any f l.marks ≡ true)
