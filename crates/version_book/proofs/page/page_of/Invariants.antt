use Rattle.std.proofs.Common.{◌≡◌, ◌&&◌, ◌++◌, ◌≤◌, filter, length, map}
use Rattle.std.specs.Map.{values_of}
use Rattle.entry_book.specs.Pages.{comes_after, last_id, passes}
use Rattle.entry_book.specs.Rows.{Entry}
use Rattle.version_book.specs.CommittedRows.{row_of}
use Rattle.version_book.proofs.page.page_of.Given as goal

abbrev pub invariant-loop-row : goal.invariant-loop-row
invariant-loop-row l = (l.listed.items ++ filter (λ (entry : Entry). passes l.query.filter entry && comes_after l.query.from entry) (map row_of (values_of l.row-iterator)) ≡ filter (λ (entry : Entry). passes l.query.filter entry && comes_after l.query.from entry) (map row_of (values_of l.fn.rows))) × (length l.listed.items ≤ l.query.size) × (l.last ≡ last_id l.listed.items)
