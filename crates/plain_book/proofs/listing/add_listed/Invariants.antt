use Rattle.std.proofs.Common.{◌≡◌, ◌&&◌, ◌++◌, ◌≤◌, drop, filter, length}
use Rattle.entry_book.specs.Pages.{comes_after, passes}
use Rattle.plain_book.proofs.listing.add_listed.Given as goal

abbrev pub invariant-loop-entry : goal.invariant-loop-entry
invariant-loop-entry l = (l.listed.items ++ filter (λ entry. passes l.query.filter entry && comes_after l.query.from entry) (drop l.entry-index l.entries) ≡ l.fn.listed.items ++ filter (λ entry. passes l.query.filter entry && comes_after l.query.from entry) l.entries) × (length l.listed.items ≤ l.query.size)
