use Rattle.std.proofs.Common.{◌≡◌, ◌&&◌, ◌++◌, ◌≤◌, drop, filter, length}
use Rattle.entry_book.specs.Pages.{comes_after, last_id, passes}
use Rattle.entry_book.proofs.page.PageQuery.page_of.Given as goal

abbrev pub invariant-loop-entry : goal.invariant-loop-entry
invariant-loop-entry l = (l.listed.items ++ filter (λ entry. passes l.self.filter entry && comes_after l.self.from entry) (drop l.entry-index l.entries) ≡ filter (λ entry. passes l.self.filter entry && comes_after l.self.from entry) l.entries) × (length l.listed.items ≤ l.self.size) × (l.last ≡ last_id l.listed.items)
