use Rattle.std.proofs.Common.{◌≡◌, ◌&&◌, not, drop}
use Rattle.std.specs.Prelude.{filter, bytes_eq}
use Rattle.spiffe_name.specs.SelectorSet.{set_eq}
use Rattle.entry_book.specs.Order.{first}
use Rattle.entry_book.specs.Book.{in_group}
use Rattle.plain_book.proofs.find.similar_to.Given as goal

abbrev pub invariant-loop-entry : goal.invariant-loop-entry
invariant-loop-entry l = first (filter (λ entry. set_eq entry.selectors l.new.selectors && not (bytes_eq entry.id l.new.id)) (filter (in_group l.new.parent l.new.identity) (drop l.entry-index l.entries))) ≡ first (filter (λ entry. set_eq entry.selectors l.new.selectors && not (bytes_eq entry.id l.new.id)) (filter (in_group l.new.parent l.new.identity) l.entries))
