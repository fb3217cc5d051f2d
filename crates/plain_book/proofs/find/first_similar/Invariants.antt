use Rattle.std.proofs.Common.{◌≡◌, ◌&&◌, not, drop}
use Rattle.std.specs.Prelude.{filter, bytes_eq}
use Rattle.spiffe_name.specs.SelectorSet.{set_eq}
use Rattle.entry_book.specs.Order.{first}
use Rattle.entry_book.specs.Book.{in_group}
use Rattle.plain_book.specs.Blocks.{joined}
use Rattle.plain_book.proofs.find.first_similar.Given as goal

abbrev pub invariant-loop-block : goal.invariant-loop-block
invariant-loop-block l = first (filter (λ entry. set_eq entry.selectors l.new.selectors && not (bytes_eq entry.id l.new.id)) (filter (in_group l.new.parent l.new.identity) (joined (drop l.block-index l.blocks)))) ≡ first (filter (λ entry. set_eq entry.selectors l.new.selectors && not (bytes_eq entry.id l.new.id)) (filter (in_group l.new.parent l.new.identity) (joined l.blocks)))
