use Rattle.std.proofs.Common.{◌≡◌, ◌+◌, ◌-◌, List, length}
use Rattle.std.specs.Prelude.{filter}
use Rattle.spiffe_name.specs.Id.{server_text}
use Rattle.entry_book.specs.Order.{Ascending}
use Rattle.entry_book.specs.Rows.{Bytes, entry_key}
use Rattle.plain_book.proofs.Reached.{Walked, reached}
use Rattle.plain_book.proofs.worklist.authorised_of.Given as goal

abbrev pub invariant-loop-parent : goal.invariant-loop-parent
invariant-loop-parent l = (read : List Bytes) × (l.found.items ≡ filter (reached (server_text l.own_domain) l.agent read) l.entries) × Walked (server_text l.own_domain) l.agent l.entries read l.pending.items × Ascending entry_key l.entries × Ascending entry_key l.found.items

abbrev pub decreases-loop-parent : goal.decreases-loop-parent
decreases-loop-parent l = length l.pending.items + (length l.entries - length l.found.items)
