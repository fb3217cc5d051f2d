use Rattle.std.proofs.Common.{◌≡◌, ◌++◌, drop}
use Rattle.std.specs.Prelude.{flat_map}
use Rattle.entry_book.specs.Rows.{Entry}
use Rattle.batch_work.proofs.domains.all_borrowed_domains.Given as goal

abbrev pub invariant-loop-entry : goal.invariant-loop-entry
invariant-loop-entry l = l.all.items ++ flat_map (λ (e : Entry). e.domains) (drop l.entry-index l.entries) ≡ flat_map (λ (e : Entry). e.domains) l.entries
