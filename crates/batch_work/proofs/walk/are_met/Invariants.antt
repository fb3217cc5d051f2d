use Rattle.std.proofs.Common.{◌≡◌, drop}
use Rattle.std.specs.List.{list_all}
use Rattle.entry_book.specs.Rows.{Entry}
use Rattle.batch_work.specs.Reads.{is_one_of}
use Rattle.batch_work.proofs.walk.are_met.Given as goal

abbrev pub invariant-loop-entry : goal.invariant-loop-entry
invariant-loop-entry l = list_all (λ (e : Entry). is_one_of e.identity l.met) (drop l.entry-index l.entries) ≡ list_all (λ (e : Entry). is_one_of e.identity l.met) l.entries
