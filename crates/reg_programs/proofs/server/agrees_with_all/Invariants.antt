use Rattle.std.specs.Prelude.{ℕ, ◌<◌, get_or}
use Rattle.shared_registry.specs.OneList.{AreOneList}
use Rattle.shared_registry.specs.Seated.{Seated}
use Rattle.reg_programs.proofs.server.agrees_with_all.Given as goal

-- with each of the seats so far
abbrev pub invariant-loop-other : goal.invariant-loop-other
invariant-loop-other g l = (i : ℕ) (s : Seated) → i < l.other-index → AreOneList l.seat.seen (get_or l.seats i s).seen
