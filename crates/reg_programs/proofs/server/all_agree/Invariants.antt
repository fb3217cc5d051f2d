use Rattle.std.specs.Prelude.{ℕ, ◌<◌, get_or, length}
use Rattle.shared_registry.specs.OneList.{AreOneList}
use Rattle.shared_registry.specs.Seated.{Seated}
use Rattle.reg_programs.proofs.server.all_agree.Given as goal

-- each of the seats so far, with each seat
abbrev pub invariant-loop-seat : goal.invariant-loop-seat
invariant-loop-seat g l = (i j : ℕ) (s t : Seated) → i < l.seat-index → j < length l.seats → AreOneList (get_or l.seats i s).seen (get_or l.seats j t).seen
