use Rattle.std.proofs.Common.{◌++◌, ℕ, List, sym, subst}
use Rattle.std.specs.Prelude.{IsTrue}
use Rattle.line_log.specs.Lines.{lines_in}
use Rattle.line_log.specs.Log.{IsCrashed}
use Rattle.line_log.proofs.StepLemmas.{none_new}
use Rattle.line_log.proofs.file.LineFile.append.Goals as goal

pub returns-in_err-make_room-clause-any_moment : goal.returns-in_err-make_room-clause-any_moment
returns-in_err-make_room-clause-any_moment g c clean mixes kind left may =
    none_new mixes (lines_in (g.D.Disk.seen c.args.self.now.disk)) (lines_in c.args.text.now) left (c.make_room.ensures.any_moment clean left may)

pub returns-clause-any_moment : goal.returns-clause-any_moment
returns-clause-any_moment g c clean mixes kind left may =
    subst (λ (l : List (List ℕ)). IsCrashed mixes l (l ++ lines_in c.args.text.now) left) (c.in_ok-make_room.ensures.same clean)
    (c.write.ensures.any_moment (subst IsTrue (sym c.make_room.ensures.clean) clean) mixes kind left may)
