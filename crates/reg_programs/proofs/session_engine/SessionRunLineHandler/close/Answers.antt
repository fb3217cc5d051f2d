use Rattle.std.proofs.Common.{[], refl}
use Rattle.line_devices.proofs.Puts.{Puts-nil}
use Rattle.reg_programs.proofs.session_engine.SessionRunLineHandler.close.Goals as goal

pub returns-clause-closed : goal.returns-clause-closed
returns-clause-closed g c = λ lines now represents. ([], refl, Puts-nil c.args.arg3.now)
