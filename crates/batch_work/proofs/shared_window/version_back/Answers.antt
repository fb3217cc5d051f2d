use Rattle.std.proofs.Common.{arith}
use Rattle.batch_work.specs.WindowSlots.{held}
use Rattle.batch_work.proofs.SharedWindows.{none_back}
use Rattle.batch_work.proofs.shared_window.version_back.Goals as goal

pub returns-then-steps : goal.returns-then-steps
returns-then-steps c = none_back c.args.steps (held c.args.shared.now) (held c.args.recent.now) (omega arith)
