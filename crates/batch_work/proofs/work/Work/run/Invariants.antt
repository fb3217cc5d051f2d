use Rattle.std.proofs.Common.{◌≡◌}
use Rattle.batch_work.proofs.Statuses.{reads_left}
use Rattle.batch_work.proofs.work.Work.run.Given as goal

abbrev pub invariant-loop-self : goal.invariant-loop-self
invariant-loop-self l = l.self ≡ record l.fn.self { steps = l.self.steps }

abbrev pub decreases-loop-self : goal.decreases-loop-self
decreases-loop-self l = reads_left l.self
