use Rattle.std.proofs.Common.{◌-◌}
use Rattle.std.specs.Prelude.{vec_capacity, vec_len}
use Rattle.commit_head.proofs.Journals.{dropped}
use Rattle.commit_head.proofs.head.Head.checkpoint_into.Goals as goal

pub invariant_of-self : goal.invariant_of-self
invariant_of-self c = dropped (record { window = c.self.inside.window; kept = c.self.inside.kept.items; room = vec_capacity c.self.inside.kept - vec_len c.self.inside.kept }) _ _ c.self.invariant c.move_older.ensures.kept
