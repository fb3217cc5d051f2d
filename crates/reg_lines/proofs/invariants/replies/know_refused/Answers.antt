use Rattle.std.proofs.Common.{IsUtf8, subst}
use Rattle.reg_lines.proofs.Written.{refused-typed}
use Rattle.reg_lines.proofs.invariants.replies.know_refused.Goals as goal

pub returns-in-NotYet : goal.returns-in-NotYet
returns-in-NotYet c = refused-typed c.args.call c.args.place c.args.refusal.now c.know.ensures.typed c.know-2.ensures.typed (subst IsUtf8 c.code.ensures c.code.utf8) (rw c.in-NotYet.is tt) (rw c.in-NotYet.is tt)

pub returns-in-TokenReused : goal.returns-in-TokenReused
returns-in-TokenReused c = refused-typed c.args.call c.args.place c.args.refusal.now c.know.ensures.typed c.know-2.ensures.typed (subst IsUtf8 c.code.ensures c.code.utf8) (rw c.in-TokenReused.is tt) (rw c.in-TokenReused.is tt)

pub returns-in-OfOp : goal.returns-in-OfOp
returns-in-OfOp c = refused-typed c.args.call c.args.place c.args.refusal.now c.know.ensures.typed c.know-2.ensures.typed (subst IsUtf8 c.code.ensures c.code.utf8) (rw c.in-OfOp.is c.know_detail.ensures) (rw c.in-OfOp.is c.know-in-OfOp.ensures.typed)

pub returns-in-Full : goal.returns-in-Full
returns-in-Full c = refused-typed c.args.call c.args.place c.args.refusal.now c.know.ensures.typed c.know-2.ensures.typed (subst IsUtf8 c.code.ensures c.code.utf8) (rw c.in-Full.is tt) (rw c.in-Full.is tt)
