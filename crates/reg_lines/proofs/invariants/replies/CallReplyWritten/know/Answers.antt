use Rattle.std.proofs.Common.{codes, refl}
use Rattle.json.proofs.Printed.Utf8.{IsUtf8-are_ascii}
use Rattle.reg_lines.proofs.Written.{done-typed}
use Rattle.reg_lines.proofs.invariants.replies.CallReplyWritten.know.Goals as goal

pub returns-in-Committed-clause-typed : goal.returns-in-Committed-clause-typed
returns-in-Committed-clause-typed c = rw c.in-Committed.is (done-typed _ _ c.in-Committed.replies (codes "committed") c.know.ensures.typed c.know-2.ensures.typed c.know-in-Committed.ensures.typed (IsUtf8-are_ascii _ refl))

pub returns-in-Answered-clause-typed : goal.returns-in-Answered-clause-typed
returns-in-Answered-clause-typed c = rw c.in-Answered.is (done-typed _ _ c.in-Answered.replies (codes "answered") c.know.ensures.typed c.know-2.ensures.typed c.know-in-Answered.ensures.typed (IsUtf8-are_ascii _ refl))

pub returns-in-Repeated-clause-typed : goal.returns-in-Repeated-clause-typed
returns-in-Repeated-clause-typed c = rw c.in-Repeated.is (done-typed _ _ c.in-Repeated.replies (codes "repeated") c.know.ensures.typed c.know-2.ensures.typed c.know-in-Repeated.ensures.typed (IsUtf8-are_ascii _ refl))
