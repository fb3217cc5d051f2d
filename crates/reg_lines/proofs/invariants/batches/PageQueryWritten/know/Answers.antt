use Rattle.reg_lines.proofs.Written.{page-typed}
use Rattle.reg_lines.proofs.invariants.batches.PageQueryWritten.know.Goals as goal

pub returns-clause-typed : goal.returns-clause-typed
returns-clause-typed c =
    page-typed c.args.self.now c.know.ensures.typed c.know-2.ensures.typed c.know-3.ensures.typed c.know-4.ensures.typed c.know-5.ensures.typed c.know-6.ensures.typed c.know-7.ensures.typed
