use Rattle.std.proofs.Common.{arith}
use Rattle.commit_head.proofs.Checking.{items_since}
use Rattle.commit_head.proofs.check.items_since.Goals as goal

pub returns : goal.returns
returns c = λ items l a.
    let newest = c.number.ensures.number in
    let older = c.number-2.ensures.number in
    let back = c.in_ok-commits.ensures in
    let kept = c.if-commits-kept.false in
    items_since items c.args.kept.now c.args.older.now c.args.newest.now c.in_ok-commits.commits l a (omega arith) (omega arith)
