use Rattle.std.proofs.Common.{sym, ◌∙◌}
use Rattle.std.proofs.lemmas.Result.{err_from_is_err_and}
use Rattle.line_reading.proofs.Front.{with_ops-nil, ops_in-more, ops_in-refused, ops_in-all}
use Rattle.line_reading.proofs.ops.ops_in.Goals as goal

pub loop-index-init : goal.loop-index-init
loop-index-init c = rw c.empty-ops.ensures (with_ops-nil _)

pub returns-in_err-op_at : goal.returns-in_err-op_at
returns-in_err-op_at c =
    let p = err_from_is_err_and c.from_residual.result c.from_residual.ensures.1 in
    rw (p.1, p.2) (ops_in-refused _ _ _ _ _ _ _ _ c.loop-index-test.true c.index-items-index.is c.in_err-op_at.ensures c.loop-index.invariant)

pub loop-index-preserved : goal.loop-index-preserved
loop-index-preserved c = sym (ops_in-more _ _ _ _ _ _ _ _ _ c.loop-index-test.true c.index-items-index.is c.in_ok-op_at.ensures c.in_ok-push.ensures.ok) ∙ c.loop-index.invariant

pub returns : goal.returns
returns c = sym c.loop-index.invariant ∙ ops_in-all _ _ _ _ _ c.loop-index-test.false
