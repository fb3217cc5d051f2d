use Rattle.std.proofs.Common.{◌+◌, ◌<◌, ◌≤◌, length, sym, ap, arith}
use Rattle.batch_work.proofs.Taking.{within_ops, op_ended, query_ended, changes_ended}
use Rattle.batch_work.proofs.take.record_op.Goals as goal

pub overflow_add-index : goal.overflow_add-index
overflow_add-index c = let low = within_ops c.args.batch.now c.args.begun.now c.requires.began c.args.progress.now.marks.items c.args.progress.now.changes c.args.progress.now.replies.items c.args.index c.args.mark.now _ c.requires.looked in omega arith

pub returns-then-index-ops-clause-holds_at_stage : goal.returns-then-index-ops-clause-holds_at_stage
returns-then-index-ops-clause-holds_at_stage c =
    let t = c.if-index-ops.true in
    let more : c.args.index + 1 < length c.ops.result.now = omega arith in
    op_ended c.args.batch.now c.args.begun.now c.requires.began c.args.progress.now.marks.items c.args.progress.now.changes c.args.progress.now.replies.items c.args.index c.args.mark.now c.args.reply.now c.args.writes.now c.requires.looked (length c.ops.result.now) (ap length c.ops.ensures.ops) more c.end_op.new.progress.changes c.end_op.new.progress.replies.items c.in_ok-end_op.ensures.changes c.in_ok-end_op.ensures.replies

pub returns-in_ok-stage-clause-holds_at_stage : goal.returns-in_ok-stage-clause-holds_at_stage
returns-in_ok-stage-clause-holds_at_stage c =
    let t = c.if-index-ops.false in
    let last : length c.ops.result.now ≤ c.args.index + 1 = omega arith in
    query_ended c.args.batch.now c.args.begun.now c.requires.began c.args.progress.now.marks.items c.args.progress.now.changes c.args.progress.now.replies.items c.args.index c.args.mark.now c.args.reply.now c.args.writes.now c.requires.looked (length c.ops.result.now) (ap length c.ops.ensures.ops) last (sym c.if-is_query.ensures.query) c.args.progress.now.changes c.args.progress.now.replies.items c.in_ok-stage.stage c.in_ok-stage.ensures

pub returns-in_ok-stage-2-clause-holds_at_stage : goal.returns-in_ok-stage-2-clause-holds_at_stage
returns-in_ok-stage-2-clause-holds_at_stage c =
    let t = c.if-index-ops.false in
    let last : length c.ops.result.now ≤ c.args.index + 1 = omega arith in
    changes_ended c.args.batch.now c.args.begun.now c.requires.began c.args.progress.now.marks.items c.args.progress.now.changes c.args.progress.now.replies.items c.args.index c.args.mark.now c.args.reply.now c.args.writes.now c.requires.looked (length c.ops.result.now) (ap length c.ops.ensures.ops) last (sym c.if-is_query.ensures.query) c.end_changes_batch.new.progress.changes c.end_changes_batch.new.progress.replies.items c.in_ok-stage-2.stage c.in_ok-stage-2.ensures.ready c.in_ok-stage-2.ensures.changes
