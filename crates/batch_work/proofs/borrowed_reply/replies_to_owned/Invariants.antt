use Rattle.std.proofs.Common.{◌≡◌, ◌++◌, drop}
use Rattle.batch_work.proofs.borrowed_reply.replies_to_owned.Given as goal

abbrev pub invariant-loop-reply : goal.invariant-loop-reply
invariant-loop-reply l = l.owned ++ drop l.reply-index l.replies ≡ l.fn.replies
