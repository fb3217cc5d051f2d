-- The replies whose rows are borrowed from a version.
use Rattle.std.specs.Prelude.{List, Result, Ok, Err}
use Rattle.entry_book.specs.declared.reply.OpReply.{OpReply}
use Rattle.entry_book.specs.declared.reply.OpReply.TheVariants as reply
use Rattle.entry_book.specs.declared.reply.ReplyOutcome.{ReplyOutcome}
use Rattle.entry_book.specs.declared.reply.ReplyOutcome.TheVariants.{Answered, Refused}
use Rattle.entry_book.specs.declared.reply.Refusal.{Refusal}
use Rattle.batch_work.specs.declared.borrowed_reply.BorrowedRows.{BorrowedRows}
use Rattle.batch_work.specs.declared.borrowed_reply.BorrowedRows.TheVariants as rows

-- the reply with these rows
abbrev pub op_reply_of : BorrowedRows → OpReply
op_reply_of (rows.Entry shown) = reply.EntryShown shown
op_reply_of (rows.Entries es) = reply.Entries es
op_reply_of (rows.Page es next) = reply.Page es next
op_reply_of (rows.Agent shown) = reply.AgentShown shown
op_reply_of (rows.Bundle shown) = reply.BundleShown shown
op_reply_of (rows.Bundles bs) = reply.Bundles bs

-- the outcome of a batch whose operations have these replies, or which is refused for this reason
abbrev pub outcome_of : Result (List OpReply) Refusal → ReplyOutcome
outcome_of (Ok replies) = Answered replies
outcome_of (Err reason) = Refused reason
