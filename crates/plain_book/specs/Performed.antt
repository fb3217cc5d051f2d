-- What the code returns for an operation, the run of a batch, and its verdict. For the first two it is the defined result,
-- with the book after the writes instead of the writes. For the third it is the defined verdict. For this crate's own
-- contracts.
use Rattle.std.specs.Prelude.{Bool, true, false, ℕ, ◌+◌, List, ◌++◌, Result, Ok, Err}
use Rattle.entry_book.specs.declared.reply.OpReply.{OpReply}
use Rattle.entry_book.specs.declared.reply.OpRefusal.{OpRefusal}
use Rattle.plain_book.specs.declared.run.BatchRun.{BatchRun}
use Rattle.plain_book.specs.declared.run.BatchRun.TheVariants.{Accepted, RefusedAt}
use Rattle.plain_book.specs.declared.verdict.Verdict.{Verdict as CodeVerdict}
use Rattle.plain_book.specs.declared.verdict.Verdict.TheVariants.{Refuses, Answers, Adds, Repeats}
use Rattle.entry_book.specs.Book.{Book}
use Rattle.entry_book.specs.Writes.{after}
use Rattle.entry_book.specs.Ops.{OpResult}
use Rattle.entry_book.specs.Runs.{RunResult}
use Rattle.entry_book.specs.Limits.{limit_passed}
use Rattle.entry_book.specs.Batches.{Batch}
use Rattle.entry_book.specs.History.{Verdict, refuses, answers, adds, repeats, adds_within, token_writes}

-- the result of an operation, with the book after its writes instead of the writes
abbrev pub performed : OpResult → Book → Result (OpReply × Book) OpRefusal
performed (Ok d) b = Ok (d.reply, after d.writes b)
performed (Err r) b = Err r

-- the outcome of a batch: its first n operations have these replies, and its others have this result on this book
abbrev pub resumed : ℕ → List OpReply → Book → RunResult → BatchRun
resumed n replies b (Ok t) = Accepted (replies ++ t.replies) (after t.writes b)
resumed n replies b (Err s) = RefusedAt (n + s.op) s.reason

-- the result of a run, with the book after its writes instead of the writes
abbrev pub ran : Book → RunResult → BatchRun
ran b (Ok t) = Accepted t.replies (after t.writes b)
ran b (Err s) = RefusedAt s.op s.reason

-- the verdict of the code, as the verdict of the definitions
abbrev pub verdict_model : CodeVerdict → Verdict
verdict_model (Refuses r) = refuses r
verdict_model (Answers replies) = answers replies
verdict_model (Adds replies b) = adds replies b
verdict_model (Repeats n replies) = repeats n replies

-- the verdict on a batch whose operations are accepted, with these replies and this book after them; the flag is true for a query
abbrev pub verdict_accepted : Bool → Batch → ℕ → List OpReply → Book → Verdict
verdict_accepted true batch place replies b = answers replies
verdict_accepted false batch place replies b = adds_within (limit_passed place (after (token_writes batch.token batch.ops (place + 1) replies) b)) replies (after (token_writes batch.token batch.ops (place + 1) replies) b)
