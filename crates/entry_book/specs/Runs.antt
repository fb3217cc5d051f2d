-- The run of a batch's operations on a book: each sees the book that the earlier ones left, and the first refusal ends the
-- run without effect.
use Rattle.std.specs.Prelude.{ℕ, ◌+◌, List, [], ◌∷◌, ◌++◌, Result, Ok, Err}
use Rattle.entry_book.specs.declared.op.Op.{Op}
use Rattle.entry_book.specs.declared.reply.OpReply.{OpReply}
use Rattle.entry_book.specs.declared.reply.OpRefusal.{OpRefusal}
use Rattle.entry_book.specs.Rows.{Bytes}
use Rattle.entry_book.specs.Book.{Book}
use Rattle.entry_book.specs.Writes.{RowWrite, after}
use Rattle.entry_book.specs.Ops.{OpEffect, OpResult, op_of}

-- The replies and the writes of the operations, in order.
pub record RunEffect : Type 0 where
  pub replies : List OpReply
  pub writes : List RowWrite

-- A refused operation: its index, from 0, and the reason.
pub record RefusedOp : Type 0 where
  pub op : ℕ
  pub reason : OpRefusal

-- the replies and the writes of all operations, or the refused operation
abbrev pub RunResult : Type 0
RunResult = Result RunEffect RefusedOp

-- the result of an operation with this effect and of the operations after it, which have this result
abbrev pub onto : OpEffect → RunResult → RunResult
onto d (Ok t) = Ok (record { replies = d.reply ∷ t.replies; writes = d.writes ++ t.writes })
onto d (Err s) = Err (record s { op = s.op + 1 })

-- the result of an operation and of those after it, which run only if it is accepted
abbrev pub then_run : OpResult → (OpEffect → RunResult) → RunResult
then_run (Err r) f = Err (record { op = 0; reason = r })
then_run (Ok d) f = onto d (f d)

-- the run of these operations on a book, for the server's trust domain
abbrev pub run : Bytes → List Op → Book → RunResult
run domain [] b = Ok (record { replies = []; writes = [] })
run domain (op ∷ ops) b = then_run (op_of domain op b) (λ d. run domain ops (after d.writes b))
