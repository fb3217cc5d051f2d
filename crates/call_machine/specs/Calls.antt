-- The state of a machine, and of its calls.
use Rattle.std.specs.Prelude.{ℕ, ◌+◌, Bool, true, false, List, [], ◌∷◌, length, take, nat_eq, nat_lt, Option, Some, None, if◌then◌else◌}
use Rattle.entry_book.specs.declared.reply.Reply.{Reply}
use Rattle.entry_book.specs.Rows.{Bytes}
use Rattle.entry_book.specs.Book.{Book}
use Rattle.entry_book.specs.Batches.{Batch}
use Rattle.entry_book.specs.History.{books_of, reply_to}
use Rattle.batch_work.specs.Reads.{footprint_of, awaits_commit}
use Rattle.batch_work.specs.declared.status.Status.{Status}
use Rattle.batch_work.specs.declared.status.Status.TheVariants.{New, Running, Ready, Settled}
use Rattle.entry_book.specs.declared.reply.CallAnswer.{CallAnswer}
use Rattle.entry_book.specs.declared.reply.CallAnswer.TheVariants.{Replied, Conflict}

-- The state of a call; `base` is the place at which it began.
pub data CallStage : Type 0 where
  waiting : CallStage
  -- it has made this number of its reads
  running : (base made : ℕ) → CallStage
  -- its changes are ready to commit
  ready : (base : ℕ) → CallStage
  -- it is settled with this reply, or its commit was refused by a limit
  answered : Reply → CallStage
  committed : Reply → CallStage
  conflict : (place : ℕ) → CallStage

-- A call, as the state of a machine has it.
pub record Call : Type 0 where
  pub number : ℕ
  pub batch : Batch
  pub stage : CallStage
  -- the accepted number of its invoke
  pub invoked : ℕ
  -- that of its begin, or of its commit once that was decided; 0 before
  pub turn : ℕ
  -- that of its reply, if it has replied
  pub replied : Option ℕ

-- The state of a machine, its model in contracts.
pub record MachineState : Type 0 where
  pub domain : Bytes
  -- the committed batches, in order
  pub journal : List Batch
  -- the number of accepted events
  pub count : ℕ
  -- the calls, in the order of their invokes
  pub calls : List Call

-- the state of a new machine
abbrev pub first_machine : Bytes → MachineState
first_machine own_domain = record { domain = own_domain; journal = []; count = 0; calls = [] }

-- the call of this number, if there is one
abbrev pub call_at : ℕ → List Call → Option Call
call_at n [] = None
call_at n (c ∷ cs) = if nat_eq n c.number then Some c else call_at n cs

-- the calls, with the one of the same number replaced by this one
abbrev pub with_call : Call → List Call → List Call
with_call c [] = []
with_call c (d ∷ ds) = if nat_eq c.number d.number then c ∷ ds else d ∷ with_call c ds

-- one more event is accepted, and this call replaces the one of its number
abbrev pub moved : Call → MachineState → MachineState
moved c s = record s { count = s.count + 1; calls = with_call c s.calls }

-- ---- stages

-- the call's answer, if it has one
abbrev pub answer_of : CallStage → Option CallAnswer
answer_of waiting = None
answer_of (running base made) = None
answer_of (ready base) = None
answer_of (answered r) = Some (Replied r)
answer_of (committed r) = Some (Replied r)
answer_of (conflict n) = Some (Conflict n)

-- what a call at this stage waits for
abbrev pub status_at : CallStage → Status
status_at waiting = New
status_at (running base made) = Running
status_at (ready base) = Ready
status_at (answered r) = Settled
status_at (committed r) = Settled
status_at (conflict n) = Settled

-- the stage of a batch after its last read: ready if it has changes to commit, and otherwise answered with its reply
abbrev pub stage_settled : Bool → ℕ → Reply → CallStage
stage_settled true base reply = ready base
stage_settled false base reply = answered reply

-- the stage of a batch on these books after this number of reads
abbrev pub stage_on : Batch → List Book → ℕ → ℕ → CallStage
stage_on batch books base made = if nat_lt made (length (footprint_of batch books)) then running base made else stage_settled (awaits_commit batch books) base (reply_to batch books)

-- the same on the books up to its base, of these committed batches
abbrev pub stage_after : Batch → List Batch → ℕ → ℕ → CallStage
stage_after batch journal base made = stage_on batch (books_of (take base journal)) base made
