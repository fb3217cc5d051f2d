-- What a work is: its batch, what it began on, and the number of reads that it has made. Everything else follows from these.
use Rattle.std.specs.Prelude.{◌≡◌, ◌≤◌, ◌^◌, slice_get, ℕ, Bool, true, false, List, [], take, length, nat_lt, Option, Some, None, Ok, option_map, if◌then◌else◌}
use Rattle.entry_book.specs.declared.reply.OpReply.{OpReply}
use Rattle.entry_book.specs.declared.reply.Reply.{Reply}
use Rattle.entry_book.specs.Book.{Book}
use Rattle.entry_book.specs.Writes.{RowWrite}
use Rattle.entry_book.specs.Runs.{RunEffect, run}
use Rattle.entry_book.specs.Batches.{Batch, past_place}
use Rattle.entry_book.specs.History.{verdict, reply_with, batch_writes}
use Rattle.version_book.specs.declared.mark.MarkKind.{MarkKind}
use Rattle.version_book.specs.CommittedRows.{VersionState}
use Rattle.batch_work.specs.declared.status.Status.{Status}
use Rattle.batch_work.specs.declared.status.Status.TheVariants.{New, Running, Ready, Settled}
use Rattle.batch_work.specs.Reads.{Case, case_at, footprint_in, awaits_in}
use Rattle.batch_work.specs.Windows.{Window, book_in, version_at}

-- What a work began on: the newest version of its window, and the version of the earlier book that its batch asks for, if it
-- asks for one. That version may be gone or not there yet.
pub record Base : Type 0 where
  pub newest : VersionState
  pub earlier : Option VersionState

-- the version of the earlier book that a batch asks for, if it asks for one and the window has it
abbrev pub earlier_in : Option ℕ → Window → Option VersionState
earlier_in None w = None
earlier_in (Some n) w = version_at n w

-- what the work of a batch begins on, in a window
abbrev pub base_in : Batch → Window → Base
base_in batch w = record { newest = w.newest; earlier = earlier_in (past_place batch.ops) w }

-- the version that a batch reads there
abbrev pub version_read : Option ℕ → Base → Option VersionState
version_read None base = Some base.newest
version_read (Some n) base = base.earlier

-- The batch of the work, what it began on, if it has begun, and the number of reads that it has made.
pub record Work : Type 0 where
  pub batch : Batch
  pub base : Option Base
  pub steps : ℕ

-- ---- the reads of a batch on what its work began on, and its outcome there

-- the book that the batch reads there, if it is there
abbrev pub book_read : Batch → Base → Option Book
book_read batch base = option_map book_in (version_read (past_place batch.ops) base)

-- the case that the batch meets there
abbrev pub case_there : Batch → Base → Case
case_there batch base = case_at batch base.newest.number (book_read batch base)

-- the footprint of the batch there
abbrev pub footprint_there : Batch → Base → List MarkKind
footprint_there batch base = footprint_in batch (case_there batch base)

-- whether the batch has changes there that await their commit
abbrev pub awaits_there : Batch → Base → Bool
awaits_there batch base = awaits_in batch (case_there batch base)

-- the specification's reply there; if the batch doesn't await a commit, no limit affects it
abbrev pub reply_there : Batch → Base → Reply
reply_there batch base = reply_with base.newest.number (verdict batch base.newest.number (book_read batch base))

-- ---- what the work waits for

-- the status of a work that has made all its reads
abbrev pub end_status : Bool → Status
end_status true = Ready
end_status false = Settled

-- the status after n reads
abbrev pub status_on : Batch → Base → ℕ → Status
status_on batch base n = if nat_lt n (length (footprint_there batch base)) then Running else end_status (awaits_there batch base)

abbrev pub status_from : Option Base → Batch → ℕ → Status
status_from None batch n = New
status_from (Some base) batch n = status_on batch base n

-- the status of the work
abbrev pub status_of : Work → Status
status_of w = status_from w.base w.batch w.steps

-- ---- on what a work begins, and what its next step reads

-- A batch may begin on the window: both have the same trust domain, and the newest number is within the limit on commits. So no
-- revision and no sequence overflows 64 bits.
pub record MayBegin (batch : Batch) (w : Window) : Type 0 where
  pub domain : batch.domain ≡ w.newest.domain
  pub low : w.newest.number ≤ 2 ^ 48

abbrev pub IsNextReadOn : Option Base → Batch → ℕ → MarkKind → Type 0
IsNextReadOn None batch n m = ⊥
IsNextReadOn (Some base) batch n m = slice_get (footprint_there batch base) n ≡ Some m

-- the mark that the next step reads
abbrev pub IsNextRead : Work → MarkKind → Type 0
IsNextRead w m = IsNextReadOn w.base w.batch w.steps m

-- the first n reads of the footprint
abbrev pub marks_from : Option Base → Batch → ℕ → List MarkKind
marks_from None batch n = []
marks_from (Some base) batch n = take n (footprint_there batch base)

-- the marks that were read so far
abbrev pub marks_so_far : Work → List MarkKind
marks_so_far w = marks_from w.base w.batch w.steps

-- ---- the end

-- The operations of the batch are accepted on this book, with these replies and these writes. The batch that the writes store
-- under a token has the place 0.
pub record IsAccepted (batch : Batch) (b : Book) (replies : List OpReply) (writes : List RowWrite) : Type 0 where
  pub effect : RunEffect
  pub ran : run batch.domain batch.ops b ≡ Ok effect
  pub replies_are : replies ≡ effect.replies
  pub writes_are : writes ≡ batch_writes batch 0 effect

abbrev pub IsAcceptedOn : Option Base → Batch → List OpReply → List RowWrite → Type 0
IsAcceptedOn None batch replies writes = ⊥
IsAcceptedOn (Some base) batch replies writes = IsAccepted batch (book_in base.newest) replies writes

-- the replies of a ready work
abbrev pub HasReplies : Work → List OpReply → Type 0
HasReplies w replies = (writes : List RowWrite) × IsAcceptedOn w.base w.batch replies writes

-- the writes of a ready work
abbrev pub HasWrites : Work → List RowWrite → Type 0
HasWrites w writes = (replies : List OpReply) × IsAcceptedOn w.base w.batch replies writes

abbrev pub IsReplyOn : Option Base → Batch → Reply → Type 0
IsReplyOn None batch reply = ⊥
IsReplyOn (Some base) batch reply = reply ≡ reply_there batch base

-- the reply of a settled work
abbrev pub IsAnswer : Work → Reply → Type 0
IsAnswer w reply = IsReplyOn w.base w.batch reply
