-- The invariant of a work: how its marks, changes, replies and stage relate to the reads and the run of its batch. For this
-- crate's own contracts.
use Rattle.std.specs.Prelude.{◌≡◌, ⊤, ℕ, ◌+◌, ◌*◌, ◌≤◌, ◌^◌, true, false, List, [], ◌∷◌, ◌++◌, drop, nat_lt, Option, Some, None, Ok, Err, IfSome}
use Rattle.spiffe_name.specs.Id.{server_text}
use Rattle.entry_book.specs.declared.op.Op.{Op}
use Rattle.entry_book.specs.declared.reply.OpReply.{OpReply}
use Rattle.entry_book.specs.declared.reply.OpRefusal.TheVariants.{VersionGone}
use Rattle.entry_book.specs.declared.reply.Refusal.{Refusal}
use Rattle.entry_book.specs.declared.reply.Refusal.TheVariants.{NotYet, TokenReused, OfOp, Full}
use Rattle.entry_book.specs.declared.reply.Reply.{Reply}
use Rattle.entry_book.specs.Rows.{Bytes}
use Rattle.entry_book.specs.Book.{Book}
use Rattle.entry_book.specs.Writes.{RowWrite, after}
use Rattle.entry_book.specs.Ops.{OpResult, op_of}
use Rattle.entry_book.specs.Runs.{RunResult, then_run, run}
use Rattle.entry_book.specs.Batches.{Batch, IsMadeFor, past_place}
use Rattle.entry_book.specs.History.{kept_under}
use Rattle.entry_book.specs.Lawful.{Lawful}
use Rattle.version_book.specs.declared.mark.MarkKind.{MarkKind}
use Rattle.version_book.specs.declared.mark.MarkKind.TheVariants as mark
use Rattle.version_book.specs.CommittedRows.{VersionState}
use Rattle.batch_work.specs.declared.phase.Phase.{Phase}
use Rattle.batch_work.specs.declared.phase.Next.{Next}
use Rattle.batch_work.specs.declared.stage.Begun.{Begun}
use Rattle.batch_work.specs.declared.stage.Found.{Found}
use Rattle.batch_work.specs.declared.stage.Found.TheVariants as found
use Rattle.batch_work.specs.declared.stage.Stage.{Stage}
use Rattle.batch_work.specs.declared.stage.Stage.TheVariants as stage
use Rattle.batch_work.specs.Reads.{marks_after, marks_of_ops}
use Rattle.batch_work.specs.Steps.{ContinuesWith, Plays}
use Rattle.batch_work.specs.Windows.{book_in}
use Rattle.batch_work.specs.Working.{Base, version_read, footprint_there, awaits_there, reply_there, IsAccepted}

-- what a work began on, as contracts see it
abbrev pub base_of : Begun → Base
base_of begun = record { newest = begun.newest; earlier = begun.earlier }

-- the result of a run that continues after n operations with these replies and writes
abbrev pub going_on : List OpReply → List RowWrite → ℕ → RunResult → RunResult
going_on replies writes n (Ok t) = Ok (record { replies = replies ++ t.replies; writes = writes ++ t.writes })
going_on replies writes n (Err s) = Err (record { op = n + s.op; reason = s.reason })

-- the book that is read, with the work's own changes
abbrev pub book_now : VersionState → List RowWrite → Book
book_now s changes = after changes (book_in s)

-- ---- what it began on

-- The batch doesn't come too early.
abbrev pub InTime : Batch → Base → Type 0
InTime batch base = nat_lt base.newest.number batch.after ≡ false

-- The batch reads no version there, for this reason: it comes too early, or the book of its page is gone, or not there yet.
abbrev pub ReadsNone : Batch → Base → Refusal → Type 0
ReadsNone batch base NotYet = nat_lt base.newest.number batch.after ≡ true
ReadsNone batch base TokenReused = ⊥
ReadsNone batch base (OfOp n reason) = (n ≡ 0) × (reason ≡ VersionGone) × InTime batch base × (version_read (past_place batch.ops) base ≡ None)
ReadsNone batch base (Full limit) = ⊥

-- The version's book is lawful, and its number is within the limit on commits.
pub record IsReadableVersion (own_domain : Bytes) (s : VersionState) : Type 0 where
  pub low : s.number ≤ 2 ^ 48
  pub lawful : Lawful own_domain (64 * s.number) (book_in s)

-- The batch was made for its trust domain, the server's ID is that of this domain, and the version that the batch reads, if it is
-- there, is readable.
pub record IsStartOf (batch : Batch) (begun : Begun) : Type 0 where
  pub server_is : begun.server ≡ server_text batch.domain
  pub made : IsMadeFor batch.domain batch
  pub readable : IfSome (version_read (past_place batch.ops) (base_of begun)) (IsReadableVersion batch.domain)

-- ---- before the first operation

-- The batch doesn't come too early, and nothing was recorded yet.
pub record AtStart (batch : Batch) (base : Base) (marks : List MarkKind) (changes : List RowWrite) (replies : List OpReply) : Type 0 where
  pub in_time : InTime batch base
  pub no_marks : marks ≡ []
  pub no_changes : changes ≡ []
  pub no_replies : replies ≡ []

-- The next read is the batch stored under the token, on the version that the batch reads.
pub record AtToken (batch : Batch) (base : Base) (k : Bytes) : Type 0 where
  pub token_is : batch.token ≡ Some k
  pub s : VersionState
  pub read_is : version_read (past_place batch.ops) base ≡ Some s

-- ---- within the operations

-- Operation n is executed next, on the lawful book that the earlier ones left. It has this result; this and the results of the
-- later operations complete the run. The batch doesn't come too early, and its token isn't in use.
pub record InOps (batch : Batch) (base : Base) (changes : List RowWrite) (replies : List OpReply) (n : ℕ) : Type 0 where
  pub s : VersionState
  pub read_is : version_read (past_place batch.ops) base ≡ Some s
  pub in_time : InTime batch base
  pub unkept : kept_under batch.token (book_in s) ≡ None
  pub op : Op
  pub rest : List Op
  pub here : drop n batch.ops ≡ op ∷ rest
  pub answer : OpResult
  pub answer_is : answer ≡ op_of batch.domain op (book_now s changes)
  pub run_is : going_on replies changes n (then_run answer (λ d. run batch.domain rest (after d.writes (book_now s changes)))) ≡ run batch.domain batch.ops (book_in s)
  pub low : s.number ≤ 2 ^ 48
  pub lawful : Lawful batch.domain (64 * s.number + n) (book_now s changes)

-- the reads of the operations after it
abbrev pub later_marks : {batch : Batch} {base : Base} {changes : List RowWrite} {replies : List OpReply} {n : ℕ} → InOps batch base changes replies n → List MarkKind
later_marks {batch = batch} {changes = changes} i = marks_after i.answer (λ d. marks_of_ops batch.domain i.rest (after d.writes (book_now i.s changes)))

-- The operation is at this phase: its remaining reads and those of the later operations complete the footprint.
pub record Going (batch : Batch) (base : Base) (marks : List MarkKind) (changes : List RowWrite) (replies : List OpReply) (n : ℕ) (p : Phase) : Type 0 where
  pub at_hand : InOps batch base changes replies n
  pub left : List MarkKind
  pub plays : Plays (server_text batch.domain) at_hand.op p (book_now at_hand.s changes) left at_hand.answer
  pub reads_are : marks ++ (left ++ later_marks at_hand) ≡ footprint_there batch base

-- A mark of the operation was read, and this comes next.
pub record Looked (batch : Batch) (base : Base) (marks : List MarkKind) (changes : List RowWrite) (replies : List OpReply) (n : ℕ) (m : MarkKind) (next : Next) : Type 0 where
  pub at_hand : InOps batch base changes replies n
  pub left : List MarkKind
  pub continues : ContinuesWith next left at_hand.answer (λ q. Plays (server_text batch.domain) at_hand.op q (book_now at_hand.s changes) left at_hand.answer)
  pub reads_are : marks ++ (m ∷ (left ++ later_marks at_hand)) ≡ footprint_there batch base

-- ---- each stage

-- what holds of a read that was made and is still to be recorded
abbrev pub FoundInvariant : MarkKind → Found → Batch → Base → List MarkKind → List RowWrite → List OpReply → Type 0
FoundInvariant m (found.Op n next) batch base marks changes replies = Looked batch base marks changes replies n m next
FoundInvariant m (found.Kept o) batch base marks changes replies = AtStart batch base marks changes replies × ((k : Bytes) × (t : AtToken batch base k) × (m ≡ mark.Token k) × (o ≡ kept_under batch.token (book_in t.s)))
FoundInvariant m found.Gone batch base marks changes replies = AtStart batch base marks changes replies × (version_read (past_place batch.ops) base ≡ None) × (m ≡ mark.All)

-- All reads were made, the batch awaits its commit, and its operations are accepted with these replies and changes.
pub record IsReady (batch : Batch) (base : Base) (marks : List MarkKind) (changes : List RowWrite) (replies : List OpReply) : Type 0 where
  pub all_read : marks ≡ footprint_there batch base
  pub waits : awaits_there batch base ≡ true
  pub accepted : IsAccepted batch (book_in base.newest) replies changes

-- All reads were made, the batch doesn't await a commit, and this is its reply.
pub record IsSettledWith (batch : Batch) (base : Base) (marks : List MarkKind) (reply : Reply) : Type 0 where
  pub all_read : marks ≡ footprint_there batch base
  pub done : awaits_there batch base ≡ false
  pub reply_is : reply ≡ reply_there batch base

-- what holds at each stage of a work that has begun
abbrev pub StageInvariant : Stage → Batch → Base → List MarkKind → List RowWrite → List OpReply → Type 0
StageInvariant stage.New batch base marks changes replies = ⊥
StageInvariant (stage.Token k) batch base marks changes replies = AtStart batch base marks changes replies × AtToken batch base k
StageInvariant stage.Gone batch base marks changes replies = AtStart batch base marks changes replies × (version_read (past_place batch.ops) base ≡ None)
StageInvariant (stage.At n p) batch base marks changes replies = Going batch base marks changes replies n p
StageInvariant (stage.Read m f) batch base marks changes replies = FoundInvariant m f batch base marks changes replies
StageInvariant (stage.Ready all) batch base marks changes replies = IsReady batch base marks changes all
StageInvariant (stage.Settled reply) batch base marks changes replies = IsSettledWith batch base marks reply

-- the work hasn't begun
abbrev pub IsNewStage : Stage → Type 0
IsNewStage stage.New = ⊤
IsNewStage (stage.Token k) = ⊥
IsNewStage stage.Gone = ⊥
IsNewStage (stage.At n p) = ⊥
IsNewStage (stage.Read m f) = ⊥
IsNewStage (stage.Ready all) = ⊥
IsNewStage (stage.Settled reply) = ⊥

-- what holds of each work
abbrev pub WorkInvariant : Option Begun → Stage → Batch → List MarkKind → List RowWrite → List OpReply → Type 0
WorkInvariant None g batch marks changes replies = IsNewStage g × (marks ≡ []) × (changes ≡ []) × (replies ≡ [])
WorkInvariant (Some begun) g batch marks changes replies = IsStartOf batch begun × StageInvariant g batch (base_of begun) marks changes replies

-- a read is to be made or to be recorded
abbrev pub IsRunning : Stage → Type 0
IsRunning stage.New = ⊥
IsRunning (stage.Token k) = ⊤
IsRunning stage.Gone = ⊤
IsRunning (stage.At n p) = ⊤
IsRunning (stage.Read m f) = ⊤
IsRunning (stage.Ready all) = ⊥
IsRunning (stage.Settled reply) = ⊥
