-- The status of a work at each stage, and the writes and replies of a ready one.
use Rattle.std.proofs.Common.{◌≡◌, ℕ, ◌+◌, ◌-◌, Bool, true, false, cond, List, [], ◌∷◌, ◌++◌, length, length-append, Option, Some, None, refl, sym, ap, subst, ◌∙◌, arith}
use Rattle.std.specs.Prelude.{nat_lt, option_map}
use Rattle.std.proofs.lemmas.Bool.{lt-ltb, both_ways}
use Rattle.entry_book.specs.declared.reply.OpReply.{OpReply}
use Rattle.entry_book.specs.declared.reply.Reply.{Reply}
use Rattle.spiffe_name.specs.Id.{server_text}
use Rattle.entry_book.specs.Rows.{Bytes}
use Rattle.entry_book.specs.Writes.{RowWrite}
use Rattle.entry_book.specs.Batches.{Batch, past_place}
use Rattle.version_book.specs.declared.mark.MarkKind.{MarkKind}
use Rattle.version_book.specs.declared.mark.MarkKind.TheVariants as mark
use Rattle.batch_work.specs.declared.phase.Phase.{Phase}
use Rattle.batch_work.specs.declared.stage.Begun.{Begun}
use Rattle.batch_work.specs.declared.stage.Found.{Found}
use Rattle.batch_work.specs.declared.stage.Found.TheVariants as found
use Rattle.batch_work.specs.declared.stage.Stage.{Stage}
use Rattle.batch_work.specs.declared.stage.Stage.TheVariants as stage
use Rattle.batch_work.specs.declared.status.Status.TheVariants.{Running, Ready, Settled}
use Rattle.batch_work.specs.Reads.{footprint_in}
use Rattle.batch_work.specs.Windows.{book_in}
use Rattle.batch_work.specs.Working.{Base, Work, version_read, footprint_there, end_status, status_on, status_from, IsAccepted, IsAcceptedOn}
use Rattle.batch_work.specs.WorkInvariants.{InOps, AtStart, AtToken, IsReady, IsNewStage, FoundInvariant, StageInvariant, WorkInvariant, base_of, book_now, later_marks}
use Rattle.batch_work.specs.Steps.{Plays}
use Rattle.batch_work.proofs.WorkInvariants.{meets_none, token_first}

-- ---- more reads are to be made

more : (marks : List MarkKind) (m : MarkKind) (ms reads : List MarkKind) → marks ++ (m ∷ ms) ≡ reads → nat_lt (length marks) (length reads) ≡ true
more marks m ms reads e =
    let n : length (marks ++ (m ∷ ms)) ≡ length marks + length (m ∷ ms) = length-append marks (m ∷ ms) in
    let same : length (marks ++ (m ∷ ms)) ≡ length reads = ap length e in
    lt-ltb (length marks) (length reads) (omega arith)

at_first : (marks : List MarkKind) (m : MarkKind) (ms reads : List MarkKind) → marks ≡ [] → reads ≡ m ∷ ms → nat_lt (length marks) (length reads) ≡ true
at_first marks m ms reads e r = more marks m ms reads (ap (λ l. l ++ (m ∷ ms)) e ∙ sym r)

module _ (batch : Batch) (base : Base) (marks : List MarkKind) (changes : List RowWrite) (replies : List OpReply) where
  left_more : (n : ℕ) (p : Phase) (i : InOps batch base changes replies n) (left : List MarkKind) → Plays (server_text batch.domain) i.op p (book_now i.s changes) left i.answer → marks ++ (left ++ later_marks i) ≡ footprint_there batch base → nat_lt (length marks) (length (footprint_there batch base)) ≡ true
  left_more n p i [] h e = absurd h
  left_more n p i (m ∷ ms) h e = more marks m (ms ++ later_marks i) (footprint_there batch base) e

  gone_more : AtStart batch base marks changes replies → version_read (past_place batch.ops) base ≡ None → nat_lt (length marks) (length (footprint_there batch base)) ≡ true
  gone_more start g = at_first marks mark.All [] (footprint_there batch base) start.no_marks (ap (footprint_in batch) (meets_none batch base start.in_time g))

  token_more : (k : Bytes) → AtStart batch base marks changes replies → AtToken batch base k → nat_lt (length marks) (length (footprint_there batch base)) ≡ true
  token_more k start t =
      let read = token_first batch base start.in_time t.s t.read_is k t.token_is in
      at_first marks (mark.Token k) read.0 (footprint_there batch base) start.no_marks read.1

  found_more : (m : MarkKind) (f : Found) → FoundInvariant m f batch base marks changes replies → nat_lt (length marks) (length (footprint_there batch base)) ≡ true
  found_more m (found.Op n next) h = more marks m (h.left ++ later_marks h.at_hand) (footprint_there batch base) h.reads_are
  found_more m (found.Kept o) h = token_more h.1.0 h.0 h.1.1
  found_more m found.Gone h = gone_more h.0 h.1

  -- ---- ready

  of_ready : (t w : Bool) → cond t Running (end_status w) ≡ Ready → (t ≡ false) × (w ≡ true)
  of_ready true w e = cc
  of_ready false true e = (refl, refl)
  of_ready false false e = cc

  not_ready : nat_lt (length marks) (length (footprint_there batch base)) ≡ true → status_on batch base (length marks) ≡ Ready → ⊥
  not_ready h e = both_ways _ (of_ready _ _ e).0 h

  ready_at : (g : Stage) → StageInvariant g batch base marks changes replies → status_on batch base (length marks) ≡ Ready → (all : List OpReply) × IsAccepted batch (book_in base.newest) all changes
  ready_at stage.New h e = absurd h
  ready_at (stage.Token k) h e = absurd (not_ready (token_more k h.0 h.1) e)
  ready_at stage.Gone h e = absurd (not_ready (gone_more h.0 h.1) e)
  ready_at (stage.At n p) h e = absurd (not_ready (left_more n p h.at_hand h.left h.plays h.reads_are) e)
  ready_at (stage.Read m f) h e = absurd (not_ready (found_more m f h) e)
  ready_at (stage.Ready all) h e = (all, h.accepted)
  ready_at (stage.Settled reply) h e = absurd (both_ways _ h.done (of_ready _ _ e).1)

-- the writes of a ready work
pub ready_writes : (begun : Option Begun) (g : Stage) (batch : Batch) (marks : List MarkKind) (changes : List RowWrite) (replies : List OpReply) → WorkInvariant begun g batch marks changes replies → status_from (option_map base_of begun) batch (length marks) ≡ Ready → (all : List OpReply) × IsAcceptedOn (option_map base_of begun) batch all changes
ready_writes None g batch marks changes replies h e = cc
ready_writes (Some begun) g batch marks changes replies h e = ready_at batch (base_of begun) marks changes replies g h.1 e

-- and its replies
pub ready_replies : (begun : Option Begun) (g : Stage) (batch : Batch) (marks : List MarkKind) (changes : List RowWrite) (replies all : List OpReply) → WorkInvariant begun g batch marks changes replies → g ≡ stage.Ready all → (writes : List RowWrite) × IsAcceptedOn (option_map base_of begun) batch all writes
ready_replies None g batch marks changes replies all h e = let n : IsNewStage (stage.Ready all) = subst IsNewStage e h.0 in absurd n
ready_replies (Some begun) g batch marks changes replies all h e = let r : IsReady batch (base_of begun) marks changes all = subst (λ g. StageInvariant g batch (base_of begun) marks changes replies) e h.1 in (changes, r.accepted)

-- ---- settled

of_settled : (t w : Bool) → cond t Running (end_status w) ≡ Settled → (t ≡ false) × (w ≡ false)
of_settled true w e = cc
of_settled false true e = cc
of_settled false false e = (refl, refl)

module _ (batch : Batch) (base : Base) (marks : List MarkKind) (changes : List RowWrite) (replies : List OpReply) where
  not_settled : nat_lt (length marks) (length (footprint_there batch base)) ≡ true → status_on batch base (length marks) ≡ Settled → ⊥
  not_settled h e = both_ways _ (of_settled _ _ e).0 h

  settled_at : (g : Stage) → StageInvariant g batch base marks changes replies → ((r : Reply) → g ≡ stage.Settled r → ⊥) → status_on batch base (length marks) ≡ Settled → ⊥
  settled_at stage.New h f e = absurd h
  settled_at (stage.Token k) h f e = not_settled (token_more batch base marks changes replies k h.0 h.1) e
  settled_at stage.Gone h f e = not_settled (gone_more batch base marks changes replies h.0 h.1) e
  settled_at (stage.At n p) h f e = not_settled (left_more batch base marks changes replies n p h.at_hand h.left h.plays h.reads_are) e
  settled_at (stage.Read m g) h f e = not_settled (found_more batch base marks changes replies m g h) e
  settled_at (stage.Ready all) h f e = both_ways _ (of_settled _ _ e).1 h.waits
  settled_at (stage.Settled reply) h f e = f reply refl

-- a work at another stage isn't settled
pub unsettled : (begun : Option Begun) (g : Stage) (batch : Batch) (marks : List MarkKind) (changes : List RowWrite) (replies : List OpReply) → WorkInvariant begun g batch marks changes replies → ((r : Reply) → g ≡ stage.Settled r → ⊥) → status_from (option_map base_of begun) batch (length marks) ≡ Settled → ⊥
unsettled None g batch marks changes replies h f e = cc
unsettled (Some begun) g batch marks changes replies h f e = settled_at batch (base_of begun) marks changes replies g h.1 f e

-- ---- running

-- the number of reads that a work has left to make
abbrev pub left_on : Option Base → Batch → ℕ → ℕ
left_on None batch n = 0
left_on (Some base) batch n = length (footprint_there batch base) - n

abbrev pub reads_left : Work → ℕ
reads_left w = left_on w.base w.batch w.steps
