-- The stage of a work after a read was recorded.
use Rattle.std.proofs.Common.{◌≡◌, ℕ, ◌+◌, ◌<◌, ◌≤◌, true, false, List, [], ◌∷◌, ◌++◌, length, Option, Some, None, IfSome, refl, sym, ap, subst, ◌∙◌, arith}
use Rattle.entry_book.specs.declared.reply.OpReply.{OpReply}
use Rattle.entry_book.specs.declared.reply.ReplyOutcome.TheVariants.{Answered}
use Rattle.entry_book.specs.Writes.{RowWrite}
use Rattle.entry_book.specs.Batches.{Batch, is_query, past_place}
use Rattle.entry_book.specs.History.{token_writes, kept_under}
use Rattle.batch_work.specs.Windows.{book_in}
use Rattle.entry_book.proofs.Faults.{not_refused}
use Rattle.version_book.specs.declared.mark.MarkKind.{MarkKind}
use Rattle.batch_work.specs.declared.phase.Phase.{Phase}
use Rattle.batch_work.specs.declared.phase.Phase.TheVariants as phase
use Rattle.batch_work.specs.declared.phase.Next.{Next}
use Rattle.batch_work.specs.declared.phase.Next.TheVariants.{Continues, Ends}
use Rattle.batch_work.specs.declared.stage.Begun.{Begun}
use Rattle.batch_work.specs.declared.stage.Found.TheVariants as found
use Rattle.batch_work.specs.declared.stage.Stage.{Stage}
use Rattle.batch_work.specs.declared.stage.Stage.TheVariants as stage
use Rattle.version_book.specs.CommittedRows.{VersionState}
use Rattle.batch_work.specs.Reads.{token_marks}
use Rattle.batch_work.specs.Working.{version_read}
use Rattle.batch_work.specs.WorkInvariants.{IsStartOf, InTime, IsReadableVersion, Going, Looked, StageInvariant, FoundInvariant, base_of}
use Rattle.batch_work.proofs.WorkInvariants.{is_below, first_op, goes, ends_before, ends_query, ends_changes}

module _ (batch : Batch) (begun : Begun) (began : IsStartOf batch begun) (marks : List MarkKind) (changes : List RowWrite) (replies : List OpReply) (n : ℕ) (m : MarkKind) where
  pub within_ops : (next : Next) → Looked batch (base_of begun) marks changes replies n m next → n < 64
  within_ops next l =
      let below = is_below batch.ops n l.at_hand.op l.at_hand.rest l.at_hand.here in
      let few = ((not_refused batch.domain batch.ops batch.token).0 began.made.no_fault).0.few in
      omega arith

  module _ (x : OpReply) (ws : List RowWrite) (l : Looked batch (base_of begun) marks changes replies n m (Ends x ws)) where
    pub op_ended : (k : ℕ) → k ≡ length batch.ops → n + 1 < k → (changes' : List RowWrite) (replies' : List OpReply) → changes' ≡ changes ++ ws → replies' ≡ replies ++ x ∷ [] → Going batch (base_of begun) (marks ++ m ∷ []) changes' replies' (n + 1) phase.First
    op_ended k e h changes' replies' c r =
        let below : n + 1 < length batch.ops = omega arith in
        subst (λ cs. Going batch (base_of begun) (marks ++ m ∷ []) cs replies' (n + 1) phase.First) (sym c)
        (subst (λ rs. Going batch (base_of begun) (marks ++ m ∷ []) (changes ++ ws) rs (n + 1) phase.First) (sym r)
        (ends_before batch (base_of begun) marks changes replies n m x ws l began.made below))

    pub query_ended : (k : ℕ) → k ≡ length batch.ops → k ≤ n + 1 → is_query batch.ops ≡ true → (changes' : List RowWrite) (replies' : List OpReply) (g : Stage) → g ≡ stage.Settled (record { place = begun.newest.number; outcome = Answered (replies ++ x ∷ []) }) → StageInvariant g batch (base_of begun) (marks ++ m ∷ []) changes' replies'
    query_ended k e h q changes' replies' g s =
        let last : length batch.ops ≤ n + 1 = omega arith in
        subst (λ g. StageInvariant g batch (base_of begun) (marks ++ m ∷ []) changes' replies') (sym s)
        (ends_query batch (base_of begun) marks changes replies n m x ws l last q _ refl)

    pub changes_ended : (k : ℕ) → k ≡ length batch.ops → k ≤ n + 1 → is_query batch.ops ≡ false → (changes' : List RowWrite) (replies' : List OpReply) (g : Stage) → g ≡ stage.Ready (replies ++ x ∷ []) → changes' ≡ changes ++ (ws ++ token_writes batch.token batch.ops 0 (replies ++ x ∷ [])) → StageInvariant g batch (base_of begun) (marks ++ m ∷ []) changes' replies'
    changes_ended k e h q changes' replies' g s c =
        let last : length batch.ops ≤ n + 1 = omega arith in
        subst (λ g. StageInvariant g batch (base_of begun) (marks ++ m ∷ []) changes' replies') (sym s)
        (ends_changes batch (base_of begun) marks changes replies n m x ws l began.made last q (replies ++ x ∷ []) changes' refl c)

  pub phase_next : (q : Phase) → Looked batch (base_of begun) marks changes replies n m (Continues q) → Going batch (base_of begun) (marks ++ m ∷ []) changes replies n q
  phase_next q l = goes batch (base_of begun) marks changes replies n m q l

is_readable : (batch : Batch) (o : Option VersionState) (s : VersionState) → o ≡ Some s → IfSome o (IsReadableVersion batch.domain) → IsReadableVersion batch.domain s
is_readable batch (Some x) s e r = let q : x ≡ s = cc in subst (IsReadableVersion batch.domain) q r
is_readable batch None s e r = cc

-- nothing is stored under the token
pub none_kept : (batch : Batch) (begun : Begun) → IsStartOf batch begun → (marks : List MarkKind) (changes : List RowWrite) (replies : List OpReply) (m : MarkKind) → FoundInvariant m (found.Kept None) batch (base_of begun) marks changes replies → Going batch (base_of begun) (marks ++ m ∷ []) changes replies 0 phase.First
none_kept batch begun began marks changes replies m h =
    let start = h.0 in
    let t = h.1.1 in
    let readable = is_readable batch (version_read (past_place batch.ops) (base_of begun)) t.s t.read_is began.readable in
    first_op batch (base_of begun) began.made t.s t.read_is start.in_time (sym h.1.3) readable (marks ++ m ∷ []) changes replies
    (ap (λ l. l ++ m ∷ []) start.no_marks ∙ (ap (λ m. m ∷ []) h.1.2 ∙ sym (ap token_marks t.token_is))) start.no_changes start.no_replies

-- ---- where a work begins its operations

pub ops_begin : (batch : Batch) (begun : Begun) → IsStartOf batch begun → InTime batch (base_of begun) → (s : VersionState) → version_read (past_place batch.ops) (base_of begun) ≡ Some s → batch.token ≡ None → Going batch (base_of begun) [] [] [] 0 phase.First
ops_begin batch begun began in_time s read_is free =
    first_op batch (base_of begun) began.made s read_is in_time (ap (λ t. kept_under t (book_in s)) free) (is_readable batch (version_read (past_place batch.ops) (base_of begun)) s read_is began.readable) [] [] [] (sym (ap token_marks free)) refl refl
