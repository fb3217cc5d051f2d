-- The mark that a running work reads next.
use Rattle.std.proofs.Common.{◌≡◌, ℕ, List, [], ◌∷◌, ◌++◌, length, get_or, Some, None, Ok, Err, IfOk, refl, sym, ap, ◌∙◌}
use Rattle.std.specs.Prelude.{MatchResult, Result, slice_get}
use Rattle.spiffe_name.specs.Id.{server_text}
use Rattle.entry_book.specs.declared.op.Op.{Op}
use Rattle.entry_book.specs.declared.reply.OpReply.{OpReply}
use Rattle.entry_book.specs.Rows.{Bytes}
use Rattle.entry_book.specs.Book.{Book}
use Rattle.entry_book.specs.Writes.{RowWrite}
use Rattle.entry_book.specs.Ops.{OpResult}
use Rattle.entry_book.specs.Batches.{Batch, past_place}
use Rattle.version_book.specs.declared.mark.MarkKind.{MarkKind}
use Rattle.version_book.specs.declared.mark.MarkKind.TheVariants as mark
use Rattle.batch_work.specs.declared.phase.Phase.{Phase}
use Rattle.batch_work.specs.declared.stage.Found.{Found}
use Rattle.batch_work.specs.declared.stage.Found.TheVariants as found
use Rattle.batch_work.specs.Reads.{footprint_in}
use Rattle.batch_work.specs.Steps.{Plays, mark_of}
use Rattle.batch_work.specs.Working.{Base, footprint_there, version_read}
use Rattle.batch_work.specs.WorkInvariants.{AtStart, AtToken, Going, InTime, FoundInvariant, later_marks}
use Rattle.batch_work.proofs.Looking.{op_is}
use Rattle.batch_work.proofs.WorkInvariants.{meets_none, token_first}

-- the item after these
at_length : {X : Type 0} (xs : List X) (y : X) (ys : List X) → slice_get (xs ++ y ∷ ys) (length xs) ≡ Some y
at_length [] y ys = refl
at_length (x ∷ xs) y ys = at_length xs y ys

module _ (batch : Batch) (base : Base) (marks : List MarkKind) where
  behind : (m : MarkKind) (later : List MarkKind) → marks ++ m ∷ later ≡ footprint_there batch base → slice_get (footprint_there batch base) (length marks) ≡ Some m
  behind m later f = ap (λ l. slice_get l (length marks)) (sym f) ∙ at_length marks m later

  first_left : (server : Bytes) (op : Op) (p : Phase) (b : Book) (left : List MarkKind) (o : OpResult) → Plays server op p b left o → (later : List MarkKind) → marks ++ (left ++ later) ≡ footprint_there batch base → slice_get (footprint_there batch base) (length marks) ≡ Some (mark_of server op p)
  first_left server op p b [] o h later f = absurd h
  first_left server op p b (m ∷ ms) o h later f = behind m (ms ++ later) f ∙ ap Some h.0

  pub next_gone : InTime batch base → version_read (past_place batch.ops) base ≡ None → marks ≡ [] → slice_get (footprint_there batch base) (length marks) ≡ Some mark.All
  next_gone t g e = behind mark.All [] (ap (λ l. l ++ mark.All ∷ []) e ∙ sym (ap (footprint_in batch) (meets_none batch base t g)))

  module _ (changes : List RowWrite) (replies : List OpReply) where
    pub next_token : (k : Bytes) → AtStart batch base marks changes replies → AtToken batch base k → slice_get (footprint_there batch base) (length marks) ≡ Some (mark.Token k)
    next_token k a t =
        let read = token_first batch base a.in_time t.s t.read_is k t.token_is in
        behind (mark.Token k) read.0 (ap (λ l. l ++ mark.Token k ∷ read.0) a.no_marks ∙ sym read.1)

    -- a read that was made and is to be recorded
    pub next_read : (m : MarkKind) (f : Found) → FoundInvariant m f batch base marks changes replies → slice_get (footprint_there batch base) (length marks) ≡ Some m
    next_read m (found.Op n next) l = behind m (l.left ++ later_marks l.at_hand) l.reads_are
    next_read m (found.Kept o) h = next_token h.1.0 h.0 h.1.1 ∙ ap Some (sym h.1.2)
    next_read m found.Gone h = next_gone h.0.in_time h.1 h.0.no_marks ∙ ap Some (sym h.2)

    pub next_in_op : (n : ℕ) (p : Phase) → Going batch base marks changes replies n p → (ops : List Op) (op : Op) → ops ≡ batch.ops → op ≡ get_or ops n op → (server : Bytes) → server ≡ server_text batch.domain → (m : MarkKind) → m ≡ mark_of server op p → slice_get (footprint_there batch base) (length marks) ≡ Some m
    next_in_op n p g ops op same item server k m e =
        let here : g.at_hand.op ≡ op = op_is batch.ops n op g.at_hand.op g.at_hand.rest g.at_hand.here (item ∙ ap (λ l. get_or l n op) same) in
        first_left (server_text batch.domain) g.at_hand.op p _ g.left g.at_hand.answer g.plays (later_marks g.at_hand) g.reads_are
        ∙ ap Some (sym (e ∙ (ap (λ t. mark_of t op p) k ∙ ap (λ o. mark_of (server_text batch.domain) o p) (sym here))))

-- a property of a value is one of its copy
pub when_copied : {T E : Type 0} (P : T → Type 0) (value : T) → P value → (other : E → Type 0) (r : Result T E) → MatchResult r (λ copy. copy ≡ value) other → IfOk r P
when_copied P value h other (Ok copy) is = rw is h
when_copied P value h other (Err e) is = tt
