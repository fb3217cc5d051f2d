-- The order of the reads of a batch.
use Rattle.std.proofs.Common.{◌≡◌, List, [], ◌∷◌, ◌++◌, Option, Some, None, Ok, Err, refl, sym, ap, ◌∙◌}
use Rattle.std.specs.Option.{option_map_or}
use Rattle.std.proofs.lemmas.List.{append_assoc}
use Rattle.entry_book.specs.declared.kept.KeptBatch.{KeptBatch}
use Rattle.entry_book.specs.declared.op.Op.{Op}
use Rattle.entry_book.specs.declared.reply.OpReply.{OpReply}
use Rattle.entry_book.specs.Rows.{Bytes}
use Rattle.entry_book.specs.Batches.{Batch}
use Rattle.entry_book.specs.Book.{Book, token_at}
use Rattle.entry_book.specs.Writes.{RowWrite, after}
use Rattle.entry_book.specs.History.{kept_under}
use Rattle.entry_book.specs.Ops.{OpEffect, OpResult, op_of}
use Rattle.entry_book.specs.Runs.{RunEffect, RunResult, onto, then_run, run}
use Rattle.entry_book.proofs.Changed.{after-append}
use Rattle.version_book.specs.declared.mark.MarkKind.{MarkKind}
use Rattle.batch_work.specs.Bounds.{ReadsInOrder, TokenReadFirst, KeptReadOnly}
use Rattle.batch_work.specs.Reads.{kept, runs, case_on, marks_of, marks_after, marks_of_ops, token_marks, footprint_in}

abbrev ran : RunEffect → RunResult
ran t = Ok t

effect_is : (t u : RunEffect) → ran t ≡ ran u → t ≡ u
effect_is t u e = cc

abbrev effect : List OpReply → List RowWrite → RunEffect
effect replies writes = record { replies = replies; writes = writes }

module _ (own_domain : Bytes) (op : Op) (later : List Op) where
  abbrev Splits : List Op → Book → RunEffect → Type 0
  Splits before b t = marks_of_ops own_domain (before ++ op ∷ later) b ≡ marks_of_ops own_domain before b ++ marks_of_ops own_domain (op ∷ later) (after t.writes b)

  over_run : (before : List Op) (d : OpEffect) (b : Book) (r : RunResult) (t : RunEffect) → ((u : RunEffect) → r ≡ Ok u → Splits before (after d.writes b) u) → onto d r ≡ Ok t → marks_of_ops own_domain (before ++ op ∷ later) (after d.writes b) ≡ marks_of_ops own_domain before (after d.writes b) ++ marks_of_ops own_domain (op ∷ later) (after t.writes b)
  over_run before d b (Err s) t ih e = cc
  over_run before d b (Ok u) t ih e =
      let q = ap (λ r. r.writes) (effect_is (effect (d.reply ∷ u.replies) (d.writes ++ u.writes)) t e) in
      ih u refl ∙ ap (λ c. marks_of_ops own_domain before (after d.writes b) ++ marks_of_ops own_domain (op ∷ later) c) (sym (after-append d.writes u.writes b) ∙ ap (λ ws. after ws b) q)

  over_op : (front : List MarkKind) (before : List Op) (b : Book) (o : OpResult) (t : RunEffect) → ((d : OpEffect) (u : RunEffect) → run own_domain before (after d.writes b) ≡ Ok u → Splits before (after d.writes b) u) → then_run o (λ d. run own_domain before (after d.writes b)) ≡ Ok t → front ++ marks_after o (λ d. marks_of_ops own_domain (before ++ op ∷ later) (after d.writes b)) ≡ (front ++ marks_after o (λ d. marks_of_ops own_domain before (after d.writes b))) ++ marks_of_ops own_domain (op ∷ later) (after t.writes b)
  over_op front before b (Err r) t ih e = cc
  over_op front before b (Ok d) t ih e = ap (λ l. front ++ l) (over_run before d b (run own_domain before (after d.writes b)) t (ih d) e) ∙ sym (append_assoc front (marks_of_ops own_domain before (after d.writes b)) (marks_of_ops own_domain (op ∷ later) (after t.writes b)))

  splits : (before : List Op) (b : Book) (t : RunEffect) → run own_domain before b ≡ Ok t → Splits before b t
  splits [] b t e = ap (λ r. marks_of_ops own_domain (op ∷ later) (after r.writes b)) (effect_is (effect [] []) t e)
  splits (x ∷ xs) b t e = over_op (marks_of own_domain x b) xs b (op_of own_domain x b) t (λ d u q. splits xs (after d.writes b) u q) e

pub reads_in_order : ReadsInOrder
reads_in_order own_domain before op later b t e = splits own_domain op later before b t e

-- the case that a batch meets on a book that stores this under its token
meets : (batch : Batch) (b : Book) (k : Bytes) (o : Option KeptBatch) → batch.token ≡ Some k → token_at k b ≡ o → case_on batch b ≡ option_map_or kept o (runs b)
meets batch b k o e n = ap (λ x. option_map_or kept x (runs b)) (ap (λ t. kept_under t b) e ∙ n)

pub token_read_first : TokenReadFirst
token_read_first batch b k e n = ap (footprint_in batch) (meets batch b k None e n) ∙ ap (λ t. token_marks t ++ marks_of_ops batch.domain batch.ops b) e

pub kept_read_only : KeptReadOnly
kept_read_only batch b k row e n = ap (footprint_in batch) (meets batch b k (Some row) e n) ∙ ap token_marks e
