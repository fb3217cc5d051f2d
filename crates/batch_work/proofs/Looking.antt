-- What a read may assume, and what follows from it.
use Rattle.std.proofs.Common.{◌≡◌, ℕ, zero, suc, ◌+◌, ◌*◌, ◌≤◌, ◌^◌, List, [], ◌∷◌, get_or, drop, Some, sym, ap, subst, ◌∙◌, arith}
use Rattle.spiffe_name.specs.Id.{server_text}
use Rattle.entry_book.specs.declared.op.Op.{Op}
use Rattle.entry_book.specs.declared.reply.OpReply.{OpReply}
use Rattle.entry_book.specs.Rows.{Bytes}
use Rattle.entry_book.specs.Book.{Book}
use Rattle.entry_book.specs.Writes.{RowWrite, after}
use Rattle.entry_book.specs.Lawful.{Lawful}
use Rattle.entry_book.specs.Batches.{Batch, IsMadeFor, past_place}
use Rattle.entry_book.proofs.Faults.{not_refused}
use Rattle.entry_book.proofs.Sets.{from_within_filter}
use Rattle.version_book.specs.declared.mark.MarkKind.{MarkKind}
use Rattle.version_book.specs.Marks.{names_entry, names_bundle, reads}
use Rattle.version_book.specs.CommittedRows.{VersionState, book_of}
use Rattle.batch_work.specs.declared.phase.Phase.{Phase}
use Rattle.batch_work.specs.declared.phase.Next.{Next}
use Rattle.entry_book.specs.Lawful.{CanGrow}
use Rattle.batch_work.specs.Steps.{mark_of, advance}
use Rattle.batch_work.specs.Working.{Base, version_read}
use Rattle.batch_work.specs.WorkInvariants.{book_now, Going, Looked}
use Rattle.batch_work.proofs.WorkInvariants.{is_below, looks}

can_grow : (m : MarkKind) (own_domain : Bytes) (most : ℕ) (b : Book) → most ≤ 2 ^ 62 → Lawful own_domain most b → CanGrow (reads m b)
can_grow m own_domain most b low l = record {
  revisions = λ e w. let h = l.revisions e (from_within_filter (names_entry m) b.entries e w).0 in omega arith;
  sequences = λ d w. let h = l.sequences d (from_within_filter (names_bundle m) b.bundles d w).0 in omega arith;
}

same_version : (v s : VersionState) → Some v ≡ Some s → v ≡ s
same_version v s e = cc

pub op_is : (ops : List Op) (n : ℕ) (x op : Op) (rest : List Op) → drop n ops ≡ op ∷ rest → x ≡ get_or ops n x → op ≡ x
op_is [] zero x op rest h e = cc
op_is [] (suc n) x op rest h e = cc
op_is (y ∷ ys) zero x op rest h e = let q : y ≡ op = cc in sym q ∙ sym e
op_is (y ∷ ys) (suc n) x op rest h e = op_is ys n x op rest h e

module _ (batch : Batch) (base : Base) (marks : List MarkKind) (changes : List RowWrite) (replies : List OpReply) (n : ℕ) (p : Phase) (g : Going batch base marks changes replies n p) (v : VersionState) (found : Some v ≡ version_read (past_place batch.ops) base) where
  version_is : v ≡ g.at_hand.s
  version_is = same_version v g.at_hand.s (found ∙ g.at_hand.read_is)

  pub grows : IsMadeFor batch.domain batch → (m : MarkKind) (reading : Book) → reading ≡ reads m (after changes (book_of v.rows)) → CanGrow reading
  grows made m reading e =
      let s : VersionState = g.at_hand.s in
      let below = is_below batch.ops n g.at_hand.op g.at_hand.rest g.at_hand.here in
      let few = ((not_refused batch.domain batch.ops batch.token).0 made.no_fault).0.few in
      let low = g.at_hand.low in
      let most : 64 * s.number + n ≤ 2 ^ 62 = omega arith in
      subst CanGrow (sym (e ∙ ap (λ v. reads m (after changes (book_of v.rows))) version_is)) (can_grow m batch.domain (64 * s.number + n) (book_now s changes) most g.at_hand.lawful)

  pub looked : (ops : List Op) (op : Op) → ops ≡ batch.ops → op ≡ get_or ops n op → (server : Bytes) → server ≡ server_text batch.domain → (m : MarkKind) → m ≡ mark_of server op p → (reading : Book) → reading ≡ reads m (after changes (book_of v.rows)) → (next : Next) → next ≡ advance server op p reading → Looked batch base marks changes replies n m next
  looked ops op same item server k m e reading r next a =
      let here : g.at_hand.op ≡ op = op_is batch.ops n op g.at_hand.op g.at_hand.rest g.at_hand.here (item ∙ ap (λ l. get_or l n op) same) in
      let mark : m ≡ mark_of (server_text batch.domain) g.at_hand.op p = e ∙ (ap (λ t. mark_of t op p) k ∙ ap (λ o. mark_of (server_text batch.domain) o p) (sym here)) in
      looks batch base marks changes replies n p g m mark next
      (a ∙ (ap (λ t. advance t op p reading) k ∙ (ap (λ o. advance (server_text batch.domain) o p reading) (sym here)
      ∙ ap (advance (server_text batch.domain) g.at_hand.op p) (r ∙ (ap (λ x. reads x (after changes (book_of v.rows))) mark ∙ ap (λ v. reads (mark_of (server_text batch.domain) g.at_hand.op p) (after changes (book_of v.rows))) version_is)))))
