-- The result of running a batch's operations.
use Rattle.std.proofs.Common.{◌≡◌, ℕ, suc, ◌+◌, List, [], ◌∷◌, ◌++◌, length, Result, Ok, Err, IfOk, refl, sym, ap, ◌∙◌, append_assoc, arith}
use Rattle.std.specs.Prelude.{MatchResult}
use Rattle.std.proofs.lemmas.List.{append-nil}
use Rattle.entry_book.specs.declared.op.Op.{Op}
use Rattle.entry_book.specs.declared.reply.OpReply.{OpReply}
use Rattle.entry_book.specs.declared.reply.OpRefusal.{OpRefusal}
use Rattle.entry_book.specs.Rows.{Bytes}
use Rattle.entry_book.specs.Book.{Book, AscendingBook}
use Rattle.entry_book.specs.Writes.{RowWrite, FitAll, after}
use Rattle.entry_book.specs.Ops.{OpEffect, OpResult, op_of}
use Rattle.entry_book.specs.Runs.{RunEffect, RefusedOp, RunResult, onto, then_run, run}
use Rattle.entry_book.specs.Laws.{StopsAt}
use Rattle.entry_book.proofs.Changed.{after-append, fit-append}
use Rattle.entry_book.proofs.Fits.{in_order, op_fits}

-- ---- two lists of operations, one after the other

-- the result of operations that follow n others with this result
abbrev shifted : ℕ → RunEffect → RunResult → RunResult
shifted n t (Ok u) = Ok (record { replies = t.replies ++ u.replies; writes = t.writes ++ u.writes })
shifted n t (Err s) = Err (record s { op = s.op + n })

abbrev then_more : ℕ → RunResult → (RunEffect → RunResult) → RunResult
then_more n (Ok t) f = shifted n t (f t)
then_more n (Err s) f = Err s

abbrev stop : ℕ → OpRefusal → RunResult
stop n r = Err (record { op = n; reason = r })

same_stop : (n m : ℕ) (r : OpRefusal) → n ≡ m → stop n r ≡ stop m r
same_stop n m r e = ap (λ k. stop k r) e

abbrev finished : List OpReply → List RowWrite → RunResult
finished rs ws = Ok (record { replies = rs; writes = ws })

shifted_none : (r : RunResult) → r ≡ shifted 0 (record { replies = []; writes = [] }) r
shifted_none (Ok u) = refl
shifted_none (Err s) = same_stop s.op (s.op + 0) s.reason (omega arith)

onto_shifted : (n : ℕ) (d : OpEffect) (t : RunEffect) (r : RunResult) → onto d (shifted n t r) ≡ shifted (suc n) (record { replies = d.reply ∷ t.replies; writes = d.writes ++ t.writes }) r
onto_shifted n d t (Ok u) = ap (finished (d.reply ∷ (t.replies ++ u.replies))) (sym (append_assoc d.writes t.writes u.writes))
onto_shifted n d t (Err s) = same_stop (s.op + n + 1) (s.op + suc n) s.reason (omega arith)

over_first : (n : ℕ) (b : Book) (d : OpEffect) (r : RunResult) (f g : RunEffect → RunResult) → ((t : RunEffect) → g t ≡ f (record { replies = d.reply ∷ t.replies; writes = d.writes ++ t.writes })) → onto d (then_more n r g) ≡ then_more (suc n) (onto d r) f
over_first n b d (Ok t) f g h = onto_shifted n d t (g t) ∙ ap (shifted (suc n) (record { replies = d.reply ∷ t.replies; writes = d.writes ++ t.writes })) (h t)
over_first n b d (Err s) f g h = refl

over_op : (n : ℕ) (b : Book) (o : OpResult) (f : RunEffect → RunResult) (run_both run_first : OpEffect → RunResult) (g : OpEffect → RunEffect → RunResult) → ((d : OpEffect) → run_both d ≡ then_more n (run_first d) (g d)) → ((d : OpEffect) (t : RunEffect) → g d t ≡ f (record { replies = d.reply ∷ t.replies; writes = d.writes ++ t.writes })) → then_run o run_both ≡ then_more (suc n) (then_run o run_first) f
over_op n b (Ok d) f both front g h k = ap (onto d) (h d) ∙ over_first n b d (front d) f (g d) (k d)
over_op n b (Err r) f both front g h k = refl

run_append : (domain : Bytes) (xs ys : List Op) (b : Book) → run domain (xs ++ ys) b ≡ then_more (length xs) (run domain xs b) (λ t. run domain ys (after t.writes b))
run_append domain [] ys b = shifted_none (run domain ys b)
run_append domain (x ∷ xs) ys b = over_op (length xs) b (op_of domain x b) (λ t. run domain ys (after t.writes b)) (λ d. run domain (xs ++ ys) (after d.writes b)) (λ d. run domain xs (after d.writes b)) (λ d t. run domain ys (after t.writes (after d.writes b)))
    (λ d. run_append domain xs ys (after d.writes b))
    (λ d t. ap (run domain ys) (sym (after-append d.writes t.writes b)))

-- ---- one more operation

one_more : (n : ℕ) (t : RunEffect) (o : OpResult) → MatchResult o (λ d. shifted n t (then_run o (λ d. finished [] [])) ≡ finished (t.replies ++ d.reply ∷ []) (t.writes ++ d.writes)) (λ r. shifted n t (then_run o (λ d. finished [] [])) ≡ stop n r)
one_more n t (Ok d) = ap (λ ws. finished (t.replies ++ d.reply ∷ []) (t.writes ++ ws)) (append-nil d.writes)
one_more n t (Err r) = same_stop (0 + n) n r (omega arith)

match_along : {X E : Type 0} (o : Result X E) (P Q : X → Type 0) (R S : E → Type 0) → ((x : X) → P x → Q x) → ((e : E) → R e → S e) → MatchResult o P R → MatchResult o Q S
match_along (Ok x) P Q R S f g h = f x h
match_along (Err e) P Q R S f g h = g e h

pub run_extends : (domain : Bytes) (ops : List Op) (op : Op) (b : Book) (t : RunEffect) → run domain ops b ≡ Ok t → MatchResult (op_of domain op (after t.writes b)) (λ d. run domain (ops ++ op ∷ []) b ≡ Ok (record { replies = t.replies ++ d.reply ∷ []; writes = t.writes ++ d.writes })) (λ r. run domain (ops ++ op ∷ []) b ≡ Err (record { op = length ops; reason = r }))
run_extends domain ops op b t h =
    let both : run domain (ops ++ op ∷ []) b ≡ shifted (length ops) t (then_run (op_of domain op (after t.writes b)) (λ d. finished [] [])) = run_append domain ops (op ∷ []) b ∙ ap (λ r. then_more (length ops) r (λ t. run domain (op ∷ []) (after t.writes b))) h in
    match_along (op_of domain op (after t.writes b)) _ _ _ _ (λ d e. both ∙ e) (λ r e. both ∙ e) (one_more (length ops) t (op_of domain op (after t.writes b)))

-- ---- the first refused operation

refused_first : (o : OpResult) (f : OpEffect → RunResult) (r : OpRefusal) → o ≡ Err r → then_run o f ≡ stop 0 r
refused_first o f r e = ap (λ a. then_run a f) e

pub from_stop : (domain : Bytes) (ops : List Op) (b : Book) (n : ℕ) (r : OpRefusal) → StopsAt domain ops b n r → run domain ops b ≡ Err (record { op = n; reason = r })
from_stop domain ops b n r s =
    let i = s.index in
    ap (λ l. run domain l b) s.split
    ∙ (run_append domain s.front (s.op ∷ s.rest) b
    ∙ (ap (λ a. then_more (length s.front) a (λ t. run domain (s.op ∷ s.rest) (after t.writes b))) s.accepted
    ∙ (ap (shifted (length s.front) s.done) (refused_first (op_of domain s.op (after s.done.writes b)) (λ d. run domain s.rest (after d.writes (after s.done.writes b))) r s.refused)
    ∙ same_stop (0 + length s.front) n r (omega arith))))

abbrev fails : RefusedOp → RunResult
fails x = Err x

fail_is : (x y : RefusedOp) → fails x ≡ fails y → x ≡ y
fail_is x y e = cc

-- the index and the reason of a stop
stop_is : (n m : ℕ) (r s : OpRefusal) → stop n r ≡ stop m s → (n ≡ m) × (r ≡ s)
stop_is n m r s e = let q = fail_is (record { op = n; reason = r }) (record { op = m; reason = s }) e in (ap (λ t. t.op) q, ap (λ t. t.reason) q)

pub to_stop : (domain : Bytes) (ops : List Op) (b : Book) (n : ℕ) (r : OpRefusal) → run domain ops b ≡ stop n r → StopsAt domain ops b n r
to_stop domain [] b n r h = cc
to_stop domain (op ∷ ops) b n r h =
    elim (op_of domain op b) as (λ o. op_of domain op b ≡ o → then_run o (λ d. run domain ops (after d.writes b)) ≡ stop n r → StopsAt domain (op ∷ ops) b n r) [
      | Err s ↦ λ q k.
          let p = stop_is 0 n s r k in
          record { front = []; op = op; rest = ops; split = refl; index = sym p.0; done = record { replies = []; writes = [] }; accepted = refl; refused = q ∙ ap Err p.1 }
      | Ok d ↦ λ q. elim (run domain ops (after d.writes b)) as (λ t. run domain ops (after d.writes b) ≡ t → onto d t ≡ stop n r → StopsAt domain (op ∷ ops) b n r) [
        | Ok t ↦ λ e k. cc
        | Err s ↦ λ e k.
            let p = stop_is (s.op + 1) n s.reason r k in
            let m = p.0 in
            let later : StopsAt domain ops (after d.writes b) s.op s.reason = to_stop domain ops (after d.writes b) s.op s.reason e in
            let i = later.index in
            record {
              front = op ∷ later.front;
              op = later.op;
              rest = later.rest;
              split = ap (λ l. op ∷ l) later.split;
              index = omega arith;
              done = record { replies = d.reply ∷ later.done.replies; writes = d.writes ++ later.done.writes };
              accepted = ap (λ o. then_run o (λ d. run domain later.front (after d.writes b))) q ∙ ap (onto d) later.accepted;
              refused = ap (op_of domain later.op) (after-append d.writes later.done.writes b) ∙ (later.refused ∙ ap Err p.1);
            }
      ] refl
    ] refl h

-- ---- writes find the rows that they name

abbrev FitsRun : RunResult → Book → Type 0
FitsRun r b = IfOk r (λ t. FitAll t.writes b)

onto_fits : (d : OpEffect) (r : RunResult) (b : Book) → FitAll d.writes b → FitsRun r (after d.writes b) → FitsRun (onto d r) b
onto_fits d (Ok t) b f g = fit-append d.writes t.writes b f g
onto_fits d (Err s) b f g = tt

then_fits : (o : OpResult) (f : OpEffect → RunResult) (b : Book) → AscendingBook b → IfOk o (λ d. FitAll d.writes b) → ((d : OpEffect) → AscendingBook (after d.writes b) → FitsRun (f d) (after d.writes b)) → FitsRun (then_run o f) b
then_fits (Ok d) f b a h k = onto_fits d (f d) b h (k d (in_order d.writes b a h))
then_fits (Err r) f b a h k = tt

run_finds : (domain : Bytes) (ops : List Op) (b : Book) → AscendingBook b → FitsRun (run domain ops b) b
run_finds domain [] b a = tt
run_finds domain (op ∷ ops) b a = then_fits (op_of domain op b) (λ d. run domain ops (after d.writes b)) b a (op_fits domain op b a) (λ d k. run_finds domain ops (after d.writes b) k)

and_in_order : (r : RunResult) (b : Book) → AscendingBook b → FitsRun r b → IfOk r (λ t. FitAll t.writes b × AscendingBook (after t.writes b))
and_in_order (Ok t) b a f = (f, in_order t.writes b a f)
and_in_order (Err s) b a f = tt

pub run_fits : (domain : Bytes) (ops : List Op) (b : Book) → AscendingBook b → IfOk (run domain ops b) (λ t. FitAll t.writes b × AscendingBook (after t.writes b))
run_fits domain ops b a = and_in_order (run domain ops b) b a (run_finds domain ops b a)
