-- A run, operation by operation.
use Rattle.std.proofs.Common.{◌≡◌, Bool, true, false, ℕ, zero, suc, ◌+◌, ◌<◌, List, [], ◌∷◌, ◌++◌, length, get_or, drop, None, Result, Ok, Err, IfOk, refl, sym, ap, subst, ◌∙◌, append_assoc, arith}
use Rattle.std.specs.List.{AllByRecursion}
use Rattle.std.proofs.lemmas.List.{at_drop_more}
use Rattle.entry_book.specs.declared.op.Op.{Op}
use Rattle.entry_book.specs.declared.reply.OpReply.{OpReply}
use Rattle.entry_book.specs.declared.reply.OpRefusal.{OpRefusal}
use Rattle.plain_book.specs.declared.run.BatchRun.TheVariants.{Accepted, RefusedAt}
use Rattle.entry_book.specs.Rows.{Bytes}
use Rattle.entry_book.specs.Book.{Book}
use Rattle.entry_book.specs.Writes.{after}
use Rattle.entry_book.specs.Ops.{OpResult, OpEffect, op_of}
use Rattle.entry_book.specs.Batches.{Batch, IsMadeFor, IsProperOp, op_fault}
use Rattle.entry_book.specs.Laws.{AreFaultless}
use Rattle.entry_book.specs.Lawful.{Lawful}
use Rattle.entry_book.specs.Runs.{RunResult, onto, then_run, run}
use Rattle.entry_book.specs.Limits.{limit_passed}
use Rattle.entry_book.specs.History.{adds_within, answers, token_writes, verdict_when}
use Rattle.plain_book.specs.Performed.{performed, ran, resumed, verdict_accepted}
use Rattle.entry_book.proofs.Changed.{after-append}
use Rattle.entry_book.proofs.Faults.{not_refused}
use Rattle.entry_book.proofs.Keeps.{op_keeps}

-- ---- the operations of a batch on a lawful book

all_at : {X : Type 0} (P : X → Type 0) (xs : List X) (n : ℕ) (x : X) → AllByRecursion P xs → n < length xs → x ≡ get_or xs n x → P x
all_at P [] n x h l e = absurd (omega arith)
all_at P (y ∷ ys) zero x h l e = subst P (sym e) h.0
all_at P (y ∷ ys) (suc n) x h l e = all_at P ys n x h.1 (omega arith) e

abbrev same_answer : {X E : Type 0} → Result X E → Result X E → Type 0
same_answer a b = a ≡ b

ok_is : {X E : Type 0} (x y : X) → same_answer {X = X} {E = E} (Ok x) (Ok y) → x ≡ y
ok_is x y e = cc

accepted_is : (own_domain : Bytes) (m : ℕ) (o : OpResult) (reply : OpReply) (b c : Book) → IfOk o (λ d. Lawful own_domain m (after d.writes b)) → Ok (reply, c) ≡ performed o b → Lawful own_domain m c
accepted_is own_domain m (Ok d) reply b c h e = let q = ok_is (reply, c) (d.reply, after d.writes b) e in subst (Lawful own_domain m) (sym (ap (λ t. t.1) q)) h
accepted_is own_domain m (Err r) reply b c h e = cc

-- the book after an accepted operation is lawful
pub keeps_at : (batch : Batch) (m n : ℕ) (op : Op) (reply : OpReply) (b c : Book) → IsMadeFor batch.domain batch → Lawful batch.domain (m + n) b → n < length batch.ops → op ≡ get_or batch.ops n op → Ok (reply, c) ≡ performed (op_of batch.domain op b) b → Lawful batch.domain (m + (n + 1)) c
keeps_at batch m n op reply b c made l k e h =
    let proper = all_at IsProperOp batch.ops n op made.proper k e in
    let none : AreFaultless batch.domain batch.ops = ((not_refused batch.domain batch.ops batch.token).0 made.no_fault).0 in
    let faultless = all_at (λ op. op_fault batch.domain op ≡ None) batch.ops n op none.none k e in
    let q : m + n + 1 ≡ m + (n + 1) = omega arith in
    subst (λ t. Lawful batch.domain t c) q (accepted_is batch.domain (m + n + 1) (op_of batch.domain op b) reply b c (op_keeps batch.domain (m + n) op b proper faultless l) h)

-- ---- the outcome of the run

-- after one more accepted operation
onto_more : (n : ℕ) (replies : List OpReply) (b : Book) (d : OpEffect) (r : RunResult) → resumed n replies b (onto d r) ≡ resumed (n + 1) (replies ++ d.reply ∷ []) (after d.writes b) r
onto_more n replies b d (Ok t) = ap (λ l. Accepted l (after (d.writes ++ t.writes) b)) (sym (append_assoc replies (d.reply ∷ []) t.replies)) ∙ ap (Accepted ((replies ++ d.reply ∷ []) ++ t.replies)) (after-append d.writes t.writes b)
onto_more n replies b d (Err s) = let q : n + (s.op + 1) ≡ n + 1 + s.op = omega arith in ap (λ m. RefusedAt m s.reason) q

then_more : (n : ℕ) (replies : List OpReply) (b c : Book) (o : OpResult) (f : OpEffect → RunResult) (reply : OpReply) (g : Book → RunResult) → ((d : OpEffect) → f d ≡ g (after d.writes b)) → Ok (reply, c) ≡ performed o b → resumed n replies b (then_run o f) ≡ resumed (n + 1) (replies ++ reply ∷ []) c (g c)
then_more n replies b c (Ok d) f reply g h e =
    let q = ok_is (reply, c) (d.reply, after d.writes b) e in
    let r : d.reply ≡ reply = sym (ap (λ t. t.0) q) in
    let k : after d.writes b ≡ c = sym (ap (λ t. t.1) q) in
    ap (λ x. resumed n replies b (onto d x)) (h d) ∙ (onto_more n replies b d (g (after d.writes b)) ∙ (ap (λ x. resumed (n + 1) (replies ++ x ∷ []) (after d.writes b) (g (after d.writes b))) r ∙ ap (λ x. resumed (n + 1) (replies ++ reply ∷ []) x (g x)) k))
then_more n replies b c (Err r) f reply g h e = cc

pub continues : (domain : Bytes) (ops : List Op) (n : ℕ) (op : Op) (replies : List OpReply) (reply : OpReply) (b c : Book) → n < length ops → op ≡ get_or ops n op → Ok (reply, c) ≡ performed (op_of domain op b) b → resumed n replies b (run domain (drop n ops) b) ≡ resumed (n + 1) (replies ++ reply ∷ []) c (run domain (drop (n + 1) ops) c)
continues domain ops n op replies reply b c l e h =
    at_drop_more (λ l. resumed n replies b (run domain l b)) ops n op l
    ∙ (ap (λ x. resumed n replies b (run domain (x ∷ drop (n + 1) ops) b)) (sym e)
    ∙ then_more n replies b c (op_of domain op b) (λ d. run domain (drop (n + 1) ops) (after d.writes b)) reply (λ x. run domain (drop (n + 1) ops) x) (λ d. refl) h)

-- after a refused operation
then_stop : (n : ℕ) (replies : List OpReply) (b : Book) (o : OpResult) (f : OpEffect → RunResult) (r : OpRefusal) → Err r ≡ performed o b → resumed n replies b (then_run o f) ≡ RefusedAt n r
then_stop n replies b (Ok d) f r e = cc
then_stop n replies b (Err s) f r e = let q : n + 0 ≡ n = omega arith in let k : s ≡ r = cc in ap (λ m. RefusedAt m s) q ∙ ap (RefusedAt n) k

pub stops : (domain : Bytes) (ops : List Op) (n : ℕ) (op : Op) (replies : List OpReply) (b : Book) (r : OpRefusal) → n < length ops → op ≡ get_or ops n op → Err r ≡ performed (op_of domain op b) b → resumed n replies b (run domain (drop n ops) b) ≡ RefusedAt n r
stops domain ops n op replies b r l e h =
    at_drop_more (λ l. resumed n replies b (run domain l b)) ops n op l
    ∙ (ap (λ x. resumed n replies b (run domain (x ∷ drop (n + 1) ops) b)) (sym e)
    ∙ then_stop n replies b (op_of domain op b) (λ d. run domain (drop (n + 1) ops) (after d.writes b)) r h)

-- ---- the outcome of an accepted run

pub accepted_when : (query : Bool) (batch : Batch) (n : ℕ) (replies : List OpReply) (b c : Book) (r : RunResult) → Accepted replies c ≡ ran b r → verdict_accepted query batch n replies c ≡ verdict_when query batch n b r
accepted_when query batch n replies b c (Err s) e = cc
accepted_when true batch n replies b c (Ok t) e = let q : replies ≡ t.replies = cc in ap answers q
accepted_when false batch n replies b c (Ok t) e =
    let q : replies ≡ t.replies = cc in
    let k : c ≡ after t.writes b = cc in
    let more = token_writes batch.token batch.ops (n + 1) in
    ap (λ l. adds_within (limit_passed n (after (more l) c)) l (after (more l) c)) q
    ∙ (ap (λ x. adds_within (limit_passed n (after (more t.replies) x)) t.replies (after (more t.replies) x)) k
    ∙ ap (λ x. adds_within (limit_passed n x) t.replies x) (sym (after-append t.writes (more t.replies) b)))
