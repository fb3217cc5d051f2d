-- Two books that read the same at each mark of a batch's footprint on the first give it the same run.
use Rattle.std.proofs.Common.{◌≡◌, List, [], ◌∷◌, ◌++◌, Ok, Err, IfOk, refl, sym, ap, subst, ◌∙◌}
use Rattle.std.specs.List.{AllByRecursion}
use Rattle.spiffe_name.specs.Id.{server_text}
use Rattle.entry_book.specs.declared.op.Op.{Op}
use Rattle.entry_book.specs.Rows.{Bytes}
use Rattle.entry_book.specs.Book.{Book, AscendingBook}
use Rattle.entry_book.specs.Writes.{FitAll, after}
use Rattle.entry_book.specs.Ops.{OpResult, OpEffect, op_of}
use Rattle.entry_book.specs.Runs.{then_run, onto, run}
use Rattle.entry_book.proofs.Fits.{in_order, op_fits}
use Rattle.version_book.specs.declared.mark.MarkKind.{MarkKind}
use Rattle.version_book.specs.Marks.{Agree, reads}
use Rattle.version_book.proofs.Agreement.{agree_after}
use Rattle.batch_work.specs.declared.phase.Phase.{Phase}
use Rattle.batch_work.specs.declared.phase.Phase.TheVariants as phase
use Rattle.batch_work.specs.declared.phase.Next.{Next}
use Rattle.batch_work.specs.declared.phase.Next.TheVariants.{Continues, Ends, Refused}
use Rattle.batch_work.specs.Reads.{marks_of, marks_after, marks_of_ops}
use Rattle.batch_work.specs.Steps.{mark_of, advance, ContinuesWith, Plays}
use Rattle.batch_work.proofs.Plays.{plays}

-- ---- steps on two books

continues : (n : Next) (ms : List MarkKind) (o : OpResult) (f g : Phase → Type 0) → ((q : Phase) → f q → g q) → ContinuesWith n ms o f → ContinuesWith n ms o g
continues (Continues q) ms o f g h t = h q t
continues (Ends r ws) ms o f g h t = t
continues (Refused r) ms o f g h t = t

plays_same : (s : Bytes) (op : Op) (b c : Book) (p : Phase) (ms : List MarkKind) (o : OpResult) → Plays s op p b ms o → AllByRecursion (Agree b c) ms → Plays s op p c ms o
plays_same s op b c p [] o h all = h
plays_same s op b c p (m ∷ ms) o h all = (
  h.0,
  subst (λ r. ContinuesWith (advance s op p r) ms o (λ q. Plays s op q c ms o)) (subst (Agree b c) h.0 all.0)
      (continues (advance s op p (reads (mark_of s op p) b)) ms o (λ q. Plays s op q b ms o) (λ q. Plays s op q c ms o) (λ q t. plays_same s op b c q ms o t all.1) h.1),
)

-- ---- steps on one book have one end

Same : List MarkKind → List MarkKind → OpResult → OpResult → Type 0
Same ms ns o q = (ms ≡ ns) × (o ≡ q)

one_end : (n : Next) (ms ns : List MarkKind) (o r : OpResult) (f g : Phase → Type 0) → ((q : Phase) → f q → g q → (ms ≡ ns) × (o ≡ r)) → ContinuesWith n ms o f → ContinuesWith n ns r g → (ms ≡ ns) × (o ≡ r)
one_end (Continues q) ms ns o r f g h t u = h q t u
one_end (Ends x ws) ms ns o r f g h t u = (t.0 ∙ sym u.0, t.1 ∙ sym u.1)
one_end (Refused x) ms ns o r f g h t u = (t.0 ∙ sym u.0, t.1 ∙ sym u.1)

plays_once : (s : Bytes) (op : Op) (b : Book) (p : Phase) (ms ns : List MarkKind) (o r : OpResult) → Plays s op p b ms o → Plays s op p b ns r → (ms ≡ ns) × (o ≡ r)
plays_once s op b p [] ns o r h k = absurd h
plays_once s op b p (m ∷ ms) [] o r h k = absurd k
plays_once s op b p (m ∷ ms) (n ∷ ns) o r h k =
    let e = one_end (advance s op p (reads (mark_of s op p) b)) ms ns o r (λ q. Plays s op q b ms o) (λ q. Plays s op q b ns r) (λ q t u. plays_once s op b q ms ns o r t u) h.1 k.1 in
    let head : m ≡ n = h.0 ∙ sym k.0 in
    (ap (λ x. x ∷ ms) head ∙ ap (λ l. n ∷ l) e.0, e.1)

-- ---- one operation

pub op_same : (own_domain : Bytes) (op : Op) (b c : Book) → AscendingBook b → AscendingBook c → AllByRecursion (Agree b c) (marks_of own_domain op b) → (op_of own_domain op b ≡ op_of own_domain op c) × (marks_of own_domain op b ≡ marks_of own_domain op c)
op_same own_domain op b c u v h =
    let e = plays_once (server_text own_domain) op c phase.First (marks_of own_domain op b) (marks_of own_domain op c) (op_of own_domain op b) (op_of own_domain op c) (plays_same (server_text own_domain) op b c phase.First (marks_of own_domain op b) (op_of own_domain op b) (plays own_domain op b u) h) (plays own_domain op c v) in
    (e.1, e.0)

-- ---- a batch

pub split_all : {X : Type 0} (P : X → Type 0) (xs ys : List X) → AllByRecursion P (xs ++ ys) → AllByRecursion P xs × AllByRecursion P ys
split_all P [] ys h = (tt, h)
split_all P (x ∷ xs) ys h = let r = split_all P xs ys h.1 in ((h.0, r.0), r.1)

all_agree_after : (d : OpEffect) (b c : Book) (ms : List MarkKind) → AllByRecursion (Agree b c) ms → AllByRecursion (Agree (after d.writes b) (after d.writes c)) ms
all_agree_after d b c [] h = tt
all_agree_after d b c (m ∷ ms) h = (agree_after d.writes b c m h.0, all_agree_after d b c ms h.1)

abbrev SameRun : Bytes → List Op → Book → Book → Type 0
SameRun own_domain ops b c = AllByRecursion (Agree b c) (marks_of_ops own_domain ops b) → (run own_domain ops b ≡ run own_domain ops c) × (marks_of_ops own_domain ops b ≡ marks_of_ops own_domain ops c)

rest_same : (own_domain : Bytes) (ops : List Op) (b c : Book) → AscendingBook b → AscendingBook c → ((x y : Book) → AscendingBook x → AscendingBook y → SameRun own_domain ops x y) → (o : OpResult) → IfOk o (λ d. FitAll d.writes b) → IfOk o (λ d. FitAll d.writes c) → AllByRecursion (Agree b c) (marks_after o (λ d. marks_of_ops own_domain ops (after d.writes b))) → (then_run o (λ d. run own_domain ops (after d.writes b)) ≡ then_run o (λ d. run own_domain ops (after d.writes c))) × (marks_after o (λ d. marks_of_ops own_domain ops (after d.writes b)) ≡ marks_after o (λ d. marks_of_ops own_domain ops (after d.writes c)))
rest_same own_domain ops b c u v ih (Err r) f g h = (refl, refl)
rest_same own_domain ops b c u v ih (Ok d) f g h =
    let e = ih (after d.writes b) (after d.writes c) (in_order d.writes b u f) (in_order d.writes c v g) (all_agree_after d b c (marks_of_ops own_domain ops (after d.writes b)) h) in
    (ap (onto d) e.0, e.1)

pub same_run : (own_domain : Bytes) (ops : List Op) (b c : Book) → AscendingBook b → AscendingBook c → SameRun own_domain ops b c
same_run own_domain [] b c u v h = (refl, refl)
same_run own_domain (op ∷ ops) b c u v h =
    let all = split_all (Agree b c) (marks_of own_domain op b) (marks_after (op_of own_domain op b) (λ d. marks_of_ops own_domain ops (after d.writes b))) h in
    let e = op_same own_domain op b c u v all.0 in
    let k = rest_same own_domain ops b c u v (λ x y p q. same_run own_domain ops x y p q) (op_of own_domain op b) (op_fits own_domain op b u) (subst (λ o. IfOk o (λ d. FitAll d.writes c)) (sym e.0) (op_fits own_domain op c v)) all.1 in (
      k.0 ∙ ap (λ o. then_run o (λ d. run own_domain ops (after d.writes c))) e.0,
      ap (λ l. l ++ marks_after (op_of own_domain op b) (λ d. marks_of_ops own_domain ops (after d.writes b))) e.1 ∙ ap (λ l. marks_of own_domain op c ++ l) (k.1 ∙ ap (λ o. marks_after o (λ d. marks_of_ops own_domain ops (after d.writes c))) e.0),
    )
