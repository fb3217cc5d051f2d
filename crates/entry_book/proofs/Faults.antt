-- Which lists of operations are refused as a batch.
use Rattle.std.proofs.Common.{◌≡◌, ◌⊎◌, ℕ, ◌+◌, ◌<◌, ◌≤◌, Bool, true, false, cond, ◌==◌, List, [], ◌∷◌, ◌++◌, length, Option, Some, None, refl, sym, ap, ◌∙◌, ◌↔◌, inl, inr, ⊎_elim, arith, length-append}
use Rattle.std.specs.Prelude.{nat_lt, is_some, ◌&&◌}
use Rattle.std.specs.List.{AllByRecursion}
use Rattle.std.proofs.lemmas.Bool.{cases_Bool}
use Rattle.std.proofs.lemmas.Bool.Decides.{nat_tests}
use Rattle.entry_book.specs.declared.op.Op.{Op}
use Rattle.entry_book.specs.declared.op.Op.TheVariants.{Page}
use Rattle.entry_book.specs.declared.page.PageQuery.{PageQuery}
use Rattle.entry_book.specs.declared.fault.OpFault.{OpFault}
use Rattle.entry_book.specs.declared.fault.BatchRefusal.{BatchRefusal}
use Rattle.entry_book.specs.declared.fault.BatchRefusal.TheVariants.{NoOps, TooManyOps, OfOp, PastPageNotAlone, TokenOnQuery}
use Rattle.entry_book.specs.Rows.{Bytes}
use Rattle.entry_book.specs.Batches.{batch_refusal, first_past_of_many, first_past, is_query, op_fault, ops_refusal, or_later, or_token, place_asked}
use Rattle.entry_book.specs.Laws.{AreFaultless, ArePagesAlone, ReadLastBook, FaultAt, PastPageAt}

abbrev NoneAtFault : Bytes → List Op → Type 0
NoneAtFault domain ops = AllByRecursion (λ op. op_fault domain op ≡ None) ops

abbrev NoneAsks : List Op → Type 0
NoneAsks ops = AllByRecursion (λ op. place_asked op ≡ None) ops

-- ---- the table, line by line

abbrev after_ops : List Op → Option Bytes → Option BatchRefusal
after_ops ops token = or_token (first_past_of_many ops) ops token

refused_of : (domain : Bytes) (ops : List Op) (token : Option Bytes) → batch_refusal domain ops token ≡ cond (length ops == 0) (Some NoOps) (cond (nat_lt 64 (length ops)) (Some TooManyOps) (ops_refusal domain 0 ops (after_ops ops token)))
unfolding batch_refusal
refused_of domain ops token = refl

-- a refusal after the operations is neither the fault of one of them, nor their number
data Late (ops : List Op) (token : Option Bytes) (r : BatchRefusal) : Type 0 where
  past : (n : ℕ) → first_past_of_many ops ≡ Some n → r ≡ PastPageNotAlone n → Late ops token r
  asks : first_past_of_many ops ≡ None → (is_some token && is_query ops) ≡ true → r ≡ TokenOnQuery → Late ops token r

late_when : (ops : List Op) (token : Option Bytes) (r : BatchRefusal) (b : Bool) → first_past_of_many ops ≡ None → (is_some token && is_query ops) ≡ b → cond b (Some TokenOnQuery) None ≡ Some r → Late ops token r
late_when ops token r true e q h = let p : r ≡ TokenOnQuery = cc in asks e q p
late_when ops token r false e q h = cc

late_of : (ops : List Op) (token : Option Bytes) (r : BatchRefusal) (o : Option ℕ) → first_past_of_many ops ≡ o → or_token o ops token ≡ Some r → Late ops token r
late_of ops token r (Some n) e h = let p : r ≡ PastPageNotAlone n = cc in past n e p
late_of ops token r None e h = late_when ops token r (is_some token && is_query ops) e refl h

late : (ops : List Op) (token : Option Bytes) (r : BatchRefusal) → after_ops ops token ≡ Some r → Late ops token r
late ops token r h = late_of ops token r (first_past_of_many ops) refl h

-- a refused list has an operation with a fault, or none has a fault and it is refused later
data Refused (domain : Bytes) (ops : List Op) (later : Option BatchRefusal) (r : BatchRefusal) : Type 0 where
  of_op : (n : ℕ) (f : OpFault) → r ≡ OfOp n f → Refused domain ops later r
  after : NoneAtFault domain ops → later ≡ Some r → Refused domain ops later r

refused_more : (domain : Bytes) (op : Op) (ops : List Op) (later : Option BatchRefusal) (r : BatchRefusal) → op_fault domain op ≡ None → Refused domain ops later r → Refused domain (op ∷ ops) later r
refused_more domain op ops later r e (of_op n f q) = of_op n f q
refused_more domain op ops later r e (after none q) = after (e, none) q

of_one : (domain : Bytes) (n : ℕ) (ops : List Op) (later : Option BatchRefusal) (r : BatchRefusal) → ops_refusal domain n ops later ≡ Some r → Refused domain ops later r
of_one domain n [] later r h = after tt h
of_one domain n (op ∷ ops) later r h = elim (op_fault domain op) as (λ o. op_fault domain op ≡ o → or_later o n (ops_refusal domain (n + 1) ops later) ≡ Some r → Refused domain (op ∷ ops) later r) [
  | None ↦ λ e k. refused_more domain op ops later r e (of_one domain (n + 1) ops later r k)
  | Some g ↦ λ e k. let q : r ≡ OfOp n g = cc in of_op n g q
] refl h

-- ---- no fault

few_ops_by : (domain : Bytes) (ops : List Op) (a b : Bool) (o : Option BatchRefusal) → cond a (Some NoOps) (cond b (Some TooManyOps) o) ≡ None → (a ≡ false) × (b ≡ false) × (o ≡ None)
few_ops_by domain ops true b o h = cc
few_ops_by domain ops false true o h = cc
few_ops_by domain ops false false o h = (refl, refl, h)

some_by : (ops : List Op) → (length ops == 0) ≡ false → 0 < length ops
some_by ops h = grind (arith, nat_tests, h)

few_by : (ops : List Op) → nat_lt 64 (length ops) ≡ false → length ops ≤ 64
few_by ops h = grind (arith, nat_tests, h)

all_none : (domain : Bytes) (n : ℕ) (ops : List Op) (later : Option BatchRefusal) → ops_refusal domain n ops later ≡ None → NoneAtFault domain ops × (later ≡ None)
all_none domain n [] later h = (tt, h)
all_none domain n (op ∷ ops) later h = elim (op_fault domain op) as (λ o. op_fault domain op ≡ o → or_later o n (ops_refusal domain (n + 1) ops later) ≡ None → NoneAtFault domain (op ∷ ops) × (later ≡ None)) [
  | None ↦ λ e k. let r = all_none domain (n + 1) ops later k in ((e, r.0), r.1)
  | Some f ↦ λ e k. cc
] refl h

pub passed : (domain : Bytes) (ops : List Op) (token : Option Bytes) → batch_refusal domain ops token ≡ None → AreFaultless domain ops × (after_ops ops token ≡ None)
passed domain ops token h =
    let k = few_ops_by domain ops (length ops == 0) (nat_lt 64 (length ops)) _ (sym (refused_of domain ops token) ∙ h) in
    let r = all_none domain 0 ops (after_ops ops token) k.2 in
    (record { some = some_by ops k.0; few = few_by ops k.1; none = r.0 }, r.1)

pub few_ops : (domain : Bytes) (ops : List Op) (token : Option Bytes) → batch_refusal domain ops token ≡ None → length ops ≤ 64
few_ops domain ops token h = let p : AreFaultless domain ops = (passed domain ops token h).0 in p.few

pub no_fault : (domain : Bytes) (ops : List Op) (token : Option Bytes) → batch_refusal domain ops token ≡ None → AreFaultless domain ops
no_fault domain ops token h = (passed domain ops token h).0

none_of : (domain : Bytes) (n : ℕ) (ops : List Op) (later : Option BatchRefusal) → NoneAtFault domain ops → ops_refusal domain n ops later ≡ later
none_of domain n [] later h = refl
none_of domain n (op ∷ ops) later h = ap (λ o. or_later o n (ops_refusal domain (n + 1) ops later)) h.0 ∙ none_of domain (n + 1) ops later h.1

by_ops : (domain : Bytes) (ops : List Op) (token : Option Bytes) → 0 < length ops → length ops ≤ 64 → batch_refusal domain ops token ≡ ops_refusal domain 0 ops (after_ops ops token)
by_ops domain ops token some few =
    let a : (length ops == 0) ≡ false = grind (arith, nat_tests) in
    let b : nat_lt 64 (length ops) ≡ false = grind (arith, nat_tests) in
    refused_of domain ops token ∙ (ap (λ t. cond t (Some NoOps) (cond (nat_lt 64 (length ops)) (Some TooManyOps) (ops_refusal domain 0 ops (after_ops ops token)))) a ∙ ap (λ t. cond t (Some TooManyOps) (ops_refusal domain 0 ops (after_ops ops token))) b)

by_later : (domain : Bytes) (ops : List Op) (token : Option Bytes) → AreFaultless domain ops → batch_refusal domain ops token ≡ after_ops ops token
by_later domain ops token f = by_ops domain ops token f.some f.few ∙ none_of domain 0 ops (after_ops ops token) f.none

-- ---- a fault of an operation

of_ops : (a b : Bool) (o : Option BatchRefusal) (r : BatchRefusal) → (r ≡ NoOps → ⊥) → (r ≡ TooManyOps → ⊥) → cond a (Some NoOps) (cond b (Some TooManyOps) o) ≡ Some r → (a ≡ false) × (b ≡ false) × (o ≡ Some r)
of_ops true b o r p q h = absurd (p cc)
of_ops false true o r p q h = absurd (q cc)
of_ops false false o r p q h = (refl, refl, h)

-- the fault at index n of operations that are counted from m
record FaultFrom (domain : Bytes) (m : ℕ) (ops : List Op) (n : ℕ) (f : OpFault) : Type 0 where
  front : List Op
  op : Op
  rest : List Op
  split : ops ≡ front ++ op ∷ rest
  index : n ≡ m + length front
  none_before : NoneAtFault domain front
  fault : op_fault domain op ≡ Some f

fault_from : (domain : Bytes) (m : ℕ) (ops : List Op) (later : Option BatchRefusal) (n : ℕ) (f : OpFault) → (later ≡ Some (OfOp n f) → ⊥) → ops_refusal domain m ops later ≡ Some (OfOp n f) → FaultFrom domain m ops n f
fault_from domain m [] later n f l h = absurd (l h)
fault_from domain m (op ∷ ops) later n f l h = elim (op_fault domain op) as (λ o. op_fault domain op ≡ o → or_later o m (ops_refusal domain (m + 1) ops later) ≡ Some (OfOp n f) → FaultFrom domain m (op ∷ ops) n f) [
  | None ↦ λ e k.
      let r : FaultFrom domain (m + 1) ops n f = fault_from domain (m + 1) ops later n f l k in
      let i = r.index in
      record { front = op ∷ r.front; op = r.op; rest = r.rest; split = ap (λ l. op ∷ l) r.split; index = omega arith; none_before = (e, r.none_before); fault = r.fault }
  | Some g ↦ λ e k.
      let q : m ≡ n = cc in
      let p : g ≡ f = cc in
      record { front = []; op = op; rest = ops; split = refl; index = omega arith; none_before = tt; fault = e ∙ ap Some p }
] refl h

not_late : (ops : List Op) (token : Option Bytes) (n : ℕ) (f : OpFault) → Late ops token (OfOp n f) → ⊥
not_late ops token n f (past m e q) = cc
not_late ops token n f (asks e t q) = cc

first_fault_at : (domain : Bytes) (ops : List Op) (token : Option Bytes) (n : ℕ) (f : OpFault) → batch_refusal domain ops token ≡ Some (OfOp n f) → (length ops ≤ 64) × FaultAt domain ops n f
first_fault_at domain ops token n f h =
    let k = of_ops (length ops == 0) (nat_lt 64 (length ops)) _ (OfOp n f) (λ e. cc) (λ e. cc) (sym (refused_of domain ops token) ∙ h) in
    let r : FaultFrom domain 0 ops n f = fault_from domain 0 ops (after_ops ops token) n f (λ e. not_late ops token n f (late ops token (OfOp n f) e)) k.2 in
    let i = r.index in
    (few_by ops k.1, record { front = r.front; op = r.op; rest = r.rest; split = r.split; index = omega arith; none_before = r.none_before; fault = r.fault })

refused_for : (domain : Bytes) (m : ℕ) (front : List Op) (op : Op) (rest : List Op) (later : Option BatchRefusal) (f : OpFault) → NoneAtFault domain front → op_fault domain op ≡ Some f → ops_refusal domain m (front ++ op ∷ rest) later ≡ Some (OfOp (m + length front) f)
refused_for domain m [] op rest later f h e = let q : m ≡ m + 0 = omega arith in ap (λ o. or_later o m (ops_refusal domain (m + 1) rest later)) e ∙ ap (λ k. Some (OfOp k f)) q
refused_for domain m (x ∷ xs) op rest later f h e =
    let q : m + 1 + length xs ≡ m + length (x ∷ xs) = omega arith in
    ap (λ o. or_later o m (ops_refusal domain (m + 1) (xs ++ op ∷ rest) later)) h.0 ∙ (refused_for domain (m + 1) xs op rest later f h.1 e ∙ ap (λ k. Some (OfOp k f)) q)

some_of : (ops front : List Op) (op : Op) (rest : List Op) → ops ≡ front ++ op ∷ rest → 0 < length ops
some_of ops front op rest e = let q = ap length e ∙ length-append front (op ∷ rest) in omega arith

pub first_fault : (domain : Bytes) (ops : List Op) (token : Option Bytes) (n : ℕ) (f : OpFault) → (batch_refusal domain ops token ≡ Some (OfOp n f)) ↔ ((length ops ≤ 64) × FaultAt domain ops n f)
first_fault domain ops token n f = (
  first_fault_at domain ops token n f,
  λ h.
      let r : FaultAt domain ops n f = h.1 in
      let i : 0 + length r.front ≡ n = let q = r.index in omega arith in
      by_ops domain ops token (some_of ops r.front r.op r.rest r.split) h.0
      ∙ (ap (λ l. ops_refusal domain 0 l (after_ops ops token)) r.split ∙ (refused_for domain 0 r.front r.op r.rest (after_ops ops token) f r.none_before r.fault ∙ ap (λ k. Some (OfOp k f)) i)),
)

-- ---- pages of earlier books

asks_or : (op : Op) → ((m : ℕ) × (place_asked op ≡ Some m)) ⊎ (place_asked op ≡ None)
asks_or op = elim (place_asked op) as (λ o. place_asked op ≡ o → ((m : ℕ) × (place_asked op ≡ Some m)) ⊎ (place_asked op ≡ None)) [
  | None ↦ λ e. inr e
  | Some m ↦ λ e. inl (m, e)
] refl

record PastFrom (m : ℕ) (ops : List Op) (n : ℕ) : Type 0 where
  front : List Op
  query : PageQuery
  rest : List Op
  split : ops ≡ front ++ Page query ∷ rest
  index : n ≡ m + length front
  none_before : NoneAsks front
  place : ℕ
  asked : query.at ≡ Some place

pub record PageOf (op : Op) (n : ℕ) : Type 0 where
  pub query : PageQuery
  pub is_page : op ≡ Page query
  pub at : query.at ≡ Some n

pub page_of : (op : Op) (n : ℕ) → place_asked op ≡ Some n → PageOf op n
page_of (Page q) n h = record { query = q; is_page = refl; at = h }
page_of op n h = cc

-- no page of these operations gives the number of a book, in both definitions
pub asks_last : (ops : List Op) → NoneAsks ops → ReadLastBook ops
asks_last [] h = λ q w. absurd w
asks_last (op ∷ ops) h = λ q w. ⊎_elim (λ e. ap place_asked (sym e) ∙ h.0) (λ v. asks_last ops h.1 q v) w

none_or_page : (op : Op) → ((q : PageQuery) → op ≡ Page q → q.at ≡ None) → place_asked op ≡ None
none_or_page (Page q) h = h q refl
none_or_page op h = refl

pub last_asks : (ops : List Op) → ReadLastBook ops → NoneAsks ops
last_asks [] h = tt
last_asks (op ∷ ops) h = (none_or_page op (λ q e. h q (inl e)), last_asks ops (λ q w. h q (inr w)))

past_first : (m : ℕ) (op : Op) (ops : List Op) (k : ℕ) → place_asked op ≡ Some k → first_past m (op ∷ ops) ≡ Some m
past_first m op ops k e = rw e refl

past_later : (m : ℕ) (op : Op) (ops : List Op) → place_asked op ≡ None → first_past m (op ∷ ops) ≡ first_past (m + 1) ops
past_later m op ops e = rw e refl

past_from : (m : ℕ) (ops : List Op) (n : ℕ) → first_past m ops ≡ Some n → PastFrom m ops n
past_from m [] n h = cc
past_from m (op ∷ ops) n h = ⊎_elim
    (λ a.
    let q : Some m ≡ Some n = sym (past_first m op ops a.0 a.1) ∙ h in
    let k : m ≡ n = cc in
    let p : PageOf op a.0 = page_of op a.0 a.1 in
    record { front = []; query = p.query; rest = ops; split = ap (λ x. x ∷ ops) p.is_page; index = omega arith; none_before = tt; place = a.0; asked = p.at })
    (λ e.
    let r : PastFrom (m + 1) ops n = past_from (m + 1) ops n (sym (past_later m op ops e) ∙ h) in
    let i = r.index in
    record { front = op ∷ r.front; query = r.query; rest = r.rest; split = ap (λ l. op ∷ l) r.split; index = omega arith; none_before = (e, r.none_before); place = r.place; asked = r.asked })
    (asks_or op)

past_for : (m : ℕ) (front : List Op) (op : Op) (rest : List Op) (place : ℕ) → NoneAsks front → place_asked op ≡ Some place → first_past m (front ++ op ∷ rest) ≡ Some (m + length front)
past_for m [] op rest place h e = let q : m ≡ m + 0 = omega arith in past_first m op rest place e ∙ ap Some q
past_for m (x ∷ xs) op rest place h e = let q : m + 1 + length xs ≡ m + length (x ∷ xs) = omega arith in past_later m x (xs ++ op ∷ rest) h.0 ∙ (past_for (m + 1) xs op rest place h.1 e ∙ ap Some q)

none_asks : (m : ℕ) (ops : List Op) → first_past m ops ≡ None → NoneAsks ops
none_asks m [] h = tt
none_asks m (op ∷ ops) h = ⊎_elim
    (λ a. let q : Some m ≡ None = sym (past_first m op ops a.0 a.1) ∙ h in cc)
    (λ e. (e, none_asks (m + 1) ops (sym (past_later m op ops e) ∙ h)))
    (asks_or op)

none_past : (m : ℕ) (ops : List Op) → NoneAsks ops → first_past m ops ≡ None
none_past m [] h = refl
none_past m (op ∷ ops) h = past_later m op ops h.0 ∙ none_past (m + 1) ops h.1

first_past_many : (ops : List Op) → 1 < length ops → first_past_of_many ops ≡ first_past 0 ops
first_past_many ops h = let k : nat_lt 1 (length ops) ≡ true = grind (arith, nat_tests) in rw k refl

first_past_one : (ops : List Op) → length ops ≤ 1 → first_past_of_many ops ≡ None
first_past_one ops h = let k : nat_lt 1 (length ops) ≡ false = grind (arith, nat_tests) in rw k refl

many_or : (ops : List Op) → (1 < length ops) ⊎ (length ops ≤ 1)
many_or ops = ⊎_elim (λ t. inl (grind (arith, nat_tests, t))) (λ t. inr (grind (arith, nat_tests, t))) (cases_Bool (nat_lt 1 (length ops)))

many_when_past : (ops : List Op) (n : ℕ) → first_past_of_many ops ≡ Some n → 1 < length ops
many_when_past ops n h = ⊎_elim (λ k. k) (λ k. let q : None ≡ Some n = sym (first_past_one ops k) ∙ h in cc) (many_or ops)

pub alone : (ops : List Op) → first_past_of_many ops ≡ None → ArePagesAlone ops
alone ops h = λ k. asks_last ops (none_asks 0 ops (sym (first_past_many ops k) ∙ h))

no_first_past : (ops : List Op) → ArePagesAlone ops → first_past_of_many ops ≡ None
no_first_past ops h = ⊎_elim (λ k. first_past_many ops k ∙ none_past 0 ops (last_asks ops (h k))) (first_past_one ops) (many_or ops)

past_page_of : (domain : Bytes) (ops : List Op) (n : ℕ) → AreFaultless domain ops → first_past_of_many ops ≡ Some n → AreFaultless domain ops × (1 < length ops) × PastPageAt ops n
past_page_of domain ops n f e =
    let many = many_when_past ops n e in
    let r : PastFrom 0 ops n = past_from 0 ops n (sym (first_past_many ops many) ∙ e) in
    let i = r.index in
    (f, many, record { front = r.front; query = r.query; rest = r.rest; split = r.split; index = omega arith; none_before = asks_last r.front r.none_before; place = r.place; asked = r.asked })

past_late : (ops : List Op) (token : Option Bytes) (n : ℕ) → Late ops token (PastPageNotAlone n) → first_past_of_many ops ≡ Some n
past_late ops token n (past m e q) = let k : m ≡ n = cc in e ∙ ap Some k
past_late ops token n (asks e t q) = cc

-- ---- refusals that come after all operations

faultless_when : (domain : Bytes) (ops : List Op) (token : Option Bytes) (r : BatchRefusal) → (length ops == 0) ≡ false → nat_lt 64 (length ops) ≡ false → ((n : ℕ) (f : OpFault) → r ≡ OfOp n f → ⊥) → Refused domain ops (after_ops ops token) r → AreFaultless domain ops × Late ops token r
faultless_when domain ops token r a b s (of_op n f q) = absurd (s n f q)
faultless_when domain ops token r a b s (after none q) = (record { some = some_by ops a; few = few_by ops b; none = none }, late ops token r q)

faultless_by : (domain : Bytes) (ops : List Op) (token : Option Bytes) (r : BatchRefusal) → (r ≡ NoOps → ⊥) → (r ≡ TooManyOps → ⊥) → ((n : ℕ) (f : OpFault) → r ≡ OfOp n f → ⊥) → batch_refusal domain ops token ≡ Some r → AreFaultless domain ops × Late ops token r
faultless_by domain ops token r p q s h =
    let k = of_ops (length ops == 0) (nat_lt 64 (length ops)) _ r p q (sym (refused_of domain ops token) ∙ h) in
    faultless_when domain ops token r k.0 k.1 s (of_one domain 0 ops (after_ops ops token) r k.2)

pub past_page_refused : (domain : Bytes) (ops : List Op) (token : Option Bytes) (n : ℕ) → (batch_refusal domain ops token ≡ Some (PastPageNotAlone n)) ↔ (AreFaultless domain ops × (1 < length ops) × PastPageAt ops n)
past_page_refused domain ops token n = (
  λ h.
      let k = faultless_by domain ops token (PastPageNotAlone n) (λ e. cc) (λ e. cc) (λ m f e. cc) h in
      past_page_of domain ops n k.0 (past_late ops token n k.1),
  λ h.
      let r : PastPageAt ops n = h.2 in
      let i : 0 + length r.front ≡ n = let q = r.index in omega arith in
      by_later domain ops token h.0
      ∙ ap (λ o. or_token o ops token) (first_past_many ops h.1 ∙ (ap (first_past 0) r.split ∙ (past_for 0 r.front (Page r.query) r.rest r.place (last_asks r.front r.none_before) r.asked ∙ ap Some i))),
)

both_true : (a b : Bool) → (a && b) ≡ true → (a ≡ true) × (b ≡ true)
both_true true true h = (refl, refl)
both_true true false h = cc
both_true false b h = cc

true_both : (a b : Bool) → a ≡ true → b ≡ true → (a && b) ≡ true
true_both a b p q = ap (λ x. x && b) p ∙ q

token_late : (domain : Bytes) (ops : List Op) (token : Option Bytes) → AreFaultless domain ops → Late ops token TokenOnQuery → AreFaultless domain ops × ArePagesAlone ops × (is_some token ≡ true) × (is_query ops ≡ true)
token_late domain ops token f (past m e q) = cc
token_late domain ops token f (asks e t q) = let k = both_true (is_some token) (is_query ops) t in (f, alone ops e, k.0, k.1)

token_when : (ops : List Op) (token : Option Bytes) (b : Bool) → first_past_of_many ops ≡ None → (is_some token && is_query ops) ≡ b → after_ops ops token ≡ cond b (Some TokenOnQuery) None
token_when ops token b e q = ap (λ o. or_token o ops token) e ∙ ap (λ x. cond x (Some TokenOnQuery) None) q

pub token_refused : (domain : Bytes) (ops : List Op) (token : Option Bytes) → (batch_refusal domain ops token ≡ Some TokenOnQuery) ↔ (AreFaultless domain ops × ArePagesAlone ops × (is_some token ≡ true) × (is_query ops ≡ true))
token_refused domain ops token = (
  λ h. let k = faultless_by domain ops token TokenOnQuery (λ e. cc) (λ e. cc) (λ m f e. cc) h in token_late domain ops token k.0 k.1,
  λ h. by_later domain ops token h.0 ∙ token_when ops token true (no_first_past ops h.1) (true_both (is_some token) (is_query ops) h.2 h.3),
)

not_read_only : (a b : Bool) → cond (a && b) (Some TokenOnQuery) None ≡ None → a ≡ true → b ≡ false
not_read_only true true h e = cc
not_read_only true false h e = refl
not_read_only false b h e = cc

not_both : (a b : Bool) → (a ≡ true → b ≡ false) → (a && b) ≡ false
not_both true b h = h refl
not_both false b h = refl

-- the parts of the checks after all operations, if none of them refuses
after_none : (ops : List Op) (token : Option Bytes) (o : Option ℕ) → first_past_of_many ops ≡ o → or_token o ops token ≡ None → (first_past_of_many ops ≡ None) × (is_some token ≡ true → is_query ops ≡ false)
after_none ops token (Some n) e h = cc
after_none ops token None e h = (e, not_read_only (is_some token) (is_query ops) h)

pub not_refused : (domain : Bytes) (ops : List Op) (token : Option Bytes) → (batch_refusal domain ops token ≡ None) ↔ (AreFaultless domain ops × ArePagesAlone ops × (is_some token ≡ true → is_query ops ≡ false))
not_refused domain ops token = (
  λ h.
      let p = passed domain ops token h in
      let k = after_none ops token (first_past_of_many ops) refl p.1 in
      (p.0, alone ops k.0, k.1),
  λ h. by_later domain ops token h.0 ∙ token_when ops token false (no_first_past ops h.1) (not_both (is_some token) (is_query ops) h.2),
)

-- ---- too few, and too many

-- a list is refused for its number of operations, or for one of them, or later
not_late_count : (ops : List Op) (token : Option Bytes) (r : BatchRefusal) → ((n : ℕ) → r ≡ PastPageNotAlone n → ⊥) → (r ≡ TokenOnQuery → ⊥) → Late ops token r → ⊥
not_late_count ops token r p q (past n e h) = p n h
not_late_count ops token r p q (asks e t h) = q h

no_count : (domain : Bytes) (ops : List Op) (token : Option Bytes) (r : BatchRefusal) → ((n : ℕ) (f : OpFault) → r ≡ OfOp n f → ⊥) → ((n : ℕ) → r ≡ PastPageNotAlone n → ⊥) → (r ≡ TokenOnQuery → ⊥) → Refused domain ops (after_ops ops token) r → ⊥
no_count domain ops token r s p q (of_op n f h) = s n f h
no_count domain ops token r s p q (after none h) = not_late_count ops token r p q (late ops token r h)

empty_by : (domain : Bytes) (ops : List Op) (token : Option Bytes) (a b : Bool) → cond a (Some NoOps) (cond b (Some TooManyOps) (ops_refusal domain 0 ops (after_ops ops token))) ≡ Some NoOps → a ≡ true
empty_by domain ops token true b h = refl
empty_by domain ops token false true h = cc
empty_by domain ops token false false h = absurd (no_count domain ops token NoOps (λ n f e. cc) (λ n e. cc) (λ e. cc) (of_one domain 0 ops (after_ops ops token) NoOps h))

none_there : (ops : List Op) → length ops ≤ 0 → ops ≡ []
none_there [] h = refl
none_there (op ∷ ops) h = absurd (omega arith)

pub no_ops_refused : (domain : Bytes) (ops : List Op) (token : Option Bytes) → (batch_refusal domain ops token ≡ Some NoOps) ↔ (ops ≡ [])
no_ops_refused domain ops token = (
  λ h. let q = empty_by domain ops token (length ops == 0) (nat_lt 64 (length ops)) (sym (refused_of domain ops token) ∙ h) in none_there ops (grind (arith, nat_tests, q)),
  λ h. ap (λ l. batch_refusal domain l token) h ∙ refused_of domain [] token,
)

many_by : (domain : Bytes) (ops : List Op) (token : Option Bytes) (a b : Bool) → cond a (Some NoOps) (cond b (Some TooManyOps) (ops_refusal domain 0 ops (after_ops ops token))) ≡ Some TooManyOps → b ≡ true
many_by domain ops token true b h = cc
many_by domain ops token false true h = refl
many_by domain ops token false false h = absurd (no_count domain ops token TooManyOps (λ n f e. cc) (λ n e. cc) (λ e. cc) (of_one domain 0 ops (after_ops ops token) TooManyOps h))

pub too_many_refused : (domain : Bytes) (ops : List Op) (token : Option Bytes) → (batch_refusal domain ops token ≡ Some TooManyOps) ↔ (64 < length ops)
too_many_refused domain ops token = (
  λ h. let q = many_by domain ops token (length ops == 0) (nat_lt 64 (length ops)) (sym (refused_of domain ops token) ∙ h) in grind (arith, nat_tests, q),
  λ h.
      let a : (length ops == 0) ≡ false = grind (arith, nat_tests) in
      let b : nat_lt 64 (length ops) ≡ true = grind (arith, nat_tests) in
      refused_of domain ops token ∙ (ap (λ t. cond t (Some NoOps) (cond (nat_lt 64 (length ops)) (Some TooManyOps) (ops_refusal domain 0 ops (after_ops ops token)))) a ∙ ap (λ t. cond t (Some TooManyOps) (ops_refusal domain 0 ops (after_ops ops token))) b),
)
