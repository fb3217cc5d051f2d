-- A call that is above all calls of its seat in a journal is a new one.
use Rattle.std.proofs.Common.{◌≡◌, ℕ, ◌<◌, ◌==◌, Bool, true, false, cond, List, [], ◌∷◌, ◌++◌, arith}
use Rattle.std.specs.List.{AllByRecursion}
use Rattle.std.proofs.lemmas.Bool.Decides.{nat_tests}
use Rattle.commit_head.specs.declared.item.Item.{Item}
use Rattle.commit_head.specs.Journals.{EachCallOnce, IsOther}
use Rattle.shared_registry.specs.SeatCalls.{calls_of, AllBelow}

below_cond : (c : ℕ) (t : Bool) (k : ℕ) (xs : List ℕ) → AllBelow c (cond t (k ∷ xs) xs) → (t ≡ true → k < c) × AllBelow c xs
below_cond c true k xs b = (λ _. b.0, b.1)
below_cond c false k xs b = (λ e. cc, b)

apart : (c s : ℕ) (i e : Item) → e.seat ≡ s → e.call ≡ c → ((i.seat == s) ≡ true → i.call < c) → IsOther i e
apart c s i e seat call below = record {
  apart = λ same_seat same_call. let t : (i.seat == s) ≡ true = grind (arith, nat_tests) in let less = below t in absurd (omega arith);
}

pub others : (c s : ℕ) (log : List Item) (e : Item) → e.seat ≡ s → e.call ≡ c → AllBelow c (calls_of s log) → AllByRecursion (λ i. IsOther i e) log
others c s [] e seat call b = tt
others c s (i ∷ log) e seat call b =
    let k = below_cond c (i.seat == s) i.call (calls_of s log) b in
    (apart c s i e seat call k.0, others c s log e seat call k.1)

all_snoc : (P : Item → Type 0) (xs : List Item) (e : Item) → AllByRecursion P xs → P e → AllByRecursion P (xs ++ e ∷ [])
all_snoc P [] e a p = (p, tt)
all_snoc P (x ∷ xs) e a p = (a.0, all_snoc P xs e a.1 p)

pub once_more : (log : List Item) (e : Item) → EachCallOnce log → AllByRecursion (λ i. IsOther i e) log → EachCallOnce (log ++ e ∷ [])
once_more [] e o a = (tt, tt)
once_more (i ∷ log) e o a = (all_snoc (IsOther i) log e o.0 a.0, once_more log e o.1 a.1)
