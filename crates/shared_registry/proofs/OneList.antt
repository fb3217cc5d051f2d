-- The lists of two callers of a registry.
use Rattle.std.proofs.Common.{◌≡◌, ◌⊎◌, inl, inr, ℕ, zero, suc, ◌≤◌, List, [], ◌∷◌, ◌++◌, length, take, slice_get, refl, sym, ap, subst, ◌∙◌, arith}
use Rattle.std.proofs.lemmas.List.{take-append-le}
use mathlib.Core.List.{IsPrefix}
use Rattle.commit_head.specs.declared.item.Item.{Item}
use Rattle.shared_registry.specs.OneList.{AreOneList, commit_at}

get_first : {A : Type 0} (n : ℕ) (xs ys : List A) → suc n ≤ length xs → slice_get (xs ++ ys) n ≡ slice_get xs n
get_first zero [] ys le = absurd (omega arith)
get_first zero (x ∷ xs) ys le = refl
get_first (suc n) [] ys le = absurd (omega arith)
get_first (suc n) (x ∷ xs) ys le = get_first n xs ys (omega arith)

-- ---- a prefix, and a place in it

commit_first : (place : ℕ) (one other : List Item) → IsPrefix one other → place ≤ length one → commit_at place one ≡ commit_at place other
commit_first zero one other p le = refl
commit_first (suc n) one other p le = sym (get_first n one p.0 le) ∙ ap (λ l. slice_get l n) p.1

take_first : (place : ℕ) (one other : List Item) → IsPrefix one other → place ≤ length one → take place one ≡ take place other
take_first place one other p le = sym (take-append-le place one p.0 le) ∙ ap (take place) p.1

-- ---- one list

one_list : (one other : List Item) → IsPrefix one other ⊎ IsPrefix other one → AreOneList one other
one_list one other (inl p) = record {
  prefix = inl p;
  commit = λ place this that. commit_first place one other p this;
  until = λ place this that. take_first place one other p this;
}
one_list one other (inr p) = record {
  prefix = inr p;
  commit = λ place this that. sym (commit_first place other one p that);
  until = λ place this that. sym (take_first place other one p that);
}

-- both are prefixes of the longer one
pub one_list_of_longer : (one other longer : List Item) → (longer ≡ one) ⊎ (longer ≡ other) → IsPrefix one longer → IsPrefix other longer → AreOneList one other
one_list_of_longer one other longer (inl e) this that = one_list one other (inr (subst (IsPrefix other) e that))
one_list_of_longer one other longer (inr e) this that = one_list one other (inl (subst (IsPrefix one) e this))
