-- Filters and rows.
use Rattle.std.proofs.Common.{◌≡◌, Bool, true, false, cond, List, [], ◌∷◌, Option, Some, None, refl, ap}
use Rattle.std.specs.Prelude.{filter, option_to_list}
use Rattle.std.proofs.lemmas.List.Elements.{filter-append}
use Rattle.entry_book.specs.Rows.{Bytes}
use Rattle.entry_book.specs.Order.{with_row, is_before}

pub filter-filter : {X : Type 0} (p q : X → Bool) (xs : List X) → filter p (filter q xs) ≡ filter q (filter p xs)
filter-filter p q [] = refl
filter-filter p q (x ∷ xs) =
    elim (p x) as (λ a. p x ≡ a → filter p (cond (q x) (x ∷ filter q xs) (filter q xs)) ≡ filter q (cond a (x ∷ filter p xs) (filter p xs))) [
      | true ↦ λ e. elim (q x) as (λ c. q x ≡ c → filter p (cond c (x ∷ filter q xs) (filter q xs)) ≡ cond c (x ∷ filter q (filter p xs)) (filter q (filter p xs))) [
        | true ↦ λ _. rw e (ap (λ l. x ∷ l) (filter-filter p q xs))
        | false ↦ λ _. filter-filter p q xs
      ] refl
      | false ↦ λ e. elim (q x) as (λ c. filter p (cond c (x ∷ filter q xs) (filter q xs)) ≡ filter q (filter p xs)) [
        | true ↦ rw e (filter-filter p q xs)
        | false ↦ filter-filter p q xs
      ]
    ] refl

abbrev pub kept : {X : Type 0} → (X → Bool) → Option X → Option X
kept p None = None
kept p (Some x) = cond (p x) (Some x) None

filter-kept : {X : Type 0} (p : X → Bool) (o : Option X) → filter p (option_to_list o) ≡ option_to_list (kept p o)
filter-kept p None = refl
filter-kept p (Some x) = elim (p x) as (λ c. cond c (x ∷ []) [] ≡ option_to_list (cond c (Some x) None)) [ true ↦ refl | false ↦ refl ]

-- the rows that pass after a write are the rows that passed, after the write of the new row if it passes
pub filter-with_row : {X : Type 0} (key : X → Bytes) (p : X → Bool) (k : Bytes) (new : Option X) (rows : List X) → filter p (with_row key k new rows) ≡ with_row key k (kept p new) (filter p rows)
unfolding with_row
filter-with_row key p k new rows =
    rw (filter-append, filter-append, filter-kept p new, filter-filter p (λ x. is_before (key x) k) rows, filter-filter p (λ x. is_before k (key x)) rows)
