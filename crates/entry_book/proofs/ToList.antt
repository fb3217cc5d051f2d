-- Two filters in sequence are one filter.
use Rattle.std.proofs.Common.{◌≡◌, Bool, true, false, ◌&&◌, cond, List, [], ◌∷◌, refl, ap}
use Rattle.std.specs.Prelude.{filter}
use Rattle.entry_book.specs.declared.page.PageQuery.{PageQuery}
use Rattle.entry_book.specs.Rows.{Entry}
use Rattle.entry_book.specs.Pages.{comes_after, passes}

both : {X : Type 0} (p q : X → Bool) (xs : List X) → filter (λ x. p x && q x) xs ≡ filter q (filter p xs)
both p q [] = refl
both p q (x ∷ xs) =
    elim (p x) as (λ a. cond (a && q x) (x ∷ filter (λ x. p x && q x) xs) (filter (λ x. p x && q x) xs) ≡ filter q (cond a (x ∷ filter p xs) (filter p xs))) [
      | true ↦ elim (q x) as (λ b. cond b (x ∷ filter (λ x. p x && q x) xs) (filter (λ x. p x && q x) xs) ≡ cond b (x ∷ filter q (filter p xs)) (filter q (filter p xs))) [
        | true ↦ ap (λ l. x ∷ l) (both p q xs)
        | false ↦ both p q xs
      ]
      | false ↦ both p q xs
    ]

pub to_list_is : (q : PageQuery) (rows : List Entry) → filter (λ e. passes q.filter e && comes_after q.from e) rows ≡ filter (comes_after q.from) (filter (passes q.filter) rows)
to_list_is q rows = both (passes q.filter) (comes_after q.from) rows
