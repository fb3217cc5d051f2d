-- Rows copied one after another.
use Rattle.std.proofs.Common.{◌≡◌, ℕ, List, [], ◌∷◌, ◌++◌, Some, refl, ap, ◌∙◌, append_assoc}
use Rattle.std.specs.Prelude.{filter}
use Rattle.entry_book.specs.Order.{is_before, with_row}

-- the rows before the row, the row, and the rows after it
pub joined : {X : Type 0} (key : X → List ℕ) (row : X) (rows first with_new all : List X) → first ≡ filter (λ x. is_before (key x) (key row)) rows → with_new ≡ first ++ row ∷ [] → all ≡ with_new ++ filter (λ x. is_before (key row) (key x)) rows → all ≡ with_row key (key row) (Some row) rows
unfolding with_row
joined key row rows first with_new all f w a =
    a ∙ (ap (λ l. l ++ filter (λ x. is_before (key row) (key x)) rows) (w ∙ ap (λ l. l ++ row ∷ []) f)
    ∙ append_assoc (filter (λ x. is_before (key x) (key row)) rows) (row ∷ []) (filter (λ x. is_before (key row) (key x)) rows))

-- a row put into an empty list
pub put_alone : {X : Type 0} (key : X → List ℕ) (k : List ℕ) (row : X) → with_row key k (Some row) [] ≡ row ∷ []
unfolding with_row
put_alone key k row = refl
