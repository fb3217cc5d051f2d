-- The calls of a seat in a journal.
use Rattle.std.specs.Prelude.{⊤, ℕ, ◌<◌, ◌==◌, cond, List, [], ◌∷◌}
use Rattle.commit_head.specs.declared.item.Item.{Item}

-- the numbers of the calls that a seat committed, in order
abbrev pub calls_of : ℕ → List Item → List ℕ
calls_of s [] = []
calls_of s (i ∷ is) = cond (i.seat == s) (i.call ∷ calls_of s is) (calls_of s is)

-- every number is below c
abbrev pub AllBelow : ℕ → List ℕ → Type 0
AllBelow c [] = ⊤
AllBelow c (k ∷ ks) = (k < c) × AllBelow c ks
