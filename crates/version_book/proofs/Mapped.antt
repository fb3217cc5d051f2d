-- The items of a mapped list.
use Rattle.std.proofs.Common.{◌≡◌, List, [], ◌∷◌, map, refl, ap, inl, inr, ⊎_elim}
use Rattle.entry_book.specs.Order.{Within}

pub within_map : {X Y : Type 0} (f : X → Y) (xs : List X) (x : X) → Within xs x → Within (map f xs) (f x)
within_map f [] x w = absurd w
within_map f (z ∷ zs) x w = ⊎_elim (λ e. inl (ap f e)) (λ v. inr (within_map f zs x v)) w

pub from_within_map : {X Y : Type 0} (f : X → Y) (xs : List X) (y : Y) → Within (map f xs) y → (x : X) × Within xs x × (f x ≡ y)
from_within_map f [] y w = absurd w
from_within_map f (z ∷ zs) y w = ⊎_elim (λ e. (z, inl refl, e)) (λ v. let r = from_within_map f zs y v in (r.0, inr r.1, r.2)) w
