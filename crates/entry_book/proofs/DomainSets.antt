-- The set of the domains of a list is the only set with its members.
use Rattle.std.proofs.Common.{◌≡◌, ℕ, zero, suc, ◌<◌, true, List, [], ◌∷◌, length, get_or, Some, refl, sym, subst, inl, inr, ⊎_elim, ◌↔◌, arith}
use Rattle.std.specs.List.{Contains}
use Rattle.entry_book.specs.Order.{Within, is_before, with_row}
use Rattle.entry_book.specs.Rows.{Bytes, IsDomainSet, domain_set}
use Rattle.entry_book.proofs.InOrder.{ascending-with_row}
use Rattle.entry_book.proofs.Keys.{from_with_row, within_with_row, new_with_row}
use Rattle.entry_book.proofs.Sets.{before-irrefl, before-total, same_sets}

-- ---- members of a list, from its first one on

contains : (xs : List Bytes) (x : Bytes) → Within xs x → Contains xs x
contains [] x w = absurd w
contains (y ∷ ys) x w = ⊎_elim (λ e. (0, omega arith, e)) (λ v. let r = contains ys x v in let l = r.1 in (suc r.0, omega arith, r.2)) w

within : (xs : List Bytes) (x : Bytes) (k : ℕ) → k < length xs → get_or xs k x ≡ x → Within xs x
within [] x k l e = absurd (omega arith)
within (y ∷ ys) x zero l e = inl e
within (y ∷ ys) x (suc k) l e = inr (within ys x k (omega arith) e)

-- ---- the set of a list

set_is_set : (ds : List Bytes) → IsDomainSet (domain_set ds)
set_is_set [] = tt
set_is_set (d ∷ ds) = ascending-with_row (λ x. x) d (Some d) (domain_set ds) (set_is_set ds) refl

abbrev with_domain : Bytes → List Bytes → List Bytes
with_domain d set = with_row (λ x. x) d (Some d) set

in_with_domain : (d : Bytes) (set : List Bytes) (x : Bytes) → Within set x → Within (with_domain d set) x
in_with_domain d set x w =
    let other : (x ≡ d → ⊥) → Within (with_domain d set) x = within_with_row (λ y. y) d (Some d) set x w in
    ⊎_elim
    (λ l. other (λ e. before-irrefl d (subst (λ y. is_before y d ≡ true) e l)))
    (λ v. ⊎_elim
    (λ e. subst (Within (with_domain d set)) (sym e) (new_with_row (λ y. y) d d set))
    (λ r. other (λ e. before-irrefl d (subst (λ y. is_before d y ≡ true) e r))) v)
    (before-total x d)

in_set : (ds : List Bytes) (x : Bytes) → Within ds x → Within (domain_set ds) x
in_set [] x w = w
in_set (d ∷ ds) x w = ⊎_elim
    (λ e. subst (Within (with_domain d (domain_set ds))) e (new_with_row (λ y. y) d d (domain_set ds)))
    (λ v. in_with_domain d (domain_set ds) x (in_set ds x v)) w

from_set : (ds : List Bytes) (x : Bytes) → Within (domain_set ds) x → Within ds x
from_set [] x w = w
from_set (d ∷ ds) x w = ⊎_elim
    (λ n. ⊎_elim (λ e. inl e) (λ v. absurd v) n)
    (λ h. inr (from_set ds x h.0))
    (from_with_row (λ y. y) d (Some d) (domain_set ds) x w)

pub is_domain_set : (set ds : List Bytes) → IsDomainSet set → ((x : Bytes) → Contains set x ↔ Contains ds x) → set ≡ domain_set ds
is_domain_set set ds a m = same_sets (λ x. x) set (domain_set ds) a (set_is_set ds)
    (λ x w. let c = (m x).0 (contains set x w) in in_set ds x (within ds x c.0 c.1 c.2))
    (λ x w. let c = (m x).1 (contains ds x (from_set ds x w)) in within set x c.0 c.1 c.2)
