-- Properties of results.
use Rattle.std.proofs.Common.{◌≡◌, Result, Ok, Err, IfOk, subst}
use Rattle.std.specs.Prelude.{OnOk}

pub ok_of : {X E : Type 0} (P : X → Type 0) (r : Result X E) (x : X) → r ≡ Ok x → IfOk r P → P x
ok_of P r x e h = subst (λ r. IfOk r P) e h

-- what holds in any case holds for each result
pub ok_any : {X E : Type 0} (Q : Type 0) (r : Result X E) → Q → IfOk r (λ _. Q)
ok_any Q (Ok x) q = q
ok_any Q (Err e) q = tt

pub by_ok : {X E P : Type 0} {x : X} (r : Result X E) → r ≡ Ok x → OnOk r P → P
by_ok (Ok x) e p = p
by_ok (Err k) e p = cc
