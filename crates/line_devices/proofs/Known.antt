-- Changes of bytes that are possibly known, one after another.
use Rattle.std.proofs.Common.{ℕ, List, ◌++◌, Option, None, Some, ap, sym, ◌∙◌}
use Rattle.std.specs.Io.KnownBytes.{Keeps, Consumes, Appends}
use Rattle.std.proofs.KnownBytes.{Keeps-refl, Keeps-trans}

pub kept-Consumes : (a b c : Option (List ℕ)) (bs : List ℕ) → Keeps a b → Consumes b c bs → Consumes a c bs
kept-Consumes None b c bs p q = tt
kept-Consumes (Some x) None c bs p q = absurd p
kept-Consumes (Some x) (Some y) None bs p q = q
kept-Consumes (Some x) (Some y) (Some z) bs p q = sym p ∙ q

pub kept-Appends : (a b c : Option (List ℕ)) (bs : List ℕ) → Keeps a b → Appends b c bs → Appends a c bs
kept-Appends None b c bs p q = tt
kept-Appends (Some x) None c bs p q = absurd p
kept-Appends (Some x) (Some y) None bs p q = q
kept-Appends (Some x) (Some y) (Some z) bs p q = q ∙ ap (λ l. l ++ bs) p

pub ruleset keeping = (Keeps-refl, Keeps-trans, kept-Consumes, kept-Appends)
