-- Two texts put one after another are put as one text.
use Rattle.std.proofs.Common.{ℕ, List, ◌++◌}
use Rattle.line_devices.specs.Stream.{OutputState, Puts}
use Rattle.line_devices.proofs.Puts.{Puts-then}

infixl 20 ◌▸◌
pub ◌▸◌ : {a b c : OutputState} {t u : List ℕ} → Puts a b t → Puts b c u → Puts a c (t ++ u)
p ▸ q = Puts-then _ _ _ _ _ p q
