-- The parts of compact JSON text. For this crate's own contracts.
use Rattle.std.specs.Prelude.{ℕ, Bool, ◌||◌, List, [], nat_lt, ◌==◌, if◌then◌else◌, codes}

-- whether a byte of a JSON string must be escaped
abbrev pub needs_escape : ℕ → Bool
needs_escape b = nat_lt b 32 || b == 34 || b == 92

-- the comma before the item of this index; the first item has none
abbrev pub comma : ℕ → List ℕ
comma index = if nat_lt 0 index then codes "," else []
