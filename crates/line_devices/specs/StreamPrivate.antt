-- One call of a buffer: what it takes from a source, moves to a line, or sends to a sink. For this crate's own contracts.
use Rattle.std.specs.Prelude.{◌≡◌, ℕ, Bool, false, List, [], ◌++◌, MatchBool, Option, Result, MatchResult, ⊤}
use Rattle.line_devices.specs.Lines.{has_lf, stored_part, IsWholeLine}
use Rattle.std.specs.Io.KnownBytes.{Keeps, Consumes, Appends, IsAtEnd}
use Rattle.line_devices.specs.Stream.{AppendsPrefix}

-- a prefix of the bytes moved into the line, of which only the kept part is stored: up to the first LF, or everything if there is
-- none
abbrev pub MovesLine : List ℕ → List ℕ → List ℕ → List ℕ → Bool → Type 0
MovesLine old new line_old line_new ended = (part : List ℕ) × (old ≡ part ++ new) × (line_new ≡ stored_part (line_old ++ part)) × MatchBool ended (IsWholeLine part) ((has_lf part ≡ false) × (new ≡ []))

-- what was read is buffered; at the end, nothing, and the result is false; a failed call reads nothing
abbrev pub Fills : {E : Type 0} → Option (List ℕ) → Option (List ℕ) → List ℕ → Result Bool E → Type 0
Fills old new held r = MatchResult r (λ any. Consumes old new held × MatchBool any ⊤ ((held ≡ []) × IsAtEnd new)) (λ _. Keeps old new × (held ≡ []))

-- if the bytes are known, they grow by all of these bytes, or after an error by a prefix of them
abbrev pub SendsAll : {T E : Type 0} → Option (List ℕ) → Option (List ℕ) → List ℕ → Result T E → Type 0
SendsAll old new bytes r = MatchResult r (λ _. Appends old new bytes) (λ _. AppendsPrefix old new bytes)
