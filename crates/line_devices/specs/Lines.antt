-- The lines of an input.
use Rattle.std.specs.Prelude.{◌≡◌, ◌≢◌, ◌⊎◌, ◌^◌, ℕ, ◌==◌, Bool, false, List, [], ◌∷◌, ◌++◌, take, if◌then◌else◌, Option, Some, None, Result, MatchResult, MatchBool, ⊤}
use Rattle.std.specs.Io.KnownBytes.{Consumes, IsAtEnd}
use Rattle.std.specs.List.{concat, list_any}

-- x as the first byte of the first line
abbrev pub onto_line : ℕ → List (List ℕ) → List (List ℕ)
onto_line x [] = (x ∷ []) ∷ []
onto_line x (l ∷ ls) = (x ∷ l) ∷ ls

-- Each line ends with its LF. What follows the last LF is a line too, if it has a byte.
abbrev pub lines_of : List ℕ → List (List ℕ)
lines_of [] = []
lines_of (x ∷ xs) = if x == 10 then (x ∷ []) ∷ lines_of xs else onto_line x (lines_of xs)

-- whether an LF is among the bytes
abbrev pub has_lf : List ℕ → Bool
has_lf bytes = list_any (λ b. b == 10) bytes

-- the maximum number of bytes that are kept of a line
unfoldable pub kept_bytes : ℕ
kept_bytes = 1048577

-- the maximum number of lines that are read from an input
unfoldable pub most_lines : ℕ
most_lines = 2 ^ 48

-- what is kept of a line: its first bytes
abbrev pub stored_part : List ℕ → List ℕ
stored_part line = take kept_bytes line

-- a line with its LF, which is its only one
abbrev pub IsWholeLine : List ℕ → Type 0
IsWholeLine line = (front : List ℕ) × (has_lf front ≡ false) × (line ≡ front ++ 10 ∷ [])

-- a whole line, or a non-empty part of one without an LF
abbrev pub IsLine : List ℕ → Type 0
IsLine line = IsWholeLine line ⊎ ((has_lf line ≡ false) × (line ≢ []))

-- each line is whole, except that the last may be a non-empty part without an LF
abbrev pub AreLines : List (List ℕ) → Type 0
AreLines [] = ⊤
AreLines (line ∷ []) = IsLine line
AreLines (line ∷ next ∷ lines) = IsWholeLine line × AreLines (next ∷ lines)

-- the lines of bytes, concatenated, are the bytes
abbrev pub LinesJoin : Type 0
LinesJoin = (bytes : List ℕ) → concat (lines_of bytes) ≡ bytes

-- they are lines: whole ones, except perhaps for the last
abbrev pub LinesAreLines : Type 0
LinesAreLines = (bytes : List ℕ) → AreLines (lines_of bytes)

-- and no other list of lines is: any lines are those of the bytes to which they concatenate
abbrev pub OnlyLinesJoin : Type 0
OnlyLinesJoin = (lines : List (List ℕ)) → AreLines lines → lines ≡ lines_of (concat lines)

-- if the bytes are known, their first line is removed, and the line is what is kept of it
abbrev pub TakesLine : Option (List ℕ) → Option (List ℕ) → List ℕ → Type 0
TakesLine None new line = ⊤
TakesLine (Some xs) None line = ⊥
TakesLine (Some xs) (Some ys) line = (whole : List ℕ) × (lines_of xs ≡ whole ∷ lines_of ys) × (line ≡ stored_part whole)

-- the next line was read, or false is returned at the end; a failed call may lose a part of a line
abbrev pub GivesLine : {E : Type 0} → Option (List ℕ) → Option (List ℕ) → List ℕ → Result Bool E → Type 0
GivesLine old new line r = MatchResult r (λ any. MatchBool any (TakesLine old new line) (IsAtEnd old × IsAtEnd new)) (λ _. (lost : List ℕ) × (has_lf lost ≡ false) × Consumes old new lost)
