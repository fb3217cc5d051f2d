-- Which lines the bytes of a log file represent. A line begins with '{' (123), has no byte below 32, and ends with an LF (10). The first
-- byte that breaks this ends the log.
use Rattle.std.specs.Prelude.{◌≡◌, ℕ, ◌≤◌, ◌==◌, nat_lt, List, [], ◌∷◌, ◌++◌, if◌then◌else◌, ⊤}
use Rattle.std.specs.List.{AllByRecursion}
use mathlib.Core.List.{IsPrefix}

-- the lines from here on, if this much of a line was read
abbrev pub lines_from : List ℕ → List ℕ → List (List ℕ)
lines_from line [] = []
lines_from [] (b ∷ bytes) = if b == 123 then lines_from (b ∷ []) bytes else []
lines_from (x ∷ line) (b ∷ bytes) = if b == 10 then (x ∷ line) ∷ lines_from [] bytes else if nat_lt b 32 then [] else lines_from (x ∷ line ++ b ∷ []) bytes

-- the lines of a file, without their LFs
abbrev pub lines_in : List ℕ → List (List ℕ)
lines_in bytes = lines_from [] bytes

-- the bytes of lines
abbrev pub text_of : List (List ℕ) → List ℕ
text_of [] = []
text_of (line ∷ lines) = line ++ 10 ∷ text_of lines

-- the bytes are whole lines
abbrev pub IsText : List ℕ → Type 0
IsText bytes = text_of (lines_in bytes) ≡ bytes

-- a line without its LF
abbrev pub IsLogLine : List ℕ → Type 0
IsLogLine [] = ⊥
IsLogLine (b ∷ bytes) = (b ≡ 123) × AllByRecursion (λ c. 32 ≤ c) bytes

-- the front of a line: nothing, or a line without its LF
abbrev pub IsLineFront : List ℕ → Type 0
IsLineFront [] = ⊤
IsLineFront (b ∷ bytes) = IsLogLine (b ∷ bytes)

-- the found lines begin with the old ones, and are a prefix of the new ones
pub record IsBetween (old new found : List (List ℕ)) : Type 0 where
  pub no_fewer : IsPrefix old found
  pub no_more : IsPrefix found new
