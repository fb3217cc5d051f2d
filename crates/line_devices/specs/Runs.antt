-- Runs of a step over lines, and the text of all replies.
use Rattle.std.specs.Prelude.{◌≡◌, ℕ, List, [], ◌∷◌, ◌++◌, take, false, Option, Some}
use Rattle.std.specs.Io.KnownBytes.{Appends, Consumes}
use Rattle.line_devices.specs.Lines.{has_lf, stored_part, lines_of, IsLine}
use Rattle.line_devices.specs.Stream.{AppendsPrefix}

-- From the first state, the lines may get this text as replies, and lead to the last state. The step says for one line which
-- reply it may get in a state, and what the next state is.
abbrev pub IsRun : {State : Type 0} → (State → List ℕ → State → List ℕ → Type 0) → State → List (List ℕ) → State → List ℕ → Type 0
IsRun step first [] last text = (last ≡ first) × (text ≡ [])
IsRun {State} step first (line ∷ lines) last text = (next : State) × (reply : List ℕ) × (rest : List ℕ) × step first line next reply × (text ≡ reply ++ rest) × IsRun step next lines last rest

-- the first lines of the bytes, at most `most` of them
abbrev pub first_lines : ℕ → List ℕ → List (List ℕ)
first_lines most bytes = take most (lines_of bytes)

-- Every line of which these bytes are kept may get this reply.
abbrev pub StepsKept : {State : Type 0} → (State → List ℕ → State → List ℕ → Type 0) → State → List ℕ → State → List ℕ → Type 0
StepsKept step now bytes next reply = (line : List ℕ) → IsLine line → bytes ≡ stored_part line → step now line next reply

-- if the bytes are known, they grow by the text of a run over the lines
abbrev pub AppendsRun : {State : Type 0} → (State → List ℕ → State → List ℕ → Type 0) → State → List (List ℕ) → Option (List ℕ) → Option (List ℕ) → Type 0
AppendsRun {State} step first lines old new = (last : State) × (text : List ℕ) × IsRun step first lines last text × Appends old new text

-- if the bytes are known, they grow by a prefix of such a text
abbrev pub AppendsRunPrefix : {State : Type 0} → (State → List ℕ → State → List ℕ → Type 0) → State → List (List ℕ) → Option (List ℕ) → Option (List ℕ) → Type 0
AppendsRunPrefix {State} step first lines old new = (last : State) × (text : List ℕ) × IsRun step first lines last text × AppendsPrefix old new text

-- the first lines were read from the bytes, and possibly a part without an LF of what follows
abbrev pub TakesLines : ℕ → List ℕ → Option (List ℕ) → Type 0
TakesLines count bytes left = (rest : List ℕ) × (lost : List ℕ) × (lines_of bytes ≡ take count (lines_of bytes) ++ lines_of rest) × (has_lf lost ≡ false) × Consumes (Some rest) left lost
