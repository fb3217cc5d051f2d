-- The states of an input and an output.
use Rattle.std.specs.Prelude.{◌≡◌, ◌<◌, ℕ, Bool, List, [], ◌++◌, Option, IsTrue}
use Rattle.std.specs.Io.KnownBytes.{Appends}

-- the bytes that are left, whether a whole line of them is buffered, how many calls failed, and a bound on how many may still
-- succeed
pub record InputState : Type 0 where
  pub left : Option (List ℕ)
  pub has_line : Bool
  pub failures : ℕ
  pub calls_left : ℕ

-- the bytes that a sink has, those that are still buffered, how many of its calls failed, and whether it has passed on all that
-- it has
pub record OutputState : Type 0 where
  pub written : Option (List ℕ)
  pub held : List ℕ
  pub failures : ℕ
  pub is_flushed : Bool

-- everything that was put is out: nothing is buffered, and the sink has passed on all that it has
abbrev pub IsOut : OutputState → Type 0
IsOut output = (output.held ≡ []) × IsTrue output.is_flushed

-- if the bytes are known, they grow by a prefix of the text
abbrev pub AppendsPrefix : Option (List ℕ) → Option (List ℕ) → List ℕ → Type 0
AppendsPrefix old new text = (front : List ℕ) × (rest : List ℕ) × (text ≡ front ++ rest) × Appends old new front

-- The text is appended to the buffered bytes. A prefix of these goes to the sink, and the rest stays buffered. If a call fails,
-- the sink gets a prefix of them. After a failed call, nothing changes any more.
pub data Puts (old new : OutputState) (text : List ℕ) : Type 0 where
  stopped : 0 < old.failures → new ≡ old → Puts old new text
  whole : old.failures ≡ 0 → new.failures ≡ 0 → (sent : List ℕ) → Appends old.written new.written sent → old.held ++ text ≡ sent ++ new.held → Puts old new text
  cut : old.failures ≡ 0 → new.failures ≡ 1 → AppendsPrefix old.written new.written (old.held ++ text) → Puts old new text
