-- The step of the engine that these tests run: the reply to a line is its number, a colon, and what is kept of the line.
use Rattle.std.specs.Prelude.{◌≡◌, ℕ, ◌+◌, List, ◌++◌, codes, decimal}
use Rattle.line_devices.specs.Lines.{stored_part}

abbrev pub numbered : ℕ → List ℕ → ℕ → List ℕ → Type 0
numbered count line next reply = (next ≡ count + 1) × (reply ≡ decimal (count + 1) ++ codes ":" ++ stored_part line)
