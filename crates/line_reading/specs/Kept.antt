-- The bytes that are kept of a line determine what it parses to.
use Rattle.std.specs.Prelude.{◌≡◌, List, ℕ}
use Rattle.rand_chacha.specs.ChaCha.{ChaCha}
use Rattle.line_devices.specs.Lines.{stored_part, IsLine}
use Rattle.line_reading.specs.Events.{spelled_event}
use Rattle.line_reading.specs.Records.{spelled_record}
use Rattle.line_reading.specs.Requests.{spelled}

-- A request line parses to the same result from the bytes kept of it. A line that isn't kept whole is too long, whatever follows.
abbrev pub KeptSpells : Type 0
KeptSpells = (domain : List ℕ) (ids : ChaCha) (line : List ℕ) → IsLine line → spelled domain ids (stored_part line) ≡ spelled domain ids line

-- The same for the line of an event.
abbrev pub KeptSpellsEvent : Type 0
KeptSpellsEvent = (domain : List ℕ) (ids : ChaCha) (line : List ℕ) → IsLine line → spelled_event domain ids (stored_part line) ≡ spelled_event domain ids line

-- The same for the line of a record.
abbrev pub KeptSpellsRecord : Type 0
KeptSpellsRecord = (domain line : List ℕ) → IsLine line → spelled_record domain (stored_part line) ≡ spelled_record domain line
