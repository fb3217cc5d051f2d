-- Theorems about what lines parse to. Each is a clause of `parsed_law`.
use Rattle.std.specs.Prelude.{◌≡◌, ℕ, List, Option, Ok}
use Rattle.std.specs.Str.{IsUtf8}
use Rattle.serde_json.specs.Data.{Data}
use Rattle.serde_json.specs.Read.{read}
use Rattle.rand_chacha.specs.ChaCha.{ChaCha}
use Rattle.call_events.specs.declared.event.Event.{Event}
use Rattle.call_events.specs.Events.{IsFor}
use Rattle.line_reading.specs.Events.{spelled_event}
use Rattle.line_reading.specs.Requests.{json_in, value_in}

-- the value of a line that is UTF-8 is the one that is read from its text; if none is read, it has none
abbrev pub ValuesOfText : Type 0
ValuesOfText = (line : List ℕ) (o : Option Data) → IsUtf8 line → read line ≡ o → value_in line ≡ json_in o

-- the event of a line may be submitted for the trust domain that it was parsed for
abbrev pub EventsAreFor : Type 0
EventsAreFor = (domain : List ℕ) (ids after : ChaCha) (line : List ℕ) (event : Event) → spelled_event domain ids line ≡ Ok (event, after) → IsFor domain event
