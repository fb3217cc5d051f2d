-- Which event a line parses to, or the first fault found. The lines of each reader are in the order of the format's checks.
use Rattle.std.specs.Prelude.{ℕ, List, [], ◌∷◌, Option, Some, None, Result, Ok, bytes_eq, codes, option_and_then, if◌then◌else◌}
use Rattle.serde_json.specs.Data.{Data, Members}
use Rattle.serde_json.specs.Find.{get, as_object, as_str}
use Rattle.rand_chacha.specs.ChaCha.{ChaCha}
use Rattle.call_events.specs.declared.event.Event.{Event}
use Rattle.call_events.specs.declared.event.Event.TheVariants as on
use Rattle.line_reading.specs.declared.fault.Fault.{Fault}
use Rattle.line_reading.specs.declared.fault.Key.{Key}
use Rattle.line_reading.specs.declared.fault.Key.TheVariants as key
use Rattle.line_reading.specs.declared.event.EventKind.{EventKind}
use Rattle.line_reading.specs.declared.event.EventKind.TheVariants as kind
use Rattle.line_reading.specs.Codes.{key_name}
use Rattle.line_reading.specs.Batches.{batch_alone_in}
use Rattle.line_reading.specs.Fields.{◌>>=◌, with_ids, required, number_at, no_others}
use Rattle.line_reading.specs.Requests.{of_line}

-- ---- the kind of an event

abbrev pub kind_of : List ℕ → Option EventKind
kind_of text =
    if bytes_eq text (codes "invoke") then Some kind.Invoke else (
    if bytes_eq text (codes "begin") then Some kind.Begin else (
    if bytes_eq text (codes "step") then Some kind.Step else (
    if bytes_eq text (codes "commit") then Some kind.Commit else (
    if bytes_eq text (codes "reply") then Some kind.Reply else
    None))))

unfoldable pub kind_at : Key → Data → Result EventKind Fault
kind_at key d = required key (option_and_then kind_of (option_and_then as_str (get (key_name key) d)))

-- ---- an event

-- An invoke. The keys of the line are checked before those of the batch's object.
unfoldable pub invoke_in : List ℕ → ChaCha → ℕ → Data → Members → Result (Event × ChaCha) Fault
invoke_in domain ids call d ms = do
  inner ← required key.Batch (get (key_name key.Batch) d)
  members ← required key.Batch (as_object inner)
  none ← no_others (key.Event ∷ key.Call ∷ key.Batch ∷ []) ms
  batch ← batch_alone_in domain ids inner members
  Ok (on.Invoke call batch.0, batch.1)

-- the event, if the line has no keys other than `event` and `call`
unfoldable pub event_alone_in : Event → Members → Result Event Fault
event_alone_in event ms = do
  none ← no_others (key.Event ∷ key.Call ∷ []) ms
  Ok event

abbrev pub event_of : List ℕ → ChaCha → EventKind → ℕ → Data → Members → Result (Event × ChaCha) Fault
event_of domain ids kind.Invoke call d ms = invoke_in domain ids call d ms
event_of domain ids kind.Begin call d ms = with_ids ids (event_alone_in (on.Begin call) ms)
event_of domain ids kind.Step call d ms = with_ids ids (event_alone_in (on.Step call) ms)
event_of domain ids kind.Commit call d ms = with_ids ids (event_alone_in (on.Commit call) ms)
event_of domain ids kind.Reply call d ms = with_ids ids (event_alone_in (on.Reply call) ms)

-- The event of an object, and the ids that are left.
unfoldable pub event_in : List ℕ → ChaCha → Data → Members → Result (Event × ChaCha) Fault
event_in domain ids d ms = do
  kind ← kind_at key.Event d
  call ← number_at key.Call d
  event_of domain ids kind call d ms

-- ---- a line

-- The event that a line parses to in a trust domain, and the ids that are left. The line has its LF, if there is one. A fault
-- comes without ids.
unfoldable pub spelled_event : List ℕ → ChaCha → List ℕ → Result (Event × ChaCha) Fault
spelled_event domain ids line = of_line (event_in domain ids) line
