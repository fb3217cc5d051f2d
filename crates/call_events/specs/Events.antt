-- Which events may be submitted for a trust domain, and the codes of refusals.
use Rattle.std.specs.Prelude.{◌≡◌, ⊤, ℕ, List, codes}
use Rattle.entry_book.specs.Rows.{Bytes}
use Rattle.call_events.specs.declared.event.Event.{Event}
use Rattle.call_events.specs.declared.event.Event.TheVariants.{Invoke, Begin, Step, Commit}
use Rattle.call_events.specs.declared.event.Event.TheVariants as on
use Rattle.call_events.specs.declared.event.EventRefusal.{EventRefusal}
use Rattle.call_events.specs.declared.event.EventRefusal.TheVariants.{CallTaken, UnknownCall, NotNow, TooManyCalls, NoMemory}

-- the code of a refusal
abbrev pub event_code : EventRefusal → List ℕ
event_code CallTaken = codes "E1"
event_code UnknownCall = codes "E2"
event_code NotNow = codes "E3"
event_code TooManyCalls = codes "E4"
event_code NoMemory = codes "E5"

-- the event may be submitted to the machine of this trust domain: an invoke's batch is of this domain
abbrev pub IsFor : Bytes → Event → Type 0
IsFor own_domain (Invoke n batch) = batch.domain ≡ own_domain
IsFor own_domain (Begin n) = ⊤
IsFor own_domain (Step n) = ⊤
IsFor own_domain (Commit n) = ⊤
IsFor own_domain (on.Reply n) = ⊤
