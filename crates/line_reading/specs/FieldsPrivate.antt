-- How the result of a reader of fields agrees with the definitions. For this crate's own contracts.
use Rattle.std.specs.Prelude.{◌≡◌, ℕ, List, Result, Ok, Err}
use Rattle.spiffe_name.specs.declared.refusals.Failure.{Failure}
use Rattle.serde_json.specs.Data.{Data, Members}
use Rattle.serde_json.specs.View.{members_view, view}
use Rattle.spiffe_name.specs.Id.{id_refusal}
use Rattle.line_reading.specs.declared.fault.Code.TheVariants as code
use Rattle.line_reading.specs.declared.fault.Fault.{Fault}
use Rattle.line_reading.specs.declared.fault.Key.{Key}
use Rattle.line_reading.specs.declared.fields.Object.{Object}
use Rattle.line_reading.specs.Fields.{◌>>=◌, Fails, coded, unless}
use Rattle.line_reading.specs.Requests.{framed, value_in}

-- The result of a function agrees with that of a reader, `spelled`: the same fault, or a value with this view. Out of memory says
-- nothing about `spelled`.
abbrev pub Gives : {X Y : Type 0} → (X → Y) → Result X (Failure Fault) → Result Y Fault → Type 0
Gives view (Ok x) spelled = spelled ≡ Ok (view x)
Gives view (Err e) spelled = Fails e spelled

-- The value of an object, and its members.
abbrev pub data_of : Object → Data
data_of object = view object.value.now

abbrev pub members_of : Object → Members
members_of object = members_view object.members.now.entries

-- The text as a SPIFFE ID, or the fault with its refusal.
abbrev pub id_or_fault : Key → List ℕ → Result (List ℕ) Fault
id_or_fault key text = unless (coded code.Id (id_refusal text)) key text

-- The JSON value of a line that isn't too long and has its LF.
abbrev pub value_of_line : List ℕ → Result Data Fault
value_of_line line = framed line >>= (λ none. value_in line)
