-- The fault of a line without a value.
use Rattle.std.proofs.Common.{ℕ, List, Result, Ok, Err, ap}
use Rattle.serde_json.specs.Data.{Data, Members}
use Rattle.serde_json.specs.Find.{as_object}
use Rattle.spiffe_name.specs.declared.refusals.Failure.{Failure}
use Rattle.spiffe_name.specs.declared.refusals.Failure.TheVariants.{NoMemory, Refused}
use Rattle.line_reading.specs.declared.fault.Fault.{Fault}
use Rattle.line_reading.specs.Fields.{◌>>=◌, Fails}
use Rattle.line_reading.specs.Requests.{framed, value_in, object_in, of_line}
use Rattle.line_reading.specs.FieldsPrivate.{value_of_line}

-- the failure of two readers in sequence is that of three
fails_before : {A B C : Type 0} (r : Result A Fault) (f : A → Result B Fault) (g : B → Result C Fault) (failure : Failure Fault) → Fails failure (r >>= f) → Fails failure (r >>= (λ x. f x >>= g))
fails_before r f g NoMemory h = tt
fails_before (Ok x) f g (Refused fault) h = ap (λ v. v >>= g) h
fails_before (Err e) f g (Refused fault) h = ap (λ v. v >>= g) h

pub of_line-fails : {A : Type 0} (reader : Data → Members → Result A Fault) (line : List ℕ) (failure : Failure Fault) → Fails failure (value_of_line line) → Fails failure (of_line reader line)
of_line-fails reader line failure h = fails_before (framed line) (λ none. value_in line) (λ d. object_in (as_object d) >>= reader d) failure h
