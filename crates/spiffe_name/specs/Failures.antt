-- The error of a call that can refuse its input or run out of memory.
use Rattle.std.specs.Prelude.{◌≡◌, Bool, Option, None, Some, ⊤, if◌then◌else◌}
use Rattle.spiffe_name.specs.declared.refusals.Failure.{Failure}
use Rattle.spiffe_name.specs.declared.refusals.Failure.TheVariants.{NoMemory, Refused}

-- the error is the refusal that is due; or it is out of memory, and no refusal is due
abbrev pub FailsBy : {R : Type 0} → Option R → Failure R → Type 0
FailsBy due NoMemory = due ≡ None
FailsBy due (Refused reason) = due ≡ Some reason

-- the error is that of running out of memory
abbrev pub IsNoMemory : {R : Type 0} → Failure R → Type 0
IsNoMemory NoMemory = ⊤
IsNoMemory (Refused reason) = ⊥

-- one line of a table of refusals: this reason if the test holds, else the result of the lines below
abbrev pub refuse_if : {R : Type 0} → Bool → R → Option R → Option R
refuse_if holds reason below = if holds then Some reason else below
