-- The line that reports that a line was refused.
use Rattle.std.specs.Prelude.{ℕ, List, [], ◌++◌, Option, None, Some, codes, decimal}
use Rattle.spiffe_name.specs.declared.refusals.Failure.{Failure}
use Rattle.spiffe_name.specs.declared.refusals.Failure.TheVariants.{NoMemory, Refused}
use Rattle.line_reading.specs.declared.fault.Fault.{Fault}
use Rattle.line_reading.specs.declared.fault.Field.{Field}
use Rattle.line_reading.specs.declared.refusal.LineRefusal.{LineRefusal}
use Rattle.line_reading.specs.Codes.{code_text, field_text}
use Rattle.reg_lines.specs.Json.{text_json}

-- a member with the comma before it, if there is one
abbrev pub field_member : Option Field → List ℕ
field_member None = []
field_member (Some field) = codes ",\"field\":" ++ text_json (field_text field)

abbrev pub op_member : Option ℕ → List ℕ
op_member None = []
op_member (Some index) = codes ",\"op\":" ++ decimal index

-- a refusal that has only its code
unfoldable pub refused_line_json : ℕ → List ℕ → List ℕ
refused_line_json line code = codes "{\"code\":" ++ text_json code ++ codes ",\"line\":" ++ decimal line ++ codes "}"

unfoldable pub fault_json : ℕ → Fault → List ℕ
fault_json line f =
    codes "{\"code\":" ++ text_json (code_text f.code)
    ++ field_member f.field
    ++ codes ",\"line\":" ++ decimal line
    ++ op_member f.op
    ++ codes "}"

abbrev pub no_memory_json : ℕ → List ℕ
no_memory_json line = refused_line_json line (codes "L6")

abbrev pub failure_json : ℕ → Failure Fault → List ℕ
failure_json line NoMemory = no_memory_json line
failure_json line (Refused fault) = fault_json line fault

abbrev pub refusal_json : LineRefusal → List ℕ
refusal_json r = failure_json r.line r.failure
