-- Which request a line parses to, or the first fault found. The lines of each reader are in the order of the format's checks.
use Rattle.std.specs.Prelude.{◌≡◌, ℕ, List, [], ◌∷◌, Option, Some, None, Result, Ok, ⊤, length, nat_lt, if◌then◌else◌}
use Rattle.std.specs.Io.BufRead.{ends_with_byte, strip_last}
use Rattle.std.specs.Str.{IsUtf8, is_utf8}
use Rattle.serde_json.specs.Data.{Data, Members}
use Rattle.serde_json.specs.Find.{as_object}
use Rattle.serde_json.specs.Read.{read}
use Rattle.rand_chacha.specs.ChaCha.{ChaCha}
use Rattle.line_reading.specs.declared.fault.Code.TheVariants as code
use Rattle.line_reading.specs.declared.fault.Fault.{Fault}
use Rattle.line_reading.specs.declared.fault.Key.TheVariants as key
use Rattle.line_reading.specs.declared.request.Request.{Request}
use Rattle.line_reading.specs.Batches.{listed_in, batch_in}
use Rattle.line_reading.specs.Fields.{◌>>=◌, at_line, tries_at, no_others}

-- ---- a request

-- The request of an object, and the ids that are left.
unfoldable pub request_in : List ℕ → ChaCha → Data → Members → Result (Request × ChaCha) Fault
request_in domain ids d ms = do
  listed ← listed_in d
  tries ← tries_at key.Tries d
  none ← no_others (key.Ops ∷ key.After ∷ key.Token ∷ key.Tries ∷ []) ms
  batch ← batch_in domain ids listed
  Ok (record { batch = batch.0; tries = tries }, batch.1)

-- ---- a line

-- the maximum number of bytes before a line's LF
unfoldable pub line_limit : ℕ
line_limit = 1048576

-- the line isn't too long, and it has its LF; a line that is too long has that fault even without an LF
unfoldable pub framed : List ℕ → Result ⊤ Fault
framed line = if nat_lt line_limit (length (strip_last 10 line)) then at_line code.LineTooLong else (if ends_with_byte 10 line then Ok tt else at_line code.Truncated)

abbrev pub json_in : Option Data → Result Data Fault
json_in None = at_line code.NotJson
json_in (Some d) = Ok d

-- the JSON value of the line's text, with its LF; what isn't UTF-8 isn't JSON
unfoldable pub value_in : List ℕ → Result Data Fault
value_in line = json_in (if is_utf8 line then read line else None)

-- The line isn't too long, has its LF and is UTF-8. The readers run out of memory for no other line.
abbrev pub NeedsMemory : List ℕ → Type 0
NeedsMemory line = (framed line ≡ Ok tt) × IsUtf8 line

abbrev pub object_in : Option Members → Result Members Fault
object_in None = at_line code.NotObject
object_in (Some ms) = Ok ms

-- what a line parses to, with this reader of its object; the line has its LF, if there is one
abbrev pub of_line : {A : Type 0} → (Data → Members → Result A Fault) → List ℕ → Result A Fault
of_line reader line = do
  none ← framed line
  d ← value_in line
  ms ← object_in (as_object d)
  reader d ms

-- The request that a line parses to in a trust domain, and the ids that are left. The line has its LF, if there is one. A fault
-- comes without ids.
unfoldable pub spelled : List ℕ → ChaCha → List ℕ → Result (Request × ChaCha) Fault
spelled domain ids line = of_line (request_in domain ids) line
