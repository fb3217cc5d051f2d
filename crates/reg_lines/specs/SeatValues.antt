-- The JSON values of the lines of a seat's refusals, and the theorem that each line is the compact text of its value.
use Rattle.std.specs.Prelude.{◌≡◌, ℕ, false}
use Rattle.serde_json.specs.Data.{Data}
use Rattle.serde_json.specs.Written.{compact_text, has_float}
use Rattle.reg_lines.specs.declared.printing.seats.SeatRefusal.{SeatRefusal}
use Rattle.reg_lines.specs.SeatLines.{seat_code, seat_refusal_json}
use Rattle.reg_lines.specs.Values.{refused_line_data}

abbrev pub seat_refusal_data : ℕ → SeatRefusal → Data
seat_refusal_data line r = refused_line_data line (seat_code r)

-- ---- the theorem

abbrev pub SeatRefusalsAreCompact : Type 0
SeatRefusalsAreCompact = (line : ℕ) (r : SeatRefusal) → seat_refusal_json line r ≡ compact_text (seat_refusal_data line r)

abbrev pub SeatRefusalsHaveNoFloat : Type 0
SeatRefusalsHaveNoFloat = (line : ℕ) (r : SeatRefusal) → has_float (seat_refusal_data line r) ≡ false
