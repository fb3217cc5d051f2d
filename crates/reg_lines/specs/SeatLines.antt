-- The line that reports that a seat of a shared registry doesn't answer a request.
use Rattle.std.specs.Prelude.{ℕ, List, codes}
use Rattle.reg_lines.specs.declared.printing.seats.SeatRefusal.{SeatRefusal}
use Rattle.reg_lines.specs.declared.printing.seats.SeatRefusal.TheVariants.{Spent, NoEntry}
use Rattle.reg_lines.specs.Refusals.{refused_line_json}

abbrev pub seat_code : SeatRefusal → List ℕ
seat_code Spent = codes "L7"
seat_code NoEntry = codes "L8"

-- the refusal of the request on the line of this number
abbrev pub seat_refusal_json : ℕ → SeatRefusal → List ℕ
seat_refusal_json line r = refused_line_json line (seat_code r)
