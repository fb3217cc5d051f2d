-- The lines of a seat's refusals are the compact texts of values.
use Rattle.std.proofs.Common.{refl}
use Rattle.reg_lines.specs.SeatLines.{seat_code}
use Rattle.reg_lines.specs.SeatValues.{SeatRefusalsAreCompact, SeatRefusalsHaveNoFloat}
use Rattle.reg_lines.proofs.Compact.{refused_line_json-is}

pub seat_refusal_json-is : SeatRefusalsAreCompact
seat_refusal_json-is line r = refused_line_json-is line (seat_code r)

pub seat_refusal-no_float : SeatRefusalsHaveNoFloat
seat_refusal-no_float line r = refl
