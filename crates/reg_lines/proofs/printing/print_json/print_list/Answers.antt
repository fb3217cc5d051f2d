use Rattle.std.proofs.Common.{rules}
use Rattle.line_devices.proofs.Puts.{Puts-then}
use Rattle.reg_lines.specs.Json.{list_json}
use Rattle.reg_lines.proofs.printing.print_json.print_list.Goals as goal

pub returns : goal.returns
unfolding list_json
returns g c = search (rules, Puts-then)
