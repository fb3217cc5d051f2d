use Rattle.std.proofs.Common.{take}
use Rattle.line_devices.specs.Stream.{Puts}
use Rattle.reg_lines.specs.Json.{items_json}
use Rattle.reg_lines.proofs.printing.print_json.print_items.Given as goal

abbrev pub invariant-loop-index : goal.invariant-loop-index
invariant-loop-index g l = Puts l.fn.output l.output (items_json g.T.PrintJson.text (take l.index l.items))
