use Rattle.std.proofs.Common.{ap, arith}
use Rattle.std.proofs.lemmas.List.{take_all}
use Rattle.reg_lines.specs.Json.{items_json}
use Rattle.reg_lines.proofs.Items.{items_json-next}
use Rattle.line_devices.proofs.Puts.{Puts-same, Puts-nil, Puts-then}
use Rattle.reg_lines.proofs.printing.print_json.print_items.Goals as goal

pub loop-index-init : goal.loop-index-init
loop-index-init g c = Puts-nil c.args.output.now

pub loop-index-preserved : goal.loop-index-preserved
loop-index-preserved g c =
    Puts-same _ _ _ _ (items_json-next _ c.args.items.now c.loop-index.index _ c.loop-index-test.true c.index-items-index.is) (Puts-then _ _ _ _ _ (Puts-then _ _ _ _ _ c.loop-index.invariant c.put_comma.ensures) c.print_to.ensures)

pub returns : goal.returns
returns g c = Puts-same _ _ _ _ (ap (items_json g.T.PrintJson.text) (take_all c.loop-index.index c.args.items.now (omega arith))) c.loop-index.invariant
