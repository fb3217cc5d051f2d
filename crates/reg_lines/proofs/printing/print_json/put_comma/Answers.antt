use Rattle.reg_lines.proofs.Items.{comma-some, comma-none}
use Rattle.line_devices.proofs.Puts.{Puts-same, Puts-nil}
use Rattle.reg_lines.proofs.printing.print_json.put_comma.Goals as goal

pub returns-then-index-gt0 : goal.returns-then-index-gt0
returns-then-index-gt0 g c = Puts-same _ _ _ _ (comma-some c.args.index c.if-index-gt0.true) c.put.ensures

pub returns-else-index-gt0 : goal.returns-else-index-gt0
returns-else-index-gt0 g c = Puts-same _ _ _ _ (comma-none c.args.index c.if-index-gt0.false) (Puts-nil c.args.output.now)
