use Rattle.reg_lines.proofs.Lifetimes.{lifetime-some, lifetime-none}
use Rattle.line_devices.proofs.Puts.{Puts-same, Puts-nil}
use Rattle.reg_lines.proofs.JoinedTexts.{◌▸◌}
use Rattle.reg_lines.proofs.printing.book_rows.put_lifetime.Goals as goal

pub returns-then-seconds-gt0 : goal.returns-then-seconds-gt0
returns-then-seconds-gt0 g c = Puts-same _ _ _ _ (lifetime-some c.args.before.now c.args.seconds c.if-seconds-gt0.true) (c.put.ensures ▸ c.print_number.ensures)

pub returns-else-seconds-gt0 : goal.returns-else-seconds-gt0
returns-else-seconds-gt0 g c = Puts-same _ _ _ _ (lifetime-none c.args.before.now c.args.seconds c.if-seconds-gt0.false) (Puts-nil c.args.output.now)
