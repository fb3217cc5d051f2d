use Rattle.reg_lines.proofs.MarkTexts.{named-text}
use Rattle.line_devices.proofs.Puts.{Puts-same}
use Rattle.reg_lines.proofs.JoinedTexts.{◌▸◌}
use Rattle.reg_lines.proofs.printing.marks.print_named.Goals as goal

pub returns : goal.returns
returns g c =
    let word = rw c.as_bytes.ensures.value at c.put_all_escaped.ensures in
    let name = rw c.as_bytes-2.ensures.value at c.put_all_escaped-2.ensures in
    Puts-same _ _ _ _ (named-text c.args.word.now c.args.name.now) (c.put.ensures ▸ word ▸ name ▸ c.put-2.ensures)
