use Rattle.reg_lines.proofs.MarkTexts.{group-text}
use Rattle.line_devices.proofs.Puts.{Puts-same}
use Rattle.reg_lines.proofs.JoinedTexts.{◌▸◌}
use Rattle.reg_lines.proofs.printing.marks.print_group.Goals as goal

pub returns : goal.returns
returns g c =
    let parent = rw (c.as_bytes.ensures.value, c.as_str.ensures.text) at c.put_all_escaped.ensures in
    let identity = rw (c.as_bytes-2.ensures.value, c.as_str-2.ensures.text) at c.put_all_escaped-2.ensures in
    Puts-same _ _ _ _ (group-text c.args.parent.now c.args.identity.now) (c.put.ensures ▸ parent ▸ c.put-2.ensures ▸ identity ▸ c.put-3.ensures)
