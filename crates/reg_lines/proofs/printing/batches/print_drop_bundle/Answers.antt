use Rattle.reg_lines.specs.RecordLines.{drop_bundle_json}
use Rattle.reg_lines.proofs.JoinedTexts.{◌▸◌}
use Rattle.reg_lines.proofs.printing.batches.print_drop_bundle.Goals as goal

pub returns : goal.returns
unfolding drop_bundle_json
returns g c = c.put.ensures ▸ c.print_to.ensures ▸ c.put-2.ensures ▸ c.print_to-2.ensures ▸ c.put-3.ensures
