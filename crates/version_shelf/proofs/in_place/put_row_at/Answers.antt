use Rattle.std.proofs.Common.{◌∙◌, ap, set, subst}
use Rattle.version_shelf.specs.Nodes.{IsCutAt}
use Rattle.version_shelf.proofs.InPlace.{set_between}
use Rattle.version_shelf.proofs.in_place.put_row_at.Goals as goal

pub returns-then-is_there : goal.returns-then-is_there
returns-then-is_there g c = λ below above cut size.
    let one = subst (λ b. IsCutAt b c.args.rows.now.items below above) c.if-is_there.true cut in
    ap (λ l. set l c.args.position c.args.row) one.1 ∙ set_between below one.0 c.args.row above c.args.position size
