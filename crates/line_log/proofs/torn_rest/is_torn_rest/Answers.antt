use Rattle.std.proofs.Common.{◌+◌, arith}
use Rattle.std.proofs.lemmas.Bool.{leb-false}
use Rattle.line_log.proofs.RestLemmas.{torn_not}
use Rattle.line_log.proofs.torn_rest.is_torn_rest.Goals as goal

pub returns-else-saturating_sub-le-MAX_GROUP_LEN-clause-other : goal.returns-else-saturating_sub-le-MAX_GROUP_LEN-clause-other
returns-else-saturating_sub-le-MAX_GROUP_LEN-clause-other g c behind clean all =
    let used = c.in_ok-used.used in
    let has = c.in_ok-used.ensures.used clean in (
      omega (arith, c.if-front-eq0.false),
      torn_not (g.D.Disk.seen c.args.disk.now) (c.args.at + c.args.front + 1) c.args.len used.end used.line all has.end has.line (omega (arith, c.if-saturating_sub-le-MAX_GROUP_LEN.false, c.saturating_sub.ensures)) (leb-false used.end used.line behind),
    )
