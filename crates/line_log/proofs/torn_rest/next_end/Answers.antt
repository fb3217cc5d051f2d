use Rattle.std.proofs.Common.{◌<◌, arith}
use Rattle.line_log.proofs.RestLemmas.{end_more, end_same}
use Rattle.line_log.proofs.torn_rest.next_end.Goals as goal

pub returns-then-used-eq0 : goal.returns-then-used-eq0
returns-then-used-eq0 c file from has same =
    end_same file c.args.block.now from c.args.at same c.args.end has (λ i low. c.used_len-used.ensures.filler i (omega (arith, c.if-used-eq0.true)) low)

pub returns : goal.returns
returns c file from has same =
    let used = c.used_len-used.result in
    let some : 0 < used = omega (arith, c.if-used-eq0.false) in
    end_more file c.args.block.now from c.args.at same c.args.end used has c.used_len-used.ensures.within c.used_len-used.ensures.filler (c.used_len-used.ensures.last some) some
