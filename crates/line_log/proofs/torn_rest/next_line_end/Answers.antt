use Rattle.std.proofs.Common.{arith}
use Rattle.line_log.proofs.RestLemmas.{line_found, line_none}
use Rattle.line_log.proofs.torn_rest.next_line_end.Goals as goal

pub returns-in-Some : goal.returns-in-Some
returns-in-Some c file from has same =
    let found = c.in-Some.ensures.some in
    line_found file c.args.block.now from c.args.at same c.args.len c.requires.inside c.args.end c.in-Some.n has (omega (arith, c.if-end-len.false)) found.0 found.1 found.2 c.in-Some.ensures.before

pub returns-in-None : goal.returns-in-None
returns-in-None c file from has same =
    line_none file c.args.block.now from c.args.at same c.args.len c.requires.inside c.args.end has (omega (arith, c.if-end-len.false)) c.in-None.ensures.none
