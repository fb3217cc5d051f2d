use Rattle.std.proofs.Common.{rules, arith, subst}
use Rattle.std.proofs.lemmas.List.{take_all}
use Rattle.line_log.specs.Lines.{IsLineFront}
use Rattle.line_log.proofs.FirstLemmas.{begun_step, line_at, break_at}
use Rattle.line_log.proofs.first_line.first_line.Goals as goal

pub returns-then-byte-eq10 : goal.returns-then-byte-eq10
returns-then-byte-eq10 c = (omega arith, line_at c.args.bytes.now c.bytes.i (omega arith) (omega arith) c.bytes.invariant.begun, search rules)

pub returns-then-byte-lt32 : goal.returns-then-byte-lt32
returns-then-byte-lt32 c = (omega arith, c.bytes.invariant.begun, break_at c.args.bytes.now c.bytes.i _ (omega arith) (omega arith) (search rules) (search rules))

pub returns : goal.returns
returns c = subst IsLineFront (take_all c.bytes.i c.args.bytes.now (omega arith)) c.bytes.invariant.begun

pub bytes-preserved : goal.bytes-preserved
bytes-preserved c = record { begun = begun_step c.args.bytes.now c.bytes.i (omega arith) c.bytes.invariant.begun (λ first. grind arith) (λ later. grind arith) }
