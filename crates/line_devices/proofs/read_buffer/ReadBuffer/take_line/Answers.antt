use Rattle.std.proofs.Common.{ap, arith, sym, ◌∙◌}
use Rattle.line_devices.specs.Lines.{has_lf}
use Rattle.line_devices.proofs.ReadBufferLemmas.{none_left, slice_range-split}
use Rattle.line_devices.proofs.read_buffer.ReadBuffer.take_line.Goals as goal

pub returns-in-Some : goal.returns-in-Some
returns-in-Some c =
    let whole = rw (sym c.self.view_is) at c.in-Some.ensures in
    let rest = slice_range-split c.self.inside.buffer c.self.inside.start c.self.inside.end c.in-Some.len whole.0 in
    let kept = rw c.split_at.ensures.front at c.keep.ensures in
    (_, sym c.self.view_is ∙ rest, kept, whole.1)

pub invariant_of-self-in-None : goal.invariant_of-self-in-None
invariant_of-self-in-None c = (omega arith, c.self.invariant.1, none_left c.self.inside.buffer c.self.inside.start c.self.inside.end c.self.inside.lf c.self.invariant.2 (ap has_lf c.self.view_is ∙ c.in-None.ensures))
