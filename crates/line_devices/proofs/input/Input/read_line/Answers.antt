use Rattle.std.proofs.Common.{arith}
use Rattle.std.proofs.lemmas.Grind.{common_steps}
use Rattle.std.proofs.lemmas.Result.{err_from_is_err_and}
use Rattle.line_devices.proofs.InputLemmas.{IsBegun-moved, IsBegun-filled, IsBegun-lost, IsAtEnd-held, Consumes-none, TakesLine-whole, TakesLine-end, not_held}
use Rattle.line_devices.proofs.input.Input.read_line.Goals as goal

pub loop-self-preserved : goal.loop-self-preserved
loop-self-preserved g c =
    let moved = IsBegun-moved _ _ _ _ _ _ c.loop-self.invariant.begun c.loop-self-test.ensures in
    let filled = rw c.in_ok-fill.was at c.fill.ensures.bytes in
    record {
      begun = IsBegun-filled _ _ _ _ _ moved filled.0;
      failures = grind (arith, common_steps);
      held = λ h. absurd (not_held _ _ _ _ c.loop-self-test.ensures ((c.loop-self.invariant.held h).0));
    }

pub returns-in_err-fill-clause-line : goal.returns-in_err-fill-clause-line
returns-in_err-fill-clause-line g c =
    let moved = IsBegun-moved _ _ _ _ _ _ c.loop-self.invariant.begun c.loop-self-test.ensures in
    let none = rw c.in_err-fill.was at c.fill.ensures.bytes in
    let p = err_from_is_err_and c.from_residual.result c.from_residual.ensures.1 in
    rw p.1 (IsBegun-lost _ _ _ (IsBegun-filled _ _ _ _ _ moved (Consumes-none _ _ _ none.0 none.1)))

pub returns-then-not-branch-clause-line : goal.returns-then-not-branch-clause-line
returns-then-not-branch-clause-line g c =
    let moved = IsBegun-moved _ _ _ _ _ _ c.loop-self.invariant.begun c.loop-self-test.ensures in
    let filled = rw (c.in_ok-fill.was, c.if-not-branch.true) at c.fill.ensures.bytes in
    TakesLine-end _ _ _ _ (IsBegun-filled _ _ _ _ _ moved filled.0) (IsAtEnd-held _ _ filled.1.0 filled.1.1) c.is_empty.ensures

pub returns-clause-line : goal.returns-clause-line
returns-clause-line g c = TakesLine-whole _ _ _ _ _ _ c.loop-self.invariant.begun c.loop-self-test.ensures
