use Rattle.std.proofs.Common.{◌≡◌, ◌+◌, ℕ, List, ◌++◌, [], ap, arith, refl, inl, inr}
use Rattle.std.specs.Prelude.{codes, decimal}
use Rattle.std.proofs.lemmas.Bool.{false≢true}
use Rattle.std.proofs.lemmas.Grind.{common_steps}
use Rattle.std.proofs.lemmas.Result.{on_ok_weaker}
use Rattle.reg_lines_tests.specs.Numbered.{numbered}
use Rattle.line_devices.specs.Lines.{stored_part}
use Rattle.line_devices.specs.Runs.{StepsKept}
use Rattle.line_devices.specs.Stream.{IsOut}
use Rattle.line_devices.proofs.RunLemmas.{RunsFrom-start, RunsFrom-flush, RunsFrom-more, AppendsRun-so_far, AppendsRun-at_end, AppendsRun-at_most, AppendsRunPrefix-of}
use Rattle.reg_lines_tests.proofs.engine.number_lines.Goals as goal

answers : (s : ℕ) (l : List ℕ) → (next : ℕ) × (reply : List ℕ) × numbered s l next reply
answers s l = (s + 1, decimal (s + 1) ++ codes ":" ++ stored_part l, (refl, refl))

steps : (s : ℕ) (bytes : List ℕ) → StepsKept numbered s bytes (s + 1) (decimal (s + 1) ++ codes ":" ++ bytes)
steps s bytes line is e = (refl, ap (λ b. decimal (s + 1) ++ codes ":" ++ b) e)

pub loop-index-init : goal.loop-index-init
loop-index-init g c = record { way = RunsFrom-start _ _ _ _; input = c.requires.input; index = omega arith }

pub returns-then-has_failed-clause-front : goal.returns-then-has_failed-clause-front
returns-then-has_failed-clause-front g c =
    let way = RunsFrom-flush _ _ _ _ _ _ _ _ _ c.loop-index.invariant.way c.flush_before_waiting.ensures.put in
    AppendsRunPrefix-of _ answers _ _ _ _ _ _ _ _ c.requires.output c.requires.none_held c.loop-index.invariant.index way

pub returns-in-Err-clause-so_far : goal.returns-in-Err-clause-so_far
returns-in-Err-clause-so_far g c =
    let way = RunsFrom-flush _ _ _ _ _ _ _ _ _ c.loop-index.invariant.way c.flush_before_waiting.ensures.put in
    let none : c.flush_before_waiting.new.output.failures ≡ 0 = grind (arith, common_steps) in
    let out : c.flush_before_waiting.new.output.held ≡ [] = elim (c.flush_before_waiting.ensures.ready none) [ inl h ↦ absurd (false≢true (c.in-Err.ensures.held h).0) | inr e ↦ e.0 ] in
    λ _. AppendsRun-so_far _ _ _ _ _ _ _ _ _ c.requires.output c.requires.none_held none out c.in-Err.ensures.line way

pub returns-in-Err-clause-front : goal.returns-in-Err-clause-front
returns-in-Err-clause-front g c =
    let way = RunsFrom-flush _ _ _ _ _ _ _ _ _ c.loop-index.invariant.way c.flush_before_waiting.ensures.put in
    AppendsRunPrefix-of _ answers _ _ _ _ _ _ _ _ c.requires.output c.requires.none_held c.loop-index.invariant.index way

pub returns-in-Ok-false-clause-text : goal.returns-in-Ok-false-clause-text
returns-in-Ok-false-clause-text g c =
    let way = RunsFrom-flush _ _ _ _ _ _ _ _ _ c.loop-index.invariant.way c.flush_before_waiting.ensures.put in
    let end = rw c.in-Ok-false.field-0-test at c.in-Ok-false.ensures.line in
    let out = RunsFrom-flush _ _ _ _ _ _ _ _ _ way c.finish.ensures.put in
    on_ok_weaker _ (λ o. AppendsRun-at_end _ _ _ _ _ _ _ _ _ c.requires.output c.requires.none_held o.0 o.1.0 end.0 c.loop-index.invariant.index out) c.finish.ensures.ok

pub returns-in-Ok-false-clause-front : goal.returns-in-Ok-false-clause-front
returns-in-Ok-false-clause-front g c =
    let way = RunsFrom-flush _ _ _ _ _ _ _ _ _ c.loop-index.invariant.way c.flush_before_waiting.ensures.put in
    let out = RunsFrom-flush _ _ _ _ _ _ _ _ _ way c.finish.ensures.put in
    AppendsRunPrefix-of _ answers _ _ _ _ _ _ _ _ c.requires.output c.requires.none_held c.loop-index.invariant.index out

pub loop-index-preserved : goal.loop-index-preserved
loop-index-preserved g c =
    let way = RunsFrom-flush _ _ _ _ _ _ _ _ _ c.loop-index.invariant.way c.flush_before_waiting.ensures.put in
    let line = rw c.in-Ok-true.field-0-test at c.in-Ok-true.ensures.line in
    let put = rw c.as_bytes.ensures at c.put_numbered.ensures in
    record {
      way = RunsFrom-more _ _ _ _ _ _ _ _ _ _ _ _ _ way line (steps _ _) put;
      input = grind (arith, common_steps);
      index = omega arith;
    }

pub returns-clause-text : goal.returns-clause-text
returns-clause-text g c =
    let out = RunsFrom-flush _ _ _ _ _ _ _ _ _ c.loop-index.invariant.way c.finish-2.ensures.put in
    let all : c.loop-index.index ≡ c.args.most = omega arith in
    on_ok_weaker _ (λ (o : c.finish-2.new.output.failures ≡ 0 × IsOut c.finish-2.new.output). AppendsRun-at_most _ _ _ _ _ _ _ _ _ c.requires.output c.requires.none_held o.0 o.1.0 all out) c.finish-2.ensures.ok

pub returns-clause-front : goal.returns-clause-front
returns-clause-front g c =
    let out = RunsFrom-flush _ _ _ _ _ _ _ _ _ c.loop-index.invariant.way c.finish-2.ensures.put in
    AppendsRunPrefix-of _ answers _ _ _ _ _ _ _ _ c.requires.output c.requires.none_held c.loop-index.invariant.index out
