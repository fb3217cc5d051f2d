use Rattle.std.proofs.Common.{◌≡◌, ◌+◌, ◌≤◌, ◌<◌, true, false, Err, arith, inl, inr, refl, ◌∙◌}
use Rattle.std.proofs.lemmas.Bool.{false≢true}
use Rattle.std.proofs.lemmas.Grind.{common_steps}
use Rattle.std.proofs.lemmas.Result.{err_from_is_err_and}
use Rattle.line_devices.specs.Lines.{most_lines}
use Rattle.line_devices.specs.Stream.{IsOut}
use Rattle.line_engines.specs.Driver.{AfterSomeLines, ClosesAs, StepsUntilEnd}
use Rattle.line_engines.specs.declared.fault.RunFault.TheVariants.{NoMemory, Output}
use Rattle.line_engines.proofs.Driving.{IsDriven-start, IsDriven-flush, IsDriven-more, IsThrough-ended, IsThrough-end, IsThrough-most, RunsOver-no_memory, RunsOver-output, RunsOver-input, RunsOver-finished, some_step, of_setting, of_bytes, of_verdict, closes_of, closed_of, closes_as, closed_as, way_of, output_input, memory_input, TakesNoMore-stopped, TakesNoMore-input, TakesNoMore-ended, TakesNoMore-all}
use Rattle.line_engines.proofs.driver.run_lines.Goals as goal

pub returns-in_err-line-clause-runs : goal.returns-in_err-line-clause-runs
returns-in_err-line-clause-runs g c =
    let setting = g.A.LineHandler.setting c.args.handler.now in
    let ends = g.A.LineHandler.ends in
    let answers = g.A.LineHandler.answers setting in
    let may_lack_memory = g.A.LineHandler.may_lack_memory in
    let step = StepsUntilEnd ends answers in
    let some = some_step ends answers (g.met.A.LineHandler.some_answer setting) in
    λ first represents begun.
    let p = err_from_is_err_and c.from_residual.result c.from_residual.ensures.1 in
    let is : c.from_residual.result ≡ Err NoMemory = grind (arith, common_steps) in
    RunsOver-no_memory step _ may_lack_memory c.from_residual.result some first c.args.input.now c.args.output.now c.requires.output c.requires.none_held is

pub loop-count-init : goal.loop-count-init
loop-count-init g c =
    record {
      preserves = λ first k. k;
      way = λ first represents begun. IsDriven-start g.A.LineHandler.ends (g.A.LineHandler.answers (g.A.LineHandler.setting c.args.handler.now)) (g.A.LineHandler.represents c.args.handler.now 0) first c.args.input.now.left c.args.output.now represents begun;
      setting = refl;
      input = c.requires.input;
      count = omega arith;
    }

pub returns-then-has_failed-clause-runs : goal.returns-then-has_failed-clause-runs
returns-then-has_failed-clause-runs g c =
    let setting = g.A.LineHandler.setting c.args.handler.now in
    let ends = g.A.LineHandler.ends in
    let answers = g.A.LineHandler.answers setting in
    let may_lack_memory = g.A.LineHandler.may_lack_memory in
    let step = StepsUntilEnd ends answers in
    let some = some_step ends answers (g.met.A.LineHandler.some_answer setting) in
    λ first represents begun.
    let way = IsDriven-flush ends answers (g.A.LineHandler.represents c.loop-count.handler c.loop-count.count) first c.args.input.now.left c.loop-count.input.left c.args.output.now c.loop-count.output c.flush_before_waiting.new.output c.loop-count.count (c.loop-count.invariant.way first represents begun) c.flush_before_waiting.ensures.put in
    let failed : 0 < c.flush_before_waiting.new.output.failures = grind (arith, common_steps) in
    RunsOver-output step _ may_lack_memory some first c.args.input.now c.loop-count.input c.args.output.now c.flush_before_waiting.new.output c.loop-count.count way.state c.requires.output c.requires.none_held failed c.loop-count.invariant.count (way_of ends answers (g.A.LineHandler.represents c.loop-count.handler c.loop-count.count) first c.args.input.now.left c.loop-count.input.left c.args.output.now c.flush_before_waiting.new.output c.loop-count.count way)

pub returns-in-Err-clause-runs : goal.returns-in-Err-clause-runs
returns-in-Err-clause-runs g c =
    let setting = g.A.LineHandler.setting c.args.handler.now in
    let ends = g.A.LineHandler.ends in
    let answers = g.A.LineHandler.answers setting in
    let may_lack_memory = g.A.LineHandler.may_lack_memory in
    let step = StepsUntilEnd ends answers in
    let some = some_step ends answers (g.met.A.LineHandler.some_answer setting) in
    λ first represents begun.
    let way = IsDriven-flush ends answers (g.A.LineHandler.represents c.loop-count.handler c.loop-count.count) first c.args.input.now.left c.loop-count.input.left c.args.output.now c.loop-count.output c.flush_before_waiting.new.output c.loop-count.count (c.loop-count.invariant.way first represents begun) c.flush_before_waiting.ensures.put in
    let failed : 0 < c.read_line.new.self.failures = grind (arith, common_steps) in
    let none : c.flush_before_waiting.new.output.failures ≡ 0 = grind (arith, common_steps) in
    let out : IsOut c.flush_before_waiting.new.output = elim (c.flush_before_waiting.ensures.ready none) [ inl h ↦ absurd (false≢true (c.in-Err.ensures.held h).0) | inr e ↦ e ] in
    RunsOver-input step _ may_lack_memory some first c.args.input.now c.read_line.new.self c.loop-count.input.left c.args.output.now c.flush_before_waiting.new.output c.loop-count.count way.state c.requires.output c.requires.none_held failed none out c.in-Err.ensures.line c.loop-count.invariant.count (way_of ends answers (g.A.LineHandler.represents c.loop-count.handler c.loop-count.count) first c.args.input.now.left c.loop-count.input.left c.args.output.now c.flush_before_waiting.new.output c.loop-count.count way)

pub returns-then-not-answer-clause-runs : goal.returns-then-not-answer-clause-runs
returns-then-not-answer-clause-runs g c =
    let setting = g.A.LineHandler.setting c.args.handler.now in
    let ends = g.A.LineHandler.ends in
    let answers = g.A.LineHandler.answers setting in
    let may_lack_memory = g.A.LineHandler.may_lack_memory in
    let step = StepsUntilEnd ends answers in
    let some = some_step ends answers (g.met.A.LineHandler.some_answer setting) in
    λ first represents begun.
    let way = IsDriven-flush ends answers (g.A.LineHandler.represents c.loop-count.handler c.loop-count.count) first c.args.input.now.left c.loop-count.input.left c.args.output.now c.loop-count.output c.flush_before_waiting.new.output c.loop-count.count (c.loop-count.invariant.way first represents begun) c.flush_before_waiting.ensures.put in
    let line = rw c.in-Ok-true.field-0-test at c.in-Ok-true.ensures.line in
    let reported = of_setting ends g.A.LineHandler.answers (g.A.LineHandler.represents c.answer.new.self (c.loop-count.count + 1)) _ _ c.loop-count.invariant.setting way.state _ _ _ _ (c.answer.ensures.answered c.loop-count.count way.state refl way.represented) in
    let read = of_bytes ends answers (g.A.LineHandler.represents c.answer.new.self (c.loop-count.count + 1)) way.state _ _ _ _ _ c.as_bytes.ensures reported in
    let verdict : c.answer.result ≡ false = grind (arith, common_steps) in
    let over = of_verdict ends answers (g.A.LineHandler.represents c.answer.new.self (c.loop-count.count + 1)) way.state _ _ _ _ _ verdict read in
    let more : c.loop-count.count + 1 ≤ most_lines = omega arith in
    let through = IsThrough-ended ends answers (g.A.LineHandler.represents c.loop-count.handler c.loop-count.count) (g.A.LineHandler.represents c.answer.new.self (c.loop-count.count + 1)) first c.args.input.now.left c.loop-count.input.left c.read_line.new.self.left c.args.output.now c.flush_before_waiting.new.output c.answer.new.output c.loop-count.count _ way line more over in
    let none : c.read_line.new.self.failures ≡ 0 = grind (arith, common_steps) in
    let same = c.answer.ensures.setting ∙ c.loop-count.invariant.setting in
    RunsOver-finished step (ClosesAs (g.A.LineHandler.closes setting) (AfterSomeLines (g.A.LineHandler.represents c.finish.new.handler))) may_lack_memory (g.A.LineHandler.represents c.answer.new.self (c.loop-count.count + 1)) c.finish.result first c.args.input.now c.read_line.new.self c.args.output.now c.answer.new.output c.finish.new.output c.requires.output c.requires.none_held none through (closes_as (g.A.LineHandler.closes setting) (g.A.LineHandler.represents c.answer.new.self (c.loop-count.count + 1)) (AfterSomeLines (g.A.LineHandler.represents c.finish.new.handler)) _ _ (λ now s. (c.loop-count.count + 1, c.finish.ensures.represented (c.loop-count.count + 1) now s)) (closes_of g.A.LineHandler.closes (g.A.LineHandler.represents c.answer.new.self (c.loop-count.count + 1)) _ _ same c.answer.new.output c.finish.new.output (c.finish.ensures.closed (c.loop-count.count + 1)))) (closed_as (g.A.LineHandler.closes setting) (g.A.LineHandler.represents c.answer.new.self (c.loop-count.count + 1)) (AfterSomeLines (g.A.LineHandler.represents c.finish.new.handler)) _ _ c.finish.result (λ now s. (c.loop-count.count + 1, c.finish.ensures.represented (c.loop-count.count + 1) now s)) (closed_of g.A.LineHandler.closes (g.A.LineHandler.represents c.answer.new.self (c.loop-count.count + 1)) _ _ c.finish.result same c.answer.new.output c.finish.new.output (c.finish.ensures.ok_closed (c.loop-count.count + 1)))) c.finish.ensures.ok c.finish.ensures.err

pub returns-in-Ok-false-clause-runs : goal.returns-in-Ok-false-clause-runs
returns-in-Ok-false-clause-runs g c =
    let setting = g.A.LineHandler.setting c.args.handler.now in
    let ends = g.A.LineHandler.ends in
    let answers = g.A.LineHandler.answers setting in
    let may_lack_memory = g.A.LineHandler.may_lack_memory in
    let step = StepsUntilEnd ends answers in
    let some = some_step ends answers (g.met.A.LineHandler.some_answer setting) in
    λ first represents begun.
    let way = IsDriven-flush ends answers (g.A.LineHandler.represents c.loop-count.handler c.loop-count.count) first c.args.input.now.left c.loop-count.input.left c.args.output.now c.loop-count.output c.flush_before_waiting.new.output c.loop-count.count (c.loop-count.invariant.way first represents begun) c.flush_before_waiting.ensures.put in
    let end = rw c.in-Ok-false.field-0-test at c.in-Ok-false.ensures.line in
    let through = IsThrough-end ends answers (g.A.LineHandler.represents c.loop-count.handler c.loop-count.count) first c.args.input.now.left c.loop-count.input.left c.args.output.now c.flush_before_waiting.new.output c.loop-count.count way end.0 c.loop-count.invariant.count in
    let none : c.read_line.new.self.failures ≡ 0 = grind (arith, common_steps) in
    RunsOver-finished step (ClosesAs (g.A.LineHandler.closes setting) (AfterSomeLines (g.A.LineHandler.represents c.finish-in-Ok-false.new.handler))) may_lack_memory (g.A.LineHandler.represents c.loop-count.handler c.loop-count.count) c.finish-in-Ok-false.result first c.args.input.now c.read_line.new.self c.args.output.now c.flush_before_waiting.new.output c.finish-in-Ok-false.new.output c.requires.output c.requires.none_held none through (closes_as (g.A.LineHandler.closes setting) (g.A.LineHandler.represents c.loop-count.handler c.loop-count.count) (AfterSomeLines (g.A.LineHandler.represents c.finish-in-Ok-false.new.handler)) _ _ (λ now s. (c.loop-count.count, c.finish-in-Ok-false.ensures.represented c.loop-count.count now s)) (closes_of g.A.LineHandler.closes (g.A.LineHandler.represents c.loop-count.handler c.loop-count.count) _ _ c.loop-count.invariant.setting c.flush_before_waiting.new.output c.finish-in-Ok-false.new.output (c.finish-in-Ok-false.ensures.closed c.loop-count.count))) (closed_as (g.A.LineHandler.closes setting) (g.A.LineHandler.represents c.loop-count.handler c.loop-count.count) (AfterSomeLines (g.A.LineHandler.represents c.finish-in-Ok-false.new.handler)) _ _ c.finish-in-Ok-false.result (λ now s. (c.loop-count.count, c.finish-in-Ok-false.ensures.represented c.loop-count.count now s)) (closed_of g.A.LineHandler.closes (g.A.LineHandler.represents c.loop-count.handler c.loop-count.count) _ _ c.finish-in-Ok-false.result c.loop-count.invariant.setting c.flush_before_waiting.new.output c.finish-in-Ok-false.new.output (c.finish-in-Ok-false.ensures.ok_closed c.loop-count.count))) c.finish-in-Ok-false.ensures.ok c.finish-in-Ok-false.ensures.err

pub returns-in_err-line-clause-preserves : goal.returns-in_err-line-clause-preserves
returns-in_err-line-clause-preserves g c = λ first k. k

pub returns-then-not-answer-clause-preserves : goal.returns-then-not-answer-clause-preserves
returns-then-not-answer-clause-preserves g c = λ first k. c.finish.ensures.preserves first (c.answer.ensures.preserves first (c.loop-count.invariant.preserves first k))

pub returns-in-Ok-false-clause-preserves : goal.returns-in-Ok-false-clause-preserves
returns-in-Ok-false-clause-preserves g c = λ first k. c.finish-in-Ok-false.ensures.preserves first (c.loop-count.invariant.preserves first k)

pub returns-clause-preserves : goal.returns-clause-preserves
returns-clause-preserves g c = λ first k. c.finish-2.ensures.preserves first (c.loop-count.invariant.preserves first k)

pub returns-clause-runs : goal.returns-clause-runs
returns-clause-runs g c =
    let setting = g.A.LineHandler.setting c.args.handler.now in
    let ends = g.A.LineHandler.ends in
    let answers = g.A.LineHandler.answers setting in
    let may_lack_memory = g.A.LineHandler.may_lack_memory in
    let step = StepsUntilEnd ends answers in
    let some = some_step ends answers (g.met.A.LineHandler.some_answer setting) in
    λ first represents begun.
    let all : c.loop-count.count ≡ most_lines = omega arith in
    let through = IsThrough-most ends answers (g.A.LineHandler.represents c.loop-count.handler c.loop-count.count) first c.args.input.now.left c.loop-count.input.left c.args.output.now c.loop-count.output c.loop-count.count (c.loop-count.invariant.way first represents begun) all in
    RunsOver-finished step (ClosesAs (g.A.LineHandler.closes setting) (AfterSomeLines (g.A.LineHandler.represents c.finish-2.new.handler))) may_lack_memory (g.A.LineHandler.represents c.loop-count.handler c.loop-count.count) c.finish-2.result first c.args.input.now c.loop-count.input c.args.output.now c.loop-count.output c.finish-2.new.output c.requires.output c.requires.none_held c.loop-count.invariant.input through (closes_as (g.A.LineHandler.closes setting) (g.A.LineHandler.represents c.loop-count.handler c.loop-count.count) (AfterSomeLines (g.A.LineHandler.represents c.finish-2.new.handler)) _ _ (λ now s. (c.loop-count.count, c.finish-2.ensures.represented c.loop-count.count now s)) (closes_of g.A.LineHandler.closes (g.A.LineHandler.represents c.loop-count.handler c.loop-count.count) _ _ c.loop-count.invariant.setting c.loop-count.output c.finish-2.new.output (c.finish-2.ensures.closed c.loop-count.count))) (closed_as (g.A.LineHandler.closes setting) (g.A.LineHandler.represents c.loop-count.handler c.loop-count.count) (AfterSomeLines (g.A.LineHandler.represents c.finish-2.new.handler)) _ _ c.finish-2.result (λ now s. (c.loop-count.count, c.finish-2.ensures.represented c.loop-count.count now s)) (closed_of g.A.LineHandler.closes (g.A.LineHandler.represents c.loop-count.handler c.loop-count.count) _ _ c.finish-2.result c.loop-count.invariant.setting c.loop-count.output c.finish-2.new.output (c.finish-2.ensures.ok_closed c.loop-count.count))) c.finish-2.ensures.ok c.finish-2.ensures.err

pub returns-in_err-line-clause-takes : goal.returns-in_err-line-clause-takes
returns-in_err-line-clause-takes g c =
    λ first represents begun.
    let p = err_from_is_err_and c.from_residual.result c.from_residual.ensures.1 in
    let is : c.from_residual.result ≡ Err NoMemory = grind (arith, common_steps) in
    TakesNoMore-stopped g.A.LineHandler.ends (g.A.LineHandler.answers (g.A.LineHandler.setting c.args.handler.now)) (AfterSomeLines (g.A.LineHandler.represents c.args.handler.now)) first c.args.input.now c.args.input.now c.from_residual.result NoMemory is memory_input

pub returns-then-has_failed-clause-takes : goal.returns-then-has_failed-clause-takes
returns-then-has_failed-clause-takes g c = λ first represents begun.
    TakesNoMore-stopped g.A.LineHandler.ends (g.A.LineHandler.answers (g.A.LineHandler.setting c.args.handler.now)) (AfterSomeLines (g.A.LineHandler.represents c.loop-count.handler)) first c.args.input.now c.loop-count.input (Err Output) Output refl output_input

pub returns-in-Err-clause-takes : goal.returns-in-Err-clause-takes
returns-in-Err-clause-takes g c =
    let ends = g.A.LineHandler.ends in
    let answers = g.A.LineHandler.answers (g.A.LineHandler.setting c.args.handler.now) in
    let represented = g.A.LineHandler.represents c.loop-count.handler c.loop-count.count in
    λ first represents begun.
    TakesNoMore-input ends answers represented (AfterSomeLines (g.A.LineHandler.represents c.loop-count.handler)) first c.args.input.now c.read_line.new.self c.loop-count.input.left c.args.output.now c.loop-count.output c.loop-count.count (c.loop-count.invariant.way first represents begun) c.in-Err.ensures.line

pub returns-then-not-answer-clause-takes : goal.returns-then-not-answer-clause-takes
returns-then-not-answer-clause-takes g c =
    let setting = g.A.LineHandler.setting c.args.handler.now in
    let ends = g.A.LineHandler.ends in
    let answers = g.A.LineHandler.answers setting in
    let may_lack_memory = g.A.LineHandler.may_lack_memory in
    λ first represents begun.
    let way = IsDriven-flush ends answers (g.A.LineHandler.represents c.loop-count.handler c.loop-count.count) first c.args.input.now.left c.loop-count.input.left c.args.output.now c.loop-count.output c.flush_before_waiting.new.output c.loop-count.count (c.loop-count.invariant.way first represents begun) c.flush_before_waiting.ensures.put in
    let line = rw c.in-Ok-true.field-0-test at c.in-Ok-true.ensures.line in
    let reported = of_setting ends g.A.LineHandler.answers (g.A.LineHandler.represents c.answer.new.self (c.loop-count.count + 1)) _ _ c.loop-count.invariant.setting way.state _ _ _ _ (c.answer.ensures.answered c.loop-count.count way.state refl way.represented) in
    let read = of_bytes ends answers (g.A.LineHandler.represents c.answer.new.self (c.loop-count.count + 1)) way.state _ _ _ _ _ c.as_bytes.ensures reported in
    let verdict : c.answer.result ≡ false = grind (arith, common_steps) in
    let over = of_verdict ends answers (g.A.LineHandler.represents c.answer.new.self (c.loop-count.count + 1)) way.state _ _ _ _ _ verdict read in
    TakesNoMore-ended ends answers (g.A.LineHandler.represents c.loop-count.handler c.loop-count.count) (g.A.LineHandler.represents c.answer.new.self (c.loop-count.count + 1)) (AfterSomeLines (g.A.LineHandler.represents c.finish.new.handler)) may_lack_memory first c.args.input.now c.read_line.new.self c.loop-count.input.left c.args.output.now c.flush_before_waiting.new.output c.answer.new.output c.finish.new.output c.loop-count.count _ c.finish.result way line over (λ now s. (c.loop-count.count + 1, c.finish.ensures.represented (c.loop-count.count + 1) now s)) c.finish.ensures.err

pub returns-in-Ok-false-clause-takes : goal.returns-in-Ok-false-clause-takes
returns-in-Ok-false-clause-takes g c =
    let setting = g.A.LineHandler.setting c.args.handler.now in
    let ends = g.A.LineHandler.ends in
    let answers = g.A.LineHandler.answers setting in
    let may_lack_memory = g.A.LineHandler.may_lack_memory in
    λ first represents begun.
    let way = IsDriven-flush ends answers (g.A.LineHandler.represents c.loop-count.handler c.loop-count.count) first c.args.input.now.left c.loop-count.input.left c.args.output.now c.loop-count.output c.flush_before_waiting.new.output c.loop-count.count (c.loop-count.invariant.way first represents begun) c.flush_before_waiting.ensures.put in
    let end = rw c.in-Ok-false.field-0-test at c.in-Ok-false.ensures.line in
    TakesNoMore-all ends answers (g.A.LineHandler.represents c.loop-count.handler c.loop-count.count) (AfterSomeLines (g.A.LineHandler.represents c.finish-in-Ok-false.new.handler)) may_lack_memory first c.args.input.now c.read_line.new.self c.loop-count.input.left c.args.output.now c.flush_before_waiting.new.output c.finish-in-Ok-false.new.output c.loop-count.count c.finish-in-Ok-false.result way (inl end.0) c.loop-count.invariant.count (λ now s. (c.loop-count.count, c.finish-in-Ok-false.ensures.represented c.loop-count.count now s)) c.finish-in-Ok-false.ensures.err

pub returns-clause-takes : goal.returns-clause-takes
returns-clause-takes g c =
    let setting = g.A.LineHandler.setting c.args.handler.now in
    let ends = g.A.LineHandler.ends in
    let answers = g.A.LineHandler.answers setting in
    let may_lack_memory = g.A.LineHandler.may_lack_memory in
    λ first represents begun.
    let all : c.loop-count.count ≡ most_lines = omega arith in
    TakesNoMore-all ends answers (g.A.LineHandler.represents c.loop-count.handler c.loop-count.count) (AfterSomeLines (g.A.LineHandler.represents c.finish-2.new.handler)) may_lack_memory first c.args.input.now c.loop-count.input c.loop-count.input.left c.args.output.now c.loop-count.output c.finish-2.new.output c.loop-count.count c.finish-2.result (c.loop-count.invariant.way first represents begun) (inr all) c.loop-count.invariant.count (λ now s. (c.loop-count.count, c.finish-2.ensures.represented c.loop-count.count now s)) c.finish-2.ensures.err

pub loop-count-preserved : goal.loop-count-preserved
loop-count-preserved g c =
    record {
      preserves = λ first k. c.answer.ensures.preserves first (c.loop-count.invariant.preserves first k);
      way = (
          let setting = g.A.LineHandler.setting c.args.handler.now in
          let ends = g.A.LineHandler.ends in
          let answers = g.A.LineHandler.answers setting in
          let may_lack_memory = g.A.LineHandler.may_lack_memory in
          let step = StepsUntilEnd ends answers in
          let some = some_step ends answers (g.met.A.LineHandler.some_answer setting) in
          λ first represents begun.
          let way = IsDriven-flush ends answers (g.A.LineHandler.represents c.loop-count.handler c.loop-count.count) first c.args.input.now.left c.loop-count.input.left c.args.output.now c.loop-count.output c.flush_before_waiting.new.output c.loop-count.count (c.loop-count.invariant.way first represents begun) c.flush_before_waiting.ensures.put in
          let line = rw c.in-Ok-true.field-0-test at c.in-Ok-true.ensures.line in
          let reported = of_setting ends g.A.LineHandler.answers (g.A.LineHandler.represents c.answer.new.self (c.loop-count.count + 1)) _ _ c.loop-count.invariant.setting way.state _ _ _ _ (c.answer.ensures.answered c.loop-count.count way.state refl way.represented) in
          let read = of_bytes ends answers (g.A.LineHandler.represents c.answer.new.self (c.loop-count.count + 1)) way.state _ _ _ _ _ c.as_bytes.ensures reported in
          let verdict : c.answer.result ≡ true = grind (arith, common_steps) in
          let continues = of_verdict ends answers (g.A.LineHandler.represents c.answer.new.self (c.loop-count.count + 1)) way.state _ _ _ _ _ verdict read in
          IsDriven-more ends answers (g.A.LineHandler.represents c.loop-count.handler c.loop-count.count) (g.A.LineHandler.represents c.answer.new.self (c.loop-count.count + 1)) first c.args.input.now.left c.loop-count.input.left c.read_line.new.self.left c.args.output.now c.flush_before_waiting.new.output c.answer.new.output c.loop-count.count _ way line continues);
      setting = c.answer.ensures.setting ∙ c.loop-count.invariant.setting;
      input = grind (arith, common_steps);
      count = omega arith;
    }
