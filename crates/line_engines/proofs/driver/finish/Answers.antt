use Rattle.std.proofs.Common.{◌≡◌, [], arith, inr, refl, subst}
use Rattle.std.proofs.lemmas.Grind.{common_steps}
use Rattle.line_devices.specs.Stream.{Puts}
use Rattle.line_engines.proofs.Driving.{Closes-flushed, closed_or_none}
use Rattle.line_engines.proofs.driver.finish.Goals as goal

pub returns-then-has_failed-clause-closed : goal.returns-then-has_failed-clause-closed
returns-then-has_failed-clause-closed g c = λ lines now represents.
    closed_or_none (g.A.LineHandler.closes (g.A.LineHandler.setting c.args.handler.now)) now c.close-closed.result _ _ _ (c.close-closed.ensures.closed lines now represents) c.close-closed.ensures.is_unchanged c.flush.ensures.put

pub returns-in-Ok-clause-closed : goal.returns-in-Ok-clause-closed
returns-in-Ok-clause-closed g c = λ lines now represents.
    closed_or_none (g.A.LineHandler.closes (g.A.LineHandler.setting c.args.handler.now)) now c.close-closed.result _ _ _ (c.close-closed.ensures.closed lines now represents) c.close-closed.ensures.is_unchanged c.flush.ensures.put

pub returns-in-Ok-clause-ok_closed : goal.returns-in-Ok-clause-ok_closed
returns-in-Ok-clause-ok_closed g c = λ lines now represents.
    Closes-flushed (g.A.LineHandler.closes (g.A.LineHandler.setting c.args.handler.now)) now _ _ _ (c.in-Ok.ensures.closed lines now represents) c.flush.ensures.put

pub returns-in-Err-clause-closed : goal.returns-in-Err-clause-closed
returns-in-Err-clause-closed g c = λ lines now represents.
    closed_or_none (g.A.LineHandler.closes (g.A.LineHandler.setting c.args.handler.now)) now c.close-closed.result _ _ _ (c.close-closed.ensures.closed lines now represents) c.close-closed.ensures.is_unchanged c.flush.ensures.put

pub returns-in-Err-clause-err : goal.returns-in-Err-clause-err
returns-in-Err-clause-err g c =
    let none : c.flush.new.self.failures ≡ 0 = grind (arith, common_steps) in
    inr (
      refl,
      record {
        may = c.in-Err.ensures.lacks_memory_now;
        none_put = subst (λ o. Puts o c.flush.new.self []) c.in-Err.ensures.is_unchanged c.flush.ensures.put;
        not_failed = none;
        out = c.flush.ensures.out none;
      },
    )
