use Rattle.std.proofs.Common.{sym, subst}
use Rattle.std.proofs.lemmas.Result.{IfOk-weaker}
use Rattle.shared_registry.specs.Works.{IsAtEnd}
use Rattle.shared_registry.proofs.Results.{by_ok}
use Rattle.shared_registry.proofs.Showing.{at_end}
use Rattle.shared_registry.proofs.run.run_work.Goals as goal

pub returns : goal.returns
returns c =
    let ends = IsAtEnd c.args.work.batch c.args.snapshot.now in
    let over = at_end c.args.work.batch c.args.snapshot.now c.args.work c.run-done.new.self c.requires.began c.run-done.ensures.same in
    IfOk-weaker c.if_done.result _ _ (λ returned done. subst ends (sym done.0) (over (by_ok c.run-done.result done.1 c.run-done.ensures.not_running))) c.if_done.ensures
