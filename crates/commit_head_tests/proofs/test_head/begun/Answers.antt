use Rattle.std.proofs.Common.{ap}
use Rattle.commit_head_tests.proofs.Waiting.{began_now}
use Rattle.commit_head_tests.proofs.test_head.begun.Goals as goal

pub run_to_end-requires : goal.run_to_end-requires
run_to_end-requires c = began_now c.new-work.result.batch c.begin.new.self.base c.window-window.result.now c.args.head.now (ap (λ w. w.base) c.in-Ok.ensures.begun) c.window-window.ensures.window
