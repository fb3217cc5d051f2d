use Rattle.std.proofs.Common.{ap, sym, subst, ◌∙◌}
use Rattle.batch_work.specs.Windows.{IsNextVersion, Window, pushed}
use Rattle.batch_work.proofs.SharedWindows.{next_is, next_shared}
use Rattle.batch_work.proofs.shared_window.SharedWindow.next.Goals as goal

pub invariant_of-result : goal.invariant_of-result
invariant_of-result c =
    let next = subst (λ (w : Window). IsNextVersion w.newest c.args.version) (sym c.self.view_is) c.requires.next in
    next_shared c.self.inside.shared.items c.self.inside.recent.items c.self.inside.newest c.self.invariant c.args.version c.in_ok-shared.shared.items c.in_ok-shared.recent.items c.in_ok-shared.ensures.room c.in_ok-shared.ensures.full next

pub returns : goal.returns
returns c =
    next_is c.self.inside.shared.items c.self.inside.recent.items c.self.inside.newest c.self.invariant c.args.version c.in_ok-shared.shared.items c.in_ok-shared.recent.items c.in_ok-shared.ensures.room c.in_ok-shared.ensures.full
    ∙ ap (pushed c.args.version) c.self.view_is
