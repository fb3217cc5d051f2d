use Rattle.std.proofs.Common.{◌≡◌, ap, refl, subst, sym, ◌∙◌}
use Rattle.shared_registry.specs.Seated.{Seated}
use Rattle.reg_programs.specs.Sessions.{AnswersRequest, Grew, LeavesSeat, Session, session_start}
use Rattle.line_engines.proofs.Driving.{RunsOver-closes}
use Rattle.reg_programs.proofs.Growing.{grew_same}
use Rattle.reg_programs.proofs.session_engine.session.Goals as goal

pub returns-clause-runs : goal.returns-clause-runs
returns-clause-runs g c =
    let left = c.into_seat.result in
    let is : c.run_lines-ran.new.handler.seat ≡ left = sym c.into_seat.ensures in
    RunsOver-closes (AnswersRequest g.J.RegistryId.first g.J.RegistryId.domain) _ (LeavesSeat left) ⊥ (session_start c.args.seat c.args.ids) _ _ _ _ _ (λ now end k. (k.0, ap (λ (s : Session). s.seat) k.1.1 ∙ is)) (c.run_lines-ran.ensures.runs (session_start c.args.seat c.args.ids) refl refl)

pub returns-clause-grew : goal.returns-clause-grew
returns-clause-grew g c =
    let grew = c.run_lines-ran.ensures.preserves (record { seat = c.args.seat; ids = c.args.ids }) (grew_same g.J.RegistryId.first g.J.RegistryId.domain c.args.seat) in
    subst (λ (s : Seated). Grew g.J.RegistryId.first g.J.RegistryId.domain c.args.seat s) (sym c.into_seat.ensures) grew
