use Rattle.std.proofs.Common.{◌≡◌, true, false, subst, sym}
use Rattle.line_engines.specs.Driver.{AnswersKept}
use Rattle.reg_programs.specs.Sessions.{AnswersRequest, Grew, Session}
use Rattle.reg_programs.specs.SessionsPrivate.{SessionKept, SessionRepresents}
use Rattle.reg_programs.proofs.Calling.{taken}
use Rattle.reg_programs.proofs.Growing.{grew_on}
use Rattle.reg_programs.proofs.session_engine.SessionRunLineHandler.answer.Goals as goal

pub returns-clause-answered : goal.returns-clause-answered
returns-clause-answered g c = λ lines now next.
    let run = c.self.inside in
    let first = g.J.RegistryId.first in
    let domain = g.J.RegistryId.domain in
    let printed = c.print_taken.ensures in
    let before : Session = record { seat = run.seat; ids = run.ids; lines = lines } in
    let after : Session = record { seat = c.print_taken.new.seat; ids = c.take-taken.new.ids; lines = c.args.number } in
    let P : SessionKept → Type 0 = λ k. SessionRepresents k lines now → AnswersKept (AnswersRequest first domain) (λ _. false) (λ s. s ≡ after) now c.args.line.now c.args.output.now c.print_taken.new.output true in
    subst P c.self.view_is (taken first domain before after c.args.line.now printed.0 c.args.output.now c.print_taken.new.output (c.take-taken.ensures.line lines c.print_taken.new.seat printed.0 next printed.1) next printed.2 now)

pub returns-clause-preserves : goal.returns-clause-preserves
returns-clause-preserves g c = λ start k.
    let first = g.J.RegistryId.first in
    let domain = g.J.RegistryId.domain in
    let printed = c.print_taken.ensures in
    let now = subst (λ (s : SessionKept). Grew first domain start.seat s.seat) (sym c.self.view_is) k in
    grew_on first domain start.seat c.self.inside.seat c.print_taken.new.seat now (c.take-taken.ensures.grew c.print_taken.new.seat printed.0 printed.1)
