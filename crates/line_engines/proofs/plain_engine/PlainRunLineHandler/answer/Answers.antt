use Rattle.std.proofs.Common.{◌≤◌, true, false, subst, arith}
use Rattle.line_engines.specs.Answers.{Answers}
use Rattle.line_engines.specs.AnswersPrivate.{PlainKept, PlainRepresents}
use Rattle.line_engines.specs.Driver.{AnswersKept}
use Rattle.line_engines.proofs.Running.{reported}
use Rattle.line_engines.proofs.plain_engine.PlainRunLineHandler.answer.Goals as goal

pub returns-clause-answered : goal.returns-clause-answered
returns-clause-answered g c = λ lines now next.
    let run = c.self.inside in
    let then = c.answer-self-inside in
    let before : PlainKept = record { book = run.book; ids = run.ids; calls = run.calls } in
    let after : PlainKept = record { book = then.new.book; ids = then.new.ids; calls = then.result } in
    let P : PlainKept → Type 0 = λ k. PlainRepresents k lines now → AnswersKept (Answers k.book.domain) (λ _. false) (PlainRepresents after c.args.number) now c.args.line.now c.args.output.now then.new.output true in
    subst P c.self.view_is (λ represents.
    let few : then.result ≤ c.args.number = omega (arith, next, represents.4, then.ensures.calls) in
    reported represents.0.0 before.book.domain before after lines c.args.number now c.args.line.now c.args.output.now then.new.output represents (then.ensures.line represents.0.0 now.books lines represents.0.1 next represents.4) next few)
