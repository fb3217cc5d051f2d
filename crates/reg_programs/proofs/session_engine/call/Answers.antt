use Rattle.std.proofs.Common.{ℕ, ⊎_elim, ap, subst, sym, ◌∙◌}
use Rattle.entry_book.specs.History.{books_from, reply_to}
use Rattle.commit_head.specs.Journals.{batches_of}
use Rattle.reg_lines.specs.Replies.{reply_json}
use Rattle.shared_registry.specs.Outcomes.{IsSubmitted}
use Rattle.shared_registry.specs.Seated.{Seated}
use Rattle.shared_registry.specs.declared.seat.NoAnswer.TheVariants as no
use Rattle.reg_programs.specs.Sessions.{AnswersCall, no_reply, submit_json, replied, submitted}
use Rattle.reg_programs.specs.SessionsPrivate.{HasText}
use Rattle.reg_programs.proofs.Calling.{entered, printed_as, to_answer}
use Rattle.reg_programs.proofs.session_engine.call.Goals as goal

-- the seat has looked at the published state, and is to answer the query

pub returns-in-Ok : goal.returns-in-Ok
returns-in-Ok g c =
    let first = g.J.RegistryId.first in
    let domain = g.J.RegistryId.domain in
    let query = sym c.is_query.ensures.query ∙ c.if-is_query.true in
    let looked = c.in-Ok.ensures in
    let u = c.look.new.self in
    record {
      asked = (looked.found, query, c.requires.domain);
      answers = λ t text p. ⊎_elim
          (λ a. replied query (entered first domain c.args.seat.now u t looked.is_unchanged looked.found a.0) (ap (λ (s : Seated). s.own) a.0 ∙ looked.own)
          (a.1 ∙ sym (ap (λ (s : Seated). reply_json s.calls (reply_to c.args.request.batch (books_from first (batches_of s.seen)))) a.0)))
          (λ a. subst (λ (s : Seated). AnswersCall first domain c.args.seat.now c.args.request c.args.line s text) (sym a.0) (no_reply no.NoMemory query looked.is_unchanged looked.own a.1))
          p;
    }

-- the look failed

pub returns-in-Err : goal.returns-in-Err
returns-in-Err g c =
    let first = g.J.RegistryId.first in
    let domain = g.J.RegistryId.domain in
    let looked = c.look.ensures in
    let query = sym c.is_query.ensures.query ∙ c.if-is_query.true in
    record {
      asked = to_answer first domain c.look.new.self c.not_answered.result _ c.not_answered.ensures;
      answers = λ t text p.
          let a = printed_as first c.look.new.self t c.not_answered.result _ text c.not_answered.ensures p in
          subst (λ (s : Seated). AnswersCall first domain c.args.seat.now c.args.request c.args.line s text) (sym a.0)
          (no_reply c.in-Err.why query looked.is_unchanged looked.own a.1);
    }

-- a batch of changes was submitted

pub returns-else-is_query : goal.returns-else-is_query
returns-else-is_query g c =
    let first = g.J.RegistryId.first in
    let domain = g.J.RegistryId.domain in
    let learnt = subst (λ (n : ℕ). HasText c.outcome_of.result (submit_json n c.args.line c.submit-outcome.result)) c.calls.ensures c.outcome_of.ensures in
    let made = subst (λ (n : ℕ). IsSubmitted first c.args.seat.now c.submit-outcome.new.seat c.args.request.batch n c.submit-outcome.result) c.count.ensures.value c.submit-outcome.ensures.answer in
    record {
      asked = to_answer first domain c.submit-outcome.new.seat c.outcome_of.result _ learnt;
      answers = λ t text p.
          let a = printed_as first c.submit-outcome.new.seat t c.outcome_of.result _ text learnt p in
          subst (λ (s : Seated). AnswersCall first domain c.args.seat.now c.args.request c.args.line s text) (sym a.0)
          (submitted c.submit-outcome.result (sym c.is_query.ensures.query ∙ c.if-is_query.false) c.submit-outcome.ensures.after_call c.submit-outcome.ensures.seen_learnt made a.1);
    }
