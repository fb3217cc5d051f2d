use Rattle.std.proofs.Common.{◌≡◌, ◌+◌, [], ◌∷◌, ◌++◌, length, IsOk, inl, refl, vec_len, sym, ap, subst, ◌∙◌, arith, append_assoc, length-append}
use Rattle.std.specs.Prelude.{if◌then◌else◌}
use Rattle.std.specs.Vec.Iter.{into_iter_items}
use Rattle.entry_book.specs.Order.{Within}
use Rattle.entry_book.proofs.Sets.{All-within, within_right}
use Rattle.call_events.specs.Events.{IsFor}
use Rattle.call_machine.specs.Machine.{Runs}
use Rattle.call_machine.proofs.Runs.{event_leaves, runs_extend}
use Rattle.call_machine.proofs.machine.Machine.run.Goals as goal

pub apply-answer-requires : goal.apply-answer-requires
apply-answer-requires c =
    let i = c.loop-event.invariant in
    let seen = c.loop-event.yielded in
    let e = c.in-Some.event in
    let left = into_iter_items c.next.new.self in
    let step : into_iter_items c.loop-event.event-iterator ≡ e ∷ left = c.in-Some.ensures.steps.0 in
    let whole : seen ++ e ∷ left ≡ c.args.events.items = ap (λ l. seen ++ l) (sym step) ∙ i.front in
    record { domain = subst (λ d. IsFor d e) (sym i.domain) (All-within (IsFor c.args.self.now.domain) c.args.events.items e c.requires.domain (subst (λ l. Within l e) whole (within_right seen (e ∷ left) e (inl refl)))) }

pub loop-event-preserved : goal.loop-event-preserved
loop-event-preserved c =
    let i = c.loop-event.invariant in
    let seen = c.loop-event.yielded in
    let e = c.in-Some.event in
    let left = into_iter_items c.next.new.self in
    let step : into_iter_items c.loop-event.event-iterator ≡ e ∷ left = c.in-Some.ensures.steps.0 in
    let front : (seen ++ e ∷ []) ++ left ≡ c.args.events.items = append_assoc seen (e ∷ []) left ∙ (ap (λ l. seen ++ l) (sym step) ∙ i.front) in
    let whole : length ((seen ++ e ∷ []) ++ left) ≡ length c.args.events.items = ap length front in
    let more : length (seen ++ e ∷ []) ≡ length seen + 1 = length-append seen (e ∷ []) in
    let both : length ((seen ++ e ∷ []) ++ left) ≡ length (seen ++ e ∷ []) + length left = length-append (seen ++ e ∷ []) left in
    let ok : IsOk c.push.result = c.push.ensures.succeeds (omega arith) in
    let items : c.push.new.self.items ≡ c.loop-event.answers.items ++ c.apply-answer.result ∷ [] = c.push.ensures.items ∙ ap (λ b. if b then c.loop-event.answers.items ++ c.apply-answer.result ∷ [] else c.loop-event.answers.items) ok in
    let logged : vec_len c.push.new.self ≡ vec_len c.loop-event.answers + 1 = c.push.ensures.len ∙ ap (λ b. if b then vec_len c.loop-event.answers + 1 else vec_len c.loop-event.answers) ok in
    let left_is = event_leaves c.loop-event.self e c.apply-answer.result c.apply-answer.new.self c.apply-answer.ensures in
    record {
      can_next = tt;
      is_finite = tt;
      ran = subst (λ l. Runs c.args.self.now (seen ++ e ∷ []) l c.apply-answer.new.self) (sym items) (runs_extend seen c.loop-event.answers.items c.args.self.now c.loop-event.self c.apply-answer.new.self e c.apply-answer.result i.ran c.apply-answer.ensures);
      front = front;
      logged = omega arith;
      room = omega (arith, c.push.ensures.capacity);
      domain = left_is.domain ∙ i.domain;
    }
