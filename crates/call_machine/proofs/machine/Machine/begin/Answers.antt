use Rattle.std.proofs.Common.{◌≡◌, ◌+◌, length, sym, ◌∙◌, inl, arith}
use Rattle.call_machine.specs.Machine.{is_waiting}
use Rattle.call_answers.specs.declared.answer.Done.TheVariants.{Begun}
use Rattle.call_machine.specs.Kept.{call_kept, journal_of, stage_of_slot}
use Rattle.call_machine.proofs.Changed.{call_found, holds_set, holds_unchanged, refused_slot, refused_unknown, rests_found, state_moved, state_unchanged}
use Rattle.call_machine.proofs.Counts.{has_room, more_begun}
use Rattle.call_machine.proofs.Heads.{place_is}
use Rattle.call_machine.proofs.Slots.{call_moved}
use Rattle.call_machine.proofs.machine.Machine.begin.Goals as goal

pub overflow_add-turn : goal.overflow_add-turn
overflow_add-turn c = let room = has_room c.self.invariant in omega arith

pub returns-in_default-clause-err : goal.returns-in_default-clause-err
returns-in_default-clause-err c = inl (refused_unknown c.args.number (λ d. is_waiting d.stage) c.self.invariant c.self.view_is (sym c.in_default.ensures.value))

pub returns-in-Err-clause-err : goal.returns-in-Err-clause-err
returns-in-Err-clause-err c = refused_slot c.args.number (λ d. is_waiting d.stage) c.self.invariant c.self.view_is (sym c.in-Some.ensures.value) c.in-Err.ensures.err

pub invariant_of-self-in-Err : goal.invariant_of-self-in-Err
invariant_of-self-in-Err c = holds_unchanged c.args.number c.begin.new.self c.self.invariant (sym c.in-Some.ensures.value) (c.get_mut.follows.holds c.begin.new.self).0 c.in-Err.ensures.is_unchanged

pub returns-in-Err-clause-is_unchanged : goal.returns-in-Err-clause-is_unchanged
returns-in-Err-clause-is_unchanged c = state_unchanged c.args.number c.begin.new.self c.self.invariant (sym c.in-Some.ensures.value) (c.get_mut.follows.holds c.begin.new.self).0 c.in-Err.ensures.is_unchanged ∙ c.self.view_is

pub begin-requires-clause-whole : goal.begin-requires-clause-whole
begin-requires-clause-whole c = c.self.invariant.whole

pub begin-requires-clause-rests : goal.begin-requires-clause-rests
begin-requires-clause-rests c = rests_found c.args.number c.self.invariant (sym c.in-Some.ensures.value)

pub invariant_of-self-2 : goal.invariant_of-self-2
invariant_of-self-2 c =
    let b = c.in-Ok.ensures.ok in
    holds_set c.args.number c.begin.new.self c.self.invariant (sym c.in-Some.ensures.value) (c.get_mut.follows.holds c.begin.new.self).0 b.rests
    (more_begun c.self.inside.head c.in-Some.slot.now c.begin.new.self _ _ b)

pub returns-clause-ok : goal.returns-clause-ok
returns-clause-ok c =
    let n = c.args.number in
    let old = c.in-Some.slot.now in
    let later = c.begin.new.self in
    let found = sym c.in-Some.ensures.value in
    let b = c.in-Ok.ensures.ok in
    let place : c.place.result ≡ length (journal_of c.self.inside.head) = c.place.ensures ∙ place_is c.self.inside.head c.self.invariant.whole in
    rw (← c.self.view_is) (record {
      call = call_kept n old;
      found = call_found n c.self.invariant found;
      in_turn = b.in_turn;
      stage = stage_of_slot later;
      stage_is = b.stage;
      answer = λ i. Begun n (place i) (b.status_is i);
      after = state_moved n later c.self.invariant found (c.get_mut.follows.holds later).0 (call_moved n old later (c.self.inside.count + 1) b.batch b.invoked b.turn_is b.replied);
    })
