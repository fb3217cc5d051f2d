use Rattle.std.proofs.Common.{sym, ap, ◌∙◌, inl, arith}
use Rattle.call_machine.specs.Machine.{is_running}
use Rattle.call_answers.specs.declared.answer.Done.TheVariants.{Stepped}
use Rattle.call_machine.specs.Kept.{call_kept, head_domain, stage_of_slot}
use Rattle.call_machine.proofs.Changed.{call_found, holds_set, holds_unchanged, refused_slot, refused_unknown, rests_found, state_moved, state_unchanged}
use Rattle.call_machine.proofs.Counts.{has_room, more_stepped}
use Rattle.call_machine.proofs.Slots.{call_moved}
use Rattle.call_machine.proofs.machine.Machine.step.Goals as goal

pub overflow_add-self : goal.overflow_add-self
overflow_add-self c = let room = has_room c.self.invariant in omega arith

pub returns-in_default-clause-err : goal.returns-in_default-clause-err
returns-in_default-clause-err c = inl (refused_unknown c.args.number (λ d. is_running d.stage) c.self.invariant c.self.view_is (sym c.in_default.ensures.value))

pub returns-in-Err-clause-err : goal.returns-in-Err-clause-err
returns-in-Err-clause-err c = refused_slot c.args.number (λ d. is_running d.stage) c.self.invariant c.self.view_is (sym c.in-Some.ensures.value) c.in-Err.ensures.err

pub invariant_of-self-in-Err : goal.invariant_of-self-in-Err
invariant_of-self-in-Err c = holds_unchanged c.args.number c.step.new.self c.self.invariant (sym c.in-Some.ensures.value) (c.get_mut.follows.holds c.step.new.self).0 c.in-Err.ensures.is_unchanged

pub returns-in-Err-clause-is_unchanged : goal.returns-in-Err-clause-is_unchanged
returns-in-Err-clause-is_unchanged c = state_unchanged c.args.number c.step.new.self c.self.invariant (sym c.in-Some.ensures.value) (c.get_mut.follows.holds c.step.new.self).0 c.in-Err.ensures.is_unchanged ∙ c.self.view_is

pub invariant_of-self-2 : goal.invariant_of-self-2
invariant_of-self-2 c =
    let h = c.self.inside.head in
    let rests = rests_found c.args.number c.self.invariant (sym c.in-Some.ensures.value) in
    let b = c.in-Ok.ensures.ok (head_domain h) h.kept rests in
    holds_set c.args.number c.step.new.self c.self.invariant (sym c.in-Some.ensures.value) (c.get_mut.follows.holds c.step.new.self).0 b.rests
    (more_stepped h c.in-Some.slot.now c.step.new.self _ _ c.self.invariant.whole rests.made b)

pub returns-clause-ok : goal.returns-clause-ok
returns-clause-ok c =
    let h = c.self.inside.head in
    let n = c.args.number in
    let old = c.in-Some.slot.now in
    let later = c.step.new.self in
    let found = sym c.in-Some.ensures.value in
    let b = c.in-Ok.ensures.ok (head_domain h) h.kept (rests_found n c.self.invariant found) in
    rw (← c.self.view_is) (record {
      call = call_kept n old;
      found = call_found n c.self.invariant found;
      base = b.base;
      made = b.made;
      in_turn = b.in_turn;
      mark = c.in-Ok.read.0;
      mark_is = b.mark_is;
      stage = stage_of_slot later;
      stage_is = b.stage;
      answer = ap (Stepped n c.in-Ok.read.0) b.status_is;
      after = state_moved n later c.self.invariant found (c.get_mut.follows.holds later).0 (call_moved n old later old.turn b.batch b.invoked b.turn b.replied);
    })
