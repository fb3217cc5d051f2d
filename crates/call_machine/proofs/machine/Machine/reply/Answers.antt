use Rattle.std.proofs.Common.{refl, sym, ap, subst, ◌∙◌, inl, arith}
use Rattle.std.specs.Prelude.{is_none, ◌&&◌}
use Rattle.call_machine.specs.Machine.{is_over}
use Rattle.call_machine.specs.Kept.{SlotRests, call_kept, head_domain}
use Rattle.call_machine.proofs.Changed.{call_found, holds_set, holds_unchanged, refused_slot, refused_unknown, rests_found, state_moved, state_unchanged}
use Rattle.call_machine.proofs.Counts.{has_room, more_replied}
use Rattle.call_machine.proofs.machine.Machine.reply.Goals as goal

pub overflow_add-turn : goal.overflow_add-turn
overflow_add-turn c = let room = has_room c.self.invariant in omega arith

pub returns-in_default-clause-err : goal.returns-in_default-clause-err
returns-in_default-clause-err c = inl (refused_unknown c.args.number (λ d. is_none d.replied && is_over d.stage) c.self.invariant c.self.view_is (sym c.in_default.ensures.value))

pub returns-in-Err-clause-err : goal.returns-in-Err-clause-err
returns-in-Err-clause-err c = refused_slot c.args.number (λ d. is_none d.replied && is_over d.stage) c.self.invariant c.self.view_is (sym c.in-Some.ensures.value) c.in-Err.ensures.err

pub invariant_of-self-in-Err : goal.invariant_of-self-in-Err
invariant_of-self-in-Err c = holds_unchanged c.args.number c.reply.new.self c.self.invariant (sym c.in-Some.ensures.value) (c.get_mut.follows.holds c.reply.new.self).0 c.in-Err.ensures.is_unchanged

pub returns-in-Err-clause-is_unchanged : goal.returns-in-Err-clause-is_unchanged
returns-in-Err-clause-is_unchanged c = state_unchanged c.args.number c.reply.new.self c.self.invariant (sym c.in-Some.ensures.value) (c.get_mut.follows.holds c.reply.new.self).0 c.in-Err.ensures.is_unchanged ∙ c.self.view_is

pub reply-requires : goal.reply-requires
reply-requires c = record { answered = (rests_found c.args.number c.self.invariant (sym c.in-Some.ensures.value)).answered }

pub invariant_of-self-2 : goal.invariant_of-self-2
invariant_of-self-2 c =
    let h = c.self.inside.head in
    let found = sym c.in-Some.ensures.value in
    let b = c.in-Ok.ensures.ok in
    let rests = rests_found c.args.number c.self.invariant found in
    holds_set c.args.number c.reply.new.self c.self.invariant found (c.get_mut.follows.holds c.reply.new.self).0
    (subst (SlotRests (head_domain h) h.kept) (sym b.2) (record { made = rests.made; state = rests.state; answered = rests.answered }))
    (more_replied c.in-Some.slot.now c.reply.new.self _ b.0 b.2)

pub returns-clause-ok : goal.returns-clause-ok
returns-clause-ok c =
    let n = c.args.number in
    let later = c.reply.new.self in
    let found = sym c.in-Some.ensures.value in
    let b = c.in-Ok.ensures.ok in
    rw (← c.self.view_is) (record {
      call = call_kept n c.in-Some.slot.now;
      found = call_found n c.self.invariant found;
      once = b.0;
      given = c.in-Ok.answer;
      in_turn = b.1;
      answer = refl;
      after = state_moved n later c.self.invariant found (c.get_mut.follows.holds later).0 (ap (call_kept n) b.2);
    })
