use Rattle.std.proofs.Common.{sym, subst, ◌∙◌, inl, arith}
use Rattle.entry_book.specs.Batches.{IsMadeFor}
use Rattle.call_machine.specs.Machine.{is_ready}
use Rattle.call_machine.specs.Kept.{head_domain}
use Rattle.call_machine.proofs.Changed.{commits_kept, holds_on, invariant_unchanged, holds_unchanged, refused_slot, refused_unknown, rests_found, state_unchanged_there, state_unchanged}
use Rattle.call_machine.proofs.Counts.{has_room, more_decided}
use Rattle.call_machine.proofs.machine.Machine.commit.Goals as goal

pub overflow_add-turn : goal.overflow_add-turn
overflow_add-turn c = let room = has_room c.self.invariant in omega arith

pub returns-in_default-clause-err : goal.returns-in_default-clause-err
returns-in_default-clause-err c = inl (refused_unknown c.args.number (λ d. is_ready d.stage) c.self.invariant c.self.view_is (sym c.in_default.ensures.value))

pub returns-in-Err-clause-err : goal.returns-in-Err-clause-err
returns-in-Err-clause-err c = refused_slot c.args.number (λ d. is_ready d.stage) c.self.invariant c.self.view_is (sym c.in-Some.ensures.value) c.in-Err.ensures.err

pub invariant_of-self-in-Err : goal.invariant_of-self-in-Err
invariant_of-self-in-Err c = holds_unchanged c.args.number c.commit.new.self (invariant_unchanged c.self.invariant c.in-Err.ensures.head_unchanged) (sym c.in-Some.ensures.value) (c.get_mut.follows.holds c.commit.new.self).0 c.in-Err.ensures.is_unchanged

pub returns-in-Err-clause-is_unchanged : goal.returns-in-Err-clause-is_unchanged
returns-in-Err-clause-is_unchanged c =
    state_unchanged c.args.number c.commit.new.self (invariant_unchanged c.self.invariant c.in-Err.ensures.head_unchanged) (sym c.in-Some.ensures.value) (c.get_mut.follows.holds c.commit.new.self).0 c.in-Err.ensures.is_unchanged
    ∙ (state_unchanged_there c.self.inside.count c.self.inside.calls.entries c.in-Err.ensures.head_unchanged ∙ c.self.view_is)

pub commit-requires-clause-whole : goal.commit-requires-clause-whole
commit-requires-clause-whole c = c.self.invariant.whole

pub commit-requires-clause-rests : goal.commit-requires-clause-rests
commit-requires-clause-rests c = rests_found c.args.number c.self.invariant (sym c.in-Some.ensures.value)

pub invariant_of-self-2 : goal.invariant_of-self-2
invariant_of-self-2 c =
    let h = c.self.inside.head in
    let found = sym c.in-Some.ensures.value in
    let d = c.in-Ok.ensures.ok in
    holds_on c.args.number c.commit.new.self c.self.invariant found (c.get_mut.follows.holds c.commit.new.self).0 d.extends
    (subst (IsMadeFor (head_domain h)) (sym d.batch) (rests_found c.args.number c.self.invariant found).made) d.over
    (more_decided h c.commit.new.head c.in-Some.slot.now c.commit.new.self _ _ _ d)

pub returns-clause-ok : goal.returns-clause-ok
returns-clause-ok c = rw (← c.self.view_is) (commits_kept c.args.number c.commit.new.self c.self.invariant (sym c.in-Some.ensures.value) (c.get_mut.follows.holds c.commit.new.self).0 c.in-Ok.ensures.ok)
