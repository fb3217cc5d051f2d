use Rattle.std.proofs.Common.{◌≡◌, ◌+◌, ◌∙◌, IfOk, sym, ap, refl, subst, arith}
use mathlib.Core.List.{IsPrefix}
use Rattle.commit_head.specs.Journals.{IsLawfulJournal}
use Rattle.shared_registry.specs.Seated.{MaySeeFound, Seated}
use Rattle.shared_registry.specs.SeatCalls.{AllBelow, calls_of}
use Rattle.shared_registry.proofs.Calls.{calls_same, below_more}
use Rattle.shared_registry.proofs.Prefixes.{prefix_self}
use Rattle.shared_registry.proofs.Results.{ok_any, ok_of}
use Rattle.shared_registry.proofs.seat.Seat.look.Goals as goal
use Rattle.shared_registry.proofs.seat.Seat.look.Goals.{in-Ok, in-Err}

pub invariant_of-self : goal.invariant_of-self
invariant_of-self g c =
    let i = c.self.invariant in
    rw (c.find-found.ensures.same) (i.0, i.1, below_more _ _ _ (omega arith) i.2, c.find-found.ensures.reader, c.find-found.ensures.snapshot)

pub returns-clause-is_unchanged : goal.returns-clause-is_unchanged
returns-clause-is_unchanged g c =
    let is = c.self.view_is in
    rw (c.find-found.ensures.same) (record {
      after_call = record {
        number = ap (λ s. s.number) is;
        calls = ap (λ s. s.calls + 1) is;
        fresh = subst (λ s. AllBelow (c.self.inside.calls + 1) s.own) is c.self.invariant.2;
        lawful = c.len-before.ensures.lawful;
        seen = rw (← is) (prefix_self c.self.inside.view.seen);
        learnt = ap (λ s. s.learnt) is;
        own = refl;
      };
      same = ap (λ s. s.seen) is;
    })

pub returns-clause-found : goal.returns-clause-found
returns-clause-found g c =
    let run = c.self.inside.view in
    let looked = c.find-found.ensures in
    let first = g.J.RegistryId.first in
    let domain = g.J.RegistryId.domain in
    let journal = c.find-found.new.self.snapshot.journal in
    let new : Seated = record { number = run.number; calls = c.self.inside.calls + 1; seen = run.seen; learnt = run.learnt; own = calls_of run.number run.seen; found = journal } in
    rw (c.find-found.ensures.same) (elim c.match-found.branch [
      | in-Ok w ↦
          let same : w.in-Ok.prefix ≡ journal = ok_of _ _ _ w.in-Ok.is looked.found in
          let more : IsPrefix run.seen w.in-Ok.prefix = ok_of _ _ _ w.in-Ok.is looked.seen in
          let learnt : IsPrefix run.learnt w.in-Ok.prefix = ok_of _ _ _ w.in-Ok.is looked.learnt in
          let count = ok_of _ _ _ w.in-Ok.is looked.count in
          let may : MaySeeFound first domain new = record {
            lawful = subst (IsLawfulJournal first domain) same w.len-after.ensures.lawful;
            seen = subst (IsPrefix run.seen) same more;
            learnt = subst (IsPrefix run.learnt) same learnt;
            own = ap (calls_of run.number) (sym same) ∙ calls_same run.number _ _ more (sym (count ∙ c.self.invariant.1));
          } in
          ok_any _ c.match-found.result may
      | in-Err w ↦ subst (λ r. IfOk r (λ _. MaySeeFound first domain new)) (sym w.result-is) tt
    ])
