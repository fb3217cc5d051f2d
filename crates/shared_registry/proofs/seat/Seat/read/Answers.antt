use Rattle.std.proofs.Common.{◌∙◌, sym, ap, subst, IfOk}
use mathlib.Core.List.{IsPrefix}
use Rattle.entry_book.specs.Batches.{IsMadeFor}
use Rattle.shared_registry.specs.Seated.{Seated}
use Rattle.shared_registry.specs.ShownPrivate.{ShowsJournal}
use Rattle.shared_registry.specs.Works.{IsAtEnd, IsRead}
use Rattle.shared_registry.proofs.Calls.{calls_same}
use Rattle.shared_registry.proofs.Results.{ok_any, ok_of}
use Rattle.shared_registry.proofs.seat.Seat.read.Goals.{in-Ok-run_work, in-Err-run_work}
use Rattle.shared_registry.proofs.seat.Seat.read.Goals as goal

pub invariant_of-self-2 : goal.invariant_of-self-2
invariant_of-self-2 g c =
    let i = c.self.invariant in
    let count = ok_of _ _ _ c.in-Ok.is c.find-found.ensures.count in
    let more : IsPrefix c.self.inside.view.seen c.in-Ok.prefix = ok_of _ _ _ c.in-Ok.is c.find-found.ensures.seen in
    let same = calls_same c.self.inside.view.number _ _ more (sym (count ∙ i.1)) in
    rw (c.find-found.ensures.same) (i.0, sym count, rw same i.2, c.find-found.ensures.reader, c.find-found.ensures.snapshot)

pub returns-clause-own : goal.returns-clause-own
returns-clause-own g c =
    let count = ok_of _ _ _ c.in-Ok.is c.find-found.ensures.count in
    let more : IsPrefix c.self.inside.view.seen c.in-Ok.prefix = ok_of _ _ _ c.in-Ok.is c.find-found.ensures.seen in
    rw (c.find-found.ensures.same) (calls_same c.self.inside.view.number _ _ more (sym (count ∙ c.self.invariant.1)) ∙ ap (λ s. s.own) c.self.view_is)

pub returns-clause-during_call : goal.returns-clause-during_call
returns-clause-during_call g c =
    let is = c.self.view_is in
    let more : IsPrefix c.self.inside.view.seen c.in-Ok.prefix = ok_of _ _ _ c.in-Ok.is c.find-found.ensures.seen in
    rw (c.find-found.ensures.same) (record {
      number = ap (λ s. s.number) is;
      calls = ap (λ s. s.calls) is;
      learnt = ap (λ s. s.learnt) is;
      seen = subst (λ (s : Seated). IsPrefix s.seen c.in-Ok.prefix) is more;
    })

pub returns-clause-seen_learnt : goal.returns-clause-seen_learnt
returns-clause-seen_learnt g c =
    let learnt : IsPrefix c.self.inside.view.learnt c.in-Ok.prefix = ok_of _ _ _ c.in-Ok.is c.find-found.ensures.learnt in
    let seen_learnt : IsPrefix c.args.self.now.learnt c.in-Ok.prefix = subst (λ l. IsPrefix l c.in-Ok.prefix) (ap (λ s. s.learnt) c.self.view_is) learnt in
    ok_any _ c.match-run_work.result seen_learnt

pub returns-clause-read : goal.returns-clause-read
returns-clause-read g c = elim c.match-run_work.branch [
  | in-Ok-run_work w ↦ subst (λ r. IfOk r (IsRead g.J.RegistryId.first g.J.RegistryId.domain c.in-Ok.prefix c.args.batch)) (sym w.result-is) (record {
    snapshot = c.find-found.new.self.snapshot;
    made = subst (λ d. IsMadeFor d c.args.batch) c.requires.domain c.ops-made.ensures.made;
    shows = subst (λ l. ShowsJournal g.J.RegistryId.first g.J.RegistryId.domain l c.find-found.new.self.snapshot.window) (sym (ok_of _ _ _ c.in-Ok.is c.find-found.ensures.found)) c.find-found.ensures.snapshot.shows;
    at_end = subst (λ b. IsAtEnd b c.find-found.new.self.snapshot w.in-Ok-run_work.work) c.in-Ok-begin_work.ensures.batch_is w.in-Ok-run_work.ensures;
  })
  | in-Err-run_work w ↦ subst (λ r. IfOk r (IsRead g.J.RegistryId.first g.J.RegistryId.domain c.in-Ok.prefix c.args.batch)) (sym w.result-is) tt
]
