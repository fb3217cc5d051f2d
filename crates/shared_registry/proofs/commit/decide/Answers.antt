use Rattle.std.proofs.Common.{◌≡◌, ◌≢◌, ◌<◌, ◌++◌, ◌∷◌, [], List, length, length-append, refl, sym, ap, subst, ◌∙◌, arith}
use mathlib.Core.List.{IsPrefix}
use Rattle.commit_head.specs.declared.item.Item.{Item}
use Rattle.commit_head.specs.Journals.{IsLawfulJournal}
use Rattle.shared_registry.specs.OutcomesPrivate.{IsCommitThere}
use Rattle.shared_registry.specs.WriterStates.{IsPublished, IsTied}
use Rattle.shared_registry.specs.Seated.{Seated}
use Rattle.shared_registry.specs.SeatCalls.{AllBelow, calls_of}
use Rattle.shared_registry.specs.ShownPrivate.{IsCounted, ShowsJournal}
use Rattle.shared_registry.specs.Shown.{Shown}
use Rattle.shared_registry.proofs.Committing.{journal_low, lawful_more, next_fits, place_is, refused_there, shown_there, shows_more, tied_more, tied_unchanged}
use Rattle.shared_registry.proofs.Overtaken.{began}
use Rattle.shared_registry.proofs.Tries.{during_call_joined, during_call_replaced}
use Rattle.shared_registry.proofs.commit.decide.Goals as goal

-- ---- not let in

pub returns-then-not-has_own-clause-tied : goal.returns-then-not-has_own-clause-tied
returns-then-not-has_own-clause-tied g c = subst (λ l. IsTied g.J.RegistryId.first g.J.RegistryId.domain l c.args.head.now) (sym (c.has_all-2.ensures.same ∙ c.has_all.ensures.same)) c.requires.tied

pub returns-then-not-has_own-clause-published : goal.returns-then-not-has_own-clause-published
returns-then-not-has_own-clause-published g c = subst (λ l. IsPublished g.J.RegistryId.history g.J.RegistryId.first g.J.RegistryId.domain l c.args.writer.desk.shown.value) (sym (c.has_all-2.ensures.same ∙ c.has_all.ensures.same)) c.requires.published

pub returns-then-not-has_own-clause-no_entry : goal.returns-then-not-has_own-clause-no_entry
returns-then-not-has_own-clause-no_entry g c =
    let log = ap (λ (p : Shown). p.journal) c.published-published.ensures ∙ c.requires.published.journal_is in
    subst (λ l. calls_of c.args.seat.now.number l ≢ c.args.seat.now.own) log c.if-not-has_own.ensures

-- ---- not committed, or committed

pub prepare-requires-clause-began : goal.prepare-requires-clause-began
prepare-requires-clause-began g c =
    let pre = subst (λ (l : List Item). IsPrefix l c.args.history.now) c.prefix.ensures c.has_all.ensures.all in
    began g.J.RegistryId.first g.J.RegistryId.domain c.args.seat.now.seen c.args.history.now c.args.work.now.batch c.args.work.now c.args.head.now c.requires.read pre c.requires.tied

pub returns-in-Err-clause-tied : goal.returns-in-Err-clause-tied
returns-in-Err-clause-tied g c =
    let tied = tied_unchanged g.J.RegistryId.first g.J.RegistryId.domain c.args.history.now c.args.head.now c.prepare.new.self c.requires.tied c.prepare.ensures.is_unchanged in
    subst (λ l. IsTied g.J.RegistryId.first g.J.RegistryId.domain l c.prepare.new.self) (sym (c.has_all-2.ensures.same ∙ c.has_all.ensures.same)) tied

pub returns-in-Err-clause-decided : goal.returns-in-Err-clause-decided
returns-in-Err-clause-decided g c =
    let pre = subst (λ (l : List Item). IsPrefix l c.args.history.now) c.prefix.ensures c.has_all.ensures.all in
    subst (λ l. IsCommitThere g.J.RegistryId.first c.args.history.now l c.args.seat.now c.see.new.self c.args.work.now c.in-Err.refusal) (sym (c.has_all-2.ensures.same ∙ c.has_all.ensures.same))
    (refused_there g.J.RegistryId.first g.J.RegistryId.domain c.args.history.now c.args.seat.now c.see.new.self c.args.work.now c.args.head.now c.in-Err.refusal c.requires.read c.requires.ready pre c.requires.tied
    (record { same = refl; seen = c.see.ensures.seen ∙ c.prefix-before_it.ensures; own = c.see.ensures.own })
    c.in-Err.ensures.refused)

pub returns-in-Err-clause-published : goal.returns-in-Err-clause-published
returns-in-Err-clause-published g c = subst (λ l. IsPublished g.J.RegistryId.history g.J.RegistryId.first g.J.RegistryId.domain l c.args.writer.desk.shown.value) (sym (c.has_all-2.ensures.same ∙ c.has_all.ensures.same)) c.requires.published

pub returns-in_default-clause-published : goal.returns-in_default-clause-published
returns-in_default-clause-published g c = subst (λ l. IsPublished g.J.RegistryId.history g.J.RegistryId.first g.J.RegistryId.domain l c.args.writer.desk.shown.value) (sym (c.has_all-2.ensures.same ∙ c.has_all.ensures.same)) c.requires.published

pub published_states_with-requires-clause-fits : goal.published_states_with-requires-clause-fits
published_states_with-requires-clause-fits g c =
    let log = ap (λ (p : Shown). p.journal) c.published-published.ensures ∙ c.requires.published.journal_is in
    let tied = tied_unchanged g.J.RegistryId.first g.J.RegistryId.domain c.args.history.now c.args.head.now c.prepare.new.self c.requires.tied c.prepare.ensures.is_unchanged in
    let shows : ShowsJournal g.J.RegistryId.first g.J.RegistryId.domain c.args.history.now c.published-published.result.now.window = shown_there g.J.RegistryId.history g.J.RegistryId.first g.J.RegistryId.domain c.args.history.now _ _ c.published-published.ensures c.requires.published in
    next_fits g.J.RegistryId.first g.J.RegistryId.domain c.args.history.now c.prepare.new.self c.published-published.result.now.window c.in-Ok.prepared tied shows c.in-Ok.ensures.fits.goes

pub returns-in_default-clause-tied : goal.returns-in_default-clause-tied
returns-in_default-clause-tied g c =
    let tied = tied_unchanged g.J.RegistryId.first g.J.RegistryId.domain c.args.history.now c.args.head.now c.prepare.new.self c.requires.tied c.prepare.ensures.is_unchanged in
    subst (λ l. IsTied g.J.RegistryId.first g.J.RegistryId.domain l c.prepare.new.self) (sym (c.has_all-2.ensures.same ∙ c.has_all.ensures.same)) tied

pub append-requires-clause-room : goal.append-requires-clause-room
append-requires-clause-room g c =
    let tied = tied_unchanged g.J.RegistryId.first g.J.RegistryId.domain c.args.history.now c.args.head.now c.prepare.new.self c.requires.tied c.prepare.ensures.is_unchanged in
    let low = journal_low g.J.RegistryId.first g.J.RegistryId.domain c.args.history.now c.prepare.new.self tied in
    let same = ap length (c.has_all-2.ensures.same ∙ c.has_all.ensures.same) in
    omega arith

pub append-requires-clause-lawful : goal.append-requires-clause-lawful
append-requires-clause-lawful g c =
    let log = ap (λ (p : Shown). p.journal) c.published-published.ensures ∙ c.requires.published.journal_is in
    let tied = tied_unchanged g.J.RegistryId.first g.J.RegistryId.domain c.args.history.now c.args.head.now c.prepare.new.self c.requires.tied c.prepare.ensures.is_unchanged in
    let of_work = c.in-Ok.ensures.of_work in
    let own = sym (c.if-not-has_own.ensures) ∙ ap (calls_of c.args.seat.now.number) log in
    let below = subst (AllBelow c.args.seat.now.calls) own c.requires.call in
    let lawful = lawful_more g.J.RegistryId.first g.J.RegistryId.domain c.args.history.now c.in-Ok.prepared.item c.prepare.new.self c.args.seat.now.number c.args.seat.now.calls tied (subst (IsLawfulJournal g.J.RegistryId.first g.J.RegistryId.domain) c.prefix-before_it.ensures c.len-place.ensures.lawful) c.in-Ok.ensures.fits.goes.joins (of_work.seat_is ∙ c.number.ensures.0) (of_work.call_is ∙ c.calls.ensures) below in
    let same : c.has_all-2.new.self ++ c.item.result.now ∷ [] ≡ c.args.history.now ++ c.in-Ok.prepared.item ∷ [] = λ i. (c.has_all-2.ensures.same ∙ c.has_all.ensures.same) i ++ c.item.ensures i ∷ [] in
    subst (IsLawfulJournal g.J.RegistryId.first g.J.RegistryId.domain) (sym same) lawful

pub snapshots-snapshot-requires-clause-shows : goal.snapshots-snapshot-requires-clause-shows
snapshots-snapshot-requires-clause-shows g c =
    let log = ap (λ (p : Shown). p.journal) c.published-published.ensures ∙ c.requires.published.journal_is in
    let tied = tied_unchanged g.J.RegistryId.first g.J.RegistryId.domain c.args.history.now c.args.head.now c.prepare.new.self c.requires.tied c.prepare.ensures.is_unchanged in
    let shows : ShowsJournal g.J.RegistryId.first g.J.RegistryId.domain c.args.history.now c.published-published.result.now.window = shown_there g.J.RegistryId.history g.J.RegistryId.first g.J.RegistryId.domain c.args.history.now _ _ c.published-published.ensures c.requires.published in
    let of_work = c.in-Ok.ensures.of_work in
    let own = sym (c.if-not-has_own.ensures) ∙ ap (calls_of c.args.seat.now.number) log in
    let below = subst (AllBelow c.args.seat.now.calls) own c.requires.call in
    let lawful = lawful_more g.J.RegistryId.first g.J.RegistryId.domain c.args.history.now c.in-Ok.prepared.item c.prepare.new.self c.args.seat.now.number c.args.seat.now.calls tied (subst (IsLawfulJournal g.J.RegistryId.first g.J.RegistryId.domain) c.prefix-before_it.ensures c.len-place.ensures.lawful) c.in-Ok.ensures.fits.goes.joins (of_work.seat_is ∙ c.number.ensures.0) (of_work.call_is ∙ c.calls.ensures) below in
    let whole : c.append.new.self ≡ c.args.history.now ++ c.in-Ok.prepared.item ∷ [] = c.append.ensures ∙ (λ i. (c.has_all-2.ensures.same ∙ c.has_all.ensures.same) i ++ c.item.ensures i ∷ []) in
    let goes = next_fits g.J.RegistryId.first g.J.RegistryId.domain c.args.history.now c.prepare.new.self c.published-published.result.now.window c.in-Ok.prepared tied shows c.in-Ok.ensures.fits.goes in
    let published_state = c.in-Ok-published_states_with.published_states.0 in
    subst (λ l. ShowsJournal g.J.RegistryId.first g.J.RegistryId.domain l published_state.window) (sym (c.prefix-prefix.ensures ∙ whole)) (shows_more g.J.RegistryId.first g.J.RegistryId.domain c.args.history.now c.in-Ok.prepared c.published-published.result.now.window published_state.window shows goes c.in-Ok-published_states_with.ensures.window lawful)

pub snapshots-snapshot-requires-clause-counted : goal.snapshots-snapshot-requires-clause-counted
snapshots-snapshot-requires-clause-counted g c =
    let log = ap (λ (p : Shown). p.journal) c.published-published.ensures ∙ c.requires.published.journal_is in
    let whole : c.append.new.self ≡ c.args.history.now ++ c.in-Ok.prepared.item ∷ [] = c.append.ensures ∙ (λ i. (c.has_all-2.ensures.same ∙ c.has_all.ensures.same) i ++ c.item.ensures i ∷ []) in
    let counts = c.in-Ok-published_states_with.published_states.0.counts in
    subst (IsCounted counts) (sym (c.prefix-prefix.ensures ∙ whole)) (subst (λ l. IsCounted counts (l ++ c.in-Ok.prepared.item ∷ [])) log c.in-Ok-published_states_with.ensures.counts)

pub see-requires-2-clause-seen : goal.see-requires-2-clause-seen
see-requires-2-clause-seen g c =
    let pre = subst (λ (l : List Item). IsPrefix l c.args.history.now) c.prefix.ensures c.has_all.ensures.all in
    subst (IsPrefix c.args.seat.now.seen) (sym c.prefix-before_it.ensures) pre

pub returns-clause-tied : goal.returns-clause-tied
returns-clause-tied g c =
    let few = subst (λ (l : List Item). length l < 4096) (sym c.prepare.ensures.is_unchanged.kept) c.requires.few in
    let tied = tied_unchanged g.J.RegistryId.first g.J.RegistryId.domain c.args.history.now c.args.head.now c.prepare.new.self c.requires.tied c.prepare.ensures.is_unchanged in
    let whole : c.append.new.self ≡ c.args.history.now ++ c.in-Ok.prepared.item ∷ [] = c.append.ensures ∙ (λ i. (c.has_all-2.ensures.same ∙ c.has_all.ensures.same) i ++ c.item.ensures i ∷ []) in
    subst (λ l. IsTied g.J.RegistryId.first g.J.RegistryId.domain l c.finish-place.new.self) (sym whole) (tied_more g.J.RegistryId.first g.J.RegistryId.domain c.args.history.now c.in-Ok.prepared.item c.prepare.new.self c.finish-place.new.self tied c.in-Ok.ensures.fits.goes.joins c.finish-place.ensures.appended few)

pub returns-clause-during_call : goal.returns-clause-during_call
returns-clause-during_call g c =
    let during_call = during_call_joined c.args.seat.now c.see-2.new.self c.see_own.new.self c.see-2.ensures.during_call c.see_own.ensures.during_call in
    during_call_replaced c.args.seat.now c.see_own.new.self c.replace_snapshot-before.new.self _ during_call c.replace_snapshot-before.ensures

pub returns-clause-decided : goal.returns-clause-decided
returns-clause-decided g c =
    let tied = tied_unchanged g.J.RegistryId.first g.J.RegistryId.domain c.args.history.now c.args.head.now c.prepare.new.self c.requires.tied c.prepare.ensures.is_unchanged in
    let whole : c.append.new.self ≡ c.args.history.now ++ c.in-Ok.prepared.item ∷ [] = c.append.ensures ∙ (λ i. (c.has_all-2.ensures.same ∙ c.has_all.ensures.same) i ++ c.item.ensures i ∷ []) in
    let of_work = c.in-Ok.ensures.of_work in record {
      item = c.in-Ok.prepared.item;
      whole = whole;
      seat = of_work.seat_is ∙ c.number.ensures.0;
      call = of_work.call_is ∙ c.calls.ensures;
      batch_is = of_work.batch_is;
      replies = of_work.replies;
      place =
          let n = c.finish-place.ensures.number in
          let m = place_is g.J.RegistryId.first g.J.RegistryId.domain c.args.history.now c.prepare.new.self tied in
          let l = ap length whole in
          let k = length-append c.args.history.now (c.in-Ok.prepared.item ∷ []) in
          omega arith;
      seen = ap (λ (s : Seated). s.seen) c.replace_snapshot-before.ensures ∙ (c.see_own.ensures.seen ∙ c.prefix-prefix.ensures);
      own = ap (λ (s : Seated). s.own) c.replace_snapshot-before.ensures ∙ (c.see_own.ensures.own ∙ (λ i. c.see-2.ensures.own i ++ c.see-2.ensures.during_call.calls i ∷ []));
      found = ap (λ (s : Seated). s.found) c.replace_snapshot-before.ensures ∙ (ap (λ (p : Shown). p.journal) c.snapshots-snapshot.ensures.same ∙ (c.snapshots-snapshot.ensures.journal ∙ c.prefix-prefix.ensures));
    }
