use Rattle.std.proofs.Common.{◌+◌, refl, sym, ap, subst, ◌∙◌}
use Rattle.entry_book.specs.Batches.{IsMadeFor}
use Rattle.version_book.specs.Applying.{MayApply}
use Rattle.version_book.specs.Written.{placed}
use Rattle.entry_book.specs.Limits.{limit_passed}
use Rattle.version_book.specs.CommittedRows.{book_of, next_state}
use Rattle.batch_work.specs.Working.{HasReplies}
use Rattle.commit_head.specs.declared.item.Item.{Item}
use Rattle.commit_head.proofs.Preparing.{due, fits, full, made_there, may, validated}
use Rattle.commit_head.proofs.prepare.prepare_commit.Goals as goal

pub returns-then-is_conflict-clause-refused : goal.returns-then-is_conflict-clause-refused
returns-then-is_conflict-clause-refused c =
    let made = made_there c.args.newest.now c.args.work.now.batch c.requires.domain (subst (λ b. IsMadeFor b.domain b) c.batch.ensures c.ops.ensures.made) in
    (refl, due c.args.newest.now c.args.kept.now c.args.work.now made c.requires.ready c.in-Some.base.now (sym c.in-Some.ensures) c.marks.result.now c.marks.ensures.marks (λ items l a. c.is_conflict.ensures.hit items l a c.if-is_conflict.true))

pub apply-requires : goal.apply-requires
apply-requires c =
    let made = made_there c.args.newest.now c.args.work.now.batch c.requires.domain (subst (λ b. IsMadeFor b.domain b) c.batch.ensures c.ops.ensures.made) in
    record {
      may = subst (λ n. MayApply (placed (n + 1) c.changes-changes.result.now) (n + 1) c.args.newest.now) (sym c.number-place.ensures.number)
          (may c.args.newest.now c.args.kept.now c.args.work.now made c.requires.ready c.number-place.ensures.lawful c.requires.within c.requires.began c.changes-changes.result.now (c.changes-changes.ensures c.requires.ready) c.in-Some.base.now (sym c.in-Some.ensures) c.number.ensures.lawful.ascending c.marks.result.now c.marks.ensures.marks (λ items l a. c.is_conflict.ensures.agree items l a c.if-is_conflict.false));
    }

pub returns-in-Some-limit_of-clause-refused : goal.returns-in-Some-limit_of-clause-refused
returns-in-Some-limit_of-clause-refused c =
    let made = made_there c.args.newest.now c.args.work.now.batch c.requires.domain (subst (λ b. IsMadeFor b.domain b) c.batch.ensures c.ops.ensures.made) in
    let version = c.in_ok-version.ensures ∙ ap (λ n. next_state (placed (n + 1) c.changes-changes.result.now) c.args.newest.now) c.number-place.ensures.number in (
      refl,
      full c.args.newest.now c.args.kept.now c.args.work.now made c.requires.ready c.number-place.ensures.lawful c.requires.within c.requires.began c.changes-changes.result.now (c.changes-changes.ensures c.requires.ready) c.in-Some.base.now (sym c.in-Some.ensures) c.number.ensures.lawful.ascending c.marks.result.now c.marks.ensures.marks (λ items l a. c.is_conflict.ensures.agree items l a c.if-is_conflict.false)
          c.in_ok-version.version version c.in-Some-limit_of.limit (sym c.in-Some-limit_of.is ∙ (c.limit_of.ensures ∙ ap (λ n. limit_passed n (book_of c.in_ok-version.version.rows)) c.number-place.ensures.number)),
    )

pub returns-clause-validated : goal.returns-clause-validated
returns-clause-validated c =
    let made = made_there c.args.newest.now c.args.work.now.batch c.requires.domain (subst (λ b. IsMadeFor b.domain b) c.batch.ensures c.ops.ensures.made) in
    validated c.args.newest.now c.args.kept.now c.args.work.now made c.requires.ready c.requires.began c.in-Some.base.now (sym c.in-Some.ensures) c.marks.result.now c.marks.ensures.marks (λ items l a. c.is_conflict.ensures.agree items l a c.if-is_conflict.false)

pub returns-clause-goes : goal.returns-clause-goes
returns-clause-goes c =
    let made = made_there c.args.newest.now c.args.work.now.batch c.requires.domain (subst (λ b. IsMadeFor b.domain b) c.batch.ensures c.ops.ensures.made) in
    let version = c.in_ok-version.ensures ∙ ap (λ n. next_state (placed (n + 1) c.changes-changes.result.now) c.args.newest.now) c.number-place.ensures.number in
    fits c.args.newest.now c.args.kept.now c.args.work.now made c.requires.ready c.number-place.ensures.lawful c.requires.within c.requires.began c.changes-changes.result.now (c.changes-changes.ensures c.requires.ready) c.in-Some.base.now (sym c.in-Some.ensures) c.number.ensures.lawful.ascending c.marks.result.now c.marks.ensures.marks (λ items l a. c.is_conflict.ensures.agree items l a c.if-is_conflict.false)
    c.in_ok-version.version version (sym c.in_default-limit_of.is ∙ (c.limit_of.ensures ∙ ap (λ n. limit_passed n (book_of c.in_ok-version.version.rows)) c.number-place.ensures.number)) c.in_ok-item.item
    (ap (λ (i : Item). i.batch) c.in_ok-item.ensures ∙ c.batch-2.ensures)
    (subst (HasReplies c.args.work.now) (sym (ap (λ (i : Item). i.replies) c.in_ok-item.ensures)) c.in-Some-replies.ensures.replies)
    (ap (λ (i : Item). i.changes) c.in_ok-item.ensures)
