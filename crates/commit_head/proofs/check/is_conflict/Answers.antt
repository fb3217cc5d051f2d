use Rattle.std.proofs.Common.{◌≡◌, ◌∙◌, IfSome, subst}
use Rattle.commit_head.proofs.Checking.{earlier, hit_since, unhit_since}
use Rattle.commit_head.proofs.Journals.{leads_follow}
use Rattle.commit_head.specs.Journals.{batches_of}
use Rattle.commit_head.proofs.check.is_conflict.Goals as goal

pub returns-in-Some-clause-agree : goal.returns-in-Some-clause-agree
returns-in-Some-clause-agree c = λ items l a e.
    let since : c.in-Some.since.now ≡ items = subst (λ found. IfSome found (λ since. since.now ≡ items)) c.in-Some.is (c.items_since.ensures items l a) in
    unhit_since c.args.marks.now items c.args.older.now c.args.newest.now c.number.ensures.lawful.ascending l
    (hit_since c.args.marks.now c.in-Some.since.now items c.args.older.now c.args.newest.now c.are_hit.result l since c.are_hit.ensures ∙ e)

pub returns-in-Some-clause-hit : goal.returns-in-Some-clause-hit
returns-in-Some-clause-hit c = λ items l a e.
    let since : c.in-Some.since.now ≡ items = subst (λ found. IfSome found (λ since. since.now ≡ items)) c.in-Some.is (c.items_since.ensures items l a) in
    hit_since c.args.marks.now c.in-Some.since.now items c.args.older.now c.args.newest.now c.are_hit.result l since c.are_hit.ensures ∙ e

pub returns-in-None-clause-agree : goal.returns-in-None-clause-agree
returns-in-None-clause-agree c = λ items l a e. c.are_changed.ensures.agree (earlier items c.args.older.now c.args.newest.now l) e

pub returns-in-None-clause-hit : goal.returns-in-None-clause-hit
returns-in-None-clause-hit c = λ items l a e. c.are_changed.ensures.hit (batches_of items) (leads_follow items c.args.older.now c.args.newest.now l) e
