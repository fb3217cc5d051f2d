use Rattle.std.proofs.Common.{[], sym, ◌∙◌, ap, subst}
use Rattle.std.specs.Prelude.{IsTrue}
use Rattle.line_log.specs.Lines.{text_of}
use Rattle.line_log.specs.Log.{HasLines}
use Rattle.line_log.proofs.HashLemmas.{hashed_same}
use Rattle.line_log.proofs.restart.run.Goals as goal

pub returns-in-Ok-clause-read : goal.returns-in-Ok-clause-read
returns-in-Ok-clause-read g c clean lines is =
    let (first, has, first_is, first_text) = c.in-Ok.ensures.opened (subst IsTrue c.append_all-added.ensures.clean clean) in
    first_text ∙ ap text_of (hashed_same [] first lines (sym first_is ∙ is))

pub returns-in-Ok-clause-any_moment : goal.returns-in-Ok-clause-any_moment
returns-in-Ok-clause-any_moment g c clean lines is left may =
    let before = subst IsTrue c.append_all-added.ensures.clean clean in
    let (first, has, first_is, first_text) = c.in-Ok.ensures.opened before in
    let same = hashed_same [] first lines (sym first_is ∙ is) in
    c.append_all-added.ensures.any_moment before lines (subst (λ ls. HasLines g.D.Disk.seen g.D.Disk.may_leave c.in-Ok.log ls) same has) left may
