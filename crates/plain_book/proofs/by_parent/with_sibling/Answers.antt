use Rattle.std.proofs.Common.{subst}
use Rattle.std.proofs.lemmas.Result.{IfOk-weaker}
use Rattle.plain_book.specs.Siblings.{ChangesAt}
use Rattle.plain_book.proofs.by_parent.with_sibling.Goals as goal

pub returns : goal.returns
returns c = IfOk-weaker c.with_siblings.result _ _ (λ new h.
    subst (λ es. ChangesAt c.args.entry.now.parent es c.args.all.now new) c.in_ok-entries.ensures
    (subst (λ p. ChangesAt p c.in_ok-entries.entries c.args.all.now new) c.parent.ensures h)) c.with_siblings.ensures
