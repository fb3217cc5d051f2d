use Rattle.std.proofs.Common.{◌++◌, ap, ◌∙◌}
use Rattle.batch_work.specs.Questions.{bundles_at}
use Rattle.batch_work.specs.Windows.{book_in}
use Rattle.batch_work.proofs.TrustedBundles.{named_bundles}
use Rattle.batch_work.proofs.read_only.authorised.bundles_of.Goals as goal

pub returns : goal.returns
returns c =
    let b = book_in c.args.version.now in
    c.in_ok-push_bundles.ensures
    ∙ (ap (λ l. l ++ bundles_at b c.as_slice.result.now) c.new-found.ensures.items
    ∙ (ap (bundles_at b) (c.as_slice.ensures.value ∙ c.in_ok-domains.ensures)
    ∙ named_bundles c.args.entries.now b c.number.ensures.lawful.ascending.bundles))
