use Rattle.std.proofs.Common.{◌++◌, ap, ◌∙◌}
use Rattle.std.specs.Prelude.{option_to_list}
use Rattle.batch_work.specs.Windows.{book_in}
use Rattle.batch_work.proofs.Questions.{bundles_more}
use Rattle.batch_work.proofs.read_only.authorised.push_bundles.Goals as goal

pub loop-domain-preserved : goal.loop-domain-preserved
loop-domain-preserved c =
    let b = book_in c.args.version.now in
    bundles_more b c.number.ensures.lawful.ascending.bundles c.args.domains.now c.loop-domain.domain-index c.domain-item.result c.loop-domain.found.items c.push_bundle.new.found.items c.loop-domain-test.true c.domain-item.is
    (c.in_ok-push_bundle.ensures ∙ ap (λ o. c.loop-domain.found.items ++ option_to_list o) c.bundle.ensures)
    ∙ c.loop-domain.invariant
