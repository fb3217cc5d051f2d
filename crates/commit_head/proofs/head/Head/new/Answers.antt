use Rattle.std.proofs.Common.{◌-◌, [], ap, ◌∙◌}
use Rattle.std.specs.Prelude.{vec_capacity, vec_len}
use Rattle.batch_work.specs.Windows.{Window}
use Rattle.version_book.specs.CommittedRows.{VersionState}
use Rattle.commit_head.proofs.Journals.{has_begun}
use Rattle.commit_head.proofs.head.Head.new.Goals as goal

pub invariant_of-result : goal.invariant_of-result
invariant_of-result c =
    let alone : VersionState → Window = λ s. record { older = []; newest = s } in
    has_begun c.args.domain (record { window = c.of.result; kept = c.new.result.items; room = vec_capacity c.new.result - vec_len c.new.result }) (c.of.ensures ∙ ap alone c.in_ok-version.ensures) c.new.ensures.items
