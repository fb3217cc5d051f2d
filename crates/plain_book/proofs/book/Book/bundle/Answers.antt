use Rattle.std.proofs.Common.{ap, ◌∙◌}
use Rattle.std.specs.Prelude.{filter, bytes_eq}
use Rattle.entry_book.specs.Order.{first}
use Rattle.entry_book.specs.Book.{bundle_at}
use Rattle.plain_book.proofs.book.Book.bundle.Goals as goal

pub returns : goal.returns
returns c =
    c.row.ensures
    ∙ (ap (λ k. first (filter (λ bundle. bytes_eq bundle.domain k) c.self.inside.bundles)) (c.as_bytes.ensures.value ∙ c.as_str.ensures.text)
    ∙ ap (bundle_at c.args.domain.now) c.self.view_is)
