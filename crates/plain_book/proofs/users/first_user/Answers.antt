use Rattle.std.proofs.Common.{ap, ◌∙◌}
use Rattle.std.specs.Prelude.{filter}
use Rattle.std.proofs.lemmas.List.Elements.{filter-append}
use Rattle.entry_book.specs.Order.{first}
use Rattle.entry_book.specs.Book.{names}
use Rattle.plain_book.proofs.Cuts.{found_here, not_here}
use Rattle.plain_book.proofs.users.first_user.Goals as goal

pub returns-in-Some : goal.returns-in-Some
returns-in-Some c =
    let search = filter (names c.args.domain.now) in
    let found = c.in-Some.ensures ∙ ap (λ l. first (search l)) (c.as_slice.ensures ∙ c.get.ensures) in
    found_here search (filter-append (names c.args.domain.now)) c.args.blocks.now c.loop-block.block-index c.block-item.result c.loop-block-test.true c.block-item.is c.in-Some.user.now found ∙ c.loop-block.invariant

pub loop-block-preserved : goal.loop-block-preserved
loop-block-preserved c =
    let search = filter (names c.args.domain.now) in
    let none = c.in-None.ensures ∙ ap (λ l. first (search l)) (c.as_slice.ensures ∙ c.get.ensures) in
    not_here search (filter-append (names c.args.domain.now)) c.args.blocks.now c.loop-block.block-index c.block-item.result c.loop-block-test.true c.block-item.is none ∙ c.loop-block.invariant
