use Rattle.std.proofs.Common.{◌≡◌, ◌++◌, ◌&&◌, Bool, List, not, ap, ◌∙◌}
use Rattle.std.specs.Prelude.{filter, bytes_eq}
use Rattle.std.proofs.lemmas.List.Elements.{filter-append}
use Rattle.spiffe_name.specs.SelectorSet.{set_eq}
use Rattle.entry_book.specs.declared.entry.NewEntry.{NewEntry}
use Rattle.entry_book.specs.Rows.{Entry}
use Rattle.entry_book.specs.Order.{first}
use Rattle.entry_book.specs.Book.{in_group}
use Rattle.plain_book.proofs.Cuts.{found_here, not_here}
use Rattle.plain_book.proofs.find.first_similar.Goals as goal

abbrev search : NewEntry → List Entry → List Entry
search new es = filter (λ entry. set_eq entry.selectors new.selectors && not (bytes_eq entry.id new.id)) (filter (in_group new.parent new.identity) es)

parts : (new : NewEntry) (xs ys : List Entry) → search new (xs ++ ys) ≡ search new xs ++ search new ys
parts new xs ys =
    let alike : Entry → Bool = λ entry. set_eq entry.selectors new.selectors && not (bytes_eq entry.id new.id) in
    ap (filter alike) (filter-append (in_group new.parent new.identity) xs ys) ∙ filter-append alike (filter (in_group new.parent new.identity) xs) (filter (in_group new.parent new.identity) ys)

pub returns-in-Some : goal.returns-in-Some
returns-in-Some c =
    let new = c.args.new.now in
    let found = c.in-Some.ensures ∙ ap (λ l. first (search new l)) (c.as_slice.ensures ∙ c.get.ensures) in
    found_here (search new) (parts new) c.args.blocks.now c.loop-block.block-index c.block-item.result c.loop-block-test.true c.block-item.is c.in-Some.other.now found ∙ c.loop-block.invariant

pub loop-block-preserved : goal.loop-block-preserved
loop-block-preserved c =
    let new = c.args.new.now in
    let none = c.in-None.ensures ∙ ap (λ l. first (search new l)) (c.as_slice.ensures ∙ c.get.ensures) in
    not_here (search new) (parts new) c.args.blocks.now c.loop-block.block-index c.block-item.result c.loop-block-test.true c.block-item.is none ∙ c.loop-block.invariant
