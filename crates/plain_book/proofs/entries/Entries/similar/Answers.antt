use Rattle.std.proofs.Common.{◌&&◌, Bool, not, ap, ◌∙◌}
use Rattle.std.specs.Prelude.{filter, bytes_eq}
use Rattle.spiffe_name.specs.SelectorSet.{set_eq}
use Rattle.entry_book.specs.Rows.{Entry}
use Rattle.entry_book.specs.Order.{first}
use Rattle.entry_book.specs.Book.{in_group}
use Rattle.plain_book.proofs.Parents.{at_no_parent, at_parent, group_among}
use Rattle.plain_book.proofs.entries.Entries.similar.Goals as goal

pub returns-in-Some : goal.returns-in-Some
returns-in-Some c =
    let new = c.args.new.now in
    let alike : Entry → Bool = λ entry. set_eq entry.selectors new.selectors && not (bytes_eq entry.id new.id) in
    let key = c.as_bytes.ensures.value ∙ (c.as_str.ensures.text ∙ c.get.ensures) in
    let found = at_parent c.as_bytes.result.now new.parent c.self.inside.by_id c.self.inside.by_parent c.in-Some.siblings.now key c.self.invariant.1 c.in-Some.ensures in
    c.first_similar.ensures
    ∙ ap (λ l. first (filter alike l)) (ap (filter (in_group new.parent new.identity)) (c.blocks-in-Some.ensures.rows ∙ found) ∙ (group_among new.parent new.identity c.self.inside.by_id ∙ ap (filter (in_group new.parent new.identity)) c.self.view_is))

pub returns-in-None : goal.returns-in-None
returns-in-None c =
    let new = c.args.new.now in
    let alike : Entry → Bool = λ entry. set_eq entry.selectors new.selectors && not (bytes_eq entry.id new.id) in
    let key = c.as_bytes.ensures.value ∙ (c.as_str.ensures.text ∙ c.get.ensures) in
    let none = at_no_parent c.as_bytes.result.now new.parent c.self.inside.by_id c.self.inside.by_parent key c.self.invariant.1 c.in-None.ensures in
    ap (λ l. first (filter alike l)) (ap (filter (in_group new.parent new.identity)) none ∙ (group_among new.parent new.identity c.self.inside.by_id ∙ ap (filter (in_group new.parent new.identity)) c.self.view_is))
