use Rattle.std.proofs.Common.{sym, ap, ◌∙◌}
use Rattle.std.specs.Prelude.{bytes_eq, filter, option_to_list}
use Rattle.std.specs.Option.{option_copied}
use Rattle.entry_book.specs.Rows.{Entry, entry_key}
use Rattle.version_book.specs.declared.committed_row.CommittedRow.{CommittedRow}
use Rattle.version_book.proofs.RowShelves.{first_of}
use Rattle.version_book.proofs.Shelves.{row_at}
use Rattle.version_book.proofs.entries.Entries.get.Goals as goal

pub returns : goal.returns
returns c =
    let id = c.args.id.now in
    c.borrowed.ensures
    ∙ first_of (λ (entry : Entry). bytes_eq entry.id id) c.args.self.now (option_copied c.get.result)
    (ap (filter (λ (row : CommittedRow Entry). bytes_eq row.row.id id)) (sym c.self.view_is)
    ∙ (row_at entry_key id c.self.inside.rows c.get.ensures.order c.self.invariant.0 ∙ ap option_to_list (sym c.get.ensures.value)))
