use Rattle.std.proofs.Common.{map, ap, ◌∙◌}
use Rattle.std.specs.Prelude.{bytes_eq, filter}
use Rattle.std.specs.Map.{values_of}
use Rattle.std.proofs.lemmas.Result.{IfOk-weaker}
use Rattle.entry_book.specs.Rows.{Entry}
use Rattle.version_book.specs.Index.{group_keys}
use Rattle.version_book.specs.CommittedRows.{row_of}
use Rattle.version_book.proofs.Ranges.{covers_children}
use Rattle.version_book.proofs.entries.Entries.children.Goals as goal

pub returns : goal.returns
returns c = IfOk-weaker c.borrowed_between.result _ _ (λ found h.
    let parent = c.args.parent.now in
    h group_keys (values_of c.self.inside.rows) (λ (entry : Entry). bytes_eq entry.parent parent) c.self.invariant.2 (covers_children parent) c.self.invariant.1
    ∙ ap (λ rows. filter (λ (entry : Entry). bytes_eq entry.parent parent) (map row_of rows)) c.self.view_is) c.borrowed_between.ensures
