use Rattle.std.proofs.Common.{refl, sym, ◌∙◌}
use Rattle.std.specs.Option.{option_copied}
use Rattle.version_book.specs.CommittedRows.{of_row}
use Rattle.version_book.proofs.Marked.{all_fail}
use Rattle.version_book.proofs.RowShelves.{named_row, one_key}
use Rattle.version_book.proofs.Same.{row_same, row_identified}
use Rattle.version_book.proofs.row_shelf.RowShelf.is_same_at.Goals as goal

pub returns-in-Some-clause-same : goal.returns-in-Some-clause-same
returns-in-Some-clause-same g c = λ same.
    let named = g.T.BookRow.names c.args.mark.now in
    let k = c.in-Some.key.now in
    let one = named_row g.K.Ord.cmp g.T.KeyedRow.bytes g.met.T.KeyedRow.by_bytes g.T.BookRow.key k named c.in-Some.ensures
    c.older.inside.rows c.get.ensures.order c.older.invariant c.args.older.now c.older.view_is (option_copied c.get.result) c.get.ensures.value in
    let other = named_row g.K.Ord.cmp g.T.KeyedRow.bytes g.met.T.KeyedRow.by_bytes g.T.BookRow.key k named c.in-Some.ensures
    c.self.inside.rows c.get-in-Some.ensures.order c.self.invariant c.args.self.now c.self.view_is (option_copied c.get-in-Some.result) c.get-in-Some.ensures.value in
    c.is_same_row.ensures.1 (row_same (option_copied c.get.result) (option_copied c.get-in-Some.result) (sym one ∙ (same ∙ other)))

pub returns-in-Some-clause-is_exact : goal.returns-in-Some-clause-is_exact
returns-in-Some-clause-is_exact g c = λ is_exact yes.
    let named = g.T.BookRow.names c.args.mark.now in
    let k = c.in-Some.key.now in
    let one = named_row g.K.Ord.cmp g.T.KeyedRow.bytes g.met.T.KeyedRow.by_bytes g.T.BookRow.key k named c.in-Some.ensures
    c.older.inside.rows c.get.ensures.order c.older.invariant c.args.older.now c.older.view_is (option_copied c.get.result) c.get.ensures.value in
    let other = named_row g.K.Ord.cmp g.T.KeyedRow.bytes g.met.T.KeyedRow.by_bytes g.T.BookRow.key k named c.in-Some.ensures
    c.self.inside.rows c.get-in-Some.ensures.order c.self.invariant c.args.self.now c.self.view_is (option_copied c.get-in-Some.result) c.get-in-Some.ensures.value in
    row_identified g.T.BookRow.key named c.args.older.now c.args.self.now (option_copied c.get.result) (option_copied c.get-in-Some.result) one other
    (one_key g.K.Ord.cmp g.T.KeyedRow.bytes g.met.T.KeyedRow.by_bytes g.T.BookRow.key k named c.in-Some.ensures) is_exact (c.is_same_row.ensures.0 yes)

pub returns-in-None : goal.returns-in-None
returns-in-None g c =
    let none = all_fail (of_row (g.T.BookRow.names c.args.mark.now)) (λ r. c.in-None.ensures r.row) in
    record { same = λ same. refl; is_exact = λ is_exact yes. none c.args.older.now ∙ sym (none c.args.self.now) }
