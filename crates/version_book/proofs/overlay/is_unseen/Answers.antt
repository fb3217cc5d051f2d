use Rattle.std.proofs.Common.{◌≡◌, ◌∙◌, Bool, false, Option, Some, None, ap, refl, sym}
use Rattle.std.specs.Prelude.{bytes_eq, not}
use Rattle.entry_book.specs.Order.{with_row}
use Rattle.version_book.specs.Marks.{kept_if, passes_if_some}
use Rattle.version_book.proofs.RowRanks.{missing_left, none_left, other_left}
use Rattle.version_book.proofs.overlay.is_unseen.Goals as goal

none_kept : {X : Type 0} (p : X → Bool) (row : Option X) → passes_if_some p row ≡ false → kept_if p row ≡ None
none_kept p None h = refl
none_kept p (Some x) h = rw h refl

pub returns-in-empty : goal.returns-in-empty
returns-in-empty g c = λ is.
    let key = g.T.BookRow.key in
    let k = c.args.key.now in
    let rows = c.args.rows.now in
    let none = none_kept (g.T.BookRow.names c.args.mark.now) c.args.new.now (sym c.is_passed.ensures ∙ c.if-is_passed.false) in
    none_left key k rows c.in-empty.len_below ∙ ap (λ new. with_row key k new rows) (sym none)

pub returns-in-len1 : goal.returns-in-len1
returns-in-len1 g c = λ is.
    let key = g.T.BookRow.key in
    let k = c.args.key.now in
    let rows = c.args.rows.now in
    let none = none_kept (g.T.BookRow.names c.args.mark.now) c.args.new.now (sym c.is_passed.ensures ∙ c.if-is_passed.false) in
    let other = ap (λ b. not (bytes_eq b k)) (sym c.key.ensures) ∙ (sym c.ne.ensures ∙ is) in
    other_left key k rows c.row-item.result c.in-len1.len_at_least c.in-len1.len_below c.row-item.is other ∙ ap (λ new. with_row key k new rows) (sym none)

pub returns-in_default : goal.returns-in_default
returns-in_default g c = λ is.
    let key = g.T.BookRow.key in
    let k = c.args.key.now in
    let rows = c.args.rows.now in
    let none = none_kept (g.T.BookRow.names c.args.mark.now) c.args.new.now (sym c.is_passed.ensures ∙ c.if-is_passed.false) in
    missing_left key k rows c.rank_of.result c.rank_of.ensures (sym c.is_err.ensures.value ∙ is) ∙ ap (λ new. with_row key k new rows) (sym none)
