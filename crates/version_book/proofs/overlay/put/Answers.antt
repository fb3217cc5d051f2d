use Rattle.std.proofs.Common.{◌∙◌, Err, Ok, ap, subst, sym}
use Rattle.entry_book.specs.Order.{with_row}
use Rattle.version_book.specs.RowRanks.{IsRowRank}
use Rattle.version_book.proofs.RowRanks.{not_there, put_at, put_in, taken_out}
use Rattle.version_book.proofs.overlay.put.Goals as goal

pub returns-in-Some : goal.returns-in-Some
returns-in-Some g c =
    let key = g.T.BookRow.key in
    let k = c.args.key.now in
    let items = c.args.rows.now.items in
    let place = subst (λ l. IsRowRank key l k (Ok c.in-Ok.index)) c.as_slice.ensures.value c.in-Ok.ensures in
    put_at key k items c.in-Ok.index c.in-Some.new place ∙ ap (λ new. with_row key k new items) (sym c.in-Some.is)

pub returns-in-None : goal.returns-in-None
returns-in-None g c =
    let key = g.T.BookRow.key in
    let k = c.args.key.now in
    let items = c.args.rows.now.items in
    let place = subst (λ l. IsRowRank key l k (Ok c.in-Ok.index)) c.as_slice.ensures.value c.in-Ok.ensures in
    c.remove.ensures.by_index.2 ∙ (taken_out key k items c.in-Ok.index place ∙ ap (λ new. with_row key k new items) (sym c.in-None.is))

pub returns-in_ok-insert-in-Err : goal.returns-in_ok-insert-in-Err
returns-in_ok-insert-in-Err g c =
    let key = g.T.BookRow.key in
    let k = c.args.key.now in
    let items = c.args.rows.now.items in
    let place = subst (λ l. IsRowRank key l k (Err c.in-Err.index)) c.as_slice.ensures.value c.in-Err.ensures in
    c.in_ok-insert-in-Err.ensures.items ∙ (put_in key k items c.in-Err.index c.in-Some-new.new place ∙ ap (λ new. with_row key k new items) (sym c.in-Some-new.is))

pub returns-in_default : goal.returns-in_default
returns-in_default g c =
    let key = g.T.BookRow.key in
    let k = c.args.key.now in
    let items = c.args.rows.now.items in
    let place = subst (λ l. IsRowRank key l k (Err c.in-Err.index)) c.as_slice.ensures.value c.in-Err.ensures in
    not_there key k items c.in-Err.index place ∙ ap (λ new. with_row key k new items) (sym c.in_default.is)
