use Rattle.std.proofs.Common.{Ok, Err, Some, refl, sym, subst, ◌∙◌}
use Rattle.entry_book.specs.Order.{Ascending}
use Rattle.entry_book.proofs.InOrder.{ascending-with_row}
use Rattle.plain_book.specs.Ranks.{IsRank}
use Rattle.plain_book.proofs.Ranks.{put_at, put_in}
use Rattle.plain_book.proofs.row.put_row.Goals as goal

pub rank_of-requires : goal.rank_of-requires
rank_of-requires g c = record { order = subst (Ascending g.T.BookRow.key) (sym c.as_slice.ensures.value) c.requires.order }

pub returns-in-Ok : goal.returns-in-Ok
returns-in-Ok g c =
    let key = g.T.BookRow.key in
    let row = c.args.row in
    let rows = c.args.rows.now.items in
    let here = subst (λ k. IsRank key c.as_slice.result.now k (Ok c.in-Ok.rank)) c.key.ensures c.in-Ok.ensures in
    let put = put_at key (key row) rows c.in-Ok.rank row (subst (λ l. IsRank key l (key row) (Ok c.in-Ok.rank)) c.as_slice.ensures.value here) in
    record { rows = put; order = subst (Ascending key) (sym put) (ascending-with_row key (key row) (Some row) rows c.requires.order refl) }

pub returns-in_ok-insert-in-Err : goal.returns-in_ok-insert-in-Err
returns-in_ok-insert-in-Err g c =
    let key = g.T.BookRow.key in
    let row = c.args.row in
    let rows = c.args.rows.now.items in
    let here = subst (λ k. IsRank key c.as_slice.result.now k (Err c.in-Err.rank)) c.key.ensures c.in-Err.ensures in
    let put = c.in_ok-insert-in-Err.ensures.items ∙ put_in key (key row) rows c.in-Err.rank row (subst (λ l. IsRank key l (key row) (Err c.in-Err.rank)) c.as_slice.ensures.value here) in
    record { rows = put; order = subst (Ascending key) (sym put) (ascending-with_row key (key row) (Some row) rows c.requires.order refl) }
