use Rattle.std.proofs.Common.{◌∙◌, Err, Ok, Some, ap, not, refl, subst, sym}
use Rattle.entry_book.specs.Order.{Ascending}
use Rattle.entry_book.proofs.InOrder.{ascending-with_row}
use Rattle.batch_work.specs.Ranks.{IsRank}
use Rattle.batch_work.proofs.Ranks.{is_missing, is_there, put_at, put_in}
use Rattle.batch_work.proofs.sorted.put.Goals as goal

pub rank_of-requires : goal.rank_of-requires
rank_of-requires g c = record { order = subst (Ascending g.T.Keyed.key) (sym c.as_slice.ensures.value) c.requires.order }

-- an item with its key is in the set

pub returns-in-Ok-clause-is_new : goal.returns-in-Ok-clause-is_new
returns-in-Ok-clause-is_new g c =
    let key = g.T.Keyed.key in
    let k = key c.args.item in
    let items = c.args.set.now.items in
    let rank = subst (λ l. IsRank key l k (Ok c.in-Ok.index)) c.as_slice.ensures.value c.in-Ok.ensures in
    sym (ap not (is_there key k items c.in-Ok.index rank))

pub returns-in-Ok-clause-put : goal.returns-in-Ok-clause-put
returns-in-Ok-clause-put g c =
    let key = g.T.Keyed.key in
    let k = key c.args.item in
    let items = c.args.set.now.items in
    let rank = subst (λ l. IsRank key l k (Ok c.in-Ok.index)) c.as_slice.ensures.value c.in-Ok.ensures in
    put_at key k items c.in-Ok.index c.args.item rank

pub returns-in-Ok-clause-order : goal.returns-in-Ok-clause-order
returns-in-Ok-clause-order g c =
    let key = g.T.Keyed.key in
    let k = key c.args.item in
    let items = c.args.set.now.items in
    let rank = subst (λ l. IsRank key l k (Ok c.in-Ok.index)) c.as_slice.ensures.value c.in-Ok.ensures in
    subst (Ascending key) (sym (put_at key k items c.in-Ok.index c.args.item rank)) (ascending-with_row key k (Some c.args.item) items c.requires.order refl)

-- no item has its key, and it is inserted at its index

pub returns-in_ok-insert-in-Err-clause-is_new : goal.returns-in_ok-insert-in-Err-clause-is_new
returns-in_ok-insert-in-Err-clause-is_new g c =
    let key = g.T.Keyed.key in
    let k = key c.args.item in
    let items = c.args.set.now.items in
    let rank = subst (λ l. IsRank key l k (Err c.in-Err.index)) c.as_slice.ensures.value c.in-Err.ensures in
    sym (ap not (is_missing key k items c.in-Err.index rank))

pub returns-in_ok-insert-in-Err-clause-put : goal.returns-in_ok-insert-in-Err-clause-put
returns-in_ok-insert-in-Err-clause-put g c =
    let key = g.T.Keyed.key in
    let k = key c.args.item in
    let items = c.args.set.now.items in
    let rank = subst (λ l. IsRank key l k (Err c.in-Err.index)) c.as_slice.ensures.value c.in-Err.ensures in
    c.in_ok-insert-in-Err.ensures.items ∙ put_in key k items c.in-Err.index c.args.item rank

pub returns-in_ok-insert-in-Err-clause-order : goal.returns-in_ok-insert-in-Err-clause-order
returns-in_ok-insert-in-Err-clause-order g c =
    let key = g.T.Keyed.key in
    let k = key c.args.item in
    let items = c.args.set.now.items in
    let rank = subst (λ l. IsRank key l k (Err c.in-Err.index)) c.as_slice.ensures.value c.in-Err.ensures in
    let put = c.in_ok-insert-in-Err.ensures.items ∙ put_in key k items c.in-Err.index c.args.item rank in
    subst (Ascending key) (sym put) (ascending-with_row key k (Some c.args.item) items c.requires.order refl)
