use Rattle.std.proofs.Common.{of_calls, rules}
use Rattle.std.specs.Ordering.{nat_cmp}
use Rattle.std.specs.Cmp.Lexicographic.{slice_cmp}
use Rattle.std.proofs.lemmas.Fn.{always_returns_same}
use Rattle.version_book.proofs.RowRanks.{searched}
use Rattle.version_book.proofs.overlay.rank_of.Goals as goal

pub returns : goal.returns
returns g c =
    let key = g.T.BookRow.key in
    let facts = c.binary_search_by.ensures in
    let by_key = facts.position (λ row. slice_cmp nat_cmp (key row) c.args.key.now) (always_returns_same _ _ _ (λ a r f called. search (rules, of_calls))) in
    searched key c.args.key.now c.args.rows.now c.binary_search_by.result c.requires.order facts.bound by_key
