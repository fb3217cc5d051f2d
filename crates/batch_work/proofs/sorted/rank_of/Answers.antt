use Rattle.std.proofs.Common.{of_calls, rules}
use Rattle.std.specs.Ordering.{nat_cmp}
use Rattle.std.specs.Cmp.Lexicographic.{slice_cmp}
use Rattle.std.proofs.lemmas.Fn.{always_returns_same}
use Rattle.batch_work.proofs.Ranks.{searched}
use Rattle.batch_work.proofs.sorted.rank_of.Goals as goal

pub returns : goal.returns
returns g c =
    let key = g.T.Keyed.key in
    let facts = c.binary_search_by.ensures in
    let by_key = facts.position (λ other. slice_cmp nat_cmp (key other) (key c.args.item.now)) (always_returns_same _ _ _ (λ a r f called. search (rules, of_calls))) in
    searched key (key c.args.item.now) c.args.set.now c.binary_search_by.result c.requires.order facts.bound by_key
