use Rattle.std.proofs.Common.{ap, ◌∙◌}
use Rattle.entry_book.specs.Rows.{Entry}
use Rattle.batch_work.specs.WalkStates.{with_text}
use Rattle.batch_work.proofs.Ranks.{put_missing}
use Rattle.batch_work.proofs.arrivals.put_arrival.Goals as goal

pub returns-clause-met : goal.returns-clause-met
returns-clause-met c =
    c.put_reserved.ensures.put
    ∙ (ap (λ i. with_text i c.args.met.now.items) (c.arrival.invariant.0 ∙ ap (λ (e : Entry). e.identity) c.arrival.view_is)
    ∙ put_missing c.args.arrival.identity c.args.met.now.items c.requires.met_order)
