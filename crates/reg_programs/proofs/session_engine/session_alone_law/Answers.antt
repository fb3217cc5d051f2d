use Rattle.reg_programs.proofs.Alone.{alone_are_plain}
use Rattle.reg_programs.proofs.Growing.{sessions_grow}
use Rattle.reg_programs.proofs.session_engine.session_alone_law.Goals as goal

pub returns : goal.returns
returns c =
    let histories = c.histories.ensures in
    let journals = c.journals.ensures in
    alone_are_plain (record { others = histories.leaves; queries = histories.queries; one_more = histories.one_more; join = journals.joined; count = journals.count }) sessions_grow
