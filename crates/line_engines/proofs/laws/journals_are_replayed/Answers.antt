use Rattle.line_engines.proofs.Replaying.{are_replayed, logs_have_lines, may_be_replayed, plain_writes_replays}
use Rattle.line_engines.proofs.laws.journals_are_replayed.Goals as goal

pub returns-clause-lines : goal.returns-clause-lines
returns-clause-lines c = logs_have_lines c.one_line_law.ensures.records c.lines_law.ensures.joined c.lines_law.ensures.lines c.lines_law.ensures.only

pub returns-clause-replays : goal.returns-clause-replays
returns-clause-replays c = are_replayed c.spelled_law.ensures.batches

pub returns-clause-possible : goal.returns-clause-possible
returns-clause-possible c = may_be_replayed c.spelled_law.ensures.batches

pub returns-clause-plain : goal.returns-clause-plain
returns-clause-plain c =
    plain_writes_replays (are_replayed c.spelled_law.ensures.batches)
    (logs_have_lines c.one_line_law.ensures.records c.lines_law.ensures.joined c.lines_law.ensures.lines c.lines_law.ensures.only)
    c.histories.ensures.bounded c.histories.ensures.count c.journals.ensures.count
