use Rattle.call_audit.proofs.Confirmed.{confirmed_are_audited}
use Rattle.call_audit.proofs.Faultless.{history_is_faultless, history_is_yes}
use Rattle.call_audit.proofs.laws.confirmed_law.Goals as goal

pub returns-clause-faultless : goal.returns-clause-faultless
returns-clause-faultless c = history_is_faultless

pub returns-clause-yes : goal.returns-clause-yes
returns-clause-yes c = history_is_yes

pub returns-clause-calls : goal.returns-clause-calls
returns-clause-calls c = confirmed_are_audited c.read_back_law.ensures.record_texts c.one_line_law.ensures.records c.lines_law.ensures.only c.printed_law.ensures.replies c.printed_law.ensures.no_float_in_replies
