use Rattle.batch_work.proofs.Ready.{end_has_read, ready_has_read, ready_turns, same_replies}
use Rattle.batch_work.proofs.laws.works.Goals as goal

pub returns : goal.returns
returns c = record { end = end_has_read; ready = ready_has_read; turns = ready_turns; one = same_replies }
