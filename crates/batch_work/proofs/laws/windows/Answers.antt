use Rattle.batch_work.proofs.laws.windows.Goals as goal
use Rattle.batch_work.proofs.Windows.{window_begins, window_extends, window_last, window_represents}

pub returns : goal.returns
returns c = record { represents = window_represents; begins = window_begins; continues = window_extends; last = window_last }
