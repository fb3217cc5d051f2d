use Rattle.line_devices.proofs.Puts.{Puts-nil}
use Rattle.reg_lines.proofs.printing.replies.put_detail.Goals as goal

pub returns-in-NotYet : goal.returns-in-NotYet
returns-in-NotYet g c = rw c.in-NotYet.is (Puts-nil _)

pub returns-in-TokenReused : goal.returns-in-TokenReused
returns-in-TokenReused g c = rw c.in-TokenReused.is (Puts-nil _)

pub returns-in-Full : goal.returns-in-Full
returns-in-Full g c = rw c.in-Full.is (Puts-nil _)
