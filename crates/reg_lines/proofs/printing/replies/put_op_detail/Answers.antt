use Rattle.line_devices.proofs.Puts.{Puts-nil}
use Rattle.reg_lines.proofs.printing.replies.put_op_detail.Goals as goal

pub returns-in-IdTaken : goal.returns-in-IdTaken
returns-in-IdTaken g c = rw c.in-IdTaken.is (Puts-nil _)

pub returns-in-NoEntry : goal.returns-in-NoEntry
returns-in-NoEntry g c = rw c.in-NoEntry.is (Puts-nil _)

pub returns-in-StaleRevision : goal.returns-in-StaleRevision
returns-in-StaleRevision g c = rw c.in-StaleRevision.is (Puts-nil _)

pub returns-in-BundleInUse : goal.returns-in-BundleInUse
returns-in-BundleInUse g c = rw c.in-BundleInUse.is (Puts-nil _)

pub returns-in-NoAgent : goal.returns-in-NoAgent
returns-in-NoAgent g c = rw c.in-NoAgent.is (Puts-nil _)

pub returns-in-VersionGone : goal.returns-in-VersionGone
returns-in-VersionGone g c = rw c.in-VersionGone.is (Puts-nil _)
