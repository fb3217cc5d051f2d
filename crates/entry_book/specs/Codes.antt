-- The codes under which refusals are printed, and the index that is printed with them.
use Rattle.std.specs.Prelude.{ℕ, List, Option, Some, None, codes}
use Rattle.entry_book.specs.declared.fault.OpFault.{OpFault}
use Rattle.entry_book.specs.declared.fault.OpFault.TheVariants as fault
use Rattle.entry_book.specs.declared.fault.BatchRefusal.{BatchRefusal}
use Rattle.entry_book.specs.declared.fault.BatchRefusal.TheVariants as batch
use Rattle.entry_book.specs.declared.limit.Limit.{Limit}
use Rattle.entry_book.specs.declared.limit.Limit.TheVariants as limit
use Rattle.entry_book.specs.declared.reply.OpRefusal.{OpRefusal}
use Rattle.entry_book.specs.declared.reply.OpRefusal.TheVariants as refused
use Rattle.entry_book.specs.declared.reply.Refusal.{Refusal}
use Rattle.entry_book.specs.declared.reply.Refusal.TheVariants as reply

abbrev pub fault_code : OpFault → List ℕ
fault_code fault.ForeignId = codes "B3"
fault_code fault.EmptyPath = codes "B4"
fault_code fault.ServerIdentity = codes "B5"
fault_code fault.Selectors = codes "B6"
fault_code fault.TooManyDomains = codes "B7"
fault_code fault.HintTooLong = codes "B8"
fault_code fault.PageSize = codes "B9"
fault_code fault.AgentPath = codes "B10"
fault_code fault.OwnDomainBundle = codes "B11"
fault_code fault.BundleTooLong = codes "B12"

abbrev pub batch_code : BatchRefusal → List ℕ
batch_code batch.NoOps = codes "B1"
batch_code batch.TooManyOps = codes "B2"
batch_code (batch.OfOp n f) = fault_code f
batch_code (batch.PastPageNotAlone n) = codes "B13"
batch_code batch.TokenOnQuery = codes "B14"

abbrev pub op_code : OpRefusal → List ℕ
op_code refused.IdTaken = codes "O1"
op_code (refused.Similar id) = codes "O2"
op_code refused.NoEntry = codes "O3"
op_code refused.StaleRevision = codes "O4"
op_code (refused.NoBundle domain) = codes "O5"
op_code refused.BundleInUse = codes "O6"
op_code refused.NoAgent = codes "O7"
op_code refused.VersionGone = codes "O8"

abbrev pub limit_code : Limit → List ℕ
limit_code limit.History = codes "W2"
limit_code limit.Entries = codes "W3"
limit_code limit.Agents = codes "W4"
limit_code limit.Bundles = codes "W5"
limit_code limit.Tokens = codes "W6"

abbrev pub refusal_code : Refusal → List ℕ
refusal_code reply.NotYet = codes "W1"
refusal_code reply.TokenReused = codes "O9"
refusal_code (reply.OfOp n r) = op_code r
refusal_code (reply.Full l) = limit_code l

-- the index of the operation at fault, if it is a single one
abbrev pub batch_op : BatchRefusal → Option ℕ
batch_op batch.NoOps = None
batch_op batch.TooManyOps = None
batch_op (batch.OfOp n f) = Some n
batch_op (batch.PastPageNotAlone n) = Some n
batch_op batch.TokenOnQuery = None

abbrev pub refusal_op : Refusal → Option ℕ
refusal_op reply.NotYet = None
refusal_op reply.TokenReused = None
refusal_op (reply.OfOp n r) = Some n
refusal_op (reply.Full l) = None
