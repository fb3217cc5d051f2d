-- The outcome of a read-only batch, operation by operation. For this crate's own contracts.
use Rattle.std.specs.Prelude.{ℕ, List, [], filter, flat_map, bytes_eq, Result, Ok, Err}
use Rattle.entry_book.specs.declared.agent.Agent.{Agent}
use Rattle.entry_book.specs.declared.bundle.Bundle.{Bundle}
use Rattle.entry_book.specs.declared.reply.OpReply.{OpReply}
use Rattle.entry_book.specs.declared.reply.OpRefusal.{OpRefusal}
use Rattle.entry_book.specs.Rows.{Bytes}
use Rattle.entry_book.specs.Authorised.{holds}
use Rattle.entry_book.specs.Book.{Book, children_of}
use Rattle.entry_book.specs.Ops.{OpResult, done}
use Rattle.entry_book.specs.Runs.{RunResult}
use Rattle.batch_work.specs.WalkStates.{WalkState, first_walk, walked}

-- the result of a read-only operation that has this reply, or is refused for this reason
abbrev pub answered : Result OpReply OpRefusal → OpResult
answered (Ok r) = done r []
answered (Err r) = Err r

-- the run of read-only operations that have these replies, or of which the one with this index is refused
abbrev pub all_answered : Result (List OpReply) (ℕ × OpRefusal) → RunResult
all_answered (Ok rs) = Ok (record { replies = rs; writes = [] })
all_answered (Err f) = Err (record { op = f.0; reason = f.1 })

-- the bundles of these domains, one after another
abbrev pub bundles_at : Book → List Bytes → List Bundle
bundles_at b ds = flat_map (λ d. filter (λ x. bytes_eq x.domain d) b.bundles) ds

-- the walk to an agent's authorised entries before its first identity: it has found the aliases that the agent holds, and the
-- agent's own children
abbrev pub walk_begun : Bytes → Agent → Book → WalkState
walk_begun server a b = walked (children_of a.id b) (walked (filter (holds server a) (children_of server b)) (first_walk a))
