-- The state of the walk to an agent's authorised entries: the identities that were met, and the entries that were found. For
-- this crate's own contracts.
use Rattle.std.specs.Prelude.{Bool, true, false, List, [], ◌∷◌, Some}
use Rattle.entry_book.specs.declared.agent.Agent.{Agent}
use Rattle.entry_book.specs.Rows.{Bytes, Entry, entry_key}
use Rattle.entry_book.specs.Order.{with_row}
use Rattle.batch_work.specs.Reads.{is_one_of}

-- The agent; the identities met, including its own ID; those of them that are pending, whose children are still to be read; and
-- the entries found. The walks keep each list in the order of its keys.
pub record WalkState : Type 0 where
  pub agent : Agent
  pub met : List Bytes
  pub pending : List Bytes
  pub found : List Entry

-- the walk before its first entry
abbrev pub first_walk : Agent → WalkState
first_walk a = record { agent = a; met = a.id ∷ []; pending = []; found = [] }

-- the set with this text added
abbrev pub with_text : Bytes → List Bytes → List Bytes
with_text x set = with_row (λ t. t) x (Some x) set

-- adds the identity of an entry to a set, if it wasn't met yet
abbrev pub met_when : Bool → Bytes → List Bytes → List Bytes
met_when true x set = set
met_when false x set = with_text x set

-- the walk with one more entry among those found
abbrev pub with_found : Entry → WalkState → WalkState
with_found e w = record w { met = met_when (is_one_of e.identity w.met) e.identity w.met; pending = met_when (is_one_of e.identity w.met) e.identity w.pending; found = with_row entry_key e.id (Some e) w.found }

-- the walk after the entries of a read are added, one after another
abbrev pub walked : List Entry → WalkState → WalkState
walked [] w = w
walked (e ∷ es) w = walked es (with_found e w)

-- no identity is pending
abbrev pub is_empty : List Bytes → Bool
is_empty [] = true
is_empty (x ∷ xs) = false

-- the walk has no identity left to read
abbrev pub is_walk_over : WalkState → Bool
is_walk_over w = is_empty w.pending
