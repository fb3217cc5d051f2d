-- The published states that a registry retains. For this crate's own contracts.
use Rattle.std.specs.Prelude.{◌-◌, List, length, drop}
use Rattle.shared_registry.specs.declared.published.PublishedState.{PublishedState}

-- the last 64 states of a list, or all of it if it has fewer
abbrev pub last_states : List PublishedState → List PublishedState
last_states states = drop (length states - 64) states
