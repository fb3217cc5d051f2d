-- Which entries an agent is authorised for: those in which a chain for the agent ends (SPIRE's documentation: registering
-- workloads, node aliases).
use Rattle.std.specs.Prelude.{◌≡◌, ℕ, zero, suc, Bool, ◌&&◌, ◌||◌, ◌⊎◌, ⊤, List, [], ◌∷◌, ◌++◌, filter, length, bytes_eq}
use Rattle.std.specs.List.{AllByRecursion, list_any}
use Rattle.spiffe_name.specs.Selector.{SelectorPair}
use Rattle.spiffe_name.specs.SelectorSet.{is_within}
use Rattle.entry_book.specs.declared.agent.Agent.{Agent}
use Rattle.entry_book.specs.Rows.{Bytes, Entry}
use Rattle.entry_book.specs.Order.{Within}
use Rattle.entry_book.specs.Book.{Book}

-- ---- in the terms of the domain; `server` is the ID of the book's server

-- The agent holds the entry: the entry is an alias, which has the server as parent, and the agent has each of its selectors.
pub record Holds (server : Bytes) (a : Agent) (e : Entry) : Type 0 where
  pub is_alias : e.parent ≡ server
  pub has_all : (s : SelectorPair) → Within e.selectors s → Within a.selectors s

-- the list of entries isn't empty, and the agent holds the first one or is its parent
abbrev pub Starts : Bytes → Agent → List Entry → Type 0
Starts server a [] = ⊥
Starts server a (e ∷ es) = Holds server a e ⊎ (e.parent ≡ a.id)

-- the parent of the first of these entries is the identity of e, and that of each later one is the identity of the one before it
abbrev pub FollowsOn : Entry → List Entry → Type 0
FollowsOn e [] = ⊤
FollowsOn e (f ∷ fs) = (f.parent ≡ e.identity) × FollowsOn f fs

-- each later entry's parent is the identity of the one before it
abbrev pub Linked : List Entry → Type 0
Linked [] = ⊤
Linked (e ∷ es) = FollowsOn e es

-- A chain for the agent: entries of the book, of which the agent holds the first one or is its parent. Each later one's
-- parent is the identity of the one before it.
pub record IsChain (server : Bytes) (a : Agent) (b : Book) (chain : List Entry) : Type 0 where
  pub of_book : AllByRecursion (Within b.entries) chain
  pub start : Starts server a chain
  pub linked : Linked chain

-- some chain for the agent ends in the entry
abbrev pub EndsChain : Bytes → Agent → Book → Entry → Type 0
EndsChain server a b e = (front : List Entry) × IsChain server a b (front ++ e ∷ [])

-- ---- the same, computed: a theorem of this crate says that these are the entries in which some chain ends

-- the entry is an alias, and the agent has each of its selectors
abbrev pub holds : Bytes → Agent → Entry → Bool
holds server a e = bytes_eq e.parent server && is_within e.selectors a.selectors

-- a chain for the agent may begin with the entry
abbrev pub starts : Bytes → Agent → Entry → Bool
starts server a e = holds server a e || bytes_eq e.parent a.id

-- whether the entry, if it is in the list, ends a chain of at most n + 1 entries of the list
abbrev pub ends_within : Bytes → Agent → List Entry → ℕ → Entry → Bool
ends_within server a es zero e = starts server a e
ends_within server a es (suc n) e = starts server a e || list_any (λ c. bytes_eq e.parent c.identity && ends_within server a es n c) es

-- the book's entries in which a chain ends, in the order of ids; chains longer than the number of entries aren't needed
unfoldable pub authorised : Bytes → Agent → Book → List Entry
authorised server a b = filter (ends_within server a b.entries (length b.entries)) b.entries
