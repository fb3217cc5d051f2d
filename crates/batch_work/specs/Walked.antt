-- Which reads `authorised` and `trust` make, in direct words. The theorems are clauses of functions of the module `laws`.
use Rattle.std.specs.Prelude.{◌≡◌, ◌≢◌, ◌⊎◌, ◌↔◌, ⊤, true, List, [], ◌∷◌, ◌++◌, length, map}
use Rattle.spiffe_name.specs.Id.{server_text}
use Rattle.entry_book.specs.declared.agent.Agent.{Agent}
use Rattle.entry_book.specs.declared.op.Op.TheVariants.{Authorised, Trust}
use Rattle.entry_book.specs.Rows.{Bytes, Entry}
use Rattle.entry_book.specs.Order.{Within, is_before}
use Rattle.entry_book.specs.Book.{Book, AscendingBook, HasAgent}
use Rattle.entry_book.specs.Authorised.{Holds, EndsChain, authorised}
use Rattle.entry_book.specs.Effects.{IsListOf, Names}
use Rattle.version_book.specs.declared.mark.MarkKind.{MarkKind}
use Rattle.version_book.specs.declared.mark.MarkKind.TheVariants as mark
use Rattle.batch_work.specs.Reads.{walk, domains_of, marks_of}

-- no text is repeated
abbrev pub EachOnce : List Bytes → Type 0
EachOnce [] = ⊤
EachOnce (x ∷ xs) = (Within xs x → ⊥) × EachOnce xs

-- the identity of an entry in which a chain for the agent ends
abbrev pub IsAuthorised : Bytes → Agent → Book → Bytes → Type 0
IsAuthorised server a b i = (e : Entry) × EndsChain server a b e × (e.identity ≡ i)

-- The entry of the book is found once the children of these identities were read: the agent holds it, or its parent is the
-- agent or one of these.
pub record IsFound (server : Bytes) (a : Agent) (b : Book) (read : List Bytes) (e : Entry) : Type 0 where
  pub of_book : Within b.entries e
  pub by : Holds server a e ⊎ ((e.parent ≡ a.id) ⊎ Within read e.parent)

-- The identity of an entry that was found, whose children weren't read yet. It isn't the agent's own ID.
pub record IsUnread (server : Bytes) (a : Agent) (b : Book) (read : List Bytes) (i : Bytes) : Type 0 where
  pub entry : Entry
  pub found : IsFound server a b read entry
  pub identity : entry.identity ≡ i
  pub not_own : i ≢ a.id
  pub new : Within read i → ⊥

-- The least of these, in the order of bytes, is read next.
pub record IsNextIdentity (server : Bytes) (a : Agent) (b : Book) (read : List Bytes) (i : Bytes) : Type 0 where
  pub unread : IsUnread server a b read i
  pub least : (j : Bytes) → IsUnread server a b read j → (i ≡ j) ⊎ (is_before i j ≡ true)

-- These are the identities whose children are read, after those of the server and of the agent: those of the authorised
-- entries other than the agent's own ID, each once, and at each point the least that is known.
pub record IsWalk (server : Bytes) (a : Agent) (b : Book) (read : List Bytes) : Type 0 where
  pub members : (i : Bytes) → Within read i ↔ (IsAuthorised server a b i × (i ≢ a.id))
  pub once : EachOnce read
  pub least_first : (before : List Bytes) (i : Bytes) (later : List Bytes) → read ≡ before ++ i ∷ later → IsNextIdentity server a b before i

-- the identities that `walk` gives are such a walk
abbrev pub WalkAsSaid : Type 0
WalkAsSaid = (server : Bytes) (a : Agent) (b : Book) → IsWalk server a b (walk (length b.entries) server a [] b)

-- no two lists are such a walk: the definition determines which identities are read, and in which order
abbrev pub OneWalk : Type 0
OneWalk = (server : Bytes) (a : Agent) (b : Book) (read other : List Bytes) → IsWalk server a b read → IsWalk server a b other → read ≡ other

-- these are the domains that authorised entries name, each once, in the order of bytes
abbrev pub AreTrusted : Bytes → Agent → Book → List Bytes → Type 0
AreTrusted server a b domains = IsListOf (λ d. d) (λ d. (e : Entry) × EndsChain server a b e × Names d e) domains

-- the domains that the entries of `authorised` name are these
abbrev pub TrustedAsSaid : Type 0
TrustedAsSaid = (server : Bytes) (a : Agent) (b : Book) → AreTrusted server a b (domains_of (authorised server a b))

-- ---- the reads of the two operations

-- the reads of an agent's walk: the children of the server, of the agent, and of these identities
abbrev pub children_read : Bytes → Agent → List Bytes → List MarkKind
children_read server a read = mark.Children server ∷ mark.Children a.id ∷ map mark.Children read

-- the agent is read, then the children of the server, of the agent, and of the walk's identities
abbrev pub AuthorisedReads : Type 0
AuthorisedReads = (own_domain k : Bytes) (a : Agent) (b : Book) → AscendingBook b → Within b.agents a → a.id ≡ k → (read : List Bytes) × IsWalk (server_text own_domain) a b read × (marks_of own_domain (Authorised k) b ≡ mark.Agent k ∷ children_read (server_text own_domain) a read)

-- and for `trust`, the bundles of the domains that the authorised entries name
abbrev pub TrustReads : Type 0
TrustReads = (own_domain k : Bytes) (a : Agent) (b : Book) → AscendingBook b → Within b.agents a → a.id ≡ k → (read domains : List Bytes) × IsWalk (server_text own_domain) a b read × AreTrusted (server_text own_domain) a b domains × (marks_of own_domain (Trust k) b ≡ mark.Agent k ∷ (children_read (server_text own_domain) a read ++ map mark.Bundle domains))

-- if the agent is missing, nothing else is read
abbrev pub MissingReads : Type 0
MissingReads = (own_domain k : Bytes) (b : Book) → (HasAgent b k → ⊥) → (marks_of own_domain (Authorised k) b ≡ mark.Agent k ∷ []) × (marks_of own_domain (Trust k) b ≡ mark.Agent k ∷ [])
