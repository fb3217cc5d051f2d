-- The book of a server: four sets of rows.
use Rattle.std.specs.Prelude.{◌≡◌, ℕ, Bool, List, [], filter, Option, bytes_eq, nat_lt, ◌&&◌}
use Rattle.std.specs.List.{list_any}
use Rattle.entry_book.specs.declared.agent.Agent.{Agent}
use Rattle.entry_book.specs.declared.bundle.Bundle.{Bundle}
use Rattle.entry_book.specs.declared.kept.KeptBatch.{KeptBatch}
use Rattle.entry_book.specs.Rows.{Bytes, Entry, entry_key, agent_key, bundle_key}
use Rattle.entry_book.specs.Tokens.{token_key}
use Rattle.entry_book.specs.Order.{Within, Ascending, first}

pub record Book : Type 0 where
  pub entries : List Entry
  pub agents : List Agent
  pub bundles : List Bundle
  pub tokens : List KeptBatch

abbrev pub empty_book : Book
empty_book = record { entries = []; agents = []; bundles = []; tokens = [] }

-- Each list is a set in order: entry ids, agent ids, bundle domains and tokens are each distinct.
pub record AscendingBook (b : Book) : Type 0 where
  pub entries : Ascending entry_key b.entries
  pub agents : Ascending agent_key b.agents
  pub bundles : Ascending bundle_key b.bundles
  pub tokens : Ascending token_key b.tokens

-- ---- what a book contains

-- the book has an entry of this id
abbrev pub HasEntry : Book → Bytes → Type 0
HasEntry b k = (x : Entry) × Within b.entries x × (x.id ≡ k)

-- the book has an agent of this ID
abbrev pub HasAgent : Book → Bytes → Type 0
HasAgent b k = (x : Agent) × Within b.agents x × (x.id ≡ k)

-- the book has a bundle of this domain
abbrev pub HasBundle : Book → Bytes → Type 0
HasBundle b k = (x : Bundle) × Within b.bundles x × (x.domain ≡ k)

-- the row of a key, if there is one; likewise for the three other kinds below
abbrev pub entry_at : Bytes → Book → Option Entry
entry_at k b = first (filter (λ e. bytes_eq e.id k) b.entries)

abbrev pub agent_at : Bytes → Book → Option Agent
agent_at k b = first (filter (λ a. bytes_eq a.id k) b.agents)

abbrev pub bundle_at : Bytes → Book → Option Bundle
bundle_at k b = first (filter (λ d. bytes_eq d.domain k) b.bundles)

abbrev pub token_at : Bytes → Book → Option KeptBatch
token_at k b = first (filter (λ r. bytes_eq r.token k) b.tokens)

-- whether an entry has this parent and this identity
abbrev pub in_group : Bytes → Bytes → Entry → Bool
in_group p i e = bytes_eq e.parent p && bytes_eq e.identity i

-- the entries of a parent and an identity, in the order of ids
abbrev pub group_of : Bytes → Bytes → Book → List Entry
group_of p i b = filter (in_group p i) b.entries

-- the entries of a parent, in the order of ids
abbrev pub children_of : Bytes → Book → List Entry
children_of p b = filter (λ e. bytes_eq e.parent p) b.entries

-- whether an entry names this trust domain
abbrev pub names : Bytes → Entry → Bool
names domain e = list_any (λ d. bytes_eq d domain) e.domains

-- the entries that name a trust domain, in the order of ids
abbrev pub users_of : Bytes → Book → List Entry
users_of domain b = filter (names domain) b.entries

-- whether an entry expires before a moment; an expiry of 0 is none
abbrev pub expires_before : ℕ → Entry → Bool
expires_before moment e = nat_lt 0 e.expiry && nat_lt e.expiry moment

-- the entries that expire before a moment, in the order of ids
abbrev pub expired_before : ℕ → Book → List Entry
expired_before moment b = filter (expires_before moment) b.entries
