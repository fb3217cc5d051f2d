-- What an agent's answers, those of `authorised` and `trust`, depend on: the rows of the book that the agent may see. The theorems
-- say that other rows make no difference. `server` is the ID of the book's server.
use Rattle.std.specs.Prelude.{◌≡◌, ◌⊎◌, ◌↔◌, ◌+◌, true, ⊤, List, [], ◌∷◌, IfOk, IfSome}
use Rattle.std.specs.List.{AllByRecursion}
use Rattle.spiffe_name.specs.Id.{server_text}
use Rattle.entry_book.specs.declared.agent.Agent.{Agent}
use Rattle.entry_book.specs.declared.bundle.Bundle.{Bundle}
use Rattle.entry_book.specs.declared.op.Op.TheVariants.{Authorised, Trust}
use Rattle.entry_book.specs.Rows.{Bytes, Entry, entry_key}
use Rattle.entry_book.specs.Order.{Within, Ascending}
use Rattle.entry_book.specs.Book.{Book, AscendingBook}
use Rattle.entry_book.specs.Writes.{RowChange, RowWrite, wrote_entry, wrote_agent, wrote_bundle, wrote_token}
use Rattle.entry_book.specs.Authorised.{Holds, EndsChain, authorised}
use Rattle.entry_book.specs.Ops.{op_of}
use Rattle.entry_book.specs.Effects.{Names, OfAgent}
use Rattle.entry_book.specs.Runs.{run}
use Rattle.entry_book.specs.Batches.{Batch, IsMadeFor}
use Rattle.entry_book.specs.History.{last_book, place_of, batch_writes, books_after, books_from, commits}

-- ---- the rows that an agent may see

-- An entry, in the book or not, that the agent may see: it holds the entry, it is the entry's parent, or the entry's parent is the
-- identity of an entry in which some chain for the agent ends.
abbrev pub MaySee : Bytes → Agent → Book → Entry → Type 0
MaySee server a b e = Holds server a e ⊎ ((e.parent ≡ a.id) ⊎ ((d : Entry) × EndsChain server a b d × (e.parent ≡ d.identity)))

-- the agent has this ID
abbrev pub IsAgent : Bytes → Agent → Type 0
IsAgent k a = a.id ≡ k

-- the agent of this ID may see the entry
abbrev pub SeenEntry : Bytes → Bytes → Book → Entry → Type 0
SeenEntry server k b e = OfAgent k b (λ a. MaySee server a b e)

-- an entry in which some chain for the agent of this ID ends names the bundle's domain
abbrev pub SeenBundle : Bytes → Bytes → Book → Bundle → Type 0
SeenBundle server k b x = OfAgent k b (λ a. (e : Entry) × EndsChain server a b e × Names x.domain e)

-- ---- two books that have the same of these rows

-- the two lists have the same rows of this kind
abbrev pub HaveSame : {X : Type 0} → (X → Type 0) → List X → List X → Type 0
HaveSame Is xs ys = (x : _) → Is x → Within xs x ↔ Within ys x

-- The second book has the same agent of this ID, if any, and the same of the entries that it may see in the first.
pub record ShowsSame (server k : Bytes) (b c : Book) : Type 0 where
  pub agent : HaveSame (IsAgent k) b.agents c.agents
  pub entries : HaveSame (SeenEntry server k b) b.entries c.entries

-- It has the same of the bundles of the domains that the agent's authorised entries in the first book name.
abbrev pub ShowsSameBundles : Bytes → Bytes → Book → Book → Type 0
ShowsSameBundles server k b c = HaveSame (SeenBundle server k b) b.bundles c.bundles

-- the agent's authorised entries are the same in two books that have the same of the entries that it may see in the first
abbrev pub AuthorisedBySeen : Type 0
AuthorisedBySeen = (server : Bytes) (a : Agent) (b c : Book) → Ascending entry_key b.entries → Ascending entry_key c.entries → HaveSame (MaySee server a b) b.entries c.entries → authorised server a c ≡ authorised server a b

-- `authorised` of the agent of this ID has the same result on such books
abbrev pub SameAuthorised : Type 0
SameAuthorised = (own_domain k : Bytes) (b c : Book) → AscendingBook b → AscendingBook c → ShowsSame (server_text own_domain) k b c → op_of own_domain (Authorised k) c ≡ op_of own_domain (Authorised k) b

-- and so has `trust`, if they have the same of the bundles too
abbrev pub SameTrust : Type 0
SameTrust = (own_domain k : Bytes) (b c : Book) → AscendingBook b → AscendingBook c → ShowsSame (server_text own_domain) k b c → ShowsSameBundles (server_text own_domain) k b c → op_of own_domain (Trust k) c ≡ op_of own_domain (Trust k) b

-- ---- two books of one history

-- neither the old row nor the new row of the change is of this kind
abbrev pub Spares : {X : Type 0} → (X → Type 0) → RowChange X → Type 0
Spares Is c = IfSome c.old (λ x. Is x → ⊥) × IfSome c.new (λ x. Is x → ⊥)

-- the write changes neither the agent of this ID nor an entry that it may see in the book
abbrev pub SparesAuthorised : Bytes → Bytes → Book → RowWrite → Type 0
SparesAuthorised server k b (wrote_entry c) = Spares (SeenEntry server k b) c
SparesAuthorised server k b (wrote_agent c) = Spares (IsAgent k) c
SparesAuthorised server k b (wrote_bundle c) = ⊤
SparesAuthorised server k b (wrote_token c) = ⊤

-- nor a bundle of a domain that its authorised entries in the book name
abbrev pub SparesTrust : Bytes → Bytes → Book → RowWrite → Type 0
SparesTrust server k b (wrote_bundle c) = Spares (SeenBundle server k b) c
SparesTrust server k b w = SparesAuthorised server k b w

-- the batches run one after another, beginning with these books, and those that commit make only such writes
abbrev pub WriteOnly : (RowWrite → Type 0) → List Book → List Batch → Type 0
WriteOnly Is books [] = ⊤
WriteOnly Is books (batch ∷ batches) = (commits batch books ≡ true → IfOk (run batch.domain batch.ops (last_book books)) (λ t. AllByRecursion Is (batch_writes batch (place_of books + 1) t))) × WriteOnly Is (books_after batch books) batches

-- `authorised` of the agent of this ID has the same result after batches that change neither it nor an entry that it may see in the
-- last book before them
abbrev pub AuthorisedStays : Type 0
AuthorisedStays = (own_domain k : Bytes) (books : List Book) (batches : List Batch) → AscendingBook (last_book books) → AllByRecursion (IsMadeFor own_domain) batches → WriteOnly (SparesAuthorised (server_text own_domain) k (last_book books)) books batches → op_of own_domain (Authorised k) (last_book (books_from books batches)) ≡ op_of own_domain (Authorised k) (last_book books)

-- and so has `trust`, if they change no bundle of a domain that its authorised entries name
abbrev pub TrustStays : Type 0
TrustStays = (own_domain k : Bytes) (books : List Book) (batches : List Batch) → AscendingBook (last_book books) → AllByRecursion (IsMadeFor own_domain) batches → WriteOnly (SparesTrust (server_text own_domain) k (last_book books)) books batches → op_of own_domain (Trust k) (last_book (books_from books batches)) ≡ op_of own_domain (Trust k) (last_book books)
