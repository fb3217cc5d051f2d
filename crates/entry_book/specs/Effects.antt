-- The effect of each operation, in direct words: when each refusal is due, and which rows the book has afterwards. Theorems
-- of this crate say that `op_of` does exactly this, where it refuses on every lawful book and otherwise on every book whose
-- rows are in order, and that these words determine its result.
use Rattle.std.specs.Prelude.{◌≡◌, ◌≢◌, ◌⊎◌, ◌↔◌, ⊤, ℕ, ◌+◌, ◌<◌, not, List, [], ◌∷◌, ◌++◌, filter, map, Option, Some, None, bytes_eq}
use Rattle.std.specs.List.{AllByRecursion}
use Rattle.entry_book.specs.declared.agent.Agent.{Agent}
use Rattle.entry_book.specs.declared.bundle.Bundle.{Bundle}
use Rattle.entry_book.specs.declared.entry.NewEntry.{NewEntry}
use Rattle.entry_book.specs.declared.mode.DropMode.{DropMode}
use Rattle.entry_book.specs.declared.mode.DropMode.TheVariants as mode
use Rattle.entry_book.specs.declared.reply.OpReply.{OpReply}
use Rattle.entry_book.specs.declared.reply.OpReply.TheVariants as replied
use Rattle.entry_book.specs.declared.reply.OpRefusal.{OpRefusal}
use Rattle.entry_book.specs.declared.reply.OpRefusal.TheVariants.{IdTaken, Similar, NoEntry, StaleRevision, NoBundle, BundleInUse, NoAgent}
use Rattle.entry_book.specs.Rows.{Bytes, Entry, at_revision, entry_key, agent_key, bundle_key, IsDomainSet}
use Rattle.entry_book.specs.Order.{Within, Ascending}
use Rattle.entry_book.specs.Book.{Book, HasEntry, HasAgent, HasBundle}
use Rattle.entry_book.specs.Writes.{after}
use Rattle.entry_book.specs.Authorised.{EndsChain}
use Rattle.entry_book.specs.Ops.{OpEffect}

-- the entry has the new one's parent, identity and selectors
pub record IsLike (e : NewEntry) (x : Entry) : Type 0 where
  pub parent : x.parent ≡ e.parent
  pub identity : x.identity ≡ e.identity
  pub selectors : x.selectors ≡ e.selectors

-- this is the row of the key, or there is no such row
abbrev pub IsRowAt : {X : Type 0} → (X → Bytes) → List X → Bytes → Option X → Type 0
IsRowAt key rows k None = (x : _) → Within rows x → key x ≢ k
IsRowAt key rows k (Some x) = Within rows x × (key x ≡ k)

-- these are all rows for which `Has` holds, in order
pub record IsListOf {X : Type 0} (key : X → Bytes) (Has : X → Type 0) (listed : List X) : Type 0 where
  pub members : (x : X) → Within listed x ↔ Has x
  pub order : Ascending key listed

-- the entries afterwards are those for which `Has` holds, and all other rows are as before
pub record EntriesBecome (b c : Book) (Has : Entry → Type 0) : Type 0 where
  pub listed : IsListOf entry_key Has c.entries
  pub others : c ≡ record b { entries = c.entries }

-- the same for agents
pub record AgentsBecome (b c : Book) (Has : Agent → Type 0) : Type 0 where
  pub listed : IsListOf agent_key Has c.agents
  pub others : c ≡ record b { agents = c.agents }

-- the same for bundles
pub record BundlesBecome (b c : Book) (Has : Bundle → Type 0) : Type 0 where
  pub listed : IsListOf bundle_key Has c.bundles
  pub others : c ≡ record b { bundles = c.bundles }

-- the entry names the domain
abbrev pub Names : Bytes → Entry → Type 0
Names domain x = Within x.domains domain

-- ---- create

-- no entry of the book has its id
abbrev pub IsNew : NewEntry → Book → Type 0
IsNew e b = (x : Entry) → Within b.entries x → x.id ≢ e.id

-- no entry of the book with another id is like it
abbrev pub IsAlone : NewEntry → Book → Type 0
IsAlone e b = (x : Entry) → Within b.entries x → IsLike e x → x.id ≡ e.id

-- The operation replies with the entry at revision 0, and adds it and nothing else. No entry has its id or is like it, and
-- its domains have bundles.
pub record Creates (e : NewEntry) (b : Book) (d : OpEffect) : Type 0 where
  pub new : IsNew e b
  pub alone : IsAlone e b
  pub bundled : AllByRecursion (HasBundle b) e.domains
  pub reply : d.reply ≡ replied.Entry (at_revision 0 e)
  pub after_it : EntriesBecome b (after d.writes b) (λ x. (x ≡ at_revision 0 e) ⊎ Within b.entries x)

-- Another entry, which has this id, is like it.
abbrev pub IsSimilar : NewEntry → Book → Bytes → Type 0
IsSimilar e b k = (x : Entry) × Within b.entries x × IsLike e x × (x.id ≢ e.id) × (x.id ≡ k)

-- No other entry is like it, and this is the first of its domains that has no bundle.
pub record LacksBundle (e : NewEntry) (b : Book) (k : Bytes) : Type 0 where
  pub alone : IsAlone e b
  pub first : (before : List Bytes) × (later : List Bytes) × (e.domains ≡ before ++ k ∷ later) × AllByRecursion (HasBundle b) before
  pub none : HasBundle b k → ⊥

-- when each refusal of a create is due
abbrev pub CreateRefused : NewEntry → Book → OpRefusal → Type 0
CreateRefused e b IdTaken = HasEntry b e.id
CreateRefused e b (Similar k) = IsNew e b × IsSimilar e b k
CreateRefused e b (NoBundle k) = IsNew e b × LacksBundle e b k
CreateRefused e b _ = ⊥

-- ---- update

-- no revision is expected, or that of the entry is
abbrev pub IsExpected : Option ℕ → Entry → Type 0
IsExpected None x = ⊤
IsExpected (Some n) x = x.revision ≡ n

-- the book has the entry of this id, at the expected revision if one is expected
abbrev pub HasExpected : Bytes → Option ℕ → Book → Entry → Type 0
HasExpected k expected b x = Within b.entries x × (x.id ≡ k) × IsExpected expected x

-- the book has the entry of this id, but at another revision than the expected one
abbrev pub IsStale : Bytes → Option ℕ → Book → Type 0
IsStale k expected b = (x : Entry) × Within b.entries x × (x.id ≡ k) × (IsExpected expected x → ⊥)

-- The operation replies with the entry as it is given, at the next revision, which replaces the one of its id. That one is
-- at the expected revision, if one is expected. No other entry is like the new one, and its domains have bundles.
pub record Updates (e : NewEntry) (expected : Option ℕ) (b : Book) (d : OpEffect) : Type 0 where
  pub old : Entry
  pub found : HasExpected e.id expected b old
  pub alone : IsAlone e b
  pub bundled : AllByRecursion (HasBundle b) e.domains
  pub reply : d.reply ≡ replied.Entry (at_revision (old.revision + 1) e)
  pub after_it : EntriesBecome b (after d.writes b) (λ x. (x ≡ at_revision (old.revision + 1) e) ⊎ (Within b.entries x × (x.id ≢ e.id)))

-- when each refusal of an update is due
abbrev pub UpdateRefused : NewEntry → Option ℕ → Book → OpRefusal → Type 0
UpdateRefused e expected b NoEntry = HasEntry b e.id → ⊥
UpdateRefused e expected b StaleRevision = IsStale e.id expected b
UpdateRefused e expected b (Similar k) = ((old : Entry) × HasExpected e.id expected b old) × IsSimilar e b k
UpdateRefused e expected b (NoBundle k) = ((old : Entry) × HasExpected e.id expected b old) × LacksBundle e b k
UpdateRefused e expected b _ = ⊥

-- ---- delete

-- The operation replies with the entry, and removes it and nothing else. The entry is at the expected revision, if one is
-- expected.
pub record Deletes (k : Bytes) (expected : Option ℕ) (b : Book) (d : OpEffect) : Type 0 where
  pub old : Entry
  pub found : HasExpected k expected b old
  pub reply : d.reply ≡ replied.Entry old
  pub after_it : EntriesBecome b (after d.writes b) (λ x. Within b.entries x × (x.id ≢ k))

-- when each refusal of a delete is due
abbrev pub DeleteRefused : Bytes → Option ℕ → Book → OpRefusal → Type 0
DeleteRefused k expected b NoEntry = HasEntry b k → ⊥
DeleteRefused k expected b StaleRevision = IsStale k expected b
DeleteRefused k expected b _ = ⊥

-- ---- queries: they write nothing

-- The operation replies with the row of the key, if there is one.
pub record ShowsRow {X : Type 0} (key : X → Bytes) (rows : List X) (replies : Option X → OpReply) (k : Bytes) (d : OpEffect) : Type 0 where
  pub writes : d.writes ≡ []
  pub shown : Option X
  pub reply : d.reply ≡ replies shown
  pub is_row : IsRowAt key rows k shown

-- The operation replies with all rows for which `Has` holds, in order.
pub record Lists {X : Type 0} (key : X → Bytes) (replies : List X → OpReply) (Has : X → Type 0) (d : OpEffect) : Type 0 where
  pub writes : d.writes ≡ []
  pub shown : List X
  pub reply : d.reply ≡ replies shown
  pub listed : IsListOf key Has shown

-- the book has the agent of a query, and this holds of it
abbrev pub OfAgent : Bytes → Book → (Agent → Type 0) → Type 0
OfAgent k b Is = (a : Agent) × Within b.agents a × (a.id ≡ k) × Is a

-- the only refusal is NoAgent, which is due if the book has no such agent
abbrev pub LacksAgent : Bytes → Book → OpRefusal → Type 0
LacksAgent k b NoAgent = HasAgent b k → ⊥
LacksAgent k b _ = ⊥

-- ---- children, authorised and trust; `server` is the ID of the book's server

-- The operation replies with the entries of the parent.
abbrev pub ListsChildren : Bytes → Book → OpEffect → Type 0
ListsChildren p b d = Lists entry_key replied.Entries (λ x. Within b.entries x × (x.parent ≡ p)) d

-- The operation replies with the entries in which some chain for the agent ends.
abbrev pub ListsAuthorised : Bytes → Bytes → Book → OpEffect → Type 0
ListsAuthorised server k b d = OfAgent k b (λ a. Lists entry_key replied.Entries (EndsChain server a b) d)

-- The operation replies with the bundles of the domains that these entries name.
abbrev pub ListsTrust : Bytes → Bytes → Book → OpEffect → Type 0
ListsTrust server k b d = OfAgent k b (λ a. Lists bundle_key replied.Bundles (λ x. Within b.bundles x × ((e : Entry) × EndsChain server a b e × Names x.domain e)) d)

-- ---- prune

-- the entry expires before this moment; an expiry of 0 is none
abbrev pub IsExpired : ℕ → Entry → Type 0
IsExpired moment x = (0 < x.expiry) × (x.expiry < moment)

-- The operation replies with the ids of the expired entries, in order, and removes these and nothing else.
pub record Prunes (moment : ℕ) (b : Book) (d : OpEffect) : Type 0 where
  pub expired : List Entry
  pub are_expired : IsListOf entry_key (λ x. Within b.entries x × IsExpired moment x) expired
  pub reply : d.reply ≡ replied.Pruned (map entry_key expired)
  pub after_it : EntriesBecome b (after d.writes b) (λ x. Within b.entries x × (IsExpired moment x → ⊥))

-- ---- set_agent and drop_agent

-- The operation replies with the agent, which replaces the one of its id, if any; all else stays.
pub record SetsAgent (a : Agent) (b : Book) (d : OpEffect) : Type 0 where
  pub reply : d.reply ≡ replied.Agent a
  pub after_it : AgentsBecome b (after d.writes b) (λ x. (x ≡ a) ⊎ (Within b.agents x × (x.id ≢ a.id)))

-- The operation replies with the agent, and removes it and nothing else.
pub record DropsAgent (k : Bytes) (b : Book) (d : OpEffect) : Type 0 where
  pub old : Agent
  pub found : Within b.agents old × (old.id ≡ k)
  pub reply : d.reply ≡ replied.Agent old
  pub after_it : AgentsBecome b (after d.writes b) (λ x. Within b.agents x × (x.id ≢ k))

-- ---- set_bundle

-- the sequence is 0 for a new bundle, and grows by 1 with each further set
abbrev pub IsNextSequence : Option Bundle → ℕ → Type 0
IsNextSequence None n = n ≡ 0
IsNextSequence (Some old) n = n ≡ old.sequence + 1

-- The operation replies with the bundle, at the next sequence, which replaces the one of its domain, if any; all else stays.
pub record SetsBundle (domain text : Bytes) (b : Book) (d : OpEffect) : Type 0 where
  pub old : Option Bundle
  pub found : IsRowAt bundle_key b.bundles domain old
  pub new : Bundle
  pub domain_is : new.domain ≡ domain
  pub text_is : new.text ≡ text
  pub sequence : IsNextSequence old new.sequence
  pub reply : d.reply ≡ replied.Bundle new
  pub after_it : BundlesBecome b (after d.writes b) (λ x. (x ≡ new) ⊎ (Within b.bundles x × (x.domain ≢ domain)))

-- ---- drop_bundle

-- the bundle was in the book and is removed, and all other rows except the entries are as before
pub record DropsOne (domain : Bytes) (b c : Book) : Type 0 where
  pub there : HasBundle b domain
  pub bundles : IsListOf bundle_key (λ x. Within b.bundles x × (x.domain ≢ domain)) c.bundles
  pub others : c ≡ record b { entries = c.entries; bundles = c.bundles }

-- y is x without the domain, with its other domains in their order, at the next revision
pub record IsFreed (domain : Bytes) (x y : Entry) : Type 0 where
  pub domains : (d : Bytes) → Within y.domains d ↔ (Within x.domains d × (d ≢ domain))
  pub kept : y.domains ≡ filter (λ d. not (bytes_eq d domain)) x.domains
  pub order : IsDomainSet x.domains → IsDomainSet y.domains
  pub others : y ≡ record x { domains = y.domains; revision = x.revision + 1 }

-- the users are the entries that name the domain
abbrev pub AreUsers : Bytes → Book → List Entry → Type 0
AreUsers domain b users = IsListOf entry_key (λ x. Within b.entries x × Names domain x) users

-- no entry names the domain, and the entries stay
pub record DropsUnused (domain : Bytes) (b : Book) (d : OpEffect) : Type 0 where
  pub unused : (x : Entry) → Within b.entries x → Names domain x → ⊥
  pub reply : d.reply ≡ replied.Dropped [] []
  pub entries : (after d.writes b).entries ≡ b.entries
  pub bundle : DropsOne domain b (after d.writes b)

-- the entries that name the domain are deleted
pub record DropsDeleting (domain : Bytes) (b : Book) (d : OpEffect) : Type 0 where
  pub users : List Entry
  pub are_users : AreUsers domain b users
  pub reply : d.reply ≡ replied.Dropped (map entry_key users) []
  pub entries : IsListOf entry_key (λ x. Within b.entries x × (Names domain x → ⊥)) (after d.writes b).entries
  pub bundle : DropsOne domain b (after d.writes b)

-- the domain is removed from the entries that name it
pub record DropsDissociating (domain : Bytes) (b : Book) (d : OpEffect) : Type 0 where
  pub users : List Entry
  pub are_users : AreUsers domain b users
  pub reply : d.reply ≡ replied.Dropped [] (map entry_key users)
  pub entries : IsListOf entry_key (λ y. (Within b.entries y × (Names domain y → ⊥)) ⊎ ((x : Entry) × Within b.entries x × Names domain x × IsFreed domain x y)) (after d.writes b).entries
  pub bundle : DropsOne domain b (after d.writes b)

-- what a dropped bundle does in each mode
abbrev pub DropsBundle : Bytes → DropMode → Book → OpEffect → Type 0
DropsBundle domain mode.Restrict b d = DropsUnused domain b d
DropsBundle domain mode.Delete b d = DropsDeleting domain b d
DropsBundle domain mode.Dissociate b d = DropsDissociating domain b d

-- the mode refuses to drop a bundle in use
abbrev pub IsRestrict : DropMode → Type 0
IsRestrict mode.Restrict = ⊤
IsRestrict mode.Delete = ⊥
IsRestrict mode.Dissociate = ⊥

-- when each refusal of a dropped bundle is due
abbrev pub DropBundleRefused : Bytes → DropMode → Book → OpRefusal → Type 0
DropBundleRefused domain m b (NoBundle k) = (k ≡ domain) × (HasBundle b domain → ⊥)
DropBundleRefused domain m b BundleInUse = IsRestrict m × HasBundle b domain × ((x : Entry) × Within b.entries x × Names domain x)
DropBundleRefused domain m b _ = ⊥
