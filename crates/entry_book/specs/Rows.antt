-- The rows of a book. An agent, a bundle and a new entry are the records of the crate's own types of these names.
use Rattle.std.specs.Prelude.{◌≡◌, ℕ, List, [], ◌∷◌, length, Some}
use Rattle.std.specs.List.{AllByRecursion}
use Rattle.spiffe_name.specs.Domain.{IsDomain}
use Rattle.spiffe_name.specs.Id.{Spells}
use Rattle.spiffe_name.specs.Selector.{SelectorPair}
use Rattle.spiffe_name.specs.SelectorSet.{IsSelectorSet}
use Rattle.entry_book.specs.declared.agent.Agent.{Agent}
use Rattle.entry_book.specs.declared.bundle.Bundle.{Bundle}
use Rattle.entry_book.specs.declared.entry.NewEntry.{NewEntry}
use Rattle.entry_book.specs.Order.{Ascending, with_row}

-- the bytes of a text, or the sixteen bytes of a UUID
abbrev pub Bytes : Type 0
Bytes = List ℕ

-- An entry of the book.
pub record Entry : Type 0 where
  pub id : Bytes
  pub parent : Bytes
  pub identity : Bytes
  pub selectors : List SelectorPair
  pub hint : Bytes
  pub domains : List Bytes
  pub expiry : ℕ
  pub x509_svid_ttl : ℕ
  pub jwt_svid_ttl : ℕ
  pub revision : ℕ

-- the new entry, at this revision
abbrev pub at_revision : ℕ → NewEntry → Entry
at_revision n e = record { id = e.id; parent = e.parent; identity = e.identity; selectors = e.selectors; hint = e.hint; domains = e.domains; expiry = e.expiry; x509_svid_ttl = e.x509_svid_ttl; jwt_svid_ttl = e.jwt_svid_ttl; revision = n }

-- the entry without its revision
abbrev pub given_of : Entry → NewEntry
given_of e = record { id = e.id; parent = e.parent; identity = e.identity; selectors = e.selectors; hint = e.hint; domains = e.domains; expiry = e.expiry; x509_svid_ttl = e.x509_svid_ttl; jwt_svid_ttl = e.jwt_svid_ttl }

-- the key of each kind of row
abbrev pub entry_key : Entry → Bytes
entry_key e = e.id

abbrev pub agent_key : Agent → Bytes
agent_key a = a.id

abbrev pub bundle_key : Bundle → Bytes
bundle_key d = d.domain

-- ---- the invariants of the parts' types: sets are lists in one order, so that equal sets are equal lists

-- the text is a SPIFFE ID
abbrev pub IsId : Bytes → Type 0
IsId text = (domain : Bytes) × (segments : List Bytes) × Spells text domain segments

-- each trust domain once, in the order of their bytes
abbrev pub IsDomainSet : List Bytes → Type 0
IsDomainSet domains = Ascending (λ domain. domain) domains

-- the set of the domains of a list, without duplicates
abbrev pub domain_set : List Bytes → List Bytes
domain_set [] = []
domain_set (domain ∷ domains) = with_row (λ d. d) domain (Some domain) (domain_set domains)

-- The parts of a new entry satisfy the invariants of their types.
pub record IsProperEntry (e : NewEntry) : Type 0 where
  pub id : length e.id ≡ 16
  pub parent : IsId e.parent
  pub identity : IsId e.identity
  pub selectors : IsSelectorSet e.selectors
  pub domains : IsDomainSet e.domains
  pub are_domains : AllByRecursion IsDomain e.domains

-- The parts of an agent satisfy the invariants of their types.
pub record IsProperAgent (a : Agent) : Type 0 where
  pub id : IsId a.id
  pub selectors : IsSelectorSet a.selectors
