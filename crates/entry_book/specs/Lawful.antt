-- The lawful (valid) books of a trust domain, and those whose revisions and sequences can still grow.
use Rattle.std.specs.Prelude.{◌≡◌, ℕ, ◌*◌, ◌^◌, ◌<◌, ◌≤◌, Some, None}
use Rattle.spiffe_name.specs.Domain.{IsDomain}
use Rattle.entry_book.specs.declared.agent.Agent.{Agent}
use Rattle.entry_book.specs.declared.bundle.Bundle.{Bundle}
use Rattle.entry_book.specs.declared.kept.KeptBatch.{KeptBatch}
use Rattle.entry_book.specs.Rows.{Bytes, Entry, given_of, IsProperEntry, IsProperAgent}
use Rattle.entry_book.specs.Order.{Within}
use Rattle.entry_book.specs.Book.{Book, AscendingBook, HasBundle}
use Rattle.entry_book.specs.Batches.{IsMadeFor, entry_fault, agent_fault, bundle_fault}

-- `own_domain` is the server's trust domain. `most` bounds revisions, sequences and 64 times each token's place; in book n
-- it is 64 n.
pub record Lawful (own_domain : Bytes) (most : ℕ) (b : Book) : Type 0 where
  -- entry ids, agent ids, bundle domains and tokens are each distinct
  pub ascending : AscendingBook b
  -- no two entries have the same parent, identity and selectors
  pub apart : (e f : Entry) → Within b.entries e → Within b.entries f → e.parent ≡ f.parent → e.identity ≡ f.identity → e.selectors ≡ f.selectors → e.id ≡ f.id
  -- each domain of an entry has a bundle
  pub bundled : (e : Entry) → Within b.entries e → (d : Bytes) → Within e.domains d → HasBundle b d
  -- the server's own domain has none
  pub not_own : HasBundle b own_domain → ⊥
  -- the parts of each row satisfy the invariants of their types: names are in the grammar, and sets are in order
  pub proper : (e : Entry) → Within b.entries e → IsProperEntry (given_of e)
  pub proper_agents : (a : Agent) → Within b.agents a → IsProperAgent a
  pub proper_bundles : (d : Bundle) → Within b.bundles d → IsDomain d.domain
  -- no row has a fault for which a batch is refused, by the same tables
  pub no_fault : (e : Entry) → Within b.entries e → entry_fault own_domain (given_of e) ≡ None
  pub no_agent_fault : (a : Agent) → Within b.agents a → agent_fault own_domain a ≡ None
  pub no_bundle_fault : (d : Bundle) → Within b.bundles d → bundle_fault own_domain d.domain d.text ≡ None
  pub revisions : (e : Entry) → Within b.entries e → e.revision ≤ most
  pub sequences : (d : Bundle) → Within b.bundles d → d.sequence ≤ most
  -- the operations of a stored batch, with its token, are a batch for this trust domain
  pub proper_tokens : (k : KeptBatch) → Within b.tokens k → IsMadeFor own_domain (record { domain = own_domain; ops = k.ops; after = 0; token = Some k.token })
  -- its place is positive, and in book n at most n
  pub places : (k : KeptBatch) → Within b.tokens k → (0 < k.place) × (64 * k.place ≤ most)

-- No revision and no sequence is above 2^63, so that the next one fits in 64 bits. Each lawful book of a history satisfies this.
pub record CanGrow (b : Book) : Type 0 where
  pub revisions : (e : Entry) → Within b.entries e → e.revision ≤ 2 ^ 63
  pub sequences : (d : Bundle) → Within b.bundles d → d.sequence ≤ 2 ^ 63
