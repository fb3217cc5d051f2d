-- The results of the queries.
use Rattle.std.proofs.Common.{◌≡◌, ◌↔◌, true, List, [], Option, Some, None, refl, subst}
use Rattle.std.specs.Prelude.{MatchResult, filter, bytes_eq}
use Rattle.spiffe_name.specs.Id.{server_text}
use Rattle.entry_book.specs.declared.agent.Agent.{Agent}
use Rattle.entry_book.specs.declared.bundle.Bundle.{Bundle}
use Rattle.entry_book.specs.declared.op.Op.TheVariants.{Show, ShowAgent, ShowBundle, Children, Authorised, Trust}
use Rattle.entry_book.specs.declared.reply.OpReply.{OpReply}
use Rattle.entry_book.specs.declared.reply.OpReply.TheVariants as replied
use Rattle.entry_book.specs.Rows.{Bytes, Entry, entry_key, agent_key, bundle_key}
use Rattle.entry_book.specs.Order.{Within, first}
use Rattle.entry_book.specs.Book.{Book, AscendingBook, agent_at, children_of, names}
use Rattle.entry_book.specs.Authorised.{authorised, EndsChain}
use Rattle.entry_book.specs.Ops.{OpEffect, OpResult, done, for_agent, is_named, bundles_of, op_of}
use Rattle.entry_book.specs.Effects.{Names, ShowsRow, ListsChildren, ListsAuthorised, ListsTrust, LacksAgent}
use Rattle.entry_book.proofs.Chains.{ends_of_chains, authorised_in_order}
use Rattle.entry_book.proofs.Keys.{at_row, no_row}
use Rattle.entry_book.proofs.Listed.{row_found, listed_filter}
use Rattle.entry_book.proofs.Sets.{within_any, from_any, text_is, text_same}

-- ---- show, show_agent and show_bundle

shows : {X : Type 0} (key : X → Bytes) (rows : List X) (replies : Option X → OpReply) (k : Bytes) → ShowsRow key rows replies k (record { reply = replies (first (filter (λ x. bytes_eq (key x) k) rows)); writes = [] })
shows key rows replies k = record { writes = refl; shown = first (filter (λ x. bytes_eq (key x) k) rows); reply = refl; is_row = row_found key k rows (first (filter (λ x. bytes_eq (key x) k) rows)) refl }

pub show_effect : (own_domain : Bytes) (k : Bytes) (b : Book) → AscendingBook b → MatchResult (op_of own_domain (Show k) b) (ShowsRow entry_key b.entries replied.EntryShown k) (λ refusal. ⊥)
show_effect own_domain k b s = shows entry_key b.entries replied.EntryShown k

pub show_agent_effect : (own_domain : Bytes) (k : Bytes) (b : Book) → AscendingBook b → MatchResult (op_of own_domain (ShowAgent k) b) (ShowsRow agent_key b.agents replied.AgentShown k) (λ refusal. ⊥)
show_agent_effect own_domain k b s = shows agent_key b.agents replied.AgentShown k

pub show_bundle_effect : (own_domain : Bytes) (k : Bytes) (b : Book) → AscendingBook b → MatchResult (op_of own_domain (ShowBundle k) b) (ShowsRow bundle_key b.bundles replied.BundleShown k) (λ refusal. ⊥)
show_bundle_effect own_domain k b s = shows bundle_key b.bundles replied.BundleShown k

-- ---- children

pub children_effect : (own_domain : Bytes) (p : Bytes) (b : Book) → AscendingBook b → MatchResult (op_of own_domain (Children p) b) (ListsChildren p b) (λ refusal. ⊥)
children_effect own_domain p b s = record {
  writes = refl;
  shown = children_of p b;
  reply = refl;
  listed = listed_filter entry_key (λ x. bytes_eq x.parent p) (λ x. x.parent ≡ p) b.entries (λ x. (text_is x.parent p, text_same x.parent p)) s.entries;
}

-- ---- queries of an agent

-- an operation on an agent that the book may lack
module _ (k : Bytes) (b : Book) (f : Agent → OpResult) (Good : OpEffect → Type 0) (found : (a : Agent) → Within b.agents a → a.id ≡ k → MatchResult (f a) Good (LacksAgent k b)) where
  of_agent : (o : Option Agent) → agent_at k b ≡ o → MatchResult (for_agent o f) Good (LacksAgent k b)
  of_agent None h = λ v. no_row agent_key k b.agents h v.0 v.1 v.2
  of_agent (Some a) h = let r = at_row agent_key k b.agents a h in found a r.0 r.1

  pub agent_effect : MatchResult (for_agent (agent_at k b) f) Good (LacksAgent k b)
  agent_effect = of_agent (agent_at k b) refl

pub authorised_effect : (own_domain : Bytes) (k : Bytes) (b : Book) → AscendingBook b → MatchResult (op_of own_domain (Authorised k) b) (ListsAuthorised (server_text own_domain) k b) (LacksAgent k b)
authorised_effect own_domain k b s = agent_effect k b (λ a. done (replied.Entries (authorised (server_text own_domain) a b)) []) (ListsAuthorised (server_text own_domain) k b) (λ a w q. (
  a,
  w,
  q,
  record {
    writes = refl;
    shown = authorised (server_text own_domain) a b;
    reply = refl;
    listed = record { members = ends_of_chains (server_text own_domain) a b; order = authorised_in_order (server_text own_domain) a b s.entries };
  },
))

-- ---- trust

pub names_is : (domain : Bytes) (e : Entry) → (names domain e ≡ true) ↔ Names domain e
names_is domain e = (
  λ h. let r = from_any (λ d. bytes_eq d domain) e.domains h in subst (Within e.domains) (text_is r.0 domain r.2) r.1,
  λ w. within_any (λ d. bytes_eq d domain) e.domains domain w (text_same domain domain refl),
)

pub named_is : (server : Bytes) (a : Agent) (b : Book) (d : Bundle) → (is_named (authorised server a b) d ≡ true) ↔ ((e : Entry) × EndsChain server a b e × Names d.domain e)
named_is server a b d = (
  λ h. let r = from_any (names d.domain) (authorised server a b) h in (r.0, (ends_of_chains server a b r.0).0 r.1, (names_is d.domain r.0).0 r.2),
  λ v. within_any (names d.domain) (authorised server a b) v.0 ((ends_of_chains server a b v.0).1 v.1) ((names_is d.domain v.0).1 v.2),
)

pub trust_effect : (own_domain : Bytes) (k : Bytes) (b : Book) → AscendingBook b → MatchResult (op_of own_domain (Trust k) b) (ListsTrust (server_text own_domain) k b) (LacksAgent k b)
trust_effect own_domain k b s = agent_effect k b (λ a. done (replied.Bundles (bundles_of (authorised (server_text own_domain) a b) b)) []) (ListsTrust (server_text own_domain) k b) (λ a w q. (
  a,
  w,
  q,
  record {
    writes = refl;
    shown = bundles_of (authorised (server_text own_domain) a b) b;
    reply = refl;
    listed = listed_filter bundle_key (is_named (authorised (server_text own_domain) a b)) (λ d. (e : Entry) × EndsChain (server_text own_domain) a b e × Names d.domain e) b.bundles (named_is (server_text own_domain) a b) s.bundles;
  },
))
