-- Writes that keep a book lawful.
use Rattle.std.proofs.Common.{◌≡◌, ◌≢◌, ◌⊎◌, ℕ, ◌*◌, ◌<◌, ◌≤◌, List, [], Option, Some, None, refl, sym, ap, subst, ◌∙◌, inl, inr, ⊎_elim, IfSome, arith}
use Rattle.std.specs.Prelude.{option_to_list, bytes_eq}
use Rattle.std.proofs.lemmas.Bool.{both_ways, cases_Bool}
use Rattle.entry_book.specs.declared.agent.Agent.{Agent}
use Rattle.entry_book.specs.declared.bundle.Bundle.{Bundle}
use Rattle.spiffe_name.specs.Domain.{IsDomain}
use Rattle.entry_book.specs.declared.kept.KeptBatch.{KeptBatch}
use Rattle.entry_book.specs.Rows.{Bytes, Entry, given_of, entry_key, agent_key, bundle_key, IsProperEntry, IsProperAgent}
use Rattle.entry_book.specs.Tokens.{token_key}
use Rattle.entry_book.specs.Order.{Within, Ascending, with_row}
use Rattle.entry_book.specs.Book.{Book, HasBundle, names, users_of}
use Rattle.entry_book.specs.Writes.{wrote_entry, wrote_agent, wrote_bundle, wrote_token, after_write}
use Rattle.entry_book.specs.Batches.{IsMadeFor, entry_fault, agent_fault, bundle_fault}
use Rattle.entry_book.specs.Lawful.{Lawful}
use Rattle.entry_book.proofs.InOrder.{ascending-with_row}
use Rattle.entry_book.proofs.Keys.{from_with_row, within_with_row, new_with_row}
use Rattle.entry_book.proofs.Sets.{within_filter, within_any, text_is, text_same}

pub wider : {own_domain : Bytes} {m : ℕ} {b : Book} (n : ℕ) → m ≤ n → Lawful own_domain m b → Lawful own_domain n b
wider n h l = record { ascending = l.ascending; apart = l.apart; bundled = l.bundled; not_own = l.not_own; proper = l.proper; proper_agents = l.proper_agents; proper_bundles = l.proper_bundles; no_fault = l.no_fault; no_agent_fault = l.no_agent_fault; no_bundle_fault = l.no_bundle_fault; revisions = λ e w. let k = l.revisions e w in omega arith; sequences = λ d w. let k = l.sequences d w in omega arith; proper_tokens = l.proper_tokens; places = λ t w. let p = l.places t w in let k = p.1 in (p.0, omega arith) }

one : {X : Type 0} (o : Option X) (x : X) → Within (option_to_list o) x → o ≡ Some x
one None x w = absurd w
one (Some y) x w = ⊎_elim (λ e. ap Some e) (λ n. absurd n) w

if_some : {X : Type 0} (P : X → Type 0) (o : Option X) (x : X) → IfSome o P → o ≡ Some x → P x
if_some P o x h e = let k : IfSome (Some x) P = subst (λ o. IfSome o P) e h in k

some_or : {X : Type 0} (o : Option X) → ((x : X) × (o ≡ Some x)) ⊎ (o ≡ None)
some_or None = inr refl
some_or (Some x) = inl (x, refl)

-- ---- an entry

-- a row that may be put into a lawful book in place of the one at k
pub record MayCome (own_domain : Bytes) (m : ℕ) (b : Book) (k : Bytes) (x : Entry) : Type 0 where
  pub keyed : x.id ≡ k
  pub apart : (f : Entry) → Within b.entries f → x.parent ≡ f.parent → x.identity ≡ f.identity → x.selectors ≡ f.selectors → f.id ≡ k
  pub bundled : (d : Bytes) → Within x.domains d → HasBundle b d
  pub proper : IsProperEntry (given_of x)
  pub no_fault : entry_fault own_domain (given_of x) ≡ None
  pub low : x.revision ≤ m

keyed_new : (own_domain : Bytes) (m : ℕ) (b : Book) (k : Bytes) (n : Option Entry) → IfSome n (MayCome own_domain m b k) → IfSome n (λ x. x.id ≡ k)
keyed_new own_domain m b k None h = tt
keyed_new own_domain m b k (Some x) h = h.keyed

pub lawful_entry : (own_domain : Bytes) (m : ℕ) (b : Book) → Lawful own_domain m b → (k : Bytes) (o n : Option Entry) → IfSome n (MayCome own_domain m b k) → Lawful own_domain m (after_write (wrote_entry (record { key = k; old = o; new = n })) b)
lawful_entry own_domain m b l k o n h =
    let new : (x : Entry) → Within (option_to_list n) x → MayCome own_domain m b k x = λ x w. if_some (MayCome own_domain m b k) n x h (one n x w) in
    record {
      ascending = record { entries = ascending-with_row entry_key k n b.entries l.ascending.entries (keyed_new own_domain m b k n h); agents = l.ascending.agents; bundles = l.ascending.bundles; tokens = l.ascending.tokens };
      apart = λ e f w v p i s. ⊎_elim
          (λ x. ⊎_elim
          (λ y. (new e x).keyed ∙ sym (new f y).keyed)
          (λ y. absurd (y.1 ((new e x).apart f y.0 p i s)))
          (from_with_row entry_key k n b.entries f v))
          (λ x. ⊎_elim
          (λ y. absurd (x.1 ((new f y).apart e x.0 (sym p) (sym i) (sym s))))
          (λ y. l.apart e f x.0 y.0 p i s)
          (from_with_row entry_key k n b.entries f v))
          (from_with_row entry_key k n b.entries e w);
      bundled = λ e w. ⊎_elim (λ x. (new e x).bundled) (λ x. l.bundled e x.0) (from_with_row entry_key k n b.entries e w);
      not_own = l.not_own;
      proper = λ e w. ⊎_elim (λ x. (new e x).proper) (λ x. l.proper e x.0) (from_with_row entry_key k n b.entries e w);
      proper_agents = l.proper_agents;
      proper_bundles = l.proper_bundles;
      no_fault = λ e w. ⊎_elim (λ x. (new e x).no_fault) (λ x. l.no_fault e x.0) (from_with_row entry_key k n b.entries e w);
      no_agent_fault = l.no_agent_fault;
      no_bundle_fault = l.no_bundle_fault;
      revisions = λ e w. ⊎_elim (λ x. (new e x).low) (λ x. l.revisions e x.0) (from_with_row entry_key k n b.entries e w);
      sequences = l.sequences;
      proper_tokens = l.proper_tokens;
      places = l.places;
    }

-- ---- entries that are removed, or changed

-- The entry x may replace e in a lawful book: it has the same id, parent, identity and selectors, and no further domain.
pub record MayReplace (own_domain : Bytes) (m : ℕ) (e x : Entry) : Type 0 where
  pub id : x.id ≡ e.id
  pub parent : x.parent ≡ e.parent
  pub identity : x.identity ≡ e.identity
  pub selectors : x.selectors ≡ e.selectors
  pub domains : (d : Bytes) → Within x.domains d → Within e.domains d
  pub proper : IsProperEntry (given_of e) → IsProperEntry (given_of x)
  pub no_fault : entry_fault own_domain (given_of e) ≡ None → entry_fault own_domain (given_of x) ≡ None
  pub low : x.revision ≤ m

pub same_milder : (own_domain : Bytes) (m : ℕ) (b : Book) → Lawful own_domain m b → (e : Entry) → Within b.entries e → MayReplace own_domain m e e
same_milder own_domain m b l e w = record { id = refl; parent = refl; identity = refl; selectors = refl; domains = λ d v. v; proper = λ p. p; no_fault = λ f. f; low = l.revisions e w }

-- each of these rows may replace an entry of the book
abbrev pub AreMilder : Bytes → ℕ → Book → List Entry → Type 0
AreMilder own_domain m b rows = (x : Entry) → Within rows x → (e : Entry) × Within b.entries e × MayReplace own_domain m e x

pub lawful_milder : (own_domain : Bytes) (m : ℕ) (b : Book) (rows : List Entry) → Lawful own_domain m b → Ascending entry_key rows → AreMilder own_domain m b rows → Lawful own_domain m (record b { entries = rows })
lawful_milder own_domain m b rows l a from = record {
  ascending = record { entries = a; agents = l.ascending.agents; bundles = l.ascending.bundles; tokens = l.ascending.tokens };
  apart = λ x y w v p i s.
      let f = from x w in
      let g = from y v in
      f.2.id ∙ (l.apart f.0 g.0 f.1 g.1 (sym f.2.parent ∙ (p ∙ g.2.parent)) (sym f.2.identity ∙ (i ∙ g.2.identity)) (sym f.2.selectors ∙ (s ∙ g.2.selectors)) ∙ sym g.2.id);
  bundled = λ x w d v. let f = from x w in l.bundled f.0 f.1 d (f.2.domains d v);
  not_own = l.not_own;
  proper = λ x w. let f = from x w in f.2.proper (l.proper f.0 f.1);
  proper_agents = l.proper_agents;
  proper_bundles = l.proper_bundles;
  no_fault = λ x w. let f = from x w in f.2.no_fault (l.no_fault f.0 f.1);
  no_agent_fault = l.no_agent_fault;
  no_bundle_fault = l.no_bundle_fault;
  revisions = λ x w. (from x w).2.low;
  sequences = l.sequences;
  proper_tokens = l.proper_tokens;
  places = l.places;
}

-- ---- an agent

-- an agent that may be put into a lawful book in place of the one at k
pub record AgentMayCome (own_domain k : Bytes) (a : Agent) : Type 0 where
  pub keyed : a.id ≡ k
  pub proper : IsProperAgent a
  pub no_fault : agent_fault own_domain a ≡ None

agent_keyed : (own_domain k : Bytes) (n : Option Agent) → IfSome n (AgentMayCome own_domain k) → IfSome n (λ a. a.id ≡ k)
agent_keyed own_domain k None h = tt
agent_keyed own_domain k (Some a) h = h.keyed

pub lawful_agent : (own_domain : Bytes) (m : ℕ) (b : Book) → Lawful own_domain m b → (k : Bytes) (o n : Option Agent) → IfSome n (AgentMayCome own_domain k) → Lawful own_domain m (after_write (wrote_agent (record { key = k; old = o; new = n })) b)
lawful_agent own_domain m b l k o n h =
    let new : (x : Agent) → Within (option_to_list n) x → AgentMayCome own_domain k x = λ x w. if_some (AgentMayCome own_domain k) n x h (one n x w) in
    record {
      ascending = record { entries = l.ascending.entries; agents = ascending-with_row agent_key k n b.agents l.ascending.agents (agent_keyed own_domain k n h); bundles = l.ascending.bundles; tokens = l.ascending.tokens };
      apart = l.apart;
      bundled = l.bundled;
      not_own = l.not_own;
      proper = l.proper;
      proper_agents = λ x w. ⊎_elim (λ v. (new x v).proper) (λ v. l.proper_agents x v.0) (from_with_row agent_key k n b.agents x w);
      proper_bundles = l.proper_bundles;
      no_fault = l.no_fault;
      no_agent_fault = λ x w. ⊎_elim (λ v. (new x v).no_fault) (λ v. l.no_agent_fault x v.0) (from_with_row agent_key k n b.agents x w);
      no_bundle_fault = l.no_bundle_fault;
      revisions = l.revisions;
      sequences = l.sequences;
      proper_tokens = l.proper_tokens;
      places = l.places;
    }

-- ---- a bundle; if it is removed, no entry names it

-- a bundle that may be put into a lawful book in place of the one at k
pub record BundleMayCome (own_domain : Bytes) (m : ℕ) (k : Bytes) (d : Bundle) : Type 0 where
  pub keyed : d.domain ≡ k
  pub proper : IsDomain d.domain
  pub no_fault : bundle_fault own_domain d.domain d.text ≡ None
  pub low : d.sequence ≤ m

bundle_keyed : (own_domain : Bytes) (m : ℕ) (k : Bytes) (n : Option Bundle) → IfSome n (BundleMayCome own_domain m k) → IfSome n (λ d. d.domain ≡ k)
bundle_keyed own_domain m k None h = tt
bundle_keyed own_domain m k (Some d) h = h.keyed

pub lawful_bundle : (own_domain : Bytes) (m : ℕ) (b : Book) → Lawful own_domain m b → (k : Bytes) (o n : Option Bundle) → k ≢ own_domain → IfSome n (BundleMayCome own_domain m k) → (n ≡ None → users_of k b ≡ []) → Lawful own_domain m (after_write (wrote_bundle (record { key = k; old = o; new = n })) b)
lawful_bundle own_domain m b l k o n ne h unused =
    let new : (x : Bundle) → Within (option_to_list n) x → BundleMayCome own_domain m k x = λ x w. if_some (BundleMayCome own_domain m k) n x h (one n x w) in
    let found : (d : Bytes) → HasBundle b d → (d ≢ k) → HasBundle (after_write (wrote_bundle (record { key = k; old = o; new = n })) b) d = λ d r q. (r.0, within_with_row bundle_key k n b.bundles r.0 r.1 (λ t. q (sym r.2 ∙ t)), r.2) in
    record {
      ascending = record { entries = l.ascending.entries; agents = l.ascending.agents; bundles = ascending-with_row bundle_key k n b.bundles l.ascending.bundles (bundle_keyed own_domain m k n h); tokens = l.ascending.tokens };
      apart = l.apart;
      bundled = λ e w d v. ⊎_elim
          (λ t. ⊎_elim
          (λ x. (x.0, subst (λ n. Within (with_row bundle_key k n b.bundles) x.0) (sym x.1) (new_with_row bundle_key k x.0 b.bundles), (if_some (BundleMayCome own_domain m k) n x.0 h x.1).keyed ∙ sym (text_is d k t)))
          (λ q. absurd (subst (λ es. Within es e) (unused q) (within_filter (names k) b.entries e w (within_any (λ y. bytes_eq y k) e.domains d v t))))
          (some_or n))
          (λ t. found d (l.bundled e w d v) (λ q. both_ways _ t (text_same d k q)))
          (cases_Bool (bytes_eq d k));
      not_own = λ v. ⊎_elim (λ x. ne (sym (new v.0 x).keyed ∙ v.2)) (λ x. l.not_own (v.0, x.0, v.2)) (from_with_row bundle_key k n b.bundles v.0 v.1);
      proper = l.proper;
      proper_agents = l.proper_agents;
      proper_bundles = λ d w. ⊎_elim (λ x. (new d x).proper) (λ x. l.proper_bundles d x.0) (from_with_row bundle_key k n b.bundles d w);
      no_fault = l.no_fault;
      no_agent_fault = l.no_agent_fault;
      no_bundle_fault = λ d w. ⊎_elim (λ x. (new d x).no_fault) (λ x. l.no_bundle_fault d x.0) (from_with_row bundle_key k n b.bundles d w);
      revisions = l.revisions;
      sequences = λ d w. ⊎_elim (λ x. (new d x).low) (λ x. l.sequences d x.0) (from_with_row bundle_key k n b.bundles d w);
      proper_tokens = l.proper_tokens;
      places = l.places;
    }

-- ---- what is stored for a batch

-- a batch that may be stored in a lawful book under this token
pub record KeptMayCome (own_domain : Bytes) (m : ℕ) (token : Bytes) (k : KeptBatch) : Type 0 where
  pub keyed : k.token ≡ token
  pub made : IsMadeFor own_domain (record { domain = own_domain; ops = k.ops; after = 0; token = Some k.token })
  pub some : 0 < k.place
  pub low : 64 * k.place ≤ m

some_is : (k t : KeptBatch) → Some k ≡ Some t → k ≡ t
some_is k t e = cc

pub lawful_kept : (own_domain : Bytes) (m : ℕ) (b : Book) → Lawful own_domain m b → (token : Bytes) (o : Option KeptBatch) (k : KeptBatch) → KeptMayCome own_domain m token k → Lawful own_domain m (after_write (wrote_token (record { key = token; old = o; new = Some k })) b)
lawful_kept own_domain m b l token o k h =
    let new : (t : KeptBatch) → Within (option_to_list (Some k)) t → KeptMayCome own_domain m token t = λ t x. subst (KeptMayCome own_domain m token) (some_is k t (one (Some k) t x)) h in
    record {
      ascending = record { entries = l.ascending.entries; agents = l.ascending.agents; bundles = l.ascending.bundles; tokens = ascending-with_row token_key token (Some k) b.tokens l.ascending.tokens h.keyed };
      apart = l.apart;
      bundled = l.bundled;
      not_own = l.not_own;
      proper = l.proper;
      proper_agents = l.proper_agents;
      proper_bundles = l.proper_bundles;
      no_fault = l.no_fault;
      no_agent_fault = l.no_agent_fault;
      no_bundle_fault = l.no_bundle_fault;
      revisions = l.revisions;
      sequences = l.sequences;
      proper_tokens = λ t w. ⊎_elim (λ x. (new t x).made) (λ x. l.proper_tokens t x.0) (from_with_row token_key token (Some k) b.tokens t w);
      places = λ t w. ⊎_elim (λ x. ((new t x).some, (new t x).low)) (λ x. l.places t x.0) (from_with_row token_key token (Some k) b.tokens t w);
    }
