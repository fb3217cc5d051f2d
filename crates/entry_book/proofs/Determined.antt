-- The effect of an operation determines its reply and the book after it.
use Rattle.std.proofs.Common.{◌≡◌, ℕ, ◌+◌, List, [], ◌⊎◌, Option, Some, None, refl, sym, ap, subst, ◌∙◌}
use Rattle.std.specs.Prelude.{map}
use Rattle.entry_book.specs.declared.agent.Agent.{Agent}
use Rattle.entry_book.specs.declared.bundle.Bundle.{Bundle}
use Rattle.entry_book.specs.declared.entry.NewEntry.{NewEntry}
use Rattle.entry_book.specs.declared.mode.DropMode.{DropMode}
use Rattle.entry_book.specs.declared.mode.DropMode.TheVariants as mode
use Rattle.entry_book.specs.declared.op.Op.{Op}
use Rattle.entry_book.specs.declared.op.Op.TheVariants.{Create, Update, Delete, Show, ShowAgent, ShowBundle, Children, Page, Authorised, Trust, Prune, SetAgent, DropAgent, SetBundle, DropBundle}
use Rattle.entry_book.specs.declared.reply.OpReply.{OpReply}
use Rattle.entry_book.specs.declared.reply.OpReply.TheVariants as replied
use Rattle.entry_book.specs.Rows.{Bytes, Entry, at_revision, entry_key, agent_key, bundle_key}
use Rattle.entry_book.specs.Order.{Within, Ascending}
use Rattle.entry_book.specs.Book.{Book, AscendingBook}
use Rattle.entry_book.specs.Writes.{after}
use Rattle.entry_book.specs.Ops.{OpEffect, next_sequence}
use Rattle.entry_book.specs.Effects.{IsListOf, IsRowAt, EntriesBecome, AgentsBecome, BundlesBecome, Creates, Updates, Deletes, ShowsRow, Lists, OfAgent, Prunes, SetsAgent, DropsAgent, IsNextSequence, SetsBundle, DropsOne, DropsUnused, DropsDeleting, DropsDissociating, DropsBundle}
use Rattle.entry_book.specs.Laws.{EffectOf}
use Rattle.entry_book.specs.Listings.{ListsPage}
use Rattle.entry_book.specs.declared.page.PageQuery.{PageQuery}
use Rattle.entry_book.proofs.Keys.{same_key}
use Rattle.entry_book.proofs.Pages.{one_page}
use Rattle.entry_book.proofs.Sets.{same_sets}

-- one reply, and one book after
abbrev Same : Book → OpEffect → OpEffect → Type 0
Same b c d = (c.reply ≡ d.reply) × (after c.writes b ≡ after d.writes b)

-- ---- rows, lists and books

one_listing : {X : Type 0} (key : X → Bytes) (Has : X → Type 0) (xs ys : List X) → IsListOf key Has xs → IsListOf key Has ys → xs ≡ ys
one_listing key Has xs ys g h = same_sets key xs ys g.order h.order (λ x w. (h.members x).1 ((g.members x).0 w)) (λ x w. (g.members x).1 ((h.members x).0 w))

one_row : {X : Type 0} (key : X → Bytes) (rows : List X) → Ascending key rows → (k : Bytes) (o p : Option X) → IsRowAt key rows k o → IsRowAt key rows k p → o ≡ p
one_row key rows s k None None g h = refl
one_row key rows s k None (Some y) g h = absurd (g y h.0 h.1)
one_row key rows s k (Some x) None g h = absurd (h x g.0 g.1)
one_row key rows s k (Some x) (Some y) g h = ap Some (same_key key rows s x y g.0 h.0 (g.1 ∙ sym h.1))

module _ (b c d : Book) where
  one_by_entries : (Has : Entry → Type 0) → EntriesBecome b c Has → EntriesBecome b d Has → c ≡ d
  one_by_entries Has g h = g.others ∙ (ap (λ (es : List Entry). record b { entries = es }) (one_listing entry_key Has c.entries d.entries g.listed h.listed) ∙ sym h.others)

  one_by_agents : (Has : Agent → Type 0) → AgentsBecome b c Has → AgentsBecome b d Has → c ≡ d
  one_by_agents Has g h = g.others ∙ (ap (λ (xs : List Agent). record b { agents = xs }) (one_listing agent_key Has c.agents d.agents g.listed h.listed) ∙ sym h.others)

  one_by_bundles : (Has : Bundle → Type 0) → BundlesBecome b c Has → BundlesBecome b d Has → c ≡ d
  one_by_bundles Has g h = g.others ∙ (ap (λ (xs : List Bundle). record b { bundles = xs }) (one_listing bundle_key Has c.bundles d.bundles g.listed h.listed) ∙ sym h.others)

  one_dropped : (domain : Bytes) → c.entries ≡ d.entries → DropsOne domain b c → DropsOne domain b d → c ≡ d
  one_dropped domain e g h =
      let q = one_listing bundle_key _ c.bundles d.bundles g.bundles h.bundles in
      g.others ∙ (ap (λ (es : List Entry). record b { entries = es; bundles = c.bundles }) e ∙ (ap (λ (xs : List Bundle). record b { entries = d.entries; bundles = xs }) q ∙ sym h.others))

-- ---- bundles

next_is : (o : Option Bundle) (n : ℕ) → IsNextSequence o n → n ≡ next_sequence o
next_is None n e = e
next_is (Some x) n e = e

abbrev bundle : Bytes → Bytes → ℕ → Bundle
bundle domain text n = record { domain = domain; text = text; sequence = n }

one_bundle : (x y : Bundle) → x.domain ≡ y.domain → x.text ≡ y.text → x.sequence ≡ y.sequence → x ≡ y
one_bundle x y p q r = ap (λ t. bundle t x.text x.sequence) p ∙ (ap (λ t. bundle y.domain t x.sequence) q ∙ ap (bundle y.domain y.text) r)

-- ---- each operation

module _ (b : Book) (s : AscendingBook b) (c d : OpEffect) where
  one_create : (e : NewEntry) → Creates e b c → Creates e b d → Same b c d
  one_create e g h = (g.reply ∙ sym h.reply, one_by_entries b _ _ _ g.after_it h.after_it)

  one_update : (e : NewEntry) (expected : Option ℕ) → Updates e expected b c → Updates e expected b d → Same b c d
  one_update e expected g h =
      let q : g.old ≡ h.old = same_key entry_key b.entries s.entries g.old h.old g.found.0 h.found.0 (g.found.1 ∙ sym h.found.1) in
      let Is : Entry → Type 0 = λ old. EntriesBecome b (after c.writes b) (λ x. (x ≡ at_revision (old.revision + 1) e) ⊎ (Within b.entries x × (x.id ≡ e.id → ⊥))) in
      (g.reply ∙ (ap (λ (old : Entry). replied.Entry (at_revision (old.revision + 1) e)) q ∙ sym h.reply), one_by_entries b _ _ _ (subst Is q g.after_it) h.after_it)

  one_delete : (k : Bytes) (expected : Option ℕ) → Deletes k expected b c → Deletes k expected b d → Same b c d
  one_delete k expected g h =
      let q : g.old ≡ h.old = same_key entry_key b.entries s.entries g.old h.old g.found.0 h.found.0 (g.found.1 ∙ sym h.found.1) in
      (g.reply ∙ (ap replied.Entry q ∙ sym h.reply), one_by_entries b _ _ _ g.after_it h.after_it)

  one_show : {X : Type 0} (key : X → Bytes) (rows : List X) → Ascending key rows → (replies : Option X → OpReply) (k : Bytes) → ShowsRow key rows replies k c → ShowsRow key rows replies k d → Same b c d
  one_show key rows a replies k g h = (
    g.reply ∙ (ap replies (one_row key rows a k g.shown h.shown g.is_row h.is_row) ∙ sym h.reply),
    ap (λ ws. after ws b) (g.writes ∙ sym h.writes),
  )

  one_list : {X : Type 0} (key : X → Bytes) (replies : List X → OpReply) (Has : X → Type 0) → Lists key replies Has c → Lists key replies Has d → Same b c d
  one_list key replies Has g h = (
    g.reply ∙ (ap replies (one_listing key Has g.shown h.shown g.listed h.listed) ∙ sym h.reply),
    ap (λ ws. after ws b) (g.writes ∙ sym h.writes),
  )

  one_listed : (q : PageQuery) → ListsPage q b c → ListsPage q b d → Same b c d
  one_listed q g h =
      let p = one_page q b g.shown h.shown g.next h.next g.is_page h.is_page in
      (g.reply ∙ (ap (λ es. replied.Page es g.next) p.0 ∙ (ap (replied.Page h.shown) p.1 ∙ sym h.reply)), ap (λ ws. after ws b) (g.writes ∙ sym h.writes))

  one_of_agent : {X : Type 0} (key : X → Bytes) (replies : List X → OpReply) (k : Bytes) (Has : Agent → X → Type 0) → OfAgent k b (λ a. Lists key replies (Has a) c) → OfAgent k b (λ a. Lists key replies (Has a) d) → Same b c d
  one_of_agent key replies k Has g h =
      let q : g.0 ≡ h.0 = same_key agent_key b.agents s.agents g.0 h.0 g.1 h.1 (g.2 ∙ sym h.2) in
      one_list key replies (Has h.0) (subst (λ a. Lists key replies (Has a) c) q g.3) h.3

  one_prune : (moment : ℕ) → Prunes moment b c → Prunes moment b d → Same b c d
  one_prune moment g h = (
    g.reply ∙ (ap (λ es. replied.Pruned (map entry_key es)) (one_listing entry_key _ g.expired h.expired g.are_expired h.are_expired) ∙ sym h.reply),
    one_by_entries b _ _ _ g.after_it h.after_it,
  )

  one_set_agent : (a : Agent) → SetsAgent a b c → SetsAgent a b d → Same b c d
  one_set_agent a g h = (g.reply ∙ sym h.reply, one_by_agents b _ _ _ g.after_it h.after_it)

  one_drop_agent : (k : Bytes) → DropsAgent k b c → DropsAgent k b d → Same b c d
  one_drop_agent k g h =
      let q : g.old ≡ h.old = same_key agent_key b.agents s.agents g.old h.old g.found.0 h.found.0 (g.found.1 ∙ sym h.found.1) in
      (g.reply ∙ (ap replied.Agent q ∙ sym h.reply), one_by_agents b _ _ _ g.after_it h.after_it)

  one_set_bundle : (domain text : Bytes) → SetsBundle domain text b c → SetsBundle domain text b d → Same b c d
  one_set_bundle domain text g h =
      let o : g.old ≡ h.old = one_row bundle_key b.bundles s.bundles domain g.old h.old g.found h.found in
      let n : g.new ≡ h.new = one_bundle g.new h.new (g.domain_is ∙ sym h.domain_is) (g.text_is ∙ sym h.text_is) (next_is g.old g.new.sequence g.sequence ∙ (ap next_sequence o ∙ sym (next_is h.old h.new.sequence h.sequence))) in
      let Is : Bundle → Type 0 = λ new. BundlesBecome b (after c.writes b) (λ x. (x ≡ new) ⊎ (Within b.bundles x × (x.domain ≡ domain → ⊥))) in
      (g.reply ∙ (ap replied.Bundle n ∙ sym h.reply), one_by_bundles b _ _ _ (subst Is n g.after_it) h.after_it)

  one_unused : (domain : Bytes) → DropsUnused domain b c → DropsUnused domain b d → Same b c d
  one_unused domain g h = (g.reply ∙ sym h.reply, one_dropped b _ _ domain (g.entries ∙ sym h.entries) g.bundle h.bundle)

  one_deleting : (domain : Bytes) → DropsDeleting domain b c → DropsDeleting domain b d → Same b c d
  one_deleting domain g h = (
    g.reply ∙ (ap (λ es. replied.Dropped (map entry_key es) []) (one_listing entry_key _ g.users h.users g.are_users h.are_users) ∙ sym h.reply),
    one_dropped b _ _ domain (one_listing entry_key _ _ _ g.entries h.entries) g.bundle h.bundle,
  )

  one_dissociating : (domain : Bytes) → DropsDissociating domain b c → DropsDissociating domain b d → Same b c d
  one_dissociating domain g h = (
    g.reply ∙ (ap (λ es. replied.Dropped [] (map entry_key es)) (one_listing entry_key _ g.users h.users g.are_users h.are_users) ∙ sym h.reply),
    one_dropped b _ _ domain (one_listing entry_key _ _ _ g.entries h.entries) g.bundle h.bundle,
  )

  one_drop : (domain : Bytes) (m : DropMode) → DropsBundle domain m b c → DropsBundle domain m b d → Same b c d
  one_drop domain mode.Restrict g h = one_unused domain g h
  one_drop domain mode.Delete g h = one_deleting domain g h
  one_drop domain mode.Dissociate g h = one_dissociating domain g h

pub one_answer : (own_domain : Bytes) (op : Op) (b : Book) → AscendingBook b → (c d : OpEffect) → EffectOf own_domain op b c → EffectOf own_domain op b d → (c.reply ≡ d.reply) × (after c.writes b ≡ after d.writes b)
one_answer own_domain (Create e) b s c d g h = one_create b s c d e g h
one_answer own_domain (Update e expected) b s c d g h = one_update b s c d e expected g h
one_answer own_domain (Delete k expected) b s c d g h = one_delete b s c d k expected g h
one_answer own_domain (Show k) b s c d g h = one_show b s c d entry_key b.entries s.entries replied.EntryShown k g h
one_answer own_domain (ShowAgent k) b s c d g h = one_show b s c d agent_key b.agents s.agents replied.AgentShown k g h
one_answer own_domain (ShowBundle k) b s c d g h = one_show b s c d bundle_key b.bundles s.bundles replied.BundleShown k g h
one_answer own_domain (Children p) b s c d g h = one_list b s c d entry_key replied.Entries _ g h
one_answer own_domain (Page q) b s c d g h = one_listed b s c d q g h
one_answer own_domain (Authorised k) b s c d g h = one_of_agent b s c d entry_key replied.Entries k _ g h
one_answer own_domain (Trust k) b s c d g h = one_of_agent b s c d bundle_key replied.Bundles k _ g h
one_answer own_domain (Prune moment) b s c d g h = one_prune b s c d moment g h
one_answer own_domain (SetAgent a) b s c d g h = one_set_agent b s c d a g h
one_answer own_domain (DropAgent k) b s c d g h = one_drop_agent b s c d k g h
one_answer own_domain (SetBundle domain text) b s c d g h = one_set_bundle b s c d domain text g h
one_answer own_domain (DropBundle domain m) b s c d g h = one_drop b s c d domain m g h
