-- The identities and domains of a book's rows along a run: those that it had, and those that operations put.
use Rattle.std.proofs.Common.{ℕ, ◌+◌, true, false, List, [], ◌∷◌, ◌++◌, map, Option, Some, None, Ok, Err, subst, ⊎_elim, IfSome, IfOk}
use Rattle.std.specs.Prelude.{⊤, Bool, option_to_list}
use Rattle.std.specs.List.{AllByRecursion}
use Rattle.entry_book.specs.declared.agent.Agent.{Agent}
use Rattle.entry_book.specs.declared.bundle.Bundle.{Bundle}
use Rattle.entry_book.specs.declared.entry.NewEntry.{NewEntry}
use Rattle.entry_book.specs.declared.mode.DropMode.{DropMode}
use Rattle.entry_book.specs.declared.mode.DropMode.TheVariants as mode
use Rattle.entry_book.specs.declared.op.Op.{Op}
use Rattle.entry_book.specs.declared.op.Op.TheVariants.{Create, Update, Delete, Show, ShowAgent, ShowBundle, Children, Page, Authorised, Trust, Prune, SetAgent, DropAgent, SetBundle, DropBundle}
use Rattle.entry_book.specs.Rows.{Bytes, Entry, at_revision, entry_key, bundle_key}
use Rattle.entry_book.specs.Order.{Within, with_row}
use Rattle.entry_book.specs.Book.{Book, entry_at, agent_at, bundle_at, names, users_of, expired_before}
use Rattle.entry_book.specs.Writes.{RowWrite, wrote_entry, wrote_agent, wrote_bundle, wrote_token, after, after_write}
use Rattle.entry_book.specs.Ops.{OpEffect, OpResult, similar, lacking, put_named, put_unless_similar, create_over, is_stale, update_when, update_over, removed, delete_when, delete_over, for_agent, agent_dropped, bundle_removed, freed, drop_in, drop_over, op_of}
use Rattle.entry_book.specs.Runs.{RunResult, onto, then_run, run}
use Rattle.entry_book.proofs.Changed.{after-append}
use Rattle.entry_book.proofs.Keys.{from_with_row}
use Rattle.entry_book.proofs.Sets.{All-within, All-from_within, from_within_filter}
use Rattle.batch_work.specs.Bounds.{identity_put}

-- the domain of the bundle that an operation sets
abbrev pub domain_set : Op → List Bytes
domain_set (SetBundle d text) = d ∷ []
domain_set op = []

of_new : {X : Type 0} (P : X → Type 0) (o : Option X) (x : X) → IfSome o P → Within (option_to_list o) x → P x
of_new P None x h w = absurd w
of_new P (Some y) x h w = ⊎_elim (λ q. subst P q h) (λ v. absurd v) w

all_with_row : {X : Type 0} (key : X → Bytes) (P : X → Type 0) (k : Bytes) (new : Option X) (rows : List X) → IfSome new P → AllByRecursion P rows → AllByRecursion P (with_row key k new rows)
all_with_row key P k new rows n h = All-from_within P (with_row key k new rows) (λ x w. ⊎_elim (λ v. of_new P new x n v) (λ r. All-within P rows x h r.0) (from_with_row key k new rows x w))

all_append : {X : Type 0} (P : X → Type 0) (xs ys : List X) → AllByRecursion P xs → AllByRecursion P ys → AllByRecursion P (xs ++ ys)
all_append P [] ys h k = k
all_append P (x ∷ xs) ys h k = (h.0, all_append P xs ys h.1 k)

module _ (is ds : List Bytes) where
  -- the book's entries have these identities, and its bundles these domains
  pub record IsNamed (b : Book) : Type 0 where
    pub entries : AllByRecursion (λ e. Within is e.identity) b.entries
    pub bundles : AllByRecursion (λ d. Within ds d.domain) b.bundles

  abbrev Puts : RowWrite → Type 0
  Puts (wrote_entry c) = IfSome c.new (λ e. Within is e.identity)
  Puts (wrote_agent c) = ⊤
  Puts (wrote_bundle c) = IfSome c.new (λ d. Within ds d.domain)
  Puts (wrote_token c) = ⊤

  abbrev PutAll : List RowWrite → Type 0
  PutAll ws = AllByRecursion Puts ws

  named_after_write : (w : RowWrite) (b : Book) → Puts w → IsNamed b → IsNamed (after_write w b)
  named_after_write (wrote_entry c) b p h = record { entries = all_with_row entry_key (λ e. Within is e.identity) c.key c.new b.entries p h.entries; bundles = h.bundles }
  named_after_write (wrote_agent c) b p h = record { entries = h.entries; bundles = h.bundles }
  named_after_write (wrote_bundle c) b p h = record { entries = h.entries; bundles = all_with_row bundle_key (λ d. Within ds d.domain) c.key c.new b.bundles p h.bundles }
  named_after_write (wrote_token c) b p h = record { entries = h.entries; bundles = h.bundles }

  named_after : (ws : List RowWrite) (b : Book) → PutAll ws → IsNamed b → IsNamed (after ws b)
  named_after [] b p h = h
  named_after (w ∷ ws) b p h = named_after ws (after_write w b) p.1 (named_after_write w b p.0 h)

  -- ---- what an operation puts

  abbrev Answers : OpResult → Type 0
  Answers o = IfOk o (λ d. PutAll d.writes)

  put : (q : Option Bytes) (old : Option Entry) (e : Entry) → Within is e.identity → Answers (put_named q old e)
  put (Some d) old e h = tt
  put None old e h = (h, tt)

  unless_similar : (p old : Option Entry) (e : Entry) (b : Book) → Within is e.identity → Answers (put_unless_similar p old e b)
  unless_similar (Some o) old e b h = tt
  unless_similar None old e b h = put (lacking e.domains b) old e h

  create : (o : Option Entry) (e : Entry) (b : Book) → Within is e.identity → Answers (create_over o e b)
  create (Some o) e b h = tt
  create None e b h = unless_similar (similar e b) None e b h

  updated : (stale : Bool) (old : Entry) (e : NewEntry) (b : Book) → Within is e.identity → Answers (update_when stale old e b)
  updated true old e b h = tt
  updated false old e b h = unless_similar (similar (at_revision (old.revision + 1) e) b) (Some old) (at_revision (old.revision + 1) e) b h

  update : (o : Option Entry) (e : NewEntry) (expected : Option ℕ) (b : Book) → Within is e.identity → Answers (update_over o e expected b)
  update None e expected b h = tt
  update (Some old) e expected b h = updated (is_stale expected old) old e b h

  deleted : (stale : Bool) (e : Entry) → Answers (delete_when stale e)
  deleted true e = tt
  deleted false e = (tt, tt)

  delete : (o : Option Entry) (expected : Option ℕ) → Answers (delete_over o expected)
  delete None expected = tt
  delete (Some e) expected = deleted (is_stale expected e) e

  of_agent : (o : Option Agent) (f : Agent → OpResult) → ((a : Agent) → Answers (f a)) → Answers (for_agent o f)
  of_agent None f h = tt
  of_agent (Some a) f h = h a

  all_removed : (es : List Entry) → PutAll (map removed es)
  all_removed [] = tt
  all_removed (e ∷ es) = (tt, all_removed es)

  all_freed : (domain : Bytes) (es : List Entry) → AllByRecursion (λ e. Within is e.identity) es → PutAll (map (freed domain) es)
  all_freed domain [] h = tt
  all_freed domain (e ∷ es) h = (h.0, all_freed domain es h.1)

  dropped : (m : DropMode) (es : List Entry) (d : Bundle) → AllByRecursion (λ e. Within is e.identity) es → Answers (drop_in m es d)
  dropped mode.Restrict [] d h = (tt, tt)
  dropped mode.Restrict (e ∷ es) d h = tt
  dropped mode.Delete es d h = all_append Puts (map removed es) (bundle_removed d ∷ []) (all_removed es) (tt, tt)
  dropped mode.Dissociate es d h = all_append Puts (map (freed d.domain) es) (bundle_removed d ∷ []) (all_freed d.domain es h) (tt, tt)

  drop : (o : Option Bundle) (domain : Bytes) (m : DropMode) (b : Book) → IsNamed b → Answers (drop_over o domain m b)
  drop None domain m b h = tt
  drop (Some d) domain m b h = dropped m (users_of d.domain b) d (All-from_within (λ e. Within is e.identity) (users_of d.domain b) (λ e w. All-within (λ e. Within is e.identity) b.entries e h.entries (from_within_filter (names d.domain) b.entries e w).0))

  -- the operation puts one of these identities, and sets a bundle of one of these domains
  pub record PutsNamed (op : Op) : Type 0 where
    pub identity : AllByRecursion (Within is) (identity_put op)
    pub domain : AllByRecursion (Within ds) (domain_set op)

  op_puts : (own_domain : Bytes) (op : Op) (b : Book) → PutsNamed op → IsNamed b → Answers (op_of own_domain op b)
  op_puts own_domain (Create e) b p h = create (entry_at e.id b) (at_revision 0 e) b (p.identity).0
  op_puts own_domain (Update e expected) b p h = update (entry_at e.id b) e expected b (p.identity).0
  op_puts own_domain (Delete k expected) b p h = delete (entry_at k b) expected
  op_puts own_domain (Show k) b p h = tt
  op_puts own_domain (ShowAgent k) b p h = tt
  op_puts own_domain (ShowBundle k) b p h = tt
  op_puts own_domain (Children k) b p h = tt
  op_puts own_domain (Page q) b p h = tt
  op_puts own_domain (Authorised k) b p h = of_agent (agent_at k b) _ (λ a. tt)
  op_puts own_domain (Trust k) b p h = of_agent (agent_at k b) _ (λ a. tt)
  op_puts own_domain (Prune moment) b p h = all_removed (expired_before moment b)
  op_puts own_domain (SetAgent a) b p h = (tt, tt)
  op_puts own_domain (DropAgent k) b p h = of_agent (agent_at k b) agent_dropped (λ a. (tt, tt))
  op_puts own_domain (SetBundle d text) b p h = ((p.domain).0, tt)
  op_puts own_domain (DropBundle d m) b p h = drop (bundle_at d b) d m b h

  -- the book after an operation, and after a run

  after_op : (o : OpResult) (b : Book) → Answers o → IsNamed b → IfOk o (λ d. IsNamed (after d.writes b))
  after_op (Ok d) b p h = named_after d.writes b p h
  after_op (Err r) b p h = tt

  pub named_after_op : (own_domain : Bytes) (op : Op) (b : Book) → PutsNamed op → IsNamed b → IfOk (op_of own_domain op b) (λ d. IsNamed (after d.writes b))
  named_after_op own_domain op b p h = after_op (op_of own_domain op b) b (op_puts own_domain op b p h) h

  onto_named : (d : OpEffect) (b : Book) (r : RunResult) → IfOk r (λ t. IsNamed (after t.writes (after d.writes b))) → IfOk (onto d r) (λ t. IsNamed (after t.writes b))
  onto_named d b (Ok t) h = rw (after-append d.writes t.writes b) h
  onto_named d b (Err r) h = tt

  then_named : (o : OpResult) (f : OpEffect → RunResult) (b : Book) → IfOk o (λ d. IsNamed (after d.writes b)) → ((d : OpEffect) → IsNamed (after d.writes b) → IfOk (f d) (λ t. IsNamed (after t.writes (after d.writes b)))) → IfOk (then_run o f) (λ t. IsNamed (after t.writes b))
  then_named (Ok d) f b h k = onto_named d b (f d) (k d h)
  then_named (Err r) f b h k = tt

  pub named_after_run : (own_domain : Bytes) (ops : List Op) (b : Book) → AllByRecursion PutsNamed ops → IsNamed b → IfOk (run own_domain ops b) (λ t. IsNamed (after t.writes b))
  named_after_run own_domain [] b p h = h
  named_after_run own_domain (op ∷ ops) b p h = then_named (op_of own_domain op b) (λ d. run own_domain ops (after d.writes b)) b (named_after_op own_domain op b p.0 h) (λ d k. named_after_run own_domain ops (after d.writes b) p.1 k)
