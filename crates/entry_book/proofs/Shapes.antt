-- What an accepted operation writes: nothing, one row, the entries that pass a test, or these and then a bundle that is removed.
use Rattle.std.proofs.Common.{◌≡◌, ℕ, ◌+◌, Bool, true, false, List, [], ◌∷◌, ◌++◌, Option, Some, None, Ok, Err, refl, sym, ap, ◌∙◌, IfSome, IfOk}
use Rattle.std.specs.Prelude.{filter, map, option_to_list}
use Rattle.entry_book.specs.declared.agent.Agent.{Agent}
use Rattle.entry_book.specs.declared.bundle.Bundle.{Bundle}
use Rattle.entry_book.specs.declared.entry.NewEntry.{NewEntry}
use Rattle.entry_book.specs.declared.mode.DropMode.{DropMode}
use Rattle.entry_book.specs.declared.mode.DropMode.TheVariants as mode
use Rattle.entry_book.specs.declared.op.Op.{Op}
use Rattle.entry_book.specs.declared.op.Op.TheVariants.{Create, Update, Delete, Show, ShowAgent, ShowBundle, Children, Page, Authorised, Trust, Prune, SetAgent, DropAgent, SetBundle, DropBundle}
use Rattle.entry_book.specs.Rows.{Bytes, Entry, at_revision, entry_key, agent_key, bundle_key}
use Rattle.entry_book.specs.Order.{Within}
use Rattle.entry_book.specs.Book.{Book, AscendingBook, entry_at, agent_at, bundle_at, names, users_of, expires_before}
use Rattle.entry_book.specs.Writes.{RowWrite, FitsBook}
use Rattle.entry_book.specs.NamedRows.{entry_of, agent_of, bundle_of, row_written, entry_name, rows_named}
use Rattle.entry_book.specs.Ops.{OpEffect, OpResult, similar, lacking, put, put_named, put_unless_similar, create_over, is_stale, update_when, update_over, removed, delete_when, delete_over, for_agent, agent_dropped, bundle_removed, dissociated, drop_in, drop_over, op_of}
use Rattle.entry_book.proofs.Changed.{rewritten}
use Rattle.entry_book.proofs.Keys.{at_row, row_alone, rows_at}

-- each case says which rows the operation names
pub data Shape (op : Op) (b : Book) (d : OpEffect) : Type 0 where
  nothing : d.writes ≡ [] → rows_named op b ≡ [] → Shape op b d
  one_row : (w : RowWrite) → (AscendingBook b → FitsBook w b) → d.writes ≡ w ∷ [] → rows_named op b ≡ row_written w ∷ [] → Shape op b d
  entries : (f : Entry → Option Entry) → ((e : Entry) → IfSome (f e) (λ x. x.id ≡ e.id)) → (p : Entry → Bool) → d.writes ≡ map (rewritten f) (filter p b.entries) → rows_named op b ≡ map entry_name (filter p b.entries) → Shape op b d
  entries_then : (f : Entry → Option Entry) → ((e : Entry) → IfSome (f e) (λ x. x.id ≡ e.id)) → (p : Entry → Bool) (x : Bundle) → Within b.bundles x → d.writes ≡ map (rewritten f) (filter p b.entries) ++ bundle_removed x ∷ [] → rows_named op b ≡ map entry_name (filter p b.entries) ++ bundle_of x.domain ∷ [] → Shape op b d

module _ (op : Op) (b : Book) where
  abbrev ShapeAnswer : OpResult → Type 0
  ShapeAnswer o = IfOk o (Shape op b)

  -- ---- an entry that is put in place of the old one of its id, or removed

  named : (old : Option Entry) (e : Entry) → entry_at e.id b ≡ old → rows_named op b ≡ entry_of e.id ∷ [] → (q : Option Bytes) → ShapeAnswer (put_named q old e)
  named old e h n (Some d) = tt
  named old e h n None = one_row (put old e) (λ a. record { found = rows_at entry_key e.id b.entries a.entries ∙ ap option_to_list h; keyed = refl }) refl n

  unless_similar : (old : Option Entry) (e : Entry) → entry_at e.id b ≡ old → rows_named op b ≡ entry_of e.id ∷ [] → (p : Option Entry) → ShapeAnswer (put_unless_similar p old e b)
  unless_similar old e h n (Some o) = tt
  unless_similar old e h n None = named old e h n (lacking e.domains b)

  create : (e : Entry) → rows_named op b ≡ entry_of e.id ∷ [] → (o : Option Entry) → entry_at e.id b ≡ o → ShapeAnswer (create_over o e b)
  create e n (Some o) h = tt
  create e n None h = unless_similar None e h n (similar e b)

  updated : (e : NewEntry) (old : Entry) → entry_at e.id b ≡ Some old → rows_named op b ≡ entry_of e.id ∷ [] → (stale : Bool) → ShapeAnswer (update_when stale old e b)
  updated e old h n true = tt
  updated e old h n false = unless_similar (Some old) (at_revision (old.revision + 1) e) h n (similar (at_revision (old.revision + 1) e) b)

  update : (e : NewEntry) (expected : Option ℕ) → rows_named op b ≡ entry_of e.id ∷ [] → (o : Option Entry) → entry_at e.id b ≡ o → ShapeAnswer (update_over o e expected b)
  update e expected n None h = tt
  update e expected n (Some old) h = updated e old h n (is_stale expected old)

  deleted : (e : Entry) → Within b.entries e → rows_named op b ≡ entry_of e.id ∷ [] → (stale : Bool) → ShapeAnswer (delete_when stale e)
  deleted e w n true = tt
  deleted e w n false = one_row (removed e) (λ a. record { found = row_alone entry_key e.id b.entries e a.entries w refl; keyed = tt }) refl n

  delete : (k : Bytes) (expected : Option ℕ) → rows_named op b ≡ entry_of k ∷ [] → (o : Option Entry) → entry_at k b ≡ o → ShapeAnswer (delete_over o expected)
  delete k expected n None h = tt
  delete k expected n (Some e) h = let r = at_row entry_key k b.entries e h in deleted e r.0 (n ∙ ap (λ j. entry_of j ∷ []) (sym r.1)) (is_stale expected e)

  -- ---- an agent that is queried or dropped

  of_agent : (f : Agent → OpResult) (o : Option Agent) → ((a : Agent) → o ≡ Some a → ShapeAnswer (f a)) → ShapeAnswer (for_agent o f)
  of_agent f None h = tt
  of_agent f (Some a) h = h a refl

  drop_agent : (k : Bytes) (a : Agent) → rows_named op b ≡ agent_of k ∷ [] → agent_at k b ≡ Some a → ShapeAnswer (agent_dropped a)
  drop_agent k a n h = let r = at_row agent_key k b.agents a h in one_row _ (λ s. record { found = row_alone agent_key a.id b.agents a s.agents r.0 refl; keyed = tt }) refl (n ∙ ap (λ j. agent_of j ∷ []) (sym r.1))

  -- ---- a bundle that is dropped

  unused : (x : Bundle) → Within b.bundles x → (es : List Entry) → rows_named op b ≡ map entry_name es ++ bundle_of x.domain ∷ [] → ShapeAnswer (drop_in mode.Restrict es x)
  unused x w [] n = one_row (bundle_removed x) (λ a. record { found = row_alone bundle_key x.domain b.bundles x a.bundles w refl; keyed = tt }) refl n
  unused x w (e ∷ es) n = tt

  dropped : (m : DropMode) (x : Bundle) → Within b.bundles x → rows_named op b ≡ map entry_name (users_of x.domain b) ++ bundle_of x.domain ∷ [] → ShapeAnswer (drop_in m (users_of x.domain b) x)
  dropped mode.Restrict x w n = unused x w (users_of x.domain b) n
  dropped mode.Delete x w n = entries_then (λ e. None) (λ e. tt) (names x.domain) x w refl n
  dropped mode.Dissociate x w n = entries_then (λ e. Some (dissociated x.domain e)) (λ e. refl) (names x.domain) x w refl n

  drop : (domain : Bytes) (m : DropMode) → rows_named op b ≡ map entry_name (users_of domain b) ++ bundle_of domain ∷ [] → (o : Option Bundle) → bundle_at domain b ≡ o → ShapeAnswer (drop_over o domain m b)
  drop domain m n None h = tt
  drop domain m n (Some x) h = let r = at_row bundle_key domain b.bundles x h in dropped m x r.0 (n ∙ ap (λ k. map entry_name (users_of k b) ++ bundle_of k ∷ []) (sym r.1))

pub shape_of : (own_domain : Bytes) (op : Op) (b : Book) → IfOk (op_of own_domain op b) (Shape op b)
shape_of own_domain (Create e) b = create (Create e) b (at_revision 0 e) refl (entry_at e.id b) refl
shape_of own_domain (Update e expected) b = update (Update e expected) b e expected refl (entry_at e.id b) refl
shape_of own_domain (Delete k expected) b = delete (Delete k expected) b k expected refl (entry_at k b) refl
shape_of own_domain (Show k) b = nothing refl refl
shape_of own_domain (ShowAgent k) b = nothing refl refl
shape_of own_domain (ShowBundle k) b = nothing refl refl
shape_of own_domain (Children p) b = nothing refl refl
shape_of own_domain (Page q) b = nothing refl refl
shape_of own_domain (Authorised k) b = of_agent (Authorised k) b _ (agent_at k b) (λ a h. nothing refl refl)
shape_of own_domain (Trust k) b = of_agent (Trust k) b _ (agent_at k b) (λ a h. nothing refl refl)
shape_of own_domain (Prune moment) b = entries (λ e. None) (λ e. tt) (expires_before moment) refl refl
shape_of own_domain (SetAgent x) b = one_row _ (λ a. record { found = rows_at agent_key x.id b.agents a.agents; keyed = refl }) refl refl
shape_of own_domain (DropAgent k) b = of_agent (DropAgent k) b agent_dropped (agent_at k b) (λ a h. drop_agent (DropAgent k) b k a refl h)
shape_of own_domain (SetBundle domain text) b = one_row _ (λ a. record { found = rows_at bundle_key domain b.bundles a.bundles; keyed = refl }) refl refl
shape_of own_domain (DropBundle domain m) b = drop (DropBundle domain m) b domain m refl (bundle_at domain b) refl

-- ---- a property of each shape is a property of each operation

pub by_shape : (own_domain : Bytes) (op : Op) (b : Book) (P : OpEffect → Type 0) → ((d : OpEffect) → Shape op b d → P d) → IfOk (op_of own_domain op b) P
by_shape own_domain op b P f = over (op_of own_domain op b) (shape_of own_domain op b)
  where
    over : (o : OpResult) → IfOk o (Shape op b) → IfOk o P
    over (Ok d) s = f d s
    over (Err r) s = tt
