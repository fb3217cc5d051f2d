-- The effects of create, update and delete.
use Rattle.std.proofs.Common.{◌≡◌, ◌≢◌, ℕ, ◌+◌, Bool, true, false, not, ◌⊎◌, ◌∷◌, [], Option, Some, None, refl, sym, inl, inr, ⊎_elim}
use Rattle.std.specs.Prelude.{MatchResult, bytes_eq, nat_eq, ◌&&◌}
use Rattle.std.specs.List.{AllByRecursion}
use Rattle.std.proofs.lemmas.Bool.{and_parts, both_ways, eqb-true, eq-eqb}
use Rattle.spiffe_name.specs.SelectorSet.{set_eq}
use Rattle.entry_book.specs.declared.entry.NewEntry.{NewEntry}
use Rattle.entry_book.specs.declared.op.Op.TheVariants.{Create, Update, Delete}
use Rattle.entry_book.specs.declared.reply.OpReply.TheVariants as replied
use Rattle.entry_book.specs.declared.reply.OpRefusal.{OpRefusal}
use Rattle.entry_book.specs.declared.reply.OpRefusal.TheVariants.{Similar, NoBundle}
use Rattle.entry_book.specs.Rows.{Bytes, Entry, at_revision, entry_key}
use Rattle.entry_book.specs.Order.{Within}
use Rattle.entry_book.specs.Book.{Book, AscendingBook, HasBundle, entry_at, group_of}
use Rattle.entry_book.specs.Ops.{OpEffect, similar, lacking, put, put_named, put_unless_similar, create_over, is_stale, update_when, update_over, delete_when, delete_over, op_of}
use Rattle.entry_book.specs.Effects.{IsNew, IsAlone, IsSimilar, LacksBundle, Creates, CreateRefused, IsExpected, HasExpected, Updates, UpdateRefused, Deletes, DeleteRefused}
use Rattle.entry_book.proofs.Changed.{not_is}
use Rattle.entry_book.proofs.Keys.{first_within, at_row, no_row}
use Rattle.entry_book.proofs.Listed.{listed_as, listed_put, listed_gone}
use Rattle.entry_book.proofs.Present.{not_similar, is_similar, all_bundled, first_lacking}
use Rattle.entry_book.proofs.Sets.{from_within_filter, text_same}

-- ---- an entry that is put into the book

-- a similar entry has another id
is_another : (e : Entry) (b : Book) (f : Entry) → similar e b ≡ Some f → f.id ≡ e.id → ⊥
is_another e b f h q =
    let r = from_within_filter (λ o. set_eq o.selectors e.selectors && not (bytes_eq o.id e.id)) (group_of e.parent e.identity b) f (first_within entry_key _ f h) in
    both_ways (bytes_eq f.id e.id) (not_is (bytes_eq f.id e.id) (and_parts _ _ r.1).1) (text_same f.id e.id q)

module _ (e : NewEntry) (n : ℕ) (b : Book) (old : Option Entry) (Good : OpEffect → Type 0) (Bad : OpRefusal → Type 0) (alike : (k : Bytes) → IsSimilar e b k → Bad (Similar k)) (bare : (k : Bytes) → LacksBundle e b k → Bad (NoBundle k)) (good : IsAlone e b → AllByRecursion (HasBundle b) e.domains → Good (record { reply = replied.Entry (at_revision n e); writes = put old (at_revision n e) ∷ [] })) where
  named : IsAlone e b → (o : Option Bytes) → lacking e.domains b ≡ o → MatchResult (put_named o old (at_revision n e)) Good Bad
  named a (Some k) h = let r = first_lacking e.domains b k h in bare k (record { alone = a; first = r.0; none = r.1 })
  named a None h = good a (all_bundled e.domains b h)

  unless_similar : (o : Option Entry) → similar (at_revision n e) b ≡ o → MatchResult (put_unless_similar o old (at_revision n e) b) Good Bad
  unless_similar (Some x) h = let r = is_similar (at_revision n e) b x h in alike x.id (x, r.0, record { parent = r.1; identity = r.2; selectors = r.3 }, is_another (at_revision n e) b x h, refl)
  unless_similar None h = named (λ x w l. not_similar (at_revision n e) b h x w (sym l.parent) (sym l.identity) (sym l.selectors)) (lacking e.domains b) refl

-- ---- create

create_from : (e : NewEntry) (b : Book) → AscendingBook b → (o : Option Entry) → entry_at e.id b ≡ o → MatchResult (create_over o (at_revision 0 e) b) (Creates e b) (CreateRefused e b)
create_from e b s (Some x) h = let r = at_row entry_key e.id b.entries x h in (x, r.0, r.1)
create_from e b s None h =
    let new : IsNew e b = λ x w. no_row entry_key e.id b.entries h x w in
    let x : Entry = at_revision 0 e in
    unless_similar e 0 b None (Creates e b) (CreateRefused e b) (λ k v. (new, v)) (λ k v. (new, v))
    (λ a d. record {
      new = new;
      alone = a;
      bundled = d;
      reply = refl;
      after_it = record {
        listed = listed_as entry_key (λ y. (y ≡ x) ⊎ (Within b.entries y × (y.id ≢ e.id))) (λ y. (y ≡ x) ⊎ Within b.entries y) _
            (λ y. (λ v. ⊎_elim (λ q. inl q) (λ r. inr r.0) v, λ v. ⊎_elim (λ q. inl q) (λ w. inr (w, new y w)) v))
            (listed_put entry_key e.id x b.entries refl s.entries);
        others = refl;
      };
    })
    (similar x b) refl

pub create_effect : (own_domain : Bytes) (e : NewEntry) (b : Book) → AscendingBook b → MatchResult (op_of own_domain (Create e) b) (Creates e b) (CreateRefused e b)
create_effect own_domain e b s = create_from e b s (entry_at e.id b) refl

-- ---- revisions

not_not : (c : Bool) → not c ≡ false → c ≡ true
not_not true h = refl
not_not false h = sym h

stale : (expected : Option ℕ) (x : Entry) → is_stale expected x ≡ true → IsExpected expected x → ⊥
stale None x h = λ v. both_ways false refl h
stale (Some n) x h = λ v. both_ways (nat_eq n x.revision) (not_is _ h) (eq-eqb n x.revision (sym v))

not_stale : (expected : Option ℕ) (x : Entry) → is_stale expected x ≡ false → IsExpected expected x
not_stale None x h = tt
not_stale (Some n) x h = sym (eqb-true n x.revision (not_not (nat_eq n x.revision) h))

-- ---- update

update_from : (e : NewEntry) (expected : Option ℕ) (b : Book) → AscendingBook b → (old : Entry) → Within b.entries old → old.id ≡ e.id → (c : Bool) → is_stale expected old ≡ c → MatchResult (update_when c old e b) (Updates e expected b) (UpdateRefused e expected b)
update_from e expected b s old w q true h = (old, w, q, stale expected old h)
update_from e expected b s old w q false h =
    let found : HasExpected e.id expected b old = (w, q, not_stale expected old h) in
    let x : Entry = at_revision (old.revision + 1) e in
    unless_similar e (old.revision + 1) b (Some old) (Updates e expected b) (UpdateRefused e expected b) (λ k v. ((old, found), v)) (λ k v. ((old, found), v))
    (λ a d. record {
      old = old;
      found = found;
      alone = a;
      bundled = d;
      reply = refl;
      after_it = record { listed = listed_put entry_key e.id x b.entries refl s.entries; others = refl };
    })
    (similar x b) refl

update_at : (e : NewEntry) (expected : Option ℕ) (b : Book) → AscendingBook b → (o : Option Entry) → entry_at e.id b ≡ o → MatchResult (update_over o e expected b) (Updates e expected b) (UpdateRefused e expected b)
update_at e expected b s None h = λ v. no_row entry_key e.id b.entries h v.0 v.1 v.2
update_at e expected b s (Some old) h = let r = at_row entry_key e.id b.entries old h in update_from e expected b s old r.0 r.1 (is_stale expected old) refl

pub update_effect : (own_domain : Bytes) (e : NewEntry) (expected : Option ℕ) (b : Book) → AscendingBook b → MatchResult (op_of own_domain (Update e expected) b) (Updates e expected b) (UpdateRefused e expected b)
update_effect own_domain e expected b s = update_at e expected b s (entry_at e.id b) refl

-- ---- delete

delete_from : (k : Bytes) (expected : Option ℕ) (b : Book) → AscendingBook b → (old : Entry) → Within b.entries old → old.id ≡ k → (c : Bool) → is_stale expected old ≡ c → MatchResult (delete_when c old) (Deletes k expected b) (DeleteRefused k expected b)
delete_from k expected b s old w q true h = (old, w, q, stale expected old h)
delete_from k expected b s old w q false h = record {
  old = old;
  found = (w, q, not_stale expected old h);
  reply = refl;
  after_it = record { listed = rw q (listed_gone entry_key k b.entries s.entries); others = refl };
}

delete_at : (k : Bytes) (expected : Option ℕ) (b : Book) → AscendingBook b → (o : Option Entry) → entry_at k b ≡ o → MatchResult (delete_over o expected) (Deletes k expected b) (DeleteRefused k expected b)
delete_at k expected b s None h = λ v. no_row entry_key k b.entries h v.0 v.1 v.2
delete_at k expected b s (Some old) h = let r = at_row entry_key k b.entries old h in delete_from k expected b s old r.0 r.1 (is_stale expected old) refl

pub delete_effect : (own_domain : Bytes) (k : Bytes) (expected : Option ℕ) (b : Book) → AscendingBook b → MatchResult (op_of own_domain (Delete k expected) b) (Deletes k expected b) (DeleteRefused k expected b)
delete_effect own_domain k expected b s = delete_at k expected b s (entry_at k b) refl
