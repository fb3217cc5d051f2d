-- An operation is refused if a refusal is due, and only then.
use Rattle.std.proofs.Common.{◌≡◌, ℕ, List, [], ◌∷◌, ◌++◌, Option, Ok, Err, refl, sym, ap, subst, ◌∙◌}
use Rattle.std.specs.Prelude.{MatchResult}
use Rattle.std.specs.List.{AllByRecursion}
use Rattle.entry_book.specs.declared.entry.NewEntry.{NewEntry}
use Rattle.entry_book.specs.declared.mode.DropMode.{DropMode}
use Rattle.entry_book.specs.declared.mode.DropMode.TheVariants as mode
use Rattle.entry_book.specs.declared.op.Op.{Op}
use Rattle.entry_book.specs.declared.op.Op.TheVariants.{Create, Update, Delete, Show, ShowAgent, ShowBundle, Children, Page, Authorised, Trust, Prune, SetAgent, DropAgent, SetBundle, DropBundle}
use Rattle.entry_book.specs.declared.reply.OpRefusal.{OpRefusal}
use Rattle.entry_book.specs.declared.reply.OpRefusal.TheVariants.{IdTaken, Similar, NoEntry, StaleRevision, NoBundle, BundleInUse, NoAgent}
use Rattle.entry_book.specs.Rows.{Bytes, Entry, entry_key}
use Rattle.entry_book.specs.Order.{Within}
use Rattle.entry_book.specs.Book.{Book, AscendingBook, HasAgent, HasBundle}
use Rattle.entry_book.specs.Writes.{after}
use Rattle.entry_book.specs.Ops.{OpEffect, OpResult, op_of}
use Rattle.entry_book.specs.Effects.{IsAlone, IsSimilar, LacksBundle, IsExpected, HasExpected, IsStale, Creates, CreateRefused, Updates, UpdateRefused, Deletes, DeleteRefused, LacksAgent, DropsBundle, DropBundleRefused}
use Rattle.entry_book.specs.Lawful.{Lawful}
use Rattle.entry_book.specs.Laws.{EffectOf, RefusalOf}
use Rattle.entry_book.proofs.Determined.{one_answer}
use Rattle.entry_book.proofs.EffectsOfBundles.{drop_bundle_effect}
use Rattle.entry_book.proofs.EffectsOfEntries.{create_effect, update_effect, delete_effect}
use Rattle.entry_book.proofs.EffectsOfQuestions.{show_effect, show_agent_effect, show_bundle_effect, children_effect, authorised_effect, trust_effect}
use Rattle.entry_book.proofs.EffectsOfRows.{prune_effect, set_agent_effect, drop_agent_effect, set_bundle_effect}
use Rattle.entry_book.proofs.Keys.{same_key}
use Rattle.entry_book.proofs.Pages.{page_effect}

-- no two entries of the book are alike
abbrev Apart : Book → Type 0
Apart b = (e f : Entry) → Within b.entries e → Within b.entries f → e.parent ≡ f.parent → e.identity ≡ f.identity → e.selectors ≡ f.selectors → e.id ≡ f.id

module _ (b : Book) (a : AscendingBook b) where
  -- ---- a similar entry, and the first domain that has no bundle

  one_similar : Apart b → (e : NewEntry) (k j : Bytes) → IsSimilar e b k → IsSimilar e b j → k ≡ j
  one_similar l e k j g h = sym g.4 ∙ (l g.0 h.0 g.1 h.1 (g.2.parent ∙ sym h.2.parent) (g.2.identity ∙ sym h.2.identity) (g.2.selectors ∙ sym h.2.selectors) ∙ h.4)

  not_alone : (e : NewEntry) (k : Bytes) → IsAlone e b → IsSimilar e b k → ⊥
  not_alone e k n h = h.3 (n h.0 h.1 h.2)

  one_first : (k j : Bytes) (xs ys us vs : List Bytes) → xs ++ k ∷ us ≡ ys ++ j ∷ vs → AllByRecursion (HasBundle b) xs → AllByRecursion (HasBundle b) ys → (HasBundle b k → ⊥) → (HasBundle b j → ⊥) → k ≡ j
  one_first k j [] [] us vs e f g m n = cc
  one_first k j [] (y ∷ ys) us vs e f g m n = let q : y ≡ k = cc in absurd (m (subst (HasBundle b) q g.0))
  one_first k j (x ∷ xs) [] us vs e f g m n = let q : x ≡ j = cc in absurd (n (subst (HasBundle b) q f.0))
  one_first k j (x ∷ xs) (y ∷ ys) us vs e f g m n = let q : xs ++ k ∷ us ≡ ys ++ j ∷ vs = cc in one_first k j xs ys us vs q f.1 g.1 m n

  one_lacking : (e : NewEntry) (k j : Bytes) → LacksBundle e b k → LacksBundle e b j → k ≡ j
  one_lacking e k j g h = one_first k j g.first.0 h.first.0 g.first.1 h.first.1 (sym g.first.2 ∙ h.first.2) g.first.3 h.first.3 g.none h.none

  all_bundled : (e : NewEntry) (k : Bytes) → AllByRecursion (HasBundle b) e.domains → LacksBundle e b k → ⊥
  all_bundled e k g h = h.none (with_bundle k h.first.0 h.first.1 (subst (AllByRecursion (HasBundle b)) h.first.2 g))
    where
      with_bundle : (k : Bytes) (xs ys : List Bytes) → AllByRecursion (HasBundle b) (xs ++ k ∷ ys) → HasBundle b k
      with_bundle k [] ys g = g.0
      with_bundle k (x ∷ xs) ys g = with_bundle k xs ys g.1

  -- ---- create

  one_create : Apart b → (e : NewEntry) (r q : OpRefusal) → CreateRefused e b r → CreateRefused e b q → r ≡ q
  one_create l e IdTaken IdTaken g h = refl
  one_create l e IdTaken (Similar j) g h = absurd (h.0 g.0 g.1 g.2)
  one_create l e IdTaken (NoBundle j) g h = absurd (h.0 g.0 g.1 g.2)
  one_create l e IdTaken _ g h = absurd h
  one_create l e (Similar k) IdTaken g h = absurd (g.0 h.0 h.1 h.2)
  one_create l e (Similar k) (Similar j) g h = ap Similar (one_similar l e k j g.1 h.1)
  one_create l e (Similar k) (NoBundle j) g h = absurd (not_alone e k h.1.alone g.1)
  one_create l e (Similar k) _ g h = absurd h
  one_create l e (NoBundle k) IdTaken g h = absurd (g.0 h.0 h.1 h.2)
  one_create l e (NoBundle k) (Similar j) g h = absurd (not_alone e j g.1.alone h.1)
  one_create l e (NoBundle k) (NoBundle j) g h = ap NoBundle (one_lacking e k j g.1 h.1)
  one_create l e (NoBundle k) _ g h = absurd h
  one_create l e _ _ g h = absurd g

  create_not : (e : NewEntry) (d : OpEffect) (r : OpRefusal) → Creates e b d → CreateRefused e b r → ⊥
  create_not e d IdTaken g h = g.new h.0 h.1 h.2
  create_not e d (Similar k) g h = not_alone e k g.alone h.1
  create_not e d (NoBundle k) g h = all_bundled e k g.bundled h.1
  create_not e d _ g h = h

  -- ---- update and delete

  not_stale : (k : Bytes) (expected : Option ℕ) (x : Entry) → HasExpected k expected b x → IsStale k expected b → ⊥
  not_stale k expected x g h = h.3 (subst (IsExpected expected) (same_key entry_key b.entries a.entries x h.0 g.0 h.1 (g.1 ∙ sym h.2)) g.2)

  one_update : Apart b → (e : NewEntry) (expected : Option ℕ) (r q : OpRefusal) → UpdateRefused e expected b r → UpdateRefused e expected b q → r ≡ q
  one_update l e expected NoEntry NoEntry g h = refl
  one_update l e expected NoEntry StaleRevision g h = absurd (g (h.0, h.1, h.2))
  one_update l e expected NoEntry (Similar j) g h = absurd (g (h.0.0, h.0.1.0, h.0.1.1))
  one_update l e expected NoEntry (NoBundle j) g h = absurd (g (h.0.0, h.0.1.0, h.0.1.1))
  one_update l e expected NoEntry _ g h = absurd h
  one_update l e expected StaleRevision NoEntry g h = absurd (h (g.0, g.1, g.2))
  one_update l e expected StaleRevision StaleRevision g h = refl
  one_update l e expected StaleRevision (Similar j) g h = absurd (not_stale e.id expected h.0.0 h.0.1 g)
  one_update l e expected StaleRevision (NoBundle j) g h = absurd (not_stale e.id expected h.0.0 h.0.1 g)
  one_update l e expected StaleRevision _ g h = absurd h
  one_update l e expected (Similar k) NoEntry g h = absurd (h (g.0.0, g.0.1.0, g.0.1.1))
  one_update l e expected (Similar k) StaleRevision g h = absurd (not_stale e.id expected g.0.0 g.0.1 h)
  one_update l e expected (Similar k) (Similar j) g h = ap Similar (one_similar l e k j g.1 h.1)
  one_update l e expected (Similar k) (NoBundle j) g h = absurd (not_alone e k h.1.alone g.1)
  one_update l e expected (Similar k) _ g h = absurd h
  one_update l e expected (NoBundle k) NoEntry g h = absurd (h (g.0.0, g.0.1.0, g.0.1.1))
  one_update l e expected (NoBundle k) StaleRevision g h = absurd (not_stale e.id expected g.0.0 g.0.1 h)
  one_update l e expected (NoBundle k) (Similar j) g h = absurd (not_alone e j g.1.alone h.1)
  one_update l e expected (NoBundle k) (NoBundle j) g h = ap NoBundle (one_lacking e k j g.1 h.1)
  one_update l e expected (NoBundle k) _ g h = absurd h
  one_update l e expected _ _ g h = absurd g

  update_not : (e : NewEntry) (expected : Option ℕ) (d : OpEffect) (r : OpRefusal) → Updates e expected b d → UpdateRefused e expected b r → ⊥
  update_not e expected d NoEntry g h = h (g.old, g.found.0, g.found.1)
  update_not e expected d StaleRevision g h = not_stale e.id expected g.old g.found h
  update_not e expected d (Similar k) g h = not_alone e k g.alone h.1
  update_not e expected d (NoBundle k) g h = all_bundled e k g.bundled h.1
  update_not e expected d _ g h = h

  one_delete : (k : Bytes) (expected : Option ℕ) (r q : OpRefusal) → DeleteRefused k expected b r → DeleteRefused k expected b q → r ≡ q
  one_delete k expected NoEntry NoEntry g h = refl
  one_delete k expected NoEntry StaleRevision g h = absurd (g (h.0, h.1, h.2))
  one_delete k expected NoEntry _ g h = absurd h
  one_delete k expected StaleRevision NoEntry g h = absurd (h (g.0, g.1, g.2))
  one_delete k expected StaleRevision StaleRevision g h = refl
  one_delete k expected StaleRevision _ g h = absurd h
  one_delete k expected _ _ g h = absurd g

  delete_not : (k : Bytes) (expected : Option ℕ) (d : OpEffect) (r : OpRefusal) → Deletes k expected b d → DeleteRefused k expected b r → ⊥
  delete_not k expected d NoEntry g h = h (g.old, g.found.0, g.found.1)
  delete_not k expected d StaleRevision g h = not_stale k expected g.old g.found h
  delete_not k expected d _ g h = h

  -- ---- an agent that is missing

  one_lack : (k : Bytes) (r q : OpRefusal) → LacksAgent k b r → LacksAgent k b q → r ≡ q
  one_lack k NoAgent NoAgent g h = refl
  one_lack k NoAgent _ g h = absurd h
  one_lack k _ _ g h = absurd g

  lack_not : (k : Bytes) (r : OpRefusal) → HasAgent b k → LacksAgent k b r → ⊥
  lack_not k NoAgent g h = h g
  lack_not k _ g h = h

  -- ---- drop_bundle

  one_drop : (domain : Bytes) (m : DropMode) (r q : OpRefusal) → DropBundleRefused domain m b r → DropBundleRefused domain m b q → r ≡ q
  one_drop domain m (NoBundle k) (NoBundle j) g h = ap NoBundle (g.0 ∙ sym h.0)
  one_drop domain m (NoBundle k) BundleInUse g h = absurd (g.1 h.1)
  one_drop domain m (NoBundle k) _ g h = absurd h
  one_drop domain m BundleInUse (NoBundle j) g h = absurd (h.1 g.1)
  one_drop domain m BundleInUse BundleInUse g h = refl
  one_drop domain m BundleInUse _ g h = absurd h
  one_drop domain m _ _ g h = absurd g

  drop_not : (domain : Bytes) (m : DropMode) (d : OpEffect) (r : OpRefusal) → DropsBundle domain m b d → DropBundleRefused domain m b r → ⊥
  drop_not domain mode.Restrict d (NoBundle k) g h = h.1 g.bundle.there
  drop_not domain mode.Delete d (NoBundle k) g h = h.1 g.bundle.there
  drop_not domain mode.Dissociate d (NoBundle k) g h = h.1 g.bundle.there
  drop_not domain mode.Restrict d BundleInUse g h = g.unused h.2.0 h.2.1 h.2.2
  drop_not domain mode.Delete d BundleInUse g h = h.0
  drop_not domain mode.Dissociate d BundleInUse g h = h.0
  drop_not domain m d _ g h = h

-- ---- each operation

effect_of : (own_domain : Bytes) (op : Op) (b : Book) → AscendingBook b → MatchResult (op_of own_domain op b) (EffectOf own_domain op b) (RefusalOf op b)
effect_of own_domain (Create e) b a = create_effect own_domain e b a
effect_of own_domain (Update e expected) b a = update_effect own_domain e expected b a
effect_of own_domain (Delete k expected) b a = delete_effect own_domain k expected b a
effect_of own_domain (Show k) b a = show_effect own_domain k b a
effect_of own_domain (ShowAgent k) b a = show_agent_effect own_domain k b a
effect_of own_domain (ShowBundle k) b a = show_bundle_effect own_domain k b a
effect_of own_domain (Children p) b a = children_effect own_domain p b a
effect_of own_domain (Page q) b a = page_effect own_domain q b a
effect_of own_domain (Authorised k) b a = authorised_effect own_domain k b a
effect_of own_domain (Trust k) b a = trust_effect own_domain k b a
effect_of own_domain (Prune moment) b a = prune_effect own_domain moment b a
effect_of own_domain (SetAgent x) b a = set_agent_effect own_domain x b a
effect_of own_domain (DropAgent k) b a = drop_agent_effect own_domain k b a
effect_of own_domain (SetBundle domain text) b a = set_bundle_effect own_domain domain text b a
effect_of own_domain (DropBundle domain m) b a = drop_bundle_effect own_domain domain m b a

not_both : (own_domain : Bytes) (op : Op) (b : Book) (d : OpEffect) (r : OpRefusal) → AscendingBook b → EffectOf own_domain op b d → RefusalOf op b r → ⊥
not_both own_domain (Create e) b d r a g h = create_not b a e d r g h
not_both own_domain (Update e expected) b d r a g h = update_not b a e expected d r g h
not_both own_domain (Delete k expected) b d r a g h = delete_not b a k expected d r g h
not_both own_domain (Show k) b d r a g h = h
not_both own_domain (ShowAgent k) b d r a g h = h
not_both own_domain (ShowBundle k) b d r a g h = h
not_both own_domain (Children p) b d r a g h = h
not_both own_domain (Page q) b d r a g h = h
not_both own_domain (Authorised k) b d r a g h = lack_not b a k r (g.0, g.1, g.2) h
not_both own_domain (Trust k) b d r a g h = lack_not b a k r (g.0, g.1, g.2) h
not_both own_domain (Prune moment) b d r a g h = h
not_both own_domain (SetAgent x) b d r a g h = h
not_both own_domain (DropAgent k) b d r a g h = lack_not b a k r (g.old, g.found.0, g.found.1) h
not_both own_domain (SetBundle domain text) b d r a g h = h
not_both own_domain (DropBundle domain m) b d r a g h = drop_not b a domain m d r g h

one_refusal : (op : Op) (b : Book) (r q : OpRefusal) → AscendingBook b → Apart b → RefusalOf op b r → RefusalOf op b q → r ≡ q
one_refusal (Create e) b r q a l g h = one_create b a l e r q g h
one_refusal (Update e expected) b r q a l g h = one_update b a l e expected r q g h
one_refusal (Delete k expected) b r q a l g h = one_delete b a k expected r q g h
one_refusal (Show k) b r q a l g h = absurd g
one_refusal (ShowAgent k) b r q a l g h = absurd g
one_refusal (ShowBundle k) b r q a l g h = absurd g
one_refusal (Children p) b r q a l g h = absurd g
one_refusal (Page x) b r q a l g h = absurd g
one_refusal (Authorised k) b r q a l g h = one_lack b a k r q g h
one_refusal (Trust k) b r q a l g h = one_lack b a k r q g h
one_refusal (Prune moment) b r q a l g h = absurd g
one_refusal (SetAgent x) b r q a l g h = absurd g
one_refusal (DropAgent k) b r q a l g h = one_lack b a k r q g h
one_refusal (SetBundle domain text) b r q a l g h = absurd g
one_refusal (DropBundle domain m) b r q a l g h = one_drop b a domain m r q g h

accepted_so : (o : OpResult) (Is : OpEffect → Type 0) (Due : OpRefusal → Type 0) (P : OpEffect → Type 0) → MatchResult o Is Due → ((d : OpEffect) → Is d → P d) → ((r : OpRefusal) → Due r → ⊥) → MatchResult o P (λ r. ⊥)
accepted_so (Ok d) Is Due P h f n = f d h
accepted_so (Err r) Is Due P h f n = n r h

pub accepted_as_said : (own_domain : Bytes) (op : Op) (b : Book) (d : OpEffect) → AscendingBook b → EffectOf own_domain op b d → MatchResult (op_of own_domain op b) (λ c. (c.reply ≡ d.reply) × (after c.writes b ≡ after d.writes b)) (λ r. ⊥)
accepted_as_said own_domain op b d a g = accepted_so (op_of own_domain op b) (EffectOf own_domain op b) (RefusalOf op b) (λ c. (c.reply ≡ d.reply) × (after c.writes b ≡ after d.writes b)) (effect_of own_domain op b a) (λ c h. one_answer own_domain op b a c d h g) (λ r h. not_both own_domain op b d r a g h)

refused_so : (o : OpResult) (Is : OpEffect → Type 0) (Due : OpRefusal → Type 0) (r : OpRefusal) → MatchResult o Is Due → ((d : OpEffect) → Is d → ⊥) → ((q : OpRefusal) → Due q → q ≡ r) → o ≡ Err r
refused_so (Ok d) Is Due r h n f = absurd (n d h)
refused_so (Err q) Is Due r h n f = ap Err (f q h)

pub refused_as_said : (own_domain : Bytes) (most : ℕ) (op : Op) (b : Book) (r : OpRefusal) → Lawful own_domain most b → RefusalOf op b r → op_of own_domain op b ≡ Err r
refused_as_said own_domain most op b r l g = refused_so (op_of own_domain op b) (EffectOf own_domain op b) (RefusalOf op b) r (effect_of own_domain op b l.ascending) (λ d h. not_both own_domain op b d r l.ascending h g) (λ q h. one_refusal op b q r l.ascending l.apart h g)
