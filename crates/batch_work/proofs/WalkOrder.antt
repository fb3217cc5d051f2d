-- Which identities the walk to the authorised entries reads, and in which order.
use Rattle.std.proofs.Common.{◌≡◌, ℕ, zero, suc, false, List, [], ◌∷◌, refl, subst, ◌∙◌, ⊎_elim}
use Rattle.std.specs.Prelude.{bytes_eq}
use Rattle.std.proofs.lemmas.Bool.{both_ways, or_parts, or_left, or_right}
use Rattle.entry_book.specs.declared.agent.Agent.{Agent}
use Rattle.entry_book.specs.Rows.{Bytes}
use Rattle.entry_book.specs.Order.{Within, first}
use Rattle.entry_book.specs.Book.{Book}
use Rattle.entry_book.proofs.Sets.{text_same}
use Rattle.batch_work.specs.Bounds.{identities_of}
use Rattle.batch_work.specs.Reads.{found, is_one_of, unread, least_then, walk}
use Rattle.batch_work.specs.Walked.{EachOnce}
use Rattle.batch_work.proofs.TextSets.{within_map}
use Rattle.batch_work.proofs.Walks.{found_inside, next_is}

module _ (s : Bytes) (a : Agent) (b : Book) where
  -- an identity that is read wasn't read before, and is that of an entry of the book
  pub walk_new : (n : ℕ) (rs : List Bytes) (i : Bytes) → Within (walk n s a rs b) i → (is_one_of i (a.id ∷ rs) ≡ false) × Within (identities_of b) i
  walk_new zero rs i w = absurd w
  walk_new (suc n) rs i w = go (unread a rs (found s a rs b)) refl w (λ j v. walk_new n (j ∷ rs) i v)
    where
      go : (us : List Bytes) → unread a rs (found s a rs b) ≡ us → Within (least_then (first us) (λ j. walk n s a (j ∷ rs) b)) i → ((j : Bytes) → Within (walk n s a (j ∷ rs) b) i → (is_one_of i (a.id ∷ (j ∷ rs)) ≡ false) × Within (identities_of b) i) → (is_one_of i (a.id ∷ rs) ≡ false) × Within (identities_of b) i
      go [] u w ih = absurd w
      go (j ∷ js) u w ih = ⊎_elim
          (λ q. let k = next_is s a b rs j js u in
          (subst (λ x. is_one_of x (a.id ∷ rs) ≡ false) q k.1, subst (Within (identities_of b)) ((k.0).2 ∙ q) (within_map (λ e. e.identity) b.entries (k.0).0 (found_inside s a b rs (k.0).0 (k.0).1))))
          (λ v. let r = ih j v in let p = or_parts (bytes_eq a.id i) _ r.0 in let q = or_parts (bytes_eq j i) _ p.1 in (rw p.0 q.1, r.1))
          w

  pub walk_once : (n : ℕ) (rs : List Bytes) → EachOnce (walk n s a rs b)
  walk_once zero rs = tt
  walk_once (suc n) rs = go (unread a rs (found s a rs b)) (λ j. walk_once n (j ∷ rs))
    where
      go : (us : List Bytes) → ((j : Bytes) → EachOnce (walk n s a (j ∷ rs) b)) → EachOnce (least_then (first us) (λ j. walk n s a (j ∷ rs) b))
      go [] ih = tt
      go (j ∷ js) ih = (λ w. both_ways _ (walk_new n (j ∷ rs) j w).0 (or_right (bytes_eq a.id j) _ (or_left (bytes_eq j j) _ (text_same j j refl))), ih j)
