-- The slots of a window's older versions, and a push.
use Rattle.std.proofs.Common.{◌≡◌, ◌≤◌, ◌-◌, ℕ, List, [], ◌∷◌, ◌++◌, length, drop, Option, Some, None, refl, sym, ap, subst, ◌∙◌, arith, length-drop}
use Rattle.std.specs.Prelude.{map}
use Rattle.std.specs.List.{AllZip}
use Rattle.std.proofs.lemmas.List.Elements.{same_from_all_zip}
use Rattle.std.proofs.lemmas.List.{drop-map, length-map, map-append}
use Rattle.version_book.specs.CommittedRows.{VersionState}
use Rattle.batch_work.specs.WindowSlots.{AreKept, held}
use Rattle.batch_work.specs.Windows.{Counted, IsNextVersion, Window, ending, pushed, versions}
use Rattle.batch_work.proofs.Windows.{counted_pushed}

held_map : (ss : List VersionState) → held (map Some ss) ≡ ss
held_map [] = refl
held_map (s ∷ ss) = ap (λ l. s ∷ l) (held_map ss)

-- no slot is empty, so there are as many versions
pub held_count : (slots : List (Option VersionState)) → slots ≡ map Some (held slots) → length slots ≡ length (held slots)
held_count slots e = ap length e ∙ length-map (held slots) Some

pub held_append : (ps qs : List (Option VersionState)) → held (ps ++ qs) ≡ held ps ++ held qs
held_append [] qs = refl
held_append (None ∷ ps) qs = held_append ps qs
held_append (Some s ∷ ps) qs = ap (λ l. s ∷ l) (held_append ps qs)

-- ---- slots of which none is empty

pub all_append : (ps qs : List (Option VersionState)) → ps ≡ map Some (held ps) → qs ≡ map Some (held qs) → ps ++ qs ≡ map Some (held (ps ++ qs))
all_append ps qs e f =
    ap (λ l. l ++ qs) e
    ∙ (ap (λ l. map Some (held ps) ++ l) f
    ∙ (sym (map-append Some (held ps) (held qs)) ∙ ap (map Some) (sym (held_append ps qs))))

dropped : (n : ℕ) (ps : List (Option VersionState)) → ps ≡ map Some (held ps) → drop n ps ≡ map Some (drop n (held ps))
dropped n ps e = ap (drop n) e ∙ drop-map Some n (held ps)

pub held_ending : (ps : List (Option VersionState)) → ps ≡ map Some (held ps) → held (ending 63 ps) ≡ ending 63 (held ps)
held_ending ps e =
    let n = length ps - 63 in
    ap held (dropped n ps e) ∙ (held_map (drop n (held ps)) ∙ ap (λ m. drop (m - 63) (held ps)) (held_count ps e))

pub all_ending : (ps : List (Option VersionState)) → ps ≡ map Some (held ps) → ending 63 ps ≡ map Some (held (ending 63 ps))
all_ending ps e =
    let n = length ps - 63 in
    dropped n ps e ∙ ap (map Some) (sym (ap held (dropped n ps e) ∙ held_map (drop n (held ps))))

pub few_last : {X : Type 0} (xs : List X) → length (ending 63 xs) ≤ 63
few_last xs = let l = length-drop (length xs - 63) xs in omega arith

-- ---- a push

-- one more slot after these, of which the last 63 remain
abbrev pub with_slot : VersionState → List (Option VersionState) → List (Option VersionState)
with_slot s slots = ending 63 (slots ++ Some s ∷ [])

-- the window with the versions in these slots
abbrev window_in : List (Option VersionState) → VersionState → Window
window_in slots newest = record { older = held slots; newest = newest }

module _ (slots : List (Option VersionState)) (newest : VersionState) (k : AreKept slots newest) where
  all_more : slots ++ Some newest ∷ [] ≡ map Some (held (slots ++ Some newest ∷ []))
  all_more = all_append slots (Some newest ∷ []) k.all refl

  held_are : (rest : List (Option VersionState)) → rest ≡ with_slot newest slots → held rest ≡ ending 63 (versions (window_in slots newest))
  held_are rest e = ap held e ∙ (held_ending (slots ++ Some newest ∷ []) all_more ∙ ap (ending 63) (held_append slots (Some newest ∷ [])))

  pub window_is : (rest : List (Option VersionState)) (s : VersionState) → rest ≡ with_slot newest slots → window_in rest s ≡ pushed s (window_in slots newest)
  window_is rest s e = ap (λ l. record { older = l; newest = s }) (held_are rest e)

  pub still_kept : (rest : List (Option VersionState)) (s : VersionState) → rest ≡ with_slot newest slots → IsNextVersion newest s → AreKept rest s
  still_kept rest s e n =
      let l = ap length e in
      let m = few_last (slots ++ Some newest ∷ []) in
      record {
        all = subst (λ (l : List (Option VersionState)). l ≡ map Some (held l)) (sym e) (all_ending (slots ++ Some newest ∷ []) all_more);
        few = omega arith;
        counted = subst (λ l. Counted (l ++ s ∷ [])) (sym (held_are rest e)) (counted_pushed (window_in slots newest) s k.counted n);
      }

-- slots whose versions are those of others
pub same_slots : (R : Option VersionState → Option VersionState → Type 0) → ((s : VersionState) → R None (Some s) → ⊥) → ((s : VersionState) → R (Some s) None → ⊥) → ((s t : VersionState) → R (Some s) (Some t) → t ≡ s) → (xs ys : List (Option VersionState)) → AllZip R xs ys → ys ≡ xs
same_slots R f g h xs ys z = same_from_all_zip R xs ys z (λ x y. same_slot x y)
  where
    same_slot : (x y : Option VersionState) → R x y → y ≡ x
    same_slot None None r = refl
    same_slot None (Some s) r = absurd (f s r)
    same_slot (Some s) None r = absurd (g s r)
    same_slot (Some s) (Some t) r = ap Some (h s t r)
