-- The two lists of a shared window: their last versions, a version by its distance from the end, and the next window.
use Rattle.std.proofs.Common.{◌≡◌, ℕ, ◌+◌, ◌-◌, ◌<◌, ◌≤◌, Bool, true, false, List, [], ◌∷◌, ◌++◌, length, drop, Option, Some, None, refl, sym, ap, subst, ◌∙◌, arith, append_assoc, length-append, length-drop, drop-drop}
use Rattle.std.specs.Prelude.{map, nat_lt}
use Rattle.std.proofs.lemmas.Bool.Decides.{nat_tests}
use Rattle.std.proofs.lemmas.List.{append-nil, drop-append-le}
use Rattle.version_book.specs.CommittedRows.{VersionState}
use Rattle.batch_work.specs.SharedWindows.{IsShared, last_of_both}
use Rattle.batch_work.specs.WindowSlots.{held}
use Rattle.batch_work.specs.Windows.{Counted, IsNextVersion, Window, back_from, ending, pushed, versions}
use Rattle.batch_work.proofs.WindowSlots.{all_append, all_ending, few_last, held_append, held_ending}
use Rattle.batch_work.proofs.Windows.{counted_pushed, gone}

-- ---- the last of two lists

ending_left : (xs ys : List VersionState) → ending 63 (ending 63 xs ++ ys) ≡ ending 63 (xs ++ ys)
ending_left xs ys =
    let d = length xs - 63 in
    let whole : List VersionState = xs ++ ys in
    let front : ending 63 xs ++ ys ≡ drop d whole = sym (drop-append-le d xs ys (omega arith)) in
    let l = length-drop d whole in
    let n = length-append xs ys in
    let all : d + (length (drop d whole) - 63) ≡ length whole - 63 = omega arith in
    ap (ending 63) front ∙ (drop-drop (length (drop d whole) - 63) d whole ∙ ap (λ n. drop n whole) all)

all_of : (ys : List VersionState) → length ys ≤ 63 → ending 63 ys ≡ ys
all_of ys h = let z : length ys - 63 ≡ 0 = omega arith in ap (λ n. drop n ys) z

-- one more version behind both lists
both_more : (shared recent : List VersionState) (s : VersionState) → ending 63 (shared ++ (recent ++ s ∷ [])) ≡ ending 63 (last_of_both shared recent ++ s ∷ [])
both_more shared recent s = ap (ending 63) (sym (append_assoc shared recent (s ∷ []))) ∙ sym (ending_left (shared ++ recent) (s ∷ []))

-- both lists are made into the shared one
one_list : (ss : List VersionState) → last_of_both (ending 63 ss) [] ≡ ending 63 ss
one_list ss = ap (ending 63) (append-nil (ending 63 ss)) ∙ all_of (ending 63 ss) (few_last ss)

-- ---- the next window

-- the window with the versions in these slots
abbrev pub window_of : List (Option VersionState) → List (Option VersionState) → VersionState → Window
window_of shared recent newest = record { older = last_of_both (held shared) (held recent); newest = newest }

module _ (shared recent : List (Option VersionState)) (newest : VersionState) (k : IsShared shared recent newest) where
  -- the newest version comes behind the own ones
  behind_is : (s : VersionState) → window_of shared (recent ++ Some newest ∷ []) s ≡ pushed s (window_of shared recent newest)
  behind_is s =
      ap (λ (l : List VersionState). record { older = l; newest = s })
      (ap (λ (l : List VersionState). ending 63 (held shared ++ l)) (held_append recent (Some newest ∷ [])) ∙ both_more (held shared) (held recent) newest)

  all_behind : recent ++ Some newest ∷ [] ≡ map Some (held (recent ++ Some newest ∷ []))
  all_behind = all_append recent (Some newest ∷ []) k.all_recent refl

  -- the last of all become shared ones
  abbrev pub all_slots : List (Option VersionState)
  all_slots = shared ++ (recent ++ Some newest ∷ [])

  none_empty : all_slots ≡ map Some (held all_slots)
  none_empty = all_append shared (recent ++ Some newest ∷ []) k.all_shared all_behind

  anew_is : (s : VersionState) → window_of (ending 63 all_slots) [] s ≡ pushed s (window_of shared recent newest)
  anew_is s =
      let all : held all_slots ≡ held shared ++ (held recent ++ newest ∷ []) =
      held_append shared (recent ++ Some newest ∷ []) ∙ ap (λ (l : List VersionState). held shared ++ l) (held_append recent (Some newest ∷ [])) in
      ap (λ (l : List VersionState). record { older = l; newest = s })
      (ap (λ (l : List VersionState). last_of_both l []) (held_ending all_slots none_empty ∙ ap (ending 63) all)
      ∙ (one_list (held shared ++ (held recent ++ newest ∷ [])) ∙ both_more (held shared) (held recent) newest))

  still_counted : (s : VersionState) (p q : List (Option VersionState)) → IsNextVersion newest s → window_of p q s ≡ pushed s (window_of shared recent newest) → Counted (versions (window_of p q s))
  still_counted s p q n e = subst (λ (w : Window). Counted (versions w)) (sym e) (counted_pushed (window_of shared recent newest) s k.counted n)

  module _ (s : VersionState) (p q : List (Option VersionState)) (room : length recent < 10 → (p ≡ shared) × (q ≡ recent ++ Some newest ∷ [])) (full : 10 ≤ length recent → (p ≡ ending 63 all_slots) × (q ≡ [])) where
    pub next_is : window_of p q s ≡ pushed s (window_of shared recent newest)
    next_is = either (nat_lt (length recent) 10) refl
      where
        either : (few : Bool) → nat_lt (length recent) 10 ≡ few → window_of p q s ≡ pushed s (window_of shared recent newest)
        either true t =
            let e = room (grind (arith, nat_tests, t)) in
            (λ i. window_of (e.0 i) (e.1 i) s) ∙ behind_is s
        either false t =
            let e = full (grind (arith, nat_tests, t)) in
            (λ i. window_of (e.0 i) (e.1 i) s) ∙ anew_is s

    pub next_shared : IsNextVersion newest s → IsShared p q s
    next_shared n = either (nat_lt (length recent) 10) refl
      where
        either : (few : Bool) → nat_lt (length recent) 10 ≡ few → IsShared p q s
        either true t =
            let l : length recent < 10 = grind (arith, nat_tests, t) in
            let e = room l in
            let a = ap length e.0 in
            let b = ap length e.1 in
            let m = length-append recent (Some newest ∷ []) in
            let f = k.few_shared in
            record {
              all_shared = subst (λ (l : List (Option VersionState)). l ≡ map Some (held l)) (sym e.0) k.all_shared;
              all_recent = subst (λ (l : List (Option VersionState)). l ≡ map Some (held l)) (sym e.1) all_behind;
              few_shared = omega arith;
              few_recent = omega arith;
              counted = still_counted s p q n next_is;
            }
        either false t =
            let e = full (grind (arith, nat_tests, t)) in
            let a = ap length e.0 in
            let b = ap length e.1 in
            let f = few_last all_slots in
            record {
              all_shared = subst (λ (l : List (Option VersionState)). l ≡ map Some (held l)) (sym e.0) (all_ending all_slots none_empty);
              all_recent = subst (λ (l : List (Option VersionState)). l ≡ map Some (held l)) (sym e.1) refl;
              few_shared = omega arith;
              few_recent = omega arith;
              counted = still_counted s p q n next_is;
            }

-- ---- a version by its distance from the end

-- no version is more than 63 steps before the newest one
pub none_back : (steps : ℕ) (shared recent : List VersionState) → 63 < steps → None ≡ back_from steps (last_of_both shared recent)
none_back steps shared recent l = let few : length (last_of_both shared recent) ≤ 63 = few_last (shared ++ recent) in gone steps (last_of_both shared recent) (omega arith)
