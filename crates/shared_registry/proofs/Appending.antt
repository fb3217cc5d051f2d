-- The steps over a history's words preserve their invariant.
use Rattle.std.proofs.Common.{◌≡◌, ◌≢◌, ℕ, suc, ◌+◌, ◌<◌, ◌==◌, Bool, true, false, List, [], ◌∷◌, ◌++◌, length, refl, ap, sym, subst, ◌∙◌, arith, inl, length-append, append_assoc, None}
use Rattle.std.specs.Prelude.{slice_set}
use Rattle.std.proofs.lemmas.List.{append-nil, length-set}
use Rattle.std.proofs.lemmas.Bool.Decides.{nat_tests}
use mathlib.Core.List.{IsPrefix}
use prog.Atomic.{either}
use Rattle.logbook.specs.Pages.{Cell, Nib, cell, adds, gives, keeps, may_write, no_nib, step, Moves, Goes}
use Rattle.shared_registry.specs.declared.entry.HistoryEntry.{HistoryEntry}
use Rattle.shared_registry.specs.Rules.{items_of}
use Rattle.shared_registry.specs.RulesPrivate.{AreUsedUp, Appends, IsHome, IsKept, Looks, MakesPen, right_after}
use Rattle.shared_registry.proofs.Prefixes.{prefix_length, prefix_whole}
use Rattle.shared_registry.proofs.Cells.{apart, cell_more, home_in, home_more, home_set, set_other, set_there}

abbrev pub shown : List HistoryEntry → List HistoryEntry
shown log = []

abbrev pub moved : List HistoryEntry → List HistoryEntry → ℕ → Type 0
moved xs ys n = Unit {0}

-- ---- the rights that are used up

used_in : (cells next : List Cell) → ((k : ℕ) → IsHome cells k → IsHome next k) → (k : ℕ) (log : List HistoryEntry) → AreUsedUp cells k log → AreUsedUp next k log
used_in cells next more k [] u = tt
used_in cells next more k (e ∷ log) u = (more k u.0, used_in cells next more e.next log u.1)

used_more : (cells : List Cell) (k : ℕ) (log : List HistoryEntry) (e : HistoryEntry) → AreUsedUp cells k log → IsHome cells (right_after k log) → AreUsedUp cells k (log ++ e ∷ [])
used_more cells k [] e u h = (h, tt)
used_more cells k (i ∷ log) e u h = (u.0, used_more cells i.next log e u.1 h)

pub right_more : (k : ℕ) (log : List HistoryEntry) (e : HistoryEntry) → right_after k (log ++ e ∷ []) ≡ e.next
right_more k [] e = refl
right_more k (i ∷ log) e = right_more i.next log e

-- the right to append after these entries isn't used up: there are no others
none_more : (cells : List Cell) (k : ℕ) (log more : List HistoryEntry) → AreUsedUp cells k (log ++ more) → (cell cells (right_after k log)).1 ≡ false → more ≡ []
none_more cells k [] [] u away = refl
none_more cells k [] (e ∷ more) u away = let t : true ≡ false = sym u.0 ∙ away in absurd cc
none_more cells k (i ∷ log) more u away = none_more cells i.next log more u.1 away

whole : (cells : List Cell) (k : ℕ) (log all : List HistoryEntry) → AreUsedUp cells k all → IsPrefix log all → (cell cells (right_after k log)).1 ≡ false → log ≡ all
whole cells k log all u p away =
    let none = none_more cells k log p.0 (subst (AreUsedUp cells k) (sym p.1) u) away in
    sym (append-nil log) ∙ (ap (λ l. log ++ l) (sym none) ∙ p.1)

-- ---- the items of the entries

pub items_length : (log : List HistoryEntry) → length (items_of log) ≡ length log
items_length [] = refl
items_length (e ∷ log) = ap suc (items_length log)

pub items_join : (log more : List HistoryEntry) → items_of (log ++ more) ≡ items_of log ++ items_of more
items_join [] more = refl
items_join (e ∷ log) more = ap (λ l. e.item ∷ l) (items_join log more)

pub items_first : (log all : List HistoryEntry) → IsPrefix log all → IsPrefix (items_of log) (items_of all)
items_first log all p = (items_of p.0, sym (items_join log p.0) ∙ ap items_of p.1)

-- ---- a step that makes a pen

not_zero : (n : ℕ) (b : Bool) → (n == 0) ≡ b → either b 1 n ≢ 0
not_zero n true is e = absurd (omega arith)
not_zero n false is e = grind (arith, nat_tests)

makes_goes : (cells : List Cell) (log v : List HistoryEntry) (e : HistoryEntry) → IsKept cells log
    → Goes IsKept shown moved 1 (v, (no_nib, None)) (λ n. either (n == 0) 1 n) (MakesPen (step 1 0 1 e) (v, (no_nib, None))) cells log
makes_goes cells log v e kept =
    let n = (cell cells 1).0 in
    let set = slice_set cells 1 (either (n == 0) 1 n, true) in
    let all : log ++ [] ≡ log = append-nil log in
    let home : (k : ℕ) → IsHome cells k → IsHome (set ++ (0, false) ∷ []) k = λ k h. home_more set ((0, false) ∷ []) k (home_set cells 1 (either (n == 0) 1 n) k h) in
    let first = home_in cells 1 kept.pens in
    let wide : length set ≡ length cells = length-set cells 1 (either (n == 0) 1 n, true) in
    let zero_there : cell (set ++ (0, false) ∷ []) 0 ≡ cell cells 0 = cell_more set ((0, false) ∷ []) 0 (omega arith) ∙ set_other cells 1 0 (either (n == 0) 1 n) (λ q. absurd (omega arith)) in
    let one_there : cell (set ++ (0, false) ∷ []) 1 ≡ (either (n == 0) 1 n, true) = cell_more set ((0, false) ∷ []) 1 (omega arith) ∙ set_there cells 1 (either (n == 0) 1 n) first in (
      adds,
      [],
      None,
      tt,
      record {
        count = zero_there ∙ (kept.count ∙ ap (λ l. (length l, true)) (sym all));
        pens = home 1 kept.pens;
        unmade = λ q. absurd (not_zero n (n == 0) refl (sym (ap (λ (c : Cell). c.0) one_there) ∙ q));
        used_up = subst (AreUsedUp (set ++ (0, false) ∷ []) 2) (sym all) (used_in cells (set ++ (0, false) ∷ []) home 2 log kept.used_up);
      },
      inl (refl, refl),
      (refl, λ q. kept.unmade q),
    )

pub makes_moves : (v : List HistoryEntry) (e : HistoryEntry) → Moves IsKept shown moved 1 (v, (no_nib, None)) (λ n. either (n == 0) 1 n) (MakesPen (step 1 0 1 e) (v, (no_nib, None)))
makes_moves v e cells log kept pre away = (home_in cells 1 kept.pens, kept.pens, makes_goes cells log v e kept)

-- ---- a step that appends an entry, by the holder of the right

appends_goes : (cells : List Cell) (log v : List HistoryEntry) (p : Nib) (e : HistoryEntry) → p.right ≡ may_write → p.key ≡ right_after 2 v → IsKept cells log → IsPrefix v log → p.key < length cells → (cell cells p.key).1 ≡ false
    → Goes IsKept shown moved 0 (v, (p, None)) (λ n. either (n == length v) (length v + 1) n) (Appends (step 0 (length v) (length v + 1) e) (v, (p, None))) cells log
appends_goes cells log v p e right key kept pre less away =
    let f : ℕ → ℕ = λ n. either (n == length v) (length v + 1) n in
    let n = (cell cells 0).0 in
    let same : v ≡ log = whole cells 2 v log kept.used_up pre (subst (λ k. (cell cells k).1 ≡ false) key away) in
    let here : n ≡ length v = ap (λ (c : Cell). c.0) kept.count ∙ ap length (sym same) in
    let found : (n == length v) ≡ true = grind (arith, nat_tests) in
    let next : f n ≡ length v + 1 = rw found refl in
    let zero_home : IsHome cells 0 = ap (λ (c : Cell). c.1) kept.count in
    let counted = slice_set cells 0 (f n, true) in
    let set = slice_set counted p.key (p.value, true) in
    let wide : length counted ≡ length cells = length-set cells 0 (f n, true) in
    let home : (k : ℕ) → IsHome cells k → IsHome set k = λ k h. home_set counted p.key p.value k (home_set cells 0 (f n) k h) in
    let zero_there : cell set 0 ≡ (f n, true) = set_other counted p.key 0 p.value (apart cells 0 p.key zero_home away) ∙ set_there cells 0 (f n) (home_in cells 0 zero_home) in
    let one_there : cell set 1 ≡ cell cells 1 = set_other counted p.key 1 p.value (apart cells 1 p.key kept.pens away) ∙ set_other cells 0 1 (f n) (λ q. absurd (omega arith)) in
    let long : f n ≡ length (log ++ e ∷ []) = next ∙ (ap (λ l. length l + 1) same ∙ sym (length-append log (e ∷ []))) in
    let used_key : IsHome set (right_after 2 log) = subst (IsHome set) (key ∙ ap (right_after 2) same) (ap (λ (c : Cell). c.1) (set_there counted p.key p.value (omega arith))) in (
      gives,
      e ∷ [],
      None,
      right,
      record {
        count = zero_there ∙ ap (λ k. (k, true)) long;
        pens = home 1 kept.pens;
        unmade = λ q. length-set counted p.key (p.value, true) ∙ (wide ∙ kept.unmade (sym (ap (λ (c : Cell). c.0) one_there) ∙ q));
        used_up = used_more set 2 log e (used_in cells set home 2 log kept.used_up) used_key;
      },
      inl (refl, refl),
      ap (λ l. l ++ e ∷ []) (sym same),
    )

pub appends_moves : (v : List HistoryEntry) (p : Nib) (e : HistoryEntry) (old : ℕ) → old ≡ length v → p.right ≡ may_write → p.key ≡ right_after 2 v
    → Moves IsKept shown moved 0 (v, (p, None)) (λ n. either (n == old) (old + 1) n) (Appends (step 0 old (old + 1) e) (v, (p, None)))
appends_moves v p e old is right key cells log kept pre away =
    let zero_home : IsHome cells 0 = ap (λ (c : Cell). c.1) kept.count in (
      home_in cells 0 zero_home,
      zero_home,
      subst (λ k. Goes IsKept shown moved 0 (v, (p, None)) (λ n. either (n == k) (k + 1) n) (Appends (step 0 k (k + 1) e) (v, (p, None))) cells log) (sym is)
          (appends_goes cells log v p e right key kept pre (away right).0 (away right).1),
    )

-- ---- a look by the holder of the right

either_same : (n old : ℕ) (b : Bool) → (n == old) ≡ b → either b old n ≡ n
either_same n old true is = grind (arith, nat_tests)
either_same n old false is = refl

looks_goes : (cells : List Cell) (log v seen : List HistoryEntry) (p : Nib) (e : HistoryEntry) (old : ℕ) → old ≡ length v → p.right ≡ may_write → p.key ≡ right_after 2 v → IsKept cells log → IsPrefix v log → (cell cells p.key).1 ≡ false
    → Goes IsKept shown moved 0 (seen, (p, None)) (λ n. either (n == old) old n) (Looks (step 0 old old e) (seen, (p, None))) cells log
looks_goes cells log v seen p e old is right key kept pre away =
    let n = (cell cells 0).0 in
    let f = either (n == old) old n in
    let same : v ≡ log = whole cells 2 v log kept.used_up pre (subst (λ k. (cell cells k).1 ≡ false) key away) in
    let stays : f ≡ n = either_same n old (n == old) refl in
    let zero_home : IsHome cells 0 = ap (λ (c : Cell). c.1) kept.count in
    let set = slice_set cells 0 (f, true) in
    let all : log ++ [] ≡ log = append-nil log in
    let zero_there : cell set 0 ≡ (f, true) = set_there cells 0 f (home_in cells 0 zero_home) in
    let one_there : cell set 1 ≡ cell cells 1 = set_other cells 0 1 f (λ q. absurd (omega arith)) in
    let home : (k : ℕ) → IsHome cells k → IsHome set k = home_set cells 0 f in (
      keeps,
      [],
      None,
      tt,
      record {
        count = zero_there ∙ ap (λ k. (k, true)) (stays ∙ (ap (λ (c : Cell). c.0) kept.count ∙ ap length (sym all)));
        pens = home 1 kept.pens;
        unmade = λ q. length-set cells 0 (f, true) ∙ kept.unmade (sym (ap (λ (c : Cell). c.0) one_there) ∙ q);
        used_up = subst (AreUsedUp set 2) (sym all) (used_in cells set home 2 log kept.used_up);
      },
      inl (refl, refl),
      (ap length all ∙ (ap length (sym same) ∙ sym is), refl),
    )

pub looks_moves : (v seen : List HistoryEntry) (p : Nib) (e : HistoryEntry) (old : ℕ) → old ≡ length v → IsPrefix v seen → p.right ≡ may_write → p.key ≡ right_after 2 v
    → Moves IsKept shown moved 0 (seen, (p, None)) (λ n. either (n == old) old n) (Looks (step 0 old old e) (seen, (p, None)))
looks_moves v seen p e old is more right key cells log kept pre away =
    let zero_home : IsHome cells 0 = ap (λ (c : Cell). c.1) kept.count in
    let first : IsPrefix v log = (more.0 ++ pre.0, sym (append_assoc v more.0 pre.0) ∙ (ap (λ l. l ++ pre.0) more.1 ∙ pre.1)) in (
      home_in cells 0 zero_home,
      zero_home,
      looks_goes cells log v seen p e old is right key kept first (away right).1,
    )

-- ---- what anyone has seen

-- The holder of the right has seen `log`, and anyone else `other`; together they have seen `both`, and the whole history is as long as
-- what the holder has seen.
pub seen_whole : (log other both all : List HistoryEntry) → IsPrefix log both → IsPrefix other both → IsPrefix both all → length all ≡ length log → IsPrefix (items_of other) (items_of log)
seen_whole log other both all p q r long =
    let short = prefix_length both all r in
    let same : log ≡ both = prefix_whole log both p (omega arith) in
    items_first other log (subst (IsPrefix other) (sym same) q)
