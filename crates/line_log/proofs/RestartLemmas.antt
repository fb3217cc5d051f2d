-- The lines of several texts.
use Rattle.std.proofs.Common.{◌≡◌, ℕ, ◌+◌, ◌<◌, ◌≤◌, List, [], ◌∷◌, ◌++◌, length, take, drop, get_or, Vec, Result, Ok, Err, Bool, false, true≢false, refl, sym, ◌∙◌, ap, subst, arith, append_assoc, length-append, take-append-drop}
use Rattle.std.proofs.lemmas.List.{append-nil, take_more, take_all}
use Rattle.std.specs.Prelude.{OnOk, is_err}
use Rattle.std.specs.declared.alloc.Global.{Global}
use mathlib.Core.List.{IsPrefix}
use Rattle.line_log.specs.Lines.{lines_in, IsBetween}
use Rattle.line_log.specs.Restarts.{lines_of_all}
use Rattle.line_log.specs.Hashes.{hashed, CrashMayLeave}

pub lines_all_append : (xs ys : List (Vec ℕ Global)) → lines_of_all (xs ++ ys) ≡ lines_of_all xs ++ lines_of_all ys
lines_all_append [] ys = refl
lines_all_append (x ∷ xs) ys = ap (λ (l : List (List ℕ)). lines_in x.items ++ l) (lines_all_append xs ys) ∙ sym (append_assoc (lines_in x.items) (lines_of_all xs) (lines_of_all ys))

pub all_more : (xs : List (Vec ℕ Global)) (i : ℕ) (x : Vec ℕ Global) → i < length xs → x ≡ get_or xs i x → lines_of_all (take (i + 1) xs) ≡ lines_of_all (take i xs) ++ lines_in x.items
all_more xs i x low read =
    ap lines_of_all (take_more xs i x low) ∙ lines_all_append (take i xs) (get_or xs i x ∷ [])
    ∙ ap (λ (l : List (List ℕ)). lines_of_all (take i xs) ++ l) (append-nil (lines_in (get_or xs i x).items) ∙ ap (λ (v : Vec ℕ Global). lines_in v.items) (sym read))

-- the lines of some texts begin those of all
pub all_prefix : (base : List (List ℕ)) (xs : List (Vec ℕ Global)) (i : ℕ) → IsPrefix (base ++ lines_of_all (take i xs)) (base ++ lines_of_all xs)
all_prefix base xs i = (
  lines_of_all (drop i xs),
  append_assoc base (lines_of_all (take i xs)) (lines_of_all (drop i xs))
      ∙ ap (λ (l : List (List ℕ)). base ++ l) (sym (lines_all_append (take i xs) (drop i xs)) ∙ ap lines_of_all (take-append-drop i xs)),
)

prefix_trans : (xs ys zs : List (List ℕ)) → IsPrefix xs ys → IsPrefix ys zs → IsPrefix xs zs
prefix_trans xs ys zs p q = (p.0 ++ q.0, sym (append_assoc xs p.0 q.0) ∙ (ap (λ (w : List (List ℕ)). w ++ q.0) p.1 ∙ q.1))

-- one text was being added
pub between_all : (base : List (List ℕ)) (xs : List (Vec ℕ Global)) (i : ℕ) (x : Vec ℕ Global) (now found : List (List ℕ)) → i < length xs → x ≡ get_or xs i x
    → now ≡ base ++ lines_of_all (take i xs) → IsBetween now (now ++ lines_in x.items) found → IsBetween (base ++ lines_of_all (take i xs)) (base ++ lines_of_all xs) found
between_all base xs i x now found low read is between =
    let more : now ++ lines_in x.items ≡ base ++ lines_of_all (take (i + 1) xs) =
    ap (λ (l : List (List ℕ)). l ++ lines_in x.items) is ∙ append_assoc base (lines_of_all (take i xs)) (lines_in x.items) ∙ ap (λ (l : List (List ℕ)). base ++ l) (sym (all_more xs i x low read)) in
    record {
      no_fewer = subst (λ (l : List (List ℕ)). IsPrefix l found) is between.no_fewer;
      no_more = prefix_trans found (base ++ lines_of_all (take (i + 1) xs)) (base ++ lines_of_all xs) (subst (λ (l : List (List ℕ)). IsPrefix found l) more between.no_more) (all_prefix base xs (i + 1));
    }

-- all were added
pub between_done : (base : List (List ℕ)) (xs : List (Vec ℕ Global)) (n : ℕ) (found : List (List ℕ)) → length xs ≤ n → found ≡ base ++ lines_of_all xs → IsBetween (base ++ lines_of_all (take n xs)) (base ++ lines_of_all xs) found
between_done base xs n found all is =
    record {
      no_fewer = ([], append-nil (base ++ lines_of_all (take n xs)) ∙ ap (λ (l : List (Vec ℕ Global)). base ++ lines_of_all l) (take_all n xs all) ∙ sym is);
      no_more = ([], append-nil found ∙ is);
    }

-- what a call that didn't fail ensures
pub at_ok : {T E P : Type 0} (r : Result T E) → false ≡ is_err r → OnOk r P → P
at_ok (Ok x) fine p = p
at_ok (Err e) fine p = absurd (true≢false (sym fine))

-- one text was added
pub now_more : (base : List (List ℕ)) (xs : List (Vec ℕ Global)) (i : ℕ) (x : Vec ℕ Global) (t : List ℕ) (now : List (List ℕ)) → i < length xs → x ≡ get_or xs i x → t ≡ x.items
    → now ≡ base ++ lines_of_all (take i xs) → now ++ lines_in t ≡ base ++ lines_of_all (take (i + 1) xs)
now_more base xs i x t now low read t_is is =
    ap (λ (l : List (List ℕ)). l ++ lines_in t) is ∙ append_assoc base (lines_of_all (take i xs)) (lines_in t)
    ∙ ap (λ (l : List (List ℕ)). base ++ l) (ap (λ (b : List ℕ). lines_of_all (take i xs) ++ lines_in b) t_is ∙ sym (all_more xs i x low read))

-- the lines that a crash left, without their hashes
pub left_found : (mixes : Bool) (ls gs : List (List ℕ)) (c : List ℕ) → CrashMayLeave mixes ls gs c → (found : List (List ℕ)) × (lines_in c ≡ hashed found) × IsBetween ls (ls ++ gs) found
left_found mixes ls gs c part = (
  ls ++ part.found,
  part.holds,
  record {
    no_fewer = (part.found, refl);
    no_more = (part.rest, append_assoc ls part.found part.rest ∙ ap (λ (l : List (List ℕ)). ls ++ l) (sym part.others_are));
  },
)

none_of : (r : List (List ℕ)) → length r ≡ 0 → r ≡ []
none_of [] none = refl
none_of (l ∷ r) none = absurd (omega arith)

-- nothing was being added
pub between_same : (old found : List (List ℕ)) → IsBetween old old found → found ≡ old
between_same old found between =
    let sum : length found + length between.no_more.0 ≡ length old = sym (length-append found between.no_more.0) ∙ ap length between.no_more.1 in
    let more : length old + length between.no_fewer.0 ≡ length found = sym (length-append old between.no_fewer.0) ∙ ap length between.no_fewer.1 in
    let none = none_of between.no_more.0 (omega (arith, sum, more)) in
    sym (append-nil found) ∙ ap (λ (r : List (List ℕ)). found ++ r) (sym none) ∙ between.no_more.1

-- a run added no texts
pub between_none : (lines found : List (List ℕ)) (n : ℕ) → IsBetween (lines ++ lines_of_all (take n [])) (lines ++ lines_of_all []) found → found ≡ lines
between_none lines found n between =
    let same : lines ++ lines_of_all (take n []) ≡ lines = ap (λ (l : List (Vec ℕ Global)). lines ++ lines_of_all l) (take_all n [] (omega arith)) ∙ append-nil lines in
    between_same lines found (subst (λ (l : List (List ℕ)). IsBetween l lines found) same (subst (λ (l : List (List ℕ)). IsBetween (lines ++ lines_of_all (take n [])) l found) (append-nil lines) between))

-- no text was added
pub between_first : (lines found : List (List ℕ)) (texts : List (Vec ℕ Global)) → found ≡ lines → IsBetween (lines ++ lines_of_all (take 0 texts)) (lines ++ lines_of_all texts) found
between_first lines found texts is =
    record {
      no_fewer = ([], append-nil (lines ++ []) ∙ append-nil lines ∙ sym is);
      no_more = (lines_of_all texts, ap (λ (l : List (List ℕ)). l ++ lines_of_all texts) is);
    }
