-- Items, printed one after another.
use Rattle.std.proofs.Common.{◌≡◌, ◌<◌, ◌≤◌, ◌+◌, ℕ, suc, List, [], ◌∷◌, ◌++◌, take, length, get_or, sym, ap, ◌∙◌, arith, cond, ltb, true, append_assoc}
use Rattle.std.specs.Prelude.{codes}
use Rattle.std.specs.List.{flat_map}
use Rattle.std.proofs.lemmas.Grind.{common_steps, flat_map-append}
use Rattle.std.proofs.lemmas.Bool.Decides.{nat_tests}
use Rattle.std.proofs.lemmas.List.{append-nil, take_more}
use Rattle.reg_lines.specs.Json.{items_json}
use Rattle.reg_lines.specs.JsonPrivate.{comma}

length_taken : {A : Type 0} (xs : List A) (i : ℕ) → i < length xs → length (take i xs) ≡ i
length_taken xs i l = grind (arith, common_steps)

above : (n : ℕ) → ltb 0 (suc n) ≡ true
above n = grind (arith, nat_tests)

items_json-push : {A : Type 0} (f : A → List ℕ) (xs : List A) (x : A) → items_json f xs ++ comma (length xs) ++ f x ≡ items_json f (xs ++ x ∷ [])
items_json-push f [] x = sym (append-nil (f x))
items_json-push f (y ∷ xs) x =
    let t : comma (length (y ∷ xs)) ≡ codes "," = ap (λ b. cond b (codes ",") []) (above (length xs)) in
    ap (λ c. f y ++ flat_map (λ z. codes "," ++ f z) xs ++ c ++ f x) t
    ∙ (append_assoc (f y ++ flat_map (λ z. codes "," ++ f z) xs) (codes ",") (f x)
    ∙ (append_assoc (f y) (flat_map (λ z. codes "," ++ f z) xs) (codes "," ++ f x)
    ∙ ap (λ t. f y ++ t) (sym (flat_map-append (λ z. codes "," ++ f z) xs (x ∷ []) ∙ ap (λ t. flat_map (λ z. codes "," ++ f z) xs ++ t) (append-nil (codes "," ++ f x))))))

pub items_json-next : {A : Type 0} (f : A → List ℕ) (xs : List A) (i : ℕ) (x : A) → i < length xs → x ≡ get_or xs i x → items_json f (take i xs) ++ comma i ++ f x ≡ items_json f (take (i + 1) xs)
items_json-next f xs i x l e =
    ap (λ n. items_json f (take i xs) ++ comma n ++ f x) (sym (length_taken xs i l)) ∙ (items_json-push f (take i xs) x ∙ (ap (λ y. items_json f (take i xs ++ y ∷ [])) e ∙ ap (items_json f) (sym (take_more xs i x l))))

pub comma-some : (index : ℕ) → 0 < index → codes "," ≡ comma index
comma-some index h = grind (arith, nat_tests)

pub comma-none : (index : ℕ) → index ≤ 0 → (let l : List ℕ = [] in l) ≡ comma index
comma-none index h = grind (arith, nat_tests)
