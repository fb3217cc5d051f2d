-- What a page lists, and what page after page lists.
use Rattle.std.proofs.Common.{◌≡◌, ◌↔◌, ℕ, zero, suc, ◌<◌, ◌≤◌, Bool, true, false, cond, ◌⊎◌, List, [], ◌∷◌, ◌++◌, length, Option, Some, None, IfSome, refl, sym, ap, subst, ◌∙◌, inl, inr, ⊎_elim, arith, length-append, append-nil}
use Rattle.std.specs.Prelude.{MatchResult, filter, take, drop, nat_lt, if◌then◌else◌}
use Rattle.std.specs.List.{AllByRecursion}
use Rattle.std.proofs.lemmas.Bool.{and_parts, and_from, both_ways, cases_Bool, lt-ltb, ltb-true, le-ltb, ltb-false}
use Rattle.std.proofs.lemmas.List.{take-append-drop, length-take-le, length-drop}
use Rattle.spiffe_name.specs.Selector.{SelectorPair}
use Rattle.spiffe_name.specs.SelectorSet.{has}
use Rattle.entry_book.specs.declared.page.Filter.{Filter}
use Rattle.entry_book.specs.declared.page.MatchMode.{MatchMode}
use Rattle.entry_book.specs.declared.page.MatchMode.TheVariants as mode
use Rattle.entry_book.specs.declared.page.PageQuery.{PageQuery}
use Rattle.entry_book.specs.declared.op.Op.TheVariants.{Page}
use Rattle.entry_book.specs.declared.page.SelectorMatch.{SelectorMatch}
use Rattle.entry_book.specs.Rows.{Bytes, Entry, entry_key}
use Rattle.entry_book.specs.Order.{Within, Ascending, is_before}
use Rattle.entry_book.specs.Book.{Book, AscendingBook}
use Rattle.entry_book.specs.Effects.{IsListOf}
use Rattle.entry_book.specs.Pages.{matches_by, is_given, passes_domain, passes_selectors, passes, passing, comes_after, to_list, listed, last_id, next_of}
use Rattle.entry_book.specs.Listings.{Matches, Passes, IsToList, IsPageEnd, IsPage, ListsPage, page_after, PageAfterPage, last_page, one_more}
use Rattle.entry_book.specs.Ops.{op_of}
use Rattle.entry_book.proofs.Chains.{has_member, member_has, subset_of, of_subset}
use Rattle.entry_book.proofs.EffectsOfQuestions.{names_is}
use Rattle.entry_book.proofs.Present.{set_is, set_same}
use Rattle.entry_book.proofs.Sets.{All-within, before-irrefl, before-trans, within_filter, from_within_filter, within_right, within_any, from_any, ascending_filter, same_sets, text_is, text_same}

-- ---- which entries pass

pub matches_said : (m : MatchMode) (given own : List SelectorPair) → (matches_by m given own ≡ true) ↔ Matches m given own
matches_said mode.Exact given own = (set_is own given, set_same own given)
matches_said mode.Any given own = (
  λ h. let r = from_any (has given) own h in (r.0, r.1, has_member given r.0 r.2),
  λ v. within_any (has given) own v.0 v.1 (member_has given v.0 v.2),
)
matches_said mode.Superset given own = (subset_of given own, of_subset given own)
matches_said mode.Subset given own = (subset_of own given, of_subset own given)

given_said : (o : Option Bytes) (text : Bytes) → (is_given o text ≡ true) ↔ IfSome o (λ given. text ≡ given)
given_said None text = (λ h. tt, λ h. refl)
given_said (Some given) text = (text_is text given, text_same text given)

domain_said : (o : Option Bytes) (e : Entry) → (passes_domain o e ≡ true) ↔ IfSome o (Within e.domains)
domain_said None e = (λ h. tt, λ h. refl)
domain_said (Some domain) e = names_is domain e

selectors_said : (o : Option SelectorMatch) (e : Entry) → (passes_selectors o e ≡ true) ↔ IfSome o (λ m. Matches m.mode m.selectors e.selectors)
selectors_said None e = (λ h. tt, λ h. refl)
selectors_said (Some m) e = matches_said m.mode m.selectors e.selectors

pub passes_said : (f : Filter) (e : Entry) → (passes f e ≡ true) ↔ Passes f e
passes_said f e = (
  λ h.
      let s = and_parts _ _ h in
      let d = and_parts _ _ s.0 in
      let i = and_parts _ _ d.0 in
      record { parent = (given_said f.parent e.parent).0 i.0; identity = (given_said f.identity e.identity).0 i.1; domain = (domain_said f.domain e).0 d.1; selectors = (selectors_said f.selectors e).0 s.1 },
  λ v. and_from _ _ (and_from _ _ (and_from _ _ ((given_said f.parent e.parent).1 v.parent) ((given_said f.identity e.identity).1 v.identity)) ((domain_said f.domain e).1 v.domain)) ((selectors_said f.selectors e).1 v.selectors),
)

-- ---- which entries a page would list

after_said : (from : Option Bytes) (e : Entry) → (comes_after from e ≡ true) ↔ IfSome from (λ k. is_before k e.id ≡ true)
after_said None e = (λ h. tt, λ h. refl)
after_said (Some k) e = (λ h. h, λ h. h)

to_list_said : (p : PageQuery) (b : Book) (e : Entry) → Within (to_list p b) e ↔ IsToList p b e
to_list_said p b e = (
  λ w.
      let r = from_within_filter (comes_after p.from) (passing p.filter b) e w in
      let q = from_within_filter (passes p.filter) b.entries e r.0 in
      record { of_book = q.0; passes = (passes_said p.filter e).0 q.1; later = (after_said p.from e).0 r.1 },
  λ v. within_filter (comes_after p.from) (passing p.filter b) e (within_filter (passes p.filter) b.entries e v.of_book ((passes_said p.filter e).1 v.passes)) ((after_said p.from e).1 v.later),
)

to_list_ordered : (p : PageQuery) (b : Book) → AscendingBook b → Ascending entry_key (to_list p b)
to_list_ordered p b a = ascending_filter entry_key (comes_after p.from) (passing p.filter b) (ascending_filter entry_key (passes p.filter) b.entries a.entries)

-- ---- the last id

-- the list ends with the entry of this id
abbrev EndsWith : List Entry → Bytes → Type 0
EndsWith es k = (front : List Entry) × (e : Entry) × (es ≡ front ++ e ∷ []) × (e.id ≡ k)

last_is : (e : Entry) (es : List Entry) → (k : Bytes) × (last_id (e ∷ es) ≡ Some k) × EndsWith (e ∷ es) k
last_is e [] = (e.id, refl, ([], e, refl, refl))
last_is e (f ∷ es) =
    let r = last_is f es in
    let v = r.2 in
    (r.0, r.1, (e ∷ v.0, v.1, ap (λ l. e ∷ l) v.2, v.3))

pub last_of : (front : List Entry) (e : Entry) → last_id (front ++ e ∷ []) ≡ Some e.id
last_of [] e = refl
last_of (x ∷ []) e = refl
last_of (x ∷ y ∷ front) e = last_of (y ∷ front) e

ends_last : (es : List Entry) (k : Bytes) → EndsWith es k → last_id es ≡ Some k
ends_last es k v = ap last_id v.2 ∙ last_of v.0 v.1 ∙ ap Some v.3

-- ---- a page, and the entries after it

abbrev next_in : ℕ → List Entry → Option Bytes
next_in n es = if nat_lt n (length es) then last_id (take n es) else None

-- the page is full, and the next one begins after its last entry
record IsFull (n : ℕ) (es : List Entry) (next : Option Bytes) : Type 0 where
  more : n < length es
  id : Bytes
  next_is : next ≡ Some id
  ends : EndsWith (take n es) id

full : (n : ℕ) (es : List Entry) → 0 < n → n < length es → IsFull n es (last_id (take n es))
full zero es h l = absurd (omega arith)
full (suc n) [] h l = absurd (omega arith)
full (suc n) (e ∷ es) h l = let r = last_is e (take n es) in record { more = l; id = r.0; next_is = r.1; ends = r.2 }

in_two : (n : ℕ) (es : List Entry) → 0 < n → ((length es ≤ n) × (next_in n es ≡ None)) ⊎ IsFull n es (next_in n es)
in_two n es h =
    elim (nat_lt n (length es)) as (λ t. nat_lt n (length es) ≡ t → ((length es ≤ n) × (cond t (last_id (take n es)) None ≡ None)) ⊎ IsFull n es (cond t (last_id (take n es)) None)) [
      | true ↦ λ e. inr (full n es h (ltb-true n (length es) e))
      | false ↦ λ e. inl (ltb-false n (length es) e, refl)
    ] refl

none_left : (n : ℕ) (es : List Entry) → length es ≤ n → drop n es ≡ []
none_left zero [] l = refl
none_left (suc n) [] l = refl
none_left zero (e ∷ es) l = absurd (omega arith)
none_left (suc n) (e ∷ es) l = none_left n es (omega arith)

extends : (p : PageQuery) (es : List Entry) → (left : List Entry) → drop p.size es ≡ left → IsPageEnd p (take p.size es) left (next_in p.size es)
extends p es [] d =
    let l = length-drop p.size es in
    let z : length (drop p.size es) ≡ 0 = ap length d in
    let s = ap length (take-append-drop p.size es) in
    let t = length-append (take p.size es) (drop p.size es) in
    let n = le-ltb p.size (length es) (omega arith) in
    (omega arith, rw n refl)
extends p es (x ∷ left) d =
    let z : length (drop p.size es) ≡ suc (length left) = ap length d in
    let l = length-drop p.size es in
    let n = lt-ltb p.size (length es) (omega arith) in
    (length-take-le p.size es (omega arith), rw n refl)

pub page_said : (p : PageQuery) (b : Book) → AscendingBook b → IsPage p b (listed p b) (next_of p b)
page_said p b a = record {
  left = drop p.size (to_list p b);
  all = subst (IsListOf entry_key (IsToList p b)) (sym (take-append-drop p.size (to_list p b))) (record { members = to_list_said p b; order = to_list_ordered p b a });
  extends = extends p (to_list p b) (drop p.size (to_list p b)) refl;
}

pub page_effect : (own : Bytes) (p : PageQuery) (b : Book) → AscendingBook b → MatchResult (op_of own (Page p) b) (ListsPage p b) (λ refusal. ⊥)
page_effect own p b a = record { shown = listed p b; next = next_of p b; is_page = page_said p b a; reply = refl; writes = refl }

-- ---- the words determine the page

fronts : (es fs left rest : List Entry) → es ++ left ≡ fs ++ rest → length es ≡ length fs → es ≡ fs
fronts [] [] left rest e l = refl
fronts [] (f ∷ fs) left rest e l = absurd (omega arith)
fronts (x ∷ es) [] left rest e l = absurd (omega arith)
fronts (x ∷ es) (f ∷ fs) left rest e l =
    let head : x ≡ f = cc in
    let tail : es ++ left ≡ fs ++ rest = cc in
    let r = fronts es fs left rest tail (omega arith) in
    cc

settled : (p : PageQuery) (es fs : List Entry) (m n : Option Bytes) (left rest : List Entry) → es ++ left ≡ fs ++ rest → IsPageEnd p es left m → IsPageEnd p fs rest n → (es ≡ fs) × (m ≡ n)
settled p es fs m n [] [] e g k = (sym (append-nil es) ∙ e ∙ append-nil fs, g.1 ∙ sym k.1)
settled p es fs m n [] (y ∷ rest) e g k =
    let s = ap length e in
    let t = length-append es [] in
    let u = length-append fs (y ∷ rest) in
    let v = g.0 in let w = k.0 in
    absurd (omega arith)
settled p es fs m n (x ∷ left) [] e g k =
    let s = ap length e in
    let t = length-append es (x ∷ left) in
    let u = length-append fs [] in
    let v = g.0 in let w = k.0 in
    absurd (omega arith)
settled p es fs m n (x ∷ left) (y ∷ rest) e g k =
    let q : es ≡ fs = fronts es fs (x ∷ left) (y ∷ rest) e (g.0 ∙ sym k.0) in
    (q, g.1 ∙ ap last_id q ∙ sym k.1)

pub one_page : (p : PageQuery) (b : Book) (es fs : List Entry) (m n : Option Bytes) → IsPage p b es m → IsPage p b fs n → (es ≡ fs) × (m ≡ n)
one_page p b es fs m n l r =
    settled p es fs m n l.left r.left
    (same_sets entry_key (es ++ l.left) (fs ++ r.left) l.all.order r.all.order (λ x w. (r.all.members x).1 ((l.all.members x).0 w)) (λ x w. (l.all.members x).1 ((r.all.members x).0 w)))
    l.extends r.extends

-- ---- the entries after the last one of a page are those that the page leaves

filter_implied : {X : Type 0} (p q : X → Bool) (xs : List X) → ((x : X) → q x ≡ true → p x ≡ true) → filter q (filter p xs) ≡ filter q xs
filter_implied p q [] h = refl
filter_implied p q (x ∷ xs) h =
    let r = filter_implied p q xs h in
    elim (p x) as (λ t. p x ≡ t → filter q (cond t (x ∷ filter p xs) (filter p xs)) ≡ cond (q x) (x ∷ filter q xs) (filter q xs)) [
      | true ↦ λ e. rw r refl
      | false ↦ λ e. elim (q x) as (λ u. q x ≡ u → filter q (filter p xs) ≡ cond u (x ∷ filter q xs) (filter q xs)) [
        | true ↦ λ f. absurd (both_ways (p x) e (h x f))
        | false ↦ λ f. r
      ] refl
    ] refl

all_kept : {X : Type 0} (p : X → Bool) (xs : List X) → AllByRecursion (λ x. p x ≡ true) xs → filter p xs ≡ xs
all_kept p [] h = refl
all_kept p (x ∷ xs) h = let q = h.0 in rw q (ap (λ l. x ∷ l) (all_kept p xs h.1))

not_back : (x y : Bytes) → is_before x y ≡ true → is_before y x ≡ false
not_back x y h = ⊎_elim (λ t. absurd (before-irrefl x (before-trans x y x h t))) (λ f. f) (cases_Bool (is_before y x))

not_itself : (x : Bytes) → is_before x x ≡ false
not_itself x = ⊎_elim (λ t. absurd (before-irrefl x t)) (λ f. f) (cases_Bool (is_before x x))

behind : (front : List Entry) (e : Entry) (tail : List Entry) → Ascending entry_key (front ++ e ∷ tail) → filter (λ x. is_before e.id x.id) (front ++ e ∷ tail) ≡ tail
behind [] e tail a = let q = not_itself e.id in rw q (all_kept (λ x. is_before e.id x.id) tail a.0)
behind (x ∷ front) e tail a =
    let q : is_before e.id x.id ≡ false = not_back x.id e.id (All-within (λ y. is_before x.id y.id ≡ true) (front ++ e ∷ tail) e a.0 (within_right front (e ∷ tail) e (inl refl))) in
    rw q (behind front e tail a.1)

append-one : (front : List Entry) (e : Entry) (tail : List Entry) → (front ++ e ∷ []) ++ tail ≡ front ++ e ∷ tail
append-one [] e tail = refl
append-one (x ∷ front) e tail = ap (λ l. x ∷ l) (append-one front e tail)

later_than : (from : Option Bytes) (e x : Entry) → comes_after from e ≡ true → is_before e.id x.id ≡ true → comes_after from x ≡ true
later_than None e x h k = refl
later_than (Some j) e x h k = before-trans j e.id x.id h k

left_over : (from : Option Bytes) (rows : List Entry) (n : ℕ) (k : Bytes) → Ascending entry_key rows → EndsWith (take n (filter (comes_after from) rows)) k → filter (comes_after (Some k)) rows ≡ drop n (filter (comes_after from) rows)
left_over from rows n k a v =
    let es = filter (comes_after from) rows in
    let parts : es ≡ v.0 ++ v.1 ∷ drop n es = sym (take-append-drop n es) ∙ ap (λ l. l ++ drop n es) v.2 ∙ append-one v.0 v.1 (drop n es) in
    let here : Within es v.1 = subst (λ l. Within l v.1) (sym parts) (within_right v.0 (v.1 ∷ drop n es) v.1 (inl refl)) in
    let reached = (from_within_filter (comes_after from) rows v.1 here).1 in
    let only : filter (λ x. is_before v.1.id x.id) es ≡ filter (λ x. is_before v.1.id x.id) rows = filter_implied (comes_after from) (λ x. is_before v.1.id x.id) rows (λ x q. later_than from v.1 x reached q) in
    let ordered : Ascending entry_key (v.0 ++ v.1 ∷ drop n es) = subst (Ascending entry_key) parts (ascending_filter entry_key (comes_after from) rows a) in
    let rest : filter (λ x. is_before v.1.id x.id) es ≡ drop n es = ap (filter (λ x. is_before v.1.id x.id)) parts ∙ behind v.0 v.1 (drop n es) ordered in
    subst (λ j. filter (comes_after (Some j)) rows ≡ drop n es) v.3 (sym only ∙ rest)

-- ---- page after page

abbrev from_on : PageQuery → Book → Option Bytes → List Entry
from_on p b from = to_list (page_after p from) b

next_page : (p : PageQuery) (b : Book) (from : Option Bytes) (k : Bytes) → AscendingBook b → EndsWith (take p.size (from_on p b from)) k → take p.size (from_on p b from) ++ from_on p b (Some k) ≡ from_on p b from
next_page p b from k a v =
    ap (λ l. take p.size (from_on p b from) ++ l) (left_over from (passing p.filter b) p.size k (ascending_filter entry_key (passes p.filter) b.entries a.entries) v)
    ∙ take-append-drop p.size (from_on p b from)

whole : (n : ℕ) (es : List Entry) → length es ≤ n → take n es ≡ es
whole n es l = sym (append-nil (take n es)) ∙ ap (λ d. take n es ++ d) (sym (none_left n es l)) ∙ take-append-drop n es

all_from : (m : ℕ) (p : PageQuery) (b : Book) (from : Option Bytes) → AscendingBook b → 0 < p.size → length (from_on p b from) ≤ m → PageAfterPage p b from (from_on p b from)
all_from zero p b from a h l = ⊎_elim
    (λ v. subst (PageAfterPage p b from) (whole p.size (from_on p b from) v.0) (last_page from v.1))
    (λ f. let q = f.more in absurd (omega arith))
    (in_two p.size (from_on p b from) h)
all_from (suc m) p b from a h l = ⊎_elim
    (λ v. subst (PageAfterPage p b from) (whole p.size (from_on p b from) v.0) (last_page from v.1))
    (λ f.
    let q = next_page p b from f.id a f.ends in
    let s = ap length q in
    let t = length-append (take p.size (from_on p b from)) (from_on p b (Some f.id)) in
    let w = f.more in
    let u = length-take-le p.size (from_on p b from) (omega arith) in
    subst (PageAfterPage p b from) q (one_more from f.id (from_on p b (Some f.id)) f.next_is (all_from m p b (Some f.id) a h (omega arith))))
    (in_two p.size (from_on p b from) h)

from_start : {X : Type 0} (xs : List X) → filter (λ x. true) xs ≡ xs
from_start [] = refl
from_start (x ∷ xs) = ap (λ l. x ∷ l) (from_start xs)

pub pages_list_all : (p : PageQuery) (b : Book) → AscendingBook b → 0 < p.size → PageAfterPage p b None (passing p.filter b)
pages_list_all p b a h = subst (PageAfterPage p b None) (from_start (passing p.filter b)) (all_from (length (from_on p b None)) p b None a h (omega arith))

once : (p : PageQuery) (b : Book) (from : Option Bytes) (es : List Entry) → AscendingBook b → 0 < p.size → PageAfterPage p b from es → es ≡ from_on p b from
once p b _ _ a h (last_page from none) = ⊎_elim
    (λ v. whole p.size (from_on p b from) v.0)
    (λ f. let q : None ≡ Some f.id = sym none ∙ f.next_is in absurd (cc))
    (in_two p.size (from_on p b from) h)
once p b _ _ a h (one_more from k later next rest) = ⊎_elim
    (λ v. let q : Some k ≡ None = sym next ∙ v.1 in absurd (cc))
    (λ f.
    let q : Some k ≡ Some f.id = sym next ∙ f.next_is in
    let i : k ≡ f.id = cc in
    let r = once p b (Some k) later a h rest in
    ap (λ l. take p.size (from_on p b from) ++ l) r ∙ ap (λ j. take p.size (from_on p b from) ++ from_on p b (Some j)) i ∙ next_page p b from f.id a f.ends)
    (in_two p.size (from_on p b from) h)

pub pages_list_once : (p : PageQuery) (b : Book) (es : List Entry) → AscendingBook b → 0 < p.size → PageAfterPage p b None es → es ≡ passing p.filter b
pages_list_once p b es a h v = once p b None es a h v ∙ from_start (passing p.filter b)
