-- The compact text of a value parses to that value, if the keys of its objects are in order.
use Rattle.std.proofs.Common.{◌≡◌, ℕ, zero, suc, ◌<◌, ◌≤◌, ◌^◌, Bool, true, false, Ordering, Less, Equal, Greater, List, [], ◌∷◌, ◌++◌, Option, Some, option_map, option_and_then, decimal, IsUtf8, refl, sym, ap, ◌∙◌, arith, append-nil}
use Rattle.std.specs.Prelude.{⊤}
use Rattle.std.specs.Ordering.{nat_cmp, match_ordering, ordering_reverse}
use Rattle.std.specs.Cmp.Lexicographic.{slice_cmp}
use Rattle.std.proofs.lemmas.Cmp.{nat_list_cmp_total}
use Rattle.std.proofs.lemmas.Str.{IsUtf8-append, IsUtf8-from_ascii, IsUtf8-nil}
use Rattle.std.proofs.lemmas.Fmt.{IsAscii-decimal}
use Rattle.json.specs.Token.{Token}
use Rattle.json.specs.Lex.{tokens}
use Rattle.json.specs.Json as json
use Rattle.json.specs.Tree as tree
use Rattle.json.proofs.Printed.Trees.{value-json_tokens, ArePrintable-json_tokens}
use Rattle.json.proofs.Printed.Decimals.{IsNumber-decimal}
use Rattle.json.proofs.Printed.Utf8.{are_ascii, IsUtf8-are_ascii, IsUtf8-quoted, IsUtf8-boolean}
use Rattle.serde_json.specs.Data.{unsigned, negative, float, Data, null, boolean, number, string, array, object, Items, no_items, item, Members, no_members, member, put}
use Rattle.serde_json.specs.Read.{of_json, of_items, of_members, read, max_depth}
use Rattle.serde_json.specs.Written.{outline, items_outline, members_outline, comma_if, compact_text, items_text, members_text}
use Rattle.serde_json.proofs.Numbers.{number_of-decimal}
use Rattle.serde_json.proofs.Texts.{print-outline}
use Rattle.reg_lines.specs.Spelled.{IsTyped, ItemsAreTyped, MembersAreTyped}
use Rattle.reg_lines.proofs.LineTokens.{tokens-line}

-- ---- keys in order

-- the key is before each of the members
abbrev IsBelow : List ℕ → Members → Type 0
IsBelow k no_members = ⊤
IsBelow k (member l e ms) = (slice_cmp nat_cmp k l ≡ Less) × IsBelow k ms

-- the value nests at most n deep, and each object has each key once, in order, in UTF-8; its numbers may be any
abbrev mutual
  pub IsCanonical : ℕ → Data → Type 0
  IsCanonical n null = ⊤
  IsCanonical n (boolean b) = ⊤
  IsCanonical n (number x) = ⊤
  IsCanonical n (string s) = ⊤
  IsCanonical zero (array ds) = ⊥
  IsCanonical (suc n) (array ds) = ItemsAreCanonical n ds
  IsCanonical zero (object ms) = ⊥
  IsCanonical (suc n) (object ms) = MembersAreCanonical n ms

  pub ItemsAreCanonical : ℕ → Items → Type 0
  ItemsAreCanonical n no_items = ⊤
  ItemsAreCanonical n (item d ds) = IsCanonical n d × ItemsAreCanonical n ds

  pub MembersAreCanonical : ℕ → Members → Type 0
  MembersAreCanonical n no_members = ⊤
  MembersAreCanonical n (member k d ms) = IsUtf8 k × IsBelow k ms × IsCanonical n d × MembersAreCanonical n ms

-- ---- `put` keeps the order

IsBelow-later : (j k : List ℕ) (ms : Members) → slice_cmp nat_cmp j k ≡ Less → IsBelow k ms → IsBelow j ms
IsBelow-later j k no_members l b = tt
IsBelow-later j k (member m e ms) l b = (nat_list_cmp_total.trans j k m l b.0, IsBelow-later j k ms l b.1)

IsBelow-match : (o : Ordering) (j : List ℕ) (a b c : Members) → IsBelow j a → IsBelow j b → IsBelow j c → IsBelow j (match_ordering o a b c)
IsBelow-match Less j a b c x y z = x
IsBelow-match Equal j a b c x y z = y
IsBelow-match Greater j a b c x y z = z

IsBelow-put : (j k : List ℕ) (d : Data) (ms : Members) → slice_cmp nat_cmp j k ≡ Less → IsBelow j ms → IsBelow j (put k d ms)
IsBelow-put j k d no_members l b = (l, tt)
IsBelow-put j k d (member m e ms) l b = IsBelow-match _ j (member k d (member m e ms)) (member m d ms) (member m e (put k d ms)) (l, b) (b.0, b.1) (b.0, IsBelow-put j k d ms l b.1)

put_canonical_at : (o : Ordering) (n : ℕ) (k l : List ℕ) (d e : Data) (ms : Members) → slice_cmp nat_cmp k l ≡ o → IsUtf8 k → IsCanonical n d → MembersAreCanonical n (member l e ms) → MembersAreCanonical n (put k d ms)
    → MembersAreCanonical n (match_ordering o (member k d (member l e ms)) (member l d ms) (member l e (put k d ms)))
put_canonical_at Less n k l d e ms is u a h later = (u, (is, IsBelow-later k l ms is h.1), a, h)
put_canonical_at Equal n k l d e ms is u a h later = (h.0, h.1, a, h.3)
put_canonical_at Greater n k l d e ms is u a h later =
    let back : slice_cmp nat_cmp l k ≡ Less = nat_list_cmp_total.antisymm l k ∙ ap ordering_reverse is in
    (h.0, IsBelow-put l k d ms back h.1, h.2, later)

pub put-canonical : (n : ℕ) (k : List ℕ) (d : Data) (ms : Members) → IsUtf8 k → IsCanonical n d → MembersAreCanonical n ms → MembersAreCanonical n (put k d ms)
put-canonical n k d no_members u a h = (u, tt, a, tt)
put-canonical n k d (member l e ms) u a h = put_canonical_at _ n k l d e ms refl u a h (put-canonical n k d ms u a h.3)

-- ---- the parser builds that value

abbrev joined : Members → Members → Members
joined no_members ms = ms
joined (member k d found) ms = member k d (joined found ms)

joined-nil : (found : Members) → joined found no_members ≡ found
joined-nil no_members = refl
joined-nil (member k d found) = ap (member k d) (joined-nil found)

joined-more : (found : Members) (k : List ℕ) (d : Data) (ms : Members) → joined (joined found (member k d no_members)) ms ≡ joined found (member k d ms)
joined-more no_members k d ms = refl
joined-more (member l e found) k d ms = ap (member l e) (joined-more found k d ms)

-- each key found so far is before k
abbrev IsAbove : List ℕ → Members → Type 0
IsAbove k no_members = ⊤
IsAbove k (member l e found) = (slice_cmp nat_cmp l k ≡ Less) × IsAbove k found

abbrev AreAbove : Members → Members → Type 0
AreAbove found no_members = ⊤
AreAbove found (member k d ms) = IsAbove k found × AreAbove found ms

put-last : (k : List ℕ) (d : Data) (found : Members) → IsAbove k found → put k d found ≡ joined found (member k d no_members)
put-last k d no_members h = refl
put-last k d (member l e found) h =
    let above : slice_cmp nat_cmp k l ≡ Greater = nat_list_cmp_total.antisymm k l ∙ ap ordering_reverse h.0 in
    rw above (ap (member l e) (put-last k d found h.1))

IsAbove-more : (k l : List ℕ) (d : Data) (found : Members) → IsAbove l found → slice_cmp nat_cmp k l ≡ Less → IsAbove l (joined found (member k d no_members))
IsAbove-more k l d no_members h b = (b, tt)
IsAbove-more k l d (member m e found) h b = (h.0, IsAbove-more k l d found h.1 b)

AreAbove-more : (k : List ℕ) (d : Data) (found ms : Members) → AreAbove found ms → IsBelow k ms → AreAbove (joined found (member k d no_members)) ms
AreAbove-more k d found no_members h b = tt
AreAbove-more k d found (member l e ms) h b = (IsAbove-more k l d found h.0 b.0, AreAbove-more k d found ms h.1 b.1)

AreAbove-none : (ms : Members) → AreAbove no_members ms
AreAbove-none no_members = tt
AreAbove-none (member k d ms) = (tt, AreAbove-none ms)

mutual
  of_json-outline : (n : ℕ) (d : Data) → IsCanonical n d → IsTyped d → of_json (outline d) ≡ Some d
  of_json-outline n null h w = refl
  of_json-outline n (boolean b) h w = refl
  of_json-outline n (number (unsigned x)) h w = ap (option_map number) (number_of-decimal x w)
  of_json-outline n (number (negative z)) h w = absurd w
  of_json-outline n (number (float x)) h w = absurd w
  of_json-outline n (string s) h w = refl
  of_json-outline zero (array ds) h w = absurd h
  of_json-outline (suc n) (array ds) h w = ap (option_map array) (of_items-outline n ds h w)
  of_json-outline zero (object ms) h w = absurd h
  of_json-outline (suc n) (object ms) h w = ap (option_map object) (of_members-outline n ms no_members h w (AreAbove-none ms))

  of_items-outline : (n : ℕ) (ds : Items) → ItemsAreCanonical n ds → ItemsAreTyped ds → of_items (items_outline ds) ≡ Some ds
  of_items-outline n no_items h w = refl
  of_items-outline n (item d ds) h w = rw (of_json-outline n d h.0 w.0) (rw (of_items-outline n ds h.1 w.1) refl)

  of_members-outline : (n : ℕ) (ms found : Members) → MembersAreCanonical n ms → MembersAreTyped ms → AreAbove found ms → of_members (members_outline ms) found ≡ Some (joined found ms)
  of_members-outline n no_members found h w a = ap Some (sym (joined-nil found))
  of_members-outline n (member k d ms) found h w a =
      ap (option_and_then (λ e. of_members (members_outline ms) (put k e found))) (of_json-outline n d h.2 w.0)
      ∙ ap (of_members (members_outline ms)) (put-last k d found a.0)
      ∙ of_members-outline n ms (joined found (member k d no_members)) h.3 w.1 (AreAbove-more k d found ms a.1 h.1)
      ∙ ap Some (joined-more found k d ms)

mutual
  HasNumbers-outline : (d : Data) → IsTyped d → tree.HasNumbers (outline d)
  HasNumbers-outline null w = tt
  HasNumbers-outline (boolean b) w = tt
  HasNumbers-outline (number (unsigned x)) w = IsNumber-decimal x w
  HasNumbers-outline (number (negative z)) w = absurd w
  HasNumbers-outline (number (float x)) w = absurd w
  HasNumbers-outline (string s) w = tt
  HasNumbers-outline (array ds) w = ItemsHaveNumbers-outline ds w
  HasNumbers-outline (object ms) w = MembersHaveNumbers-outline ms w

  ItemsHaveNumbers-outline : (ds : Items) → ItemsAreTyped ds → tree.ItemsHaveNumbers (items_outline ds)
  ItemsHaveNumbers-outline no_items w = tt
  ItemsHaveNumbers-outline (item d ds) w = (HasNumbers-outline d w.0, ItemsHaveNumbers-outline ds w.1)

  MembersHaveNumbers-outline : (ms : Members) → MembersAreTyped ms → tree.MembersHaveNumbers (members_outline ms)
  MembersHaveNumbers-outline no_members w = tt
  MembersHaveNumbers-outline (member k d ms) w = (HasNumbers-outline d w.0, MembersHaveNumbers-outline ms w.1)

mutual
  depth-outline : (n : ℕ) (d : Data) → IsCanonical n d → tree.depth (outline d) ≤ n
  depth-outline n null h = omega arith
  depth-outline n (boolean b) h = omega arith
  depth-outline n (number x) h = omega arith
  depth-outline n (string s) h = omega arith
  depth-outline zero (array ds) h = absurd h
  depth-outline (suc n) (array ds) h = omega (arith, items_depth-outline n ds h)
  depth-outline zero (object ms) h = absurd h
  depth-outline (suc n) (object ms) h = omega (arith, members_depth-outline n ms h)

  items_depth-outline : (n : ℕ) (ds : Items) → ItemsAreCanonical n ds → tree.items_depth (items_outline ds) ≤ n
  items_depth-outline n no_items h = omega arith
  items_depth-outline n (item d ds) h = omega (arith, depth-outline n d h.0, items_depth-outline n ds h.1)

  members_depth-outline : (n : ℕ) (ms : Members) → MembersAreCanonical n ms → tree.members_depth (members_outline ms) ≤ n
  members_depth-outline n no_members h = omega arith
  members_depth-outline n (member k d ms) h = omega (arith, depth-outline n d h.2, members_depth-outline n ms h.3)

abbrev whole : Option (json.Json × List Token) → Option Data
whole o = option_and_then of_json (option_and_then (λ p. json.if_last p.0 p.1) o)

-- the text of a value, with the LF that ends its line, parses to the value
pub read-line : (n : ℕ) (d : Data) → n ≤ max_depth → IsCanonical n d → IsTyped d → read (compact_text d ++ 10 ∷ []) ≡ Some d
read-line n d shallow h w =
    let ts : List Token = tree.json_tokens (outline d) in
    let same : tokens (compact_text d ++ 10 ∷ []) ≡ ts = ap (λ s. tokens (s ++ 10 ∷ [])) (sym (print-outline d)) ∙ tokens-line ts (ArePrintable-json_tokens (outline d) (HasNumbers-outline d w)) in
    ap whole (ap (json.value max_depth) (same ∙ sym (append-nil ts)) ∙ value-json_tokens (outline d) max_depth [] (omega (arith, depth-outline n d h)))
    ∙ of_json-outline n d h w

-- ---- the text is UTF-8

comma-utf8 : (later : Bool) → IsUtf8 (comma_if later)
comma-utf8 true = IsUtf8-are_ascii (44 ∷ []) refl
comma-utf8 false = IsUtf8-nil

decimal-utf8 : (n : ℕ) → n < 2 ^ 64 → IsUtf8 (decimal n)
decimal-utf8 n h = IsUtf8-from_ascii (decimal n) (IsAscii-decimal n h)

ascii-then : (x : ℕ) (xs : List ℕ) → are_ascii (x ∷ []) ≡ true → IsUtf8 xs → IsUtf8 (x ∷ xs)
ascii-then x xs e u = IsUtf8-append (x ∷ []) xs (IsUtf8-are_ascii (x ∷ []) e) u

mutual
  compact-utf8 : (n : ℕ) (d : Data) → IsCanonical n d → IsTyped d → IsUtf8 (compact_text d)
  compact-utf8 n null h w = IsUtf8-are_ascii _ refl
  compact-utf8 n (boolean b) h w = IsUtf8-boolean b
  compact-utf8 n (number (unsigned x)) h w = decimal-utf8 x w
  compact-utf8 n (number (negative z)) h w = absurd w
  compact-utf8 n (number (float x)) h w = absurd w
  compact-utf8 n (string s) h w = IsUtf8-quoted s w
  compact-utf8 zero (array ds) h w = absurd h
  compact-utf8 (suc n) (array ds) h w = ascii-then 91 _ refl (items-utf8 n false ds h w)
  compact-utf8 zero (object ms) h w = absurd h
  compact-utf8 (suc n) (object ms) h w = ascii-then 123 _ refl (members-utf8 n false ms h w)

  items-utf8 : (n : ℕ) (later : Bool) (ds : Items) → ItemsAreCanonical n ds → ItemsAreTyped ds → IsUtf8 (items_text later ds)
  items-utf8 n later no_items h w = IsUtf8-are_ascii _ refl
  items-utf8 n later (item d ds) h w = IsUtf8-append _ _ (comma-utf8 later) (IsUtf8-append _ _ (compact-utf8 n d h.0 w.0) (items-utf8 n true ds h.1 w.1))

  members-utf8 : (n : ℕ) (later : Bool) (ms : Members) → MembersAreCanonical n ms → MembersAreTyped ms → IsUtf8 (members_text later ms)
  members-utf8 n later no_members h w = IsUtf8-are_ascii _ refl
  members-utf8 n later (member k d ms) h w =
      IsUtf8-append _ _ (comma-utf8 later)
      (IsUtf8-append _ _ (IsUtf8-quoted k h.0) (ascii-then 58 _ refl (IsUtf8-append _ _ (compact-utf8 n d h.2 w.0) (members-utf8 n true ms h.3 w.1))))

pub line-utf8 : (n : ℕ) (d : Data) → IsCanonical n d → IsTyped d → IsUtf8 (compact_text d ++ 10 ∷ [])
line-utf8 n d h w = IsUtf8-append _ _ (compact-utf8 n d h w) (IsUtf8-are_ascii _ refl)
