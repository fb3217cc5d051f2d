-- A row in place of another that has the same keys.
use Rattle.std.proofs.Common.{◌≡◌, ◌+◌, ◌≤◌, Bool, true, false, nat_lt, List, [], ◌∷◌, ◌++◌, length, map, refl, sym, ap, ◌∙◌, ⊎_elim, append-nil, length-append, arith}
use Rattle.std.specs.Prelude.{◌&&◌, bytes_eq, if◌then◌else◌}
use Rattle.std.specs.Cmp.Lexicographic.{pointwise}
use Rattle.std.specs.declared.cmp.Ordering.{Ordering}
use Rattle.std.specs.declared.cmp.Ordering.TheVariants.{Equal}
use Rattle.version_shelf.specs.Shelf.{most_rows, rows_below, rows_above, without_key}
use Rattle.version_shelf.proofs.Above.{by_order}
use Rattle.entry_book.specs.Order.{Within}
use Rattle.entry_book.specs.Rows.{Bytes, Entry}
use Rattle.entry_book.proofs.Sets.{text_is}
use Rattle.version_book.specs.declared.key.KeyPart.TheVariants.{At}
use Rattle.version_book.specs.Index.{HaveSameKeys, group_keys, user_keys, expiry_keys}

-- equal sets of trust domains
both : (a b : Bool) → (a && b) ≡ true → (a ≡ true) × (b ≡ true)
both true true h = (refl, refl)
both true false h = cc
both false b h = cc

pub domains_are : (xs ys : List Bytes) → pointwise bytes_eq xs ys ≡ true → xs ≡ ys
domains_are [] [] h = refl
domains_are [] (y ∷ ys) h = cc
domains_are (x ∷ xs) [] h = cc
domains_are (x ∷ xs) (y ∷ ys) h = let k = both (bytes_eq x y) (pointwise bytes_eq xs ys) h in ap (λ z. z ∷ xs) (text_is x y k.0) ∙ ap (λ zs. y ∷ zs) (domains_are xs ys k.1)

-- the keys in the indexes of entries that have the same keys
module _ {e f : Entry} (same : HaveSameKeys e f) where
  pub same_groups : group_keys e ≡ group_keys f
  same_groups =
      let id = same.id in
      let parent = same.parent in
      let identity = same.identity in
      λ i. (At (parent i), At (identity i), At (id i)) ∷ []

  pub same_users : user_keys e ≡ user_keys f
  same_users =
      let id = same.id in
      let domains = same.domains in
      λ i. map (λ (d : Bytes). (d, At (id i))) (domains i)

  pub same_expiries : expiry_keys e ≡ expiry_keys f
  same_expiries =
      let id = same.id in
      let expiry = same.expiry in
      λ i. if nat_lt 0 (expiry i) then (expiry i, At (id i)) ∷ [] else []

-- what was yielded is all if nothing is left
pub nothing_left : {X : Type 0} (done rest all : List X) → done ++ rest ≡ all → length rest ≡ 0 → done ≡ all
nothing_left done [] all e none = sym (append-nil done) ∙ e
nothing_left done (x ∷ rest) all e none = absurd (omega arith)

module _ {K V : Type 0} (cmp : K → K → Ordering) (itself : (k : K) → cmp k k ≡ Equal) (key : K) where
  -- a row is below the key, or above it, or neither
  no_more : (rows : List (K × V)) → length (rows_below cmp rows key) + length (rows_above cmp rows key) ≤ length rows
  no_more [] = omega arith
  no_more (r ∷ rs) = by_order (cmp r.0 key)
      (λ less. rw less (omega (arith, no_more rs)))
      (λ same. rw same (omega (arith, no_more rs)))
      (λ greater. rw greater (omega (arith, no_more rs)))

  fewer : (rows : List (K × V)) (v : V) → Within rows (key, v) → length (rows_below cmp rows key) + length (rows_above cmp rows key) + 1 ≤ length rows
  fewer [] v w = absurd w
  fewer (r ∷ rs) v w = ⊎_elim
      (λ s. let same : cmp r.0 key ≡ Equal = ap (λ x. cmp x.0 key) s ∙ itself key in rw same (omega (arith, no_more rs)))
      (λ u. by_order (cmp r.0 key)
      (λ less. rw less (omega (arith, fewer rs v u)))
      (λ same. rw same (omega (arith, fewer rs v u)))
      (λ greater. rw greater (omega (arith, fewer rs v u))))
      w

  -- if a row has the key, there is room for another row with the key once it is removed
  pub room_there : (rows : List (K × V)) (v : V) → Within rows (key, v) → length rows ≤ most_rows → length (without_key cmp rows key) + 1 ≤ most_rows
  room_there rows v w most = omega (arith, fewer rows v w, length-append (rows_below cmp rows key) (rows_above cmp rows key), most)
