-- Which entries does a page list that starts at a key of the shelf?
use Rattle.std.proofs.Common.{◌≡◌, Bool, true, false, cond, ◌&&◌, List, [], ◌∷◌, map, Option, Some, Result, Ok, Err, IfOk, refl, sym, ap, ◌∙◌}
use Rattle.std.specs.Prelude.{filter}
use Rattle.std.specs.declared.cmp.Ordering.{Ordering}
use Rattle.std.specs.declared.cmp.Ordering.TheVariants.{Less, Equal, Greater}
use Rattle.std.specs.Ordering.{is_ge, is_gt, nat_cmp}
use Rattle.std.specs.Cmp.Lexicographic.{slice_cmp}
use Rattle.std.specs.Map.{values_of}
use Rattle.version_shelf.specs.Shelf.{rows_from}
use Rattle.entry_book.specs.declared.page.Filter.{Filter}
use Rattle.entry_book.specs.Order.{is_before}
use Rattle.entry_book.specs.Pages.{comes_after, passes}
use Rattle.entry_book.specs.Rows.{Bytes, Entry, entry_key}
use Rattle.version_book.specs.declared.committed_row.CommittedRow.{CommittedRow}
use Rattle.version_book.specs.CommittedRows.{row_of}
use Rattle.version_book.specs.Stores.{IsKeyed}
use Rattle.version_book.proofs.Shelves.{gt_is_before}

-- the page would list the entry if its size were unlimited
abbrev pub lists : Filter → Option Bytes → Entry → Bool
lists f from e = passes f e && comes_after from e

not_above : (o : Ordering) → is_ge o ≡ false → is_gt o ≡ false
not_above Less e = refl
not_above Equal e = cc
not_above Greater e = cc

neither : (a b : Bool) → b ≡ false → (a && b) ≡ false
neither true b e = e
neither false b e = refl

left_out : (f : Filter) (k : Bytes) (r : Bytes × CommittedRow Entry) → r.0 ≡ r.1.row.id → is_ge (slice_cmp nat_cmp r.0 k) ≡ false → lists f (Some k) r.1.row ≡ false
left_out f k r own below = neither (passes f r.1.row) (is_before k r.1.row.id) (ap (is_before k) (sym own) ∙ (sym (gt_is_before r.0 k) ∙ not_above (slice_cmp nat_cmp r.0 k) below))

-- it would list none of the rows before the key
pub listed_from : (f : Filter) (k : Bytes) (s : List (Bytes × CommittedRow Entry)) → IsKeyed entry_key s → filter (lists f (Some k)) (map row_of (values_of (rows_from (slice_cmp nat_cmp) s k))) ≡ filter (lists f (Some k)) (map row_of (values_of s))
listed_from f k [] h = refl
listed_from f k (r ∷ rs) h =
    let rest = filter (lists f (Some k)) (map row_of (values_of rs)) in
    let from = rows_from (slice_cmp nat_cmp) rs k in
    elim (is_ge (slice_cmp nat_cmp r.0 k)) as (λ t. is_ge (slice_cmp nat_cmp r.0 k) ≡ t → filter (lists f (Some k)) (map row_of (values_of (cond t (r ∷ from) from))) ≡ cond (lists f (Some k) r.1.row) (r.1.row ∷ rest) rest) [
      | true ↦ λ q. ap (λ l. cond (lists f (Some k) r.1.row) (r.1.row ∷ l) l) (listed_from f k rs h.1)
      | false ↦ λ q. listed_from f k rs h.1 ∙ sym (ap (λ b. cond b (r.1.row ∷ rest) rest) (left_out f k r h.0 q))
    ] refl

-- combines two facts about a value, if there is one
pub if_both : {X E : Type 0} (r : Result X E) (P Q R : X → Type 0) → ((x : X) → P x → Q x → R x) → IfOk r P → IfOk r Q → IfOk r R
if_both (Ok x) P Q R f p q = f x p q
if_both (Err e) P Q R f p q = tt
