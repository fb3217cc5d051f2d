-- The writes of one operation are of different rows, so each finds its row as the operation found it.
use Rattle.std.proofs.Common.{◌≡◌, ◌≢◌, Bool, List, [], ◌∷◌, ◌++◌, Option, Some, None, refl, sym, ap, ◌∙◌, inl, inr, ⊎_elim, IfSome, IfOk}
use Rattle.std.specs.Prelude.{filter, map, bytes_eq}
use Rattle.std.specs.List.{AllByRecursion}
use Rattle.std.proofs.lemmas.Bool.{cases_Bool}
use Rattle.entry_book.specs.declared.bundle.Bundle.{Bundle}
use Rattle.entry_book.specs.declared.op.Op.{Op}
use Rattle.entry_book.specs.Rows.{Bytes, Entry, entry_key, agent_key, bundle_key}
use Rattle.entry_book.specs.Tokens.{token_key}
use Rattle.entry_book.specs.Order.{Within, Ascending, with_row}
use Rattle.entry_book.specs.Book.{Book, AscendingBook}
use Rattle.entry_book.specs.Writes.{RowChange, RowWrite, wrote_entry, wrote_agent, wrote_bundle, wrote_token, FitsRows, FitsBook, FitAll, after_write}
use Rattle.entry_book.specs.Ops.{OpEffect, bundle_removed, op_of}
use Rattle.entry_book.specs.Laws.{SameRow, DifferentRows}
use Rattle.entry_book.proofs.Changed.{apart, rewritten}
use Rattle.entry_book.proofs.Filters.{kept, filter-with_row}
use Rattle.entry_book.proofs.Fits.{in_order, shape_fits}
use Rattle.entry_book.proofs.Keys.{without_none}
use Rattle.entry_book.proofs.Sets.{All-more, ascending_filter, from_within_filter, text_is}
use Rattle.entry_book.proofs.Shapes.{Shape, nothing, one_row, entries, entries_then, by_shape}

-- ---- the rows at other keys after a write

module _ {X : Type 0} (key : X → Bytes) where
  not_kept : (k j : Bytes) (new : Option X) → k ≢ j → IfSome new (λ x. key x ≡ k) → kept (λ x. bytes_eq (key x) j) new ≡ None
  not_kept k j None n h = refl
  not_kept k j (Some x) n h = ⊎_elim (λ t. absurd (n (sym h ∙ text_is (key x) j t))) (λ t. rw t refl) (cases_Bool (bytes_eq (key x) j))

  pub rows_elsewhere : (k j : Bytes) (new : Option X) (rows : List X) → k ≢ j → IfSome new (λ x. key x ≡ k) → Ascending key rows → filter (λ x. bytes_eq (key x) j) (with_row key k new rows) ≡ filter (λ x. bytes_eq (key x) j) rows
  rows_elsewhere k j new rows n h a =
      let p : X → Bool = λ x. bytes_eq (key x) j in
      filter-with_row key p k new rows
      ∙ (ap (λ o. with_row key k o (filter p rows)) (not_kept k j new n h)
      ∙ without_none key k (filter p rows) (ascending_filter key p rows a) (λ x w e. n (sym e ∙ text_is (key x) j (from_within_filter p rows x w).1)))

  fits_elsewhere : (c d : RowChange X) (rows : List X) → Ascending key rows → FitsRows key c rows → c.key ≢ d.key → FitsRows key d (with_row key c.key c.new rows) → FitsRows key d rows
  fits_elsewhere c d rows a f n g = record { found = sym (rows_elsewhere c.key d.key c.new rows n f.keyed a) ∙ g.found; keyed = g.keyed }

fits_before : (v w : RowWrite) (b : Book) → AscendingBook b → FitsBook v b → (SameRow v w → ⊥) → FitsBook w (after_write v b) → FitsBook w b
fits_before (wrote_entry c) (wrote_entry d) b a f n g = fits_elsewhere entry_key c d b.entries a.entries f n g
fits_before (wrote_agent c) (wrote_agent d) b a f n g = fits_elsewhere agent_key c d b.agents a.agents f n g
fits_before (wrote_bundle c) (wrote_bundle d) b a f n g = fits_elsewhere bundle_key c d b.bundles a.bundles f n g
fits_before (wrote_token c) (wrote_token d) b a f n g = fits_elsewhere token_key c d b.tokens a.tokens f n g
fits_before v w b a f n g = g

all_before : (v : RowWrite) (ws : List RowWrite) (b : Book) → AscendingBook b → FitsBook v b → AllByRecursion (λ w. SameRow v w → ⊥) ws → AllByRecursion (λ w. FitsBook w (after_write v b)) ws → AllByRecursion (λ w. FitsBook w b) ws
all_before v [] b a f n g = tt
all_before v (w ∷ ws) b a f n g = (fits_before v w b a f n.0 g.0, all_before v ws b a f n.1 g.1)

-- writes of different rows, each of which finds its row on the book that the earlier ones left, find them on the first book too
pub fit_as_found : (ws : List RowWrite) (b : Book) → AscendingBook b → DifferentRows ws → FitAll ws b → AllByRecursion (λ w. FitsBook w b) ws
fit_as_found [] b a n f = tt
fit_as_found (w ∷ ws) b a n f = (f.0, all_before w ws b a f.0 n.0 (fit_as_found ws (after_write w b) (in_order (w ∷ []) b a (f.0, tt)) n.1 f.1))

-- ---- lists of writes

all_map : (f : Entry → RowWrite) (P : RowWrite → Type 0) (es : List Entry) → ((e : Entry) → Within es e → P (f e)) → AllByRecursion P (map f es)
all_map f P [] h = tt
all_map f P (e ∷ es) h = (h e (inl refl), all_map f P es (λ d w. h d (inr w)))

rewritten_once : (f : Entry → Option Entry) (es : List Entry) → Ascending entry_key es → DifferentRows (map (rewritten f) es)
rewritten_once f [] a = tt
rewritten_once f (e ∷ es) a = (
  all_map (rewritten f) (λ w. SameRow (rewritten f e) w → ⊥) es (λ d w q. apart entry_key e es a d w (sym q)),
  rewritten_once f es a.1,
)

one_more : (ws : List RowWrite) (w : RowWrite) → DifferentRows ws → AllByRecursion (λ v. SameRow v w → ⊥) ws → DifferentRows (ws ++ w ∷ [])
one_more [] w h n = (tt, tt)
one_more (v ∷ vs) w h n = (All-more (λ u. SameRow v u → ⊥) vs w h.0 n.0, one_more vs w h.1 n.1)

then_bundle : (f : Entry → Option Entry) (es : List Entry) (d : Bundle) → Ascending entry_key es → DifferentRows (map (rewritten f) es ++ bundle_removed d ∷ [])
then_bundle f es d a = one_more (map (rewritten f) es) (bundle_removed d) (rewritten_once f es a) (all_map (rewritten f) (λ v. SameRow v (bundle_removed d) → ⊥) es (λ e w q. absurd q))

-- ---- each operation

shape_once : (op : Op) (b : Book) (d : OpEffect) → AscendingBook b → Shape op b d → DifferentRows d.writes
shape_once op b d a (nothing h n) = rw h tt
shape_once op b d a (one_row w f h n) = rw h (tt, tt)
shape_once op b d a (entries f k p h n) = rw h (rewritten_once f (filter p b.entries) (ascending_filter entry_key p b.entries a.entries))
shape_once op b d a (entries_then f k p x w h n) = rw h (then_bundle f (filter p b.entries) x (ascending_filter entry_key p b.entries a.entries))

both : (op : Op) (b : Book) (d : OpEffect) → AscendingBook b → Shape op b d → DifferentRows d.writes × AllByRecursion (λ w. FitsBook w b) d.writes
both op b d a s = let n = shape_once op b d a s in (n, fit_as_found d.writes b a n (shape_fits op b d a s))

pub writes_once : (own_domain : Bytes) (op : Op) (b : Book) → AscendingBook b → IfOk (op_of own_domain op b) (λ d. DifferentRows d.writes × AllByRecursion (λ w. FitsBook w b) d.writes)
writes_once own_domain op b a = by_shape own_domain op b (λ d. DifferentRows d.writes × AllByRecursion (λ w. FitsBook w b) d.writes) (λ d s. both op b d a s)
