-- An operation writes the rows that it names, in order, and no other.
use Rattle.std.proofs.Common.{◌≡◌, List, [], ◌∷◌, ◌++◌, Option, refl, sym, ap, ◌∙◌, IfOk}
use Rattle.std.specs.Prelude.{filter, map}
use Rattle.entry_book.specs.declared.op.Op.{Op}
use Rattle.entry_book.specs.Rows.{Bytes, Entry}
use Rattle.entry_book.specs.Book.{Book}
use Rattle.entry_book.specs.Writes.{RowWrite}
use Rattle.entry_book.specs.NamedRows.{row_written, entry_name, rows_named}
use Rattle.entry_book.specs.Ops.{OpEffect, bundle_removed, op_of}
use Rattle.entry_book.proofs.Changed.{rewritten}
use Rattle.entry_book.proofs.Shapes.{Shape, nothing, one_row, entries, entries_then, by_shape}

rewritten_rows : (f : Entry → Option Entry) (es : List Entry) → map row_written (map (rewritten f) es) ≡ map entry_name es
rewritten_rows f [] = refl
rewritten_rows f (e ∷ es) = ap (λ ns. entry_name e ∷ ns) (rewritten_rows f es)

rewritten_then : (f : Entry → Option Entry) (es : List Entry) (ws : List RowWrite) → map row_written (map (rewritten f) es ++ ws) ≡ map entry_name es ++ map row_written ws
rewritten_then f [] ws = refl
rewritten_then f (e ∷ es) ws = ap (λ ns. entry_name e ∷ ns) (rewritten_then f es ws)

shape_names : (op : Op) (b : Book) (d : OpEffect) → Shape op b d → map row_written d.writes ≡ rows_named op b
shape_names op b d (nothing h n) = ap (map row_written) h ∙ sym n
shape_names op b d (one_row w f h n) = ap (map row_written) h ∙ sym n
shape_names op b d (entries f k p h n) = ap (map row_written) h ∙ (rewritten_rows f (filter p b.entries) ∙ sym n)
shape_names op b d (entries_then f k p x w h n) = ap (map row_written) h ∙ (rewritten_then f (filter p b.entries) (bundle_removed x ∷ []) ∙ sym n)

pub writes_named : (own_domain : Bytes) (op : Op) (b : Book) → IfOk (op_of own_domain op b) (λ d. map row_written d.writes ≡ rows_named op b)
writes_named own_domain op b = by_shape own_domain op b (λ d. map row_written d.writes ≡ rows_named op b) (shape_names op b)
