-- The writes of an operation find the rows that they name.
use Rattle.std.proofs.Common.{Bool, List, [], ◌∷◌, IfOk}
use Rattle.std.specs.Prelude.{filter}
use Rattle.entry_book.specs.declared.op.Op.{Op}
use Rattle.entry_book.specs.Rows.{Bytes, Entry, entry_key, agent_key, bundle_key}
use Rattle.entry_book.specs.Tokens.{token_key}
use Rattle.entry_book.specs.Order.{Within}
use Rattle.entry_book.specs.Book.{Book, AscendingBook}
use Rattle.entry_book.specs.Writes.{RowWrite, wrote_entry, wrote_agent, wrote_bundle, wrote_token, FitsBook, FitAll, after, after_write}
use Rattle.entry_book.specs.Ops.{OpEffect, op_of}
use Rattle.entry_book.proofs.Changed.{rewritten_fits, rewritten_then_fits}
use Rattle.entry_book.proofs.InOrder.{ascending-with_row}
use Rattle.entry_book.proofs.Sets.{ascending_filter, from_within_filter}
use Rattle.entry_book.proofs.Shapes.{Shape, nothing, one_row, entries, entries_then, by_shape}

-- ---- writes that fit keep the rows in order

pub write_in_order : (w : RowWrite) (b : Book) → AscendingBook b → FitsBook w b → AscendingBook (after_write w b)
write_in_order (wrote_entry c) b a f = record { entries = ascending-with_row entry_key c.key c.new b.entries a.entries f.keyed; agents = a.agents; bundles = a.bundles; tokens = a.tokens }
write_in_order (wrote_agent c) b a f = record { entries = a.entries; agents = ascending-with_row agent_key c.key c.new b.agents a.agents f.keyed; bundles = a.bundles; tokens = a.tokens }
write_in_order (wrote_bundle c) b a f = record { entries = a.entries; agents = a.agents; bundles = ascending-with_row bundle_key c.key c.new b.bundles a.bundles f.keyed; tokens = a.tokens }
write_in_order (wrote_token c) b a f = record { entries = a.entries; agents = a.agents; bundles = a.bundles; tokens = ascending-with_row token_key c.key c.new b.tokens a.tokens f.keyed }

pub in_order : (ws : List RowWrite) (b : Book) → AscendingBook b → FitAll ws b → AscendingBook (after ws b)
in_order [] b a f = a
in_order (w ∷ ws) b a f = in_order ws (after_write w b) (write_in_order w b a f.0) f.1

-- ---- each operation

passing : (p : Entry → Bool) (b : Book) (e : Entry) → Within (filter p b.entries) e → Within b.entries e
passing p b e w = (from_within_filter p b.entries e w).0

pub shape_fits : (op : Op) (b : Book) (d : OpEffect) → AscendingBook b → Shape op b d → FitAll d.writes b
shape_fits op b d a (nothing h n) = rw h tt
shape_fits op b d a (one_row w f h n) = rw h (f a, tt)
shape_fits op b d a (entries f k p h n) = rw h (rewritten_fits f k (filter p b.entries) b a.entries (ascending_filter entry_key p b.entries a.entries) (passing p b))
shape_fits op b d a (entries_then f k p x w h n) = rw h (rewritten_then_fits f k (filter p b.entries) x b a (ascending_filter entry_key p b.entries a.entries) (passing p b) w)

pub op_fits : (own_domain : Bytes) (op : Op) (b : Book) → AscendingBook b → IfOk (op_of own_domain op b) (λ d. FitAll d.writes b)
op_fits own_domain op b a = by_shape own_domain op b (λ d. FitAll d.writes b) (λ d s. shape_fits op b d a s)
