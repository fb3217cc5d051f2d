-- Applying the remaining writes to the current rows gives the final rows.
use Rattle.std.proofs.Common.{◌≡◌, ℕ, ◌+◌, ◌<◌, List, ◌∷◌, length, map, get_or, drop, sym, ap, subst, ◌∙◌}
use Rattle.std.proofs.lemmas.List.{at_drop_more}
use Rattle.entry_book.specs.Writes.{FitsBook, FitAll}
use Rattle.version_book.specs.declared.changes.RowWrite.{RowWrite as Written}
use Rattle.version_book.specs.CommittedRows.{CommittedRows, book_of, rows_after, rows_after_write}
use Rattle.version_book.specs.Room.{RoomFor, RoomAll}
use Rattle.version_book.specs.Written.{placed, placed_write, write_of}
use Rattle.version_book.proofs.NamedRows.{book_after_write}

-- The remaining writes fit the current rows, there is room for them, and they lead to the final rows.
abbrev pub Lead : ℕ → List Written → CommittedRows → CommittedRows → Type 0
Lead n left rows end = (rows_after n (placed n (map write_of left)) rows ≡ end) × FitAll (placed n (map write_of left)) (book_of rows) × RoomAll (placed n (map write_of left)) (book_of rows)

step : (n : ℕ) (w : Written) (left : List Written) (rows end : CommittedRows) → Lead n (w ∷ left) rows end → Lead n left (rows_after_write n (placed_write n (write_of w)) rows) end
step n w left rows end l =
    let b = sym (book_after_write n (placed_write n (write_of w)) rows) in
    (l.0, subst (FitAll (placed n (map write_of left))) b l.1.1, subst (RoomAll (placed n (map write_of left))) b l.2.1)

module _ (n : ℕ) (writes : List Written) (i : ℕ) (w : Written) (rows end : CommittedRows) (below : i < length writes) (is : w ≡ get_or writes i w) (lead : Lead n (drop i writes) rows end) where
  here : Lead n (w ∷ drop (i + 1) writes) rows end
  here = subst (λ left. Lead n left rows end) (at_drop_more (λ l. l) writes i w below ∙ ap (λ x. x ∷ drop (i + 1) writes) (sym is)) lead

  pub fits_now : FitsBook (placed_write n (write_of w)) (book_of rows)
  fits_now = here.1.0

  pub room_now : RoomFor (placed_write n (write_of w)) (book_of rows)
  room_now = here.2.0

  pub leads_on : Lead n (drop (i + 1) writes) (rows_after_write n (placed_write n (write_of w)) rows) end
  leads_on = step n w (drop (i + 1) writes) rows end here
