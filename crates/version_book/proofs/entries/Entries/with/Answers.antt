use Rattle.std.proofs.Common.{◌≡◌, ◌+◌, ◌≤◌, Some, length, map, refl, sym, ap, subst, ◌∙◌}
use Rattle.std.specs.Ordering.{nat_cmp}
use Rattle.std.specs.Cmp.Lexicographic.{slice_cmp}
use Rattle.std.specs.Map.{values_of}
use Rattle.version_shelf.specs.Shelf.{with_key, most_rows}
use Rattle.entry_book.specs.Order.{Ascending, with_row}
use Rattle.entry_book.specs.Rows.{entry_key}
use Rattle.entry_book.proofs.InOrder.{ascending-with_row}
use Rattle.version_book.specs.Index.{IsIndex, group_keys, user_keys, expiry_keys}
use Rattle.version_book.specs.CommittedRows.{of_row, row_of}
use Rattle.version_book.specs.Room.{count_of_names}
use Rattle.version_book.specs.Stores.{IsAbsent, IsKeyed}
use Rattle.version_book.proofs.KeyOrders.{exact_groups, exact_users, exact_expiries, groups_identify, users_identify, expiries_identify}
use Rattle.version_book.proofs.IndexRooms.{room_in_groups, room_in_users, room_in_expiries}
use Rattle.version_book.proofs.Shelves.{keyed-after, values-after}
use Rattle.version_book.proofs.entries.Entries.with.Goals as goal

pub with_keys-requires-clause-is_exact : goal.with_keys-requires-clause-is_exact
with_keys-requires-clause-is_exact c = exact_groups

pub with_keys-requires-clause-room : goal.with_keys-requires-clause-room
with_keys-requires-clause-room c = λ order. room_in_groups (values_of c.self.inside.rows) c.args.row.row c.self.inside.groups c.in_ok-group_keys.group_keys.items order c.self.invariant.2 c.in_ok-group_keys.ensures (subst (λ rows. length rows + 1 ≤ most_rows) (sym c.self.view_is) c.requires.room)

pub with_keys-requires-2-clause-is_exact : goal.with_keys-requires-2-clause-is_exact
with_keys-requires-2-clause-is_exact c = exact_users

pub with_keys-requires-2-clause-room : goal.with_keys-requires-2-clause-room
with_keys-requires-2-clause-room c = λ order. room_in_users (values_of c.self.inside.rows) c.args.row.row c.self.inside.users c.in_ok-user_keys.user_keys.items order c.self.invariant.3 c.in_ok-user_keys.ensures (subst (λ rows. count_of_names (map row_of rows) + length c.args.row.row.domains ≤ most_rows) (sym c.self.view_is) c.requires.names)

pub with_keys-requires-3-clause-is_exact : goal.with_keys-requires-3-clause-is_exact
with_keys-requires-3-clause-is_exact c = exact_expiries

pub with_keys-requires-3-clause-room : goal.with_keys-requires-3-clause-room
with_keys-requires-3-clause-room c = λ order. room_in_expiries (values_of c.self.inside.rows) c.args.row.row c.self.inside.expiries c.in_ok-expiry_keys.expiry_keys.items order c.self.invariant.4 c.in_ok-expiry_keys.ensures (subst (λ rows. length rows + 1 ≤ most_rows) (sym c.self.view_is) c.requires.room)

pub invariant_of-result : goal.invariant_of-result
invariant_of-result c =
    let old = values_of c.self.inside.rows in
    let row = c.args.row in
    let shelf : c.in_ok-rows.rows ≡ with_key (slice_cmp nat_cmp) c.self.inside.rows row.row.id row = c.in_ok-rows.ensures.rows ∙ ap (λ id. with_key (slice_cmp nat_cmp) c.self.inside.rows id row) c.id-id.ensures in
    let rows : values_of c.in_ok-rows.rows ≡ with_row (of_row entry_key) row.row.id (Some row) old = ap values_of shelf ∙ values-after entry_key row.row.id (Some row) c.self.inside.rows c.self.invariant.0 in
    let absent : IsAbsent entry_key row.row.id old = subst (IsAbsent entry_key row.row.id) (sym c.self.view_is) c.requires.absent in (
      subst (IsKeyed entry_key) (sym shelf) (keyed-after entry_key row.row.id (Some row) c.self.inside.rows c.self.invariant.0 refl),
      subst (Ascending (of_row entry_key)) (sym rows) (ascending-with_row (of_row entry_key) row.row.id (Some row) old c.self.invariant.1 refl),
      subst (λ l. IsIndex group_keys l c.in_ok-groups.groups) (sym rows) (c.in_ok-groups.ensures group_keys old groups_identify absent c.self.invariant.2 c.in_ok-group_keys.ensures),
      subst (λ l. IsIndex user_keys l c.in_ok-users.users) (sym rows) (c.in_ok-users.ensures user_keys old users_identify absent c.self.invariant.3 c.in_ok-user_keys.ensures),
      subst (λ l. IsIndex expiry_keys l c.in_ok-expiries.expiries) (sym rows) (c.in_ok-expiries.ensures expiry_keys old expiries_identify absent c.self.invariant.4 c.in_ok-expiry_keys.ensures),
    )

pub returns : goal.returns
returns c =
    let row = c.args.row in
    let shelf : c.in_ok-rows.rows ≡ with_key (slice_cmp nat_cmp) c.self.inside.rows row.row.id row = c.in_ok-rows.ensures.rows ∙ ap (λ id. with_key (slice_cmp nat_cmp) c.self.inside.rows id row) c.id-id.ensures in
    ap values_of shelf ∙ (values-after entry_key row.row.id (Some row) c.self.inside.rows c.self.invariant.0 ∙ ap (with_row (of_row entry_key) row.row.id (Some row)) c.self.view_is)
