use Rattle.std.proofs.Common.{◌≡◌, ◌+◌, ◌≤◌, Some, length, map, refl, sym, ap, subst, ◌∙◌}
use Rattle.std.specs.Ordering.{nat_cmp}
use Rattle.std.specs.Cmp.Lexicographic.{slice_cmp}
use Rattle.std.specs.Map.{values_of}
use Rattle.version_shelf.specs.Shelf.{with_key, without_key, most_rows}
use Rattle.entry_book.specs.Order.{Ascending, Within, with_row}
use Rattle.entry_book.specs.Rows.{entry_key}
use Rattle.entry_book.proofs.InOrder.{ascending-with_row}
use Rattle.version_book.specs.Index.{IsIndex, group_keys, user_keys, expiry_keys}
use Rattle.version_book.specs.CommittedRows.{of_row, row_of}
use Rattle.version_book.specs.Stores.{IsKeyed}
use Rattle.version_book.proofs.KeyOrders.{exact_groups, exact_users, exact_expiries, groups_identify, users_identify, expiries_identify}
use Rattle.version_book.proofs.Mapped.{from_within_map}
use Rattle.version_book.proofs.Replaced.{same_groups, same_users, same_expiries}
use Rattle.version_book.proofs.Shelves.{keyed-after, room_for, values-after}
use Rattle.version_book.proofs.entries.Entries.replaced.Goals as goal

pub replace_keys-requires-clause-is_exact : goal.replace_keys-requires-clause-is_exact
replace_keys-requires-clause-is_exact c = exact_groups

pub replace_keys-requires-clause-there : goal.replace_keys-requires-clause-there
replace_keys-requires-clause-there c = λ k w.
    let rows = values_of c.self.inside.rows in
    let old = from_within_map row_of rows c.args.old.now (subst (λ rows. Within (map row_of rows) c.args.old.now) (sym c.self.view_is) c.requires.there) in
    (old.0, c.self.invariant.2.complete k old.0 old.1 (subst (λ keys. Within keys k) (c.in_ok-group_keys.ensures ∙ (sym (same_groups c.requires.same) ∙ sym (ap group_keys old.2))) w))

pub replace_keys-requires-2-clause-is_exact : goal.replace_keys-requires-2-clause-is_exact
replace_keys-requires-2-clause-is_exact c = exact_users

pub replace_keys-requires-2-clause-there : goal.replace_keys-requires-2-clause-there
replace_keys-requires-2-clause-there c = λ k w.
    let rows = values_of c.self.inside.rows in
    let old = from_within_map row_of rows c.args.old.now (subst (λ rows. Within (map row_of rows) c.args.old.now) (sym c.self.view_is) c.requires.there) in
    (old.0, c.self.invariant.3.complete k old.0 old.1 (subst (λ keys. Within keys k) (c.in_ok-user_keys.ensures ∙ (sym (same_users c.requires.same) ∙ sym (ap user_keys old.2))) w))

pub replace_keys-requires-3-clause-is_exact : goal.replace_keys-requires-3-clause-is_exact
replace_keys-requires-3-clause-is_exact c = exact_expiries

pub replace_keys-requires-3-clause-there : goal.replace_keys-requires-3-clause-there
replace_keys-requires-3-clause-there c = λ k w.
    let rows = values_of c.self.inside.rows in
    let old = from_within_map row_of rows c.args.old.now (subst (λ rows. Within (map row_of rows) c.args.old.now) (sym c.self.view_is) c.requires.there) in
    (old.0, c.self.invariant.4.complete k old.0 old.1 (subst (λ keys. Within keys k) (c.in_ok-expiry_keys.ensures ∙ (sym (same_expiries c.requires.same) ∙ sym (ap expiry_keys old.2))) w))

pub put_row-requires-clause-room : goal.put_row-requires-clause-room
put_row-requires-clause-room c =
    let room = subst (λ rows. length (with_row entry_key c.args.row.row.id (Some c.args.row.row) (map row_of rows)) ≤ most_rows) (sym c.self.view_is) c.requires.room in
    subst (λ id. length (without_key (slice_cmp nat_cmp) c.self.inside.rows id) + 1 ≤ most_rows) (sym c.id-id.ensures)
    (room_for entry_key c.args.row.row.id (Some c.args.row.row) c.self.inside.rows c.self.invariant.0 room)

pub invariant_of-result : goal.invariant_of-result
invariant_of-result c =
    let rows = values_of c.self.inside.rows in
    let row = c.args.row in
    let old = from_within_map row_of rows c.args.old.now (subst (λ rows. Within (map row_of rows) c.args.old.now) (sym c.self.view_is) c.requires.there) in
    let id : old.0.row.id ≡ row.row.id = ap entry_key old.2 ∙ c.requires.same.id in
    let shelf : c.in_ok-rows.rows ≡ with_key (slice_cmp nat_cmp) c.self.inside.rows row.row.id row = c.in_ok-rows.ensures ∙ ap (λ id. with_key (slice_cmp nat_cmp) c.self.inside.rows id row) c.id-id.ensures in
    let new : values_of c.in_ok-rows.rows ≡ with_row (of_row entry_key) row.row.id (Some row) rows = ap values_of shelf ∙ values-after entry_key row.row.id (Some row) c.self.inside.rows c.self.invariant.0 in (
      subst (IsKeyed entry_key) (sym shelf) (keyed-after entry_key row.row.id (Some row) c.self.inside.rows c.self.invariant.0 refl),
      subst (Ascending (of_row entry_key)) (sym new) (ascending-with_row (of_row entry_key) row.row.id (Some row) rows c.self.invariant.1 refl),
      subst (λ l. IsIndex group_keys l c.in_ok-groups.groups) (sym new) (c.in_ok-groups.ensures group_keys rows old.0 groups_identify c.self.invariant.1 c.self.invariant.2 old.1 id (ap group_keys old.2 ∙ same_groups c.requires.same) c.in_ok-group_keys.ensures),
      subst (λ l. IsIndex user_keys l c.in_ok-users.users) (sym new) (c.in_ok-users.ensures user_keys rows old.0 users_identify c.self.invariant.1 c.self.invariant.3 old.1 id (ap user_keys old.2 ∙ same_users c.requires.same) c.in_ok-user_keys.ensures),
      subst (λ l. IsIndex expiry_keys l c.in_ok-expiries.expiries) (sym new) (c.in_ok-expiries.ensures expiry_keys rows old.0 expiries_identify c.self.invariant.1 c.self.invariant.4 old.1 id (ap expiry_keys old.2 ∙ same_expiries c.requires.same) c.in_ok-expiry_keys.ensures),
    )

pub returns : goal.returns
returns c =
    let row = c.args.row in
    let shelf : c.in_ok-rows.rows ≡ with_key (slice_cmp nat_cmp) c.self.inside.rows row.row.id row = c.in_ok-rows.ensures ∙ ap (λ id. with_key (slice_cmp nat_cmp) c.self.inside.rows id row) c.id-id.ensures in
    ap values_of shelf ∙ (values-after entry_key row.row.id (Some row) c.self.inside.rows c.self.invariant.0 ∙ ap (with_row (of_row entry_key) row.row.id (Some row)) c.self.view_is)
