use Rattle.std.proofs.Common.{◌≡◌, None, map, sym, ap, subst, ◌∙◌}
use Rattle.std.specs.Ordering.{nat_cmp}
use Rattle.std.specs.Cmp.Lexicographic.{slice_cmp}
use Rattle.std.specs.Map.{values_of}
use Rattle.version_shelf.specs.Shelf.{without_key}
use Rattle.entry_book.specs.Order.{Ascending, Within, with_row}
use Rattle.entry_book.specs.Rows.{entry_key}
use Rattle.entry_book.proofs.InOrder.{ascending-with_row}
use Rattle.version_book.specs.Index.{IsIndex, group_keys, user_keys, expiry_keys}
use Rattle.version_book.specs.CommittedRows.{of_row, row_of}
use Rattle.version_book.specs.Stores.{IsKeyed}
use Rattle.version_book.proofs.KeyOrders.{exact_groups, exact_users, exact_expiries, groups_identify, users_identify, expiries_identify}
use Rattle.version_book.proofs.Mapped.{from_within_map}
use Rattle.version_book.proofs.Shelves.{keyed-after, values-after}
use Rattle.version_book.proofs.entries.Entries.without.Goals as goal

pub without_keys-requires-clause-is_exact : goal.without_keys-requires-clause-is_exact
without_keys-requires-clause-is_exact c = exact_groups

pub without_keys-requires-2-clause-is_exact : goal.without_keys-requires-2-clause-is_exact
without_keys-requires-2-clause-is_exact c = exact_users

pub without_keys-requires-3-clause-is_exact : goal.without_keys-requires-3-clause-is_exact
without_keys-requires-3-clause-is_exact c = exact_expiries

pub invariant_of-result : goal.invariant_of-result
invariant_of-result c =
    let rows = values_of c.self.inside.rows in
    let old = from_within_map row_of rows c.args.entry.now (subst (λ rows. Within (map row_of rows) c.args.entry.now) (sym c.self.view_is) c.requires.there) in
    let k = old.0.row.id in
    let shelf : c.in_ok-rows.rows ≡ without_key (slice_cmp nat_cmp) c.self.inside.rows k = c.in_ok-rows.ensures.rows ∙ ap (without_key (slice_cmp nat_cmp) c.self.inside.rows) (c.id.ensures ∙ sym (ap entry_key old.2)) in
    let left : values_of c.in_ok-rows.rows ≡ with_row (of_row entry_key) k None rows = ap values_of shelf ∙ values-after entry_key k None c.self.inside.rows c.self.invariant.0 in (
      subst (IsKeyed entry_key) (sym shelf) (keyed-after entry_key k None c.self.inside.rows c.self.invariant.0 tt),
      subst (Ascending (of_row entry_key)) (sym left) (ascending-with_row (of_row entry_key) k None rows c.self.invariant.1 tt),
      subst (λ l. IsIndex group_keys l c.in_ok-without_keys.field-0) (sym left) (c.in_ok-without_keys.ensures group_keys rows old.0 groups_identify c.self.invariant.1 c.self.invariant.2 old.1 (c.as_slice.ensures.value ∙ (c.in_ok-group_keys.ensures ∙ sym (ap group_keys old.2)))),
      subst (λ l. IsIndex user_keys l c.in_ok-without_keys-2.field-0) (sym left) (c.in_ok-without_keys-2.ensures user_keys rows old.0 users_identify c.self.invariant.1 c.self.invariant.3 old.1 (c.as_slice-2.ensures.value ∙ (c.in_ok-user_keys.ensures ∙ sym (ap user_keys old.2)))),
      subst (λ l. IsIndex expiry_keys l c.in_ok-without_keys-3.field-0) (sym left) (c.in_ok-without_keys-3.ensures expiry_keys rows old.0 expiries_identify c.self.invariant.1 c.self.invariant.4 old.1 (c.as_slice-3.ensures.value ∙ (c.in_ok-expiry_keys.ensures ∙ sym (ap expiry_keys old.2)))),
    )

pub returns : goal.returns
returns c =
    let shelf : c.in_ok-rows.rows ≡ without_key (slice_cmp nat_cmp) c.self.inside.rows c.args.entry.now.id = c.in_ok-rows.ensures.rows ∙ ap (without_key (slice_cmp nat_cmp) c.self.inside.rows) c.id.ensures in
    ap values_of shelf ∙ (values-after entry_key c.args.entry.now.id None c.self.inside.rows c.self.invariant.0 ∙ ap (with_row (of_row entry_key) c.args.entry.now.id None) c.self.view_is)
