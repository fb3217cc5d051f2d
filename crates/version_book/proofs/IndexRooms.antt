-- Is there room in the indexes for one more entry?
use Rattle.std.proofs.Common.{◌≡◌, ◌+◌, ◌≤◌, List, length, map, sym, ap, subst, ◌∙◌, arith}
use Rattle.version_shelf.specs.Shelf.{IsInOrder, most_rows}
use Rattle.entry_book.specs.Rows.{Entry}
use Rattle.version_book.specs.declared.committed_row.CommittedRow.{CommittedRow}
use Rattle.version_book.specs.Index.{GroupKey, UserKey, ExpiryKey, group_keys, user_keys, expiry_keys, IsIndex}
use Rattle.version_book.specs.CommittedRows.{row_of}
use Rattle.version_book.specs.Room.{count_of_names}
use Rattle.version_book.proofs.KeyOrders.{group_cmp, user_cmp, expiry_cmp}
use Rattle.version_book.proofs.Sizes.{groups_size, users_size, expiries_size, count_of_groups, count_of_users, count_of_expiries, length-user_keys, length-expiry_keys}

module _ (rows : List (CommittedRow Entry)) (e : Entry) where
  pub room_in_groups : (index : List (GroupKey × CommittedRow Entry)) (keys : List GroupKey) → IsInOrder group_cmp index → IsIndex group_keys rows index → keys ≡ group_keys e → length rows + 1 ≤ most_rows → length index + length keys ≤ most_rows
  room_in_groups index keys sorted i k room =
      let size = groups_size rows index sorted i in
      let count = count_of_groups rows in
      let more : length keys ≡ 1 = ap length k in
      omega (arith, size, count, more, room)

  pub room_in_users : (index : List (UserKey × CommittedRow Entry)) (keys : List UserKey) → IsInOrder user_cmp index → IsIndex user_keys rows index → keys ≡ user_keys e → count_of_names (map row_of rows) + length e.domains ≤ most_rows → length index + length keys ≤ most_rows
  room_in_users index keys sorted i k room =
      let size = users_size rows index sorted i in
      let count = count_of_users rows in
      let more : length keys ≡ length e.domains = ap length k ∙ length-user_keys e in
      omega (arith, size, count, more, room)

  pub room_in_expiries : (index : List (ExpiryKey × CommittedRow Entry)) (keys : List ExpiryKey) → IsInOrder expiry_cmp index → IsIndex expiry_keys rows index → keys ≡ expiry_keys e → length rows + 1 ≤ most_rows → length index + length keys ≤ most_rows
  room_in_expiries index keys sorted i k room =
      let size = expiries_size rows index sorted i in
      let count = count_of_expiries rows in
      let more : length keys ≤ 1 = subst (λ l. length l ≤ 1) (sym k) (length-expiry_keys e) in
      omega (arith, size, count, more, room)
