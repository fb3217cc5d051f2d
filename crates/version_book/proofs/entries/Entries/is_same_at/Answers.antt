use Rattle.std.proofs.Common.{◌≡◌, refl, sym, subst, ◌∙◌}
use Rattle.std.specs.Option.{option_copied}
use Rattle.entry_book.specs.Order.{Ascending}
use Rattle.entry_book.specs.Rows.{Bytes, entry_key}
use Rattle.version_book.specs.declared.mark.MarkKind.TheVariants as mark
use Rattle.version_book.specs.Index.{IsIndex, group_keys, user_keys, expiry_keys}
use Rattle.version_book.specs.Marks.{names_entry}
use Rattle.version_book.specs.CommittedRows.{of_row}
use Rattle.version_book.proofs.KeyOrders.{group_cmp, user_cmp, expiry_cmp}
use Rattle.version_book.proofs.Marked.{alone, marked_row, no_rows}
use Rattle.version_book.proofs.Ranges.{covers_groups_of, covers_users_of, covers_expiries_of}
use Rattle.version_book.proofs.Same.{range_same, range_identified, row_same, row_identified, turns_groups, turns_users, turns_expiries}
use Rattle.version_book.proofs.entries.Entries.is_same_at.Goals as goal

pub returns-in-Groups-clause-same : goal.returns-in-Groups-clause-same
returns-in-Groups-clause-same c = λ same.
    let mark = c.args.mark.now in
    c.same_between.ensures.same.1 (range_same group_cmp group_keys c.in-Groups.low c.in-Groups.high (names_entry mark) (covers_groups_of mark c.in-Groups.low c.in-Groups.high (sym c.index_range.ensures ∙ c.in-Groups.is)) turns_groups
    c.args.older.now c.args.self.now c.older.inside.groups c.self.inside.groups
    (subst (λ rows. IsIndex group_keys rows c.older.inside.groups) c.older.view_is c.older.invariant.2)
    (subst (λ rows. IsIndex group_keys rows c.self.inside.groups) c.self.view_is c.self.invariant.2)
    c.same_between.ensures.order.0 c.same_between.ensures.order.1 same)

pub returns-in-Groups-clause-is_exact : goal.returns-in-Groups-clause-is_exact
returns-in-Groups-clause-is_exact c = λ is_exact yes.
    let mark = c.args.mark.now in
    range_identified group_cmp group_keys c.in-Groups.low c.in-Groups.high (names_entry mark) (covers_groups_of mark c.in-Groups.low c.in-Groups.high (sym c.index_range.ensures ∙ c.in-Groups.is))
    c.args.older.now c.args.self.now c.older.inside.groups c.self.inside.groups
    (subst (λ rows. IsIndex group_keys rows c.older.inside.groups) c.older.view_is c.older.invariant.2)
    (subst (λ rows. IsIndex group_keys rows c.self.inside.groups) c.self.view_is c.self.invariant.2)
    (subst (Ascending (of_row entry_key)) c.older.view_is c.older.invariant.1)
    (subst (Ascending (of_row entry_key)) c.self.view_is c.self.invariant.1)
    is_exact (c.same_between.ensures.same.0 yes)

pub returns-in-Users-clause-same : goal.returns-in-Users-clause-same
returns-in-Users-clause-same c = λ same.
    let mark = c.args.mark.now in
    c.same_between-in-Users.ensures.same.1 (range_same user_cmp user_keys c.in-Users.low c.in-Users.high (names_entry mark) (covers_users_of mark c.in-Users.low c.in-Users.high (sym c.index_range.ensures ∙ c.in-Users.is)) turns_users
    c.args.older.now c.args.self.now c.older.inside.users c.self.inside.users
    (subst (λ rows. IsIndex user_keys rows c.older.inside.users) c.older.view_is c.older.invariant.3)
    (subst (λ rows. IsIndex user_keys rows c.self.inside.users) c.self.view_is c.self.invariant.3)
    c.same_between-in-Users.ensures.order.0 c.same_between-in-Users.ensures.order.1 same)

pub returns-in-Users-clause-is_exact : goal.returns-in-Users-clause-is_exact
returns-in-Users-clause-is_exact c = λ is_exact yes.
    let mark = c.args.mark.now in
    range_identified user_cmp user_keys c.in-Users.low c.in-Users.high (names_entry mark) (covers_users_of mark c.in-Users.low c.in-Users.high (sym c.index_range.ensures ∙ c.in-Users.is))
    c.args.older.now c.args.self.now c.older.inside.users c.self.inside.users
    (subst (λ rows. IsIndex user_keys rows c.older.inside.users) c.older.view_is c.older.invariant.3)
    (subst (λ rows. IsIndex user_keys rows c.self.inside.users) c.self.view_is c.self.invariant.3)
    (subst (Ascending (of_row entry_key)) c.older.view_is c.older.invariant.1)
    (subst (Ascending (of_row entry_key)) c.self.view_is c.self.invariant.1)
    is_exact (c.same_between-in-Users.ensures.same.0 yes)

pub returns-in-Expiries-clause-same : goal.returns-in-Expiries-clause-same
returns-in-Expiries-clause-same c = λ same.
    let mark = c.args.mark.now in
    c.same_between-in-Expiries.ensures.same.1 (range_same expiry_cmp expiry_keys c.in-Expiries.low c.in-Expiries.high (names_entry mark) (covers_expiries_of mark c.in-Expiries.low c.in-Expiries.high (sym c.index_range.ensures ∙ c.in-Expiries.is)) turns_expiries
    c.args.older.now c.args.self.now c.older.inside.expiries c.self.inside.expiries
    (subst (λ rows. IsIndex expiry_keys rows c.older.inside.expiries) c.older.view_is c.older.invariant.4)
    (subst (λ rows. IsIndex expiry_keys rows c.self.inside.expiries) c.self.view_is c.self.invariant.4)
    c.same_between-in-Expiries.ensures.order.0 c.same_between-in-Expiries.ensures.order.1 same)

pub returns-in-Expiries-clause-is_exact : goal.returns-in-Expiries-clause-is_exact
returns-in-Expiries-clause-is_exact c = λ is_exact yes.
    let mark = c.args.mark.now in
    range_identified expiry_cmp expiry_keys c.in-Expiries.low c.in-Expiries.high (names_entry mark) (covers_expiries_of mark c.in-Expiries.low c.in-Expiries.high (sym c.index_range.ensures ∙ c.in-Expiries.is))
    c.args.older.now c.args.self.now c.older.inside.expiries c.self.inside.expiries
    (subst (λ rows. IsIndex expiry_keys rows c.older.inside.expiries) c.older.view_is c.older.invariant.4)
    (subst (λ rows. IsIndex expiry_keys rows c.self.inside.expiries) c.self.view_is c.self.invariant.4)
    (subst (Ascending (of_row entry_key)) c.older.view_is c.older.invariant.1)
    (subst (Ascending (of_row entry_key)) c.self.view_is c.self.invariant.1)
    is_exact (c.same_between-in-Expiries.ensures.same.0 yes)

pub returns-in-Entry-clause-same : goal.returns-in-Entry-clause-same
returns-in-Entry-clause-same c = λ same.
    let mark = c.args.mark.now in
    let named = sym c.kind.ensures ∙ c.in-Entry.is in
    let one = marked_row mark c.in-Entry.id named c.older.inside.rows c.get.ensures.order c.older.invariant.0 c.args.older.now c.older.view_is (option_copied c.get.result) c.get.ensures.value in
    let other = marked_row mark c.in-Entry.id named c.self.inside.rows c.get-in-Entry.ensures.order c.self.invariant.0 c.args.self.now c.self.view_is (option_copied c.get-in-Entry.result) c.get-in-Entry.ensures.value in
    c.is_same_row.ensures.1 (row_same (option_copied c.get.result) (option_copied c.get-in-Entry.result) (sym one ∙ (same ∙ other)))

pub returns-in-Entry-clause-is_exact : goal.returns-in-Entry-clause-is_exact
returns-in-Entry-clause-is_exact c = λ is_exact yes.
    let mark = c.args.mark.now in
    let named = sym c.kind.ensures ∙ c.in-Entry.is in
    let one = marked_row mark c.in-Entry.id named c.older.inside.rows c.get.ensures.order c.older.invariant.0 c.args.older.now c.older.view_is (option_copied c.get.result) c.get.ensures.value in
    let other = marked_row mark c.in-Entry.id named c.self.inside.rows c.get-in-Entry.ensures.order c.self.invariant.0 c.args.self.now c.self.view_is (option_copied c.get-in-Entry.result) c.get-in-Entry.ensures.value in
    row_identified entry_key (names_entry mark) c.args.older.now c.args.self.now (option_copied c.get.result) (option_copied c.get-in-Entry.result) one other (alone mark c.in-Entry.id named) is_exact (c.is_same_row.ensures.0 yes)

pub returns-in_default : goal.returns-in_default
returns-in_default c =
    let m = c.args.mark.now in
    let index_range = sym c.index_range.ensures ∙ c.in-SingleRow.is in
    let other : (id : Bytes) → m ≡ mark.Entry id → ⊥ = λ id e. c.in_default.not-Entry id (c.kind.ensures ∙ e) in
    record { same = λ same. refl; is_exact = λ is_exact yes. no_rows m index_range other c.args.older.now ∙ sym (no_rows m index_range other c.args.self.now) }
