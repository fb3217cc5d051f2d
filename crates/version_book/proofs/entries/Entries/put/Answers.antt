use Rattle.std.proofs.Common.{◌≡◌, ◌+◌, ◌≤◌, Some, None, length, map, sym, ap, subst, ◌∙◌}
use Rattle.std.specs.Prelude.{option_to_list}
use Rattle.std.specs.Option.{option_copied}
use Rattle.std.proofs.lemmas.Result.{IfOk-weaker}
use Rattle.entry_book.specs.Order.{with_row}
use Rattle.entry_book.specs.Rows.{entry_key}
use Rattle.version_shelf.specs.Shelf.{most_rows}
use Rattle.version_book.specs.CommittedRows.{of_row, row_of}
use Rattle.version_book.specs.Room.{count_of_names}
use Rattle.version_book.specs.Stores.{IsAbsent}
use Rattle.version_book.proofs.Kept.{absent_after, names_after, none_found, one_found, room_after, with_after_none}
use Rattle.version_book.proofs.entries.Entries.put.Goals as goal

-- no entry has the id

pub with-requires-clause-absent : goal.with-requires-clause-absent
with-requires-clause-absent c =
    let none = none_found c.args.row.row.id c.args.self c.in_order.ensures (c.requires.found ∙ ap (λ o. option_to_list (option_copied o)) c.in-None.is) in
    subst (IsAbsent entry_key c.args.row.row.id) none (absent_after c.args.row.row.id c.args.self)

pub with-requires-clause-room : goal.with-requires-clause-room
with-requires-clause-room c =
    let none = none_found c.args.row.row.id c.args.self c.in_order.ensures (c.requires.found ∙ ap (λ o. option_to_list (option_copied o)) c.in-None.is) in
    subst (λ rows. length rows + 1 ≤ most_rows) none (room_after c.args.row.row.id c.args.self c.args.row.row c.requires.room)

pub with-requires-clause-names : goal.with-requires-clause-names
with-requires-clause-names c =
    let none = none_found c.args.row.row.id c.args.self c.in_order.ensures (c.requires.found ∙ ap (λ o. option_to_list (option_copied o)) c.in-None.is) in
    subst (λ rows. count_of_names (map row_of rows) + length c.args.row.row.domains ≤ most_rows) none (names_after c.args.row.row.id c.args.self c.args.row.row c.requires.names)

-- one has it

pub replaced-requires-clause-there : goal.replaced-requires-clause-there
replaced-requires-clause-there c =
    let there = one_found c.args.row.row.id c.args.self c.in-Some.old.now (c.requires.found ∙ ap (λ o. option_to_list (option_copied o)) c.in-Some.is) in
    there.0

pub without-requires : goal.without-requires
without-requires c =
    let there = one_found c.args.row.row.id c.args.self c.in-Some.old.now (c.requires.found ∙ ap (λ o. option_to_list (option_copied o)) c.in-Some.is) in
    record { there = there.0 }

pub with-requires-in-Some-clause-absent : goal.with-requires-in-Some-clause-absent
with-requires-in-Some-clause-absent c =
    let row = c.args.row in
    let there = one_found c.args.row.row.id c.args.self c.in-Some.old.now (c.requires.found ∙ ap (λ o. option_to_list (option_copied o)) c.in-Some.is) in
    let rest : c.in_ok-rest-in-Some.rest ≡ with_row (of_row entry_key) row.row.id None c.args.self = c.in_ok-rest-in-Some.ensures ∙ ap (λ id. with_row (of_row entry_key) id None c.args.self) there.1 in
    subst (IsAbsent entry_key row.row.id) (sym rest) (absent_after row.row.id c.args.self)

pub with-requires-in-Some-clause-room : goal.with-requires-in-Some-clause-room
with-requires-in-Some-clause-room c =
    let row = c.args.row in
    let there = one_found c.args.row.row.id c.args.self c.in-Some.old.now (c.requires.found ∙ ap (λ o. option_to_list (option_copied o)) c.in-Some.is) in
    let rest : c.in_ok-rest-in-Some.rest ≡ with_row (of_row entry_key) row.row.id None c.args.self = c.in_ok-rest-in-Some.ensures ∙ ap (λ id. with_row (of_row entry_key) id None c.args.self) there.1 in
    subst (λ rows. length rows + 1 ≤ most_rows) (sym rest) (room_after row.row.id c.args.self row.row c.requires.room)

pub with-requires-in-Some-clause-names : goal.with-requires-in-Some-clause-names
with-requires-in-Some-clause-names c =
    let row = c.args.row in
    let there = one_found c.args.row.row.id c.args.self c.in-Some.old.now (c.requires.found ∙ ap (λ o. option_to_list (option_copied o)) c.in-Some.is) in
    let rest : c.in_ok-rest-in-Some.rest ≡ with_row (of_row entry_key) row.row.id None c.args.self = c.in_ok-rest-in-Some.ensures ∙ ap (λ id. with_row (of_row entry_key) id None c.args.self) there.1 in
    subst (λ rows. count_of_names (map row_of rows) + length row.row.domains ≤ most_rows) (sym rest) (names_after row.row.id c.args.self row.row c.requires.names)

pub returns-in_ok-rest-in-Some : goal.returns-in_ok-rest-in-Some
returns-in_ok-rest-in-Some c =
    let row = c.args.row in
    let there = one_found c.args.row.row.id c.args.self c.in-Some.old.now (c.requires.found ∙ ap (λ o. option_to_list (option_copied o)) c.in-Some.is) in
    let rest : c.in_ok-rest-in-Some.rest ≡ with_row (of_row entry_key) row.row.id None c.args.self = c.in_ok-rest-in-Some.ensures ∙ ap (λ id. with_row (of_row entry_key) id None c.args.self) there.1 in
    IfOk-weaker c.with-in-Some.result _ _ (λ entries e. e ∙ (ap (with_row (of_row entry_key) row.row.id (Some row)) rest ∙ with_after_none (of_row entry_key) row.row.id row c.args.self)) c.with-in-Some.ensures
