use Rattle.std.proofs.Common.{◌≡◌, ◌≤◌, Some, length, map, sym, ap, subst, ◌∙◌, IfSome, option_map}
use Rattle.std.specs.Prelude.{filter, option_to_list, bytes_eq}
use Rattle.std.specs.Option.{option_copied}
use Rattle.std.proofs.lemmas.Result.{IfOk-weaker}
use Rattle.entry_book.specs.Order.{with_row}
use Rattle.entry_book.specs.Rows.{Entry, entry_key}
use Rattle.version_book.specs.CommittedRows.{numbered, of_row, row_of}
use Rattle.version_shelf.specs.Shelf.{most_rows}
use Rattle.version_book.specs.Room.{count_of_names}
use Rattle.version_book.proofs.entries.Entries.after.Goals as goal

keyed : (c : goal.In_ok-row-in-Some) → c.in_ok-row-in-Some.row.id ≡ c.args.change.now.key
keyed c = ap entry_key c.in_ok-row-in-Some.ensures.cases ∙ subst (λ o. IfSome o (λ new. new.id ≡ c.args.change.now.key)) c.in-Some.is c.requires.keyed

new : (c : goal.In_ok-row-in-Some) → Some c.in_ok-row-in-Some.row ≡ c.args.change.now.new
new c = ap Some c.in_ok-row-in-Some.ensures.cases ∙ sym c.in-Some.is

pub put-requires-clause-found : goal.put-requires-clause-found
put-requires-clause-found c = subst (λ id. filter (λ (entry : Entry). bytes_eq entry.id id) (map row_of c.args.self) ≡ option_to_list (option_copied c.as_ref-old.result)) (sym (keyed c)) (c.requires.found ∙ ap option_to_list (sym c.as_ref-old.ensures.value))

pub put-requires-clause-room : goal.put-requires-clause-room
put-requires-clause-room c =
    let room = subst (λ o. IfSome o (λ new. length (with_row entry_key c.args.change.now.key c.args.change.now.new (map row_of c.args.self)) ≤ most_rows)) c.in-Some.is c.requires.room in
    let id = sym (keyed c) in
    let row = sym (new c) in
    subst (λ rows. length rows ≤ most_rows) (λ i. with_row entry_key (id i) (row i) (map row_of c.args.self)) room

pub put-requires-clause-names : goal.put-requires-clause-names
put-requires-clause-names c =
    let room = subst (λ o. IfSome o (λ new. count_of_names (with_row entry_key c.args.change.now.key c.args.change.now.new (map row_of c.args.self)) ≤ most_rows)) c.in-Some.is c.requires.names in
    let id = sym (keyed c) in
    let row = sym (new c) in
    subst (λ rows. count_of_names rows ≤ most_rows) (λ i. with_row entry_key (id i) (row i) (map row_of c.args.self)) room

pub returns-in_ok-row-in-Some : goal.returns-in_ok-row-in-Some
returns-in_ok-row-in-Some c =
    let id : c.in_ok-row-in-Some.row.id ≡ c.args.change.now.key = ap entry_key c.in_ok-row-in-Some.ensures.cases ∙ subst (λ o. IfSome o (λ new. new.id ≡ c.args.change.now.key)) c.in-Some.is c.requires.keyed in
    let row : Some c.in_ok-row-in-Some.row ≡ c.args.change.now.new = ap Some c.in_ok-row-in-Some.ensures.cases ∙ sym c.in-Some.is in
    IfOk-weaker c.put.result _ _ (λ entries e. e ∙ (λ i. with_row (of_row entry_key) (id i) (option_map (numbered c.args.commit) (row i)) c.args.self)) c.put.ensures

pub returns-in-None : goal.returns-in-None
returns-in-None c = IfOk-weaker c.rest_of.result _ _ (λ entries e. e ∙ ap (λ o. with_row (of_row entry_key) c.args.change.now.key (option_map (numbered c.args.commit) o) c.args.self) (sym c.in-None.is)) c.rest_of.ensures
