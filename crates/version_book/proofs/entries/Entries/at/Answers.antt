use Rattle.std.proofs.Common.{map, sym, ap, ◌∙◌}
use Rattle.std.specs.Prelude.{filter}
use Rattle.std.specs.Option.{option_copied}
use Rattle.std.specs.Map.{values_of}
use Rattle.std.proofs.lemmas.Result.{IfOk-weaker}
use Rattle.version_book.specs.Index.{group_keys, user_keys, expiry_keys}
use Rattle.version_book.specs.Marks.{names_entry}
use Rattle.version_book.specs.CommittedRows.{row_of}
use Rattle.version_book.proofs.Marked.{marked_row, no_entries}
use Rattle.version_book.proofs.Ranges.{covers_groups_of, covers_users_of, covers_expiries_of}
use Rattle.version_book.proofs.Shelves.{filter-map}
use Rattle.version_book.proofs.entries.Entries.at.Goals as goal

pub returns-in-Groups : goal.returns-in-Groups
returns-in-Groups c =
    let mark = c.args.mark.now in
    IfOk-weaker c.entries_between.result _ _ (λ found h.
    h group_keys (values_of c.self.inside.rows) (names_entry mark) c.self.invariant.2 (covers_groups_of mark c.in-Groups.low c.in-Groups.high (sym c.index_range.ensures ∙ c.in-Groups.is)) c.self.invariant.1
    ∙ ap (λ rows. filter (names_entry mark) (map row_of rows)) c.self.view_is) c.entries_between.ensures

pub returns-in-Users : goal.returns-in-Users
returns-in-Users c =
    let mark = c.args.mark.now in
    IfOk-weaker c.entries_between-in-Users.result _ _ (λ found h.
    h user_keys (values_of c.self.inside.rows) (names_entry mark) c.self.invariant.3 (covers_users_of mark c.in-Users.low c.in-Users.high (sym c.index_range.ensures ∙ c.in-Users.is)) c.self.invariant.1
    ∙ ap (λ rows. filter (names_entry mark) (map row_of rows)) c.self.view_is) c.entries_between-in-Users.ensures

pub returns-in-Expiries : goal.returns-in-Expiries
returns-in-Expiries c =
    let mark = c.args.mark.now in
    IfOk-weaker c.entries_between-in-Expiries.result _ _ (λ found h.
    h expiry_keys (values_of c.self.inside.rows) (names_entry mark) c.self.invariant.4 (covers_expiries_of mark c.in-Expiries.low c.in-Expiries.high (sym c.index_range.ensures ∙ c.in-Expiries.is)) c.self.invariant.1
    ∙ ap (λ rows. filter (names_entry mark) (map row_of rows)) c.self.view_is) c.entries_between-in-Expiries.ensures

pub returns-in-Entry : goal.returns-in-Entry
returns-in-Entry c =
    let mark = c.args.mark.now in
    let row = marked_row mark c.in-Entry.id (sym c.kind.ensures ∙ c.in-Entry.is) c.self.inside.rows c.get.ensures.order c.self.invariant.0 c.args.self.now c.self.view_is (option_copied c.get.result) c.get.ensures.value in
    IfOk-weaker c.row_alone.result _ _ (λ found h. h ∙ (ap (map row_of) (sym row) ∙ sym (filter-map row_of (names_entry mark) c.args.self.now))) c.row_alone.ensures

pub returns-in_default : goal.returns-in_default
returns-in_default c =
    let none = no_entries c.args.mark.now (sym c.index_range.ensures ∙ c.in-SingleRow.is) (λ id e. c.in_default.not-Entry id (c.kind.ensures ∙ e)) (map row_of c.args.self.now) in
    c.new.ensures.items ∙ sym none
