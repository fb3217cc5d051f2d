use Rattle.std.proofs.Common.{◌≡◌, None, IfOk, length, map, sym, ap, subst, ◌∙◌}
use Rattle.std.specs.Prelude.{filter, nat_lt, take, if◌then◌else◌}
use Rattle.std.specs.Cmp.Lexicographic.{slice_cmp}
use Rattle.std.specs.Map.{values_of}
use Rattle.std.specs.Ordering.{nat_cmp}
use Rattle.version_shelf.specs.Shelf.{rows_from}
use Rattle.entry_book.specs.Pages.{last_id}
use Rattle.version_book.specs.CommittedRows.{row_of}
use Rattle.version_book.proofs.Listed.{listed_from, lists}
use Rattle.version_book.proofs.entries.Entries.page.Goals as goal

-- from the rows at that id and after it, the page lists what it lists from all rows

pub returns-in-Some-clause-listed : goal.returns-in-Some-clause-listed
returns-in-Some-clause-listed c =
    let q = c.args.query.now in
    let p = lists q.filter q.from in
    let same : filter p (map row_of (values_of c.range_from.result)) ≡ filter p (map row_of c.args.self.now) =
    ap (λ s. filter p (map row_of (values_of s))) c.range_from.ensures.rows
    ∙ (subst (λ o. filter (lists q.filter o) (map row_of (values_of (rows_from (slice_cmp nat_cmp) c.self.inside.rows c.in-Some.from))) ≡ filter (lists q.filter o) (map row_of (values_of c.self.inside.rows))) (sym c.in-Some.is) (listed_from q.filter c.in-Some.from c.self.inside.rows c.self.invariant.0)
    ∙ ap (λ rows. filter p (map row_of rows)) c.self.view_is) in
    subst (λ l. IfOk c.page_of.result (λ page. page.0.items ≡ take q.size l)) same c.page_of.ensures.listed

pub returns-in-Some-clause-next : goal.returns-in-Some-clause-next
returns-in-Some-clause-next c =
    let q = c.args.query.now in
    let p = lists q.filter q.from in
    let same : filter p (map row_of (values_of c.range_from.result)) ≡ filter p (map row_of c.args.self.now) =
    ap (λ s. filter p (map row_of (values_of s))) c.range_from.ensures.rows
    ∙ (subst (λ o. filter (lists q.filter o) (map row_of (values_of (rows_from (slice_cmp nat_cmp) c.self.inside.rows c.in-Some.from))) ≡ filter (lists q.filter o) (map row_of (values_of c.self.inside.rows))) (sym c.in-Some.is) (listed_from q.filter c.in-Some.from c.self.inside.rows c.self.invariant.0)
    ∙ ap (λ rows. filter p (map row_of rows)) c.self.view_is) in
    subst (λ l. IfOk c.page_of.result (λ page. page.1 ≡ (if nat_lt q.size (length l) then last_id page.0.items else None))) same c.page_of.ensures.next
