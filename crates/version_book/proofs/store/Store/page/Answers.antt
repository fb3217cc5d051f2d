use Rattle.std.proofs.Common.{◌≡◌, None, IfOk, length, map, ap, subst, ◌∙◌}
use Rattle.std.specs.Prelude.{filter, nat_lt, take, if◌then◌else◌}
use Rattle.entry_book.specs.Pages.{last_id, to_list}
use Rattle.entry_book.proofs.ToList.{to_list_is}
use Rattle.version_book.specs.CommittedRows.{CommittedRows, book_of, row_of}
use Rattle.version_book.proofs.Listed.{if_both, lists}
use Rattle.version_book.proofs.store.Store.page.Goals as goal

pub returns-clause-listed : goal.returns-clause-listed
returns-clause-listed c =
    let q = c.args.query.now in
    let same : filter (lists q.filter q.from) (map row_of c.self.inside.entries) ≡ to_list q (book_of c.args.self.now) =
    to_list_is q (map row_of c.self.inside.entries) ∙ ap (λ (s : CommittedRows). to_list q (book_of s)) c.self.view_is in
    subst (λ l. IfOk c.page.result (λ page. page.0.items ≡ take q.size l)) same c.page.ensures.listed

pub returns-clause-next : goal.returns-clause-next
returns-clause-next c =
    let q = c.args.query.now in
    let same : filter (lists q.filter q.from) (map row_of c.self.inside.entries) ≡ to_list q (book_of c.args.self.now) =
    to_list_is q (map row_of c.self.inside.entries) ∙ ap (λ (s : CommittedRows). to_list q (book_of s)) c.self.view_is in
    let listed = subst (λ l. IfOk c.page.result (λ page. page.0.items ≡ take q.size l)) same c.page.ensures.listed in
    let next = subst (λ l. IfOk c.page.result (λ page. page.1 ≡ (if nat_lt q.size (length l) then last_id page.0.items else None))) same c.page.ensures.next in
    if_both c.page.result _ _ _ (λ page l n. n ∙ ap (λ es. if nat_lt q.size (length (to_list q (book_of c.args.self.now))) then last_id es else None) l) listed next
