use Rattle.std.proofs.Common.{sym, ap, subst, ◌∙◌}
use Rattle.version_book.specs.CommittedRows.{AllUpTo, rows_after}
use Rattle.version_book.specs.Written.{placed}
use Rattle.version_book.proofs.NamedRows.{book_after}
use Rattle.version_book.proofs.Numbers.{all_up_to_next}
use Rattle.version_book.proofs.version.Version.apply.Goals as goal

pub invariant_of-result : goal.invariant_of-result
invariant_of-result c =
    let writes = placed c.args.number c.args.changes.now in
    let store = c.in_ok-store.ensures ∙ (ap (λ ws. rows_after c.args.number (placed c.args.number ws) c.get-body.result.now.store) c.writes.ensures ∙ (ap (λ b. rows_after c.args.number writes b.store) c.get-body.ensures ∙ ap (λ s. rows_after c.args.number writes s.rows) c.self.view_is)) in
    let names = c.in_ok-names.ensures.cases ∙ (ap (λ b. b.names) c.get-body.ensures ∙ ap (λ s. s.domain) c.self.view_is) in
    let upto = subst (λ s. AllUpTo s.number s.rows) c.self.view_is c.self.invariant.1 in
    let next = subst (λ n. AllUpTo n (rows_after n writes c.args.self.now.rows)) (sym c.requires.may.next) (all_up_to_next writes c.args.self.now upto) in
    rw (c.in_ok-of.ensures, names, store, book_after c.args.number writes c.args.self.now.rows) (c.requires.may.lawful, next)
