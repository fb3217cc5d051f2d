use Rattle.std.proofs.Common.{◌≡◌, Bool, true, false, Option, Some, None, IfSome, subst, sym}
use Rattle.std.specs.Prelude.{if◌then◌else◌}
use Rattle.std.proofs.lemmas.Result.{on_ok_weaker}
use Rattle.entry_book.specs.Order.{Ascending}
use Rattle.entry_book.proofs.InOrder.{ascending-with_row}
use Rattle.version_book.specs.Marks.{kept_if}
use Rattle.version_book.proofs.overlay.put_named.Goals as goal

kept_holds : {X : Type 0} (P : X → Type 0) (p : X → Bool) (row : Option X) → IfSome row P → IfSome (kept_if p row) P
kept_holds P p None h = tt
kept_holds P p (Some x) h = elim (p x) as (λ b. IfSome (if b then Some x else None) P) [ true ↦ h | false ↦ tt ]

pub returns-clause-order : goal.returns-clause-order
returns-clause-order g c =
    let key = g.T.BookRow.key in
    let k = c.args.key.now in
    let keyed = subst (λ row. IfSome row (λ x. key x ≡ k)) (sym c.in_ok-new.ensures) (kept_holds (λ x. key x ≡ k) (g.T.BookRow.names c.args.mark.now) c.args.new.now c.requires.keyed) in
    on_ok_weaker c.put.result (λ e. subst (Ascending key) (sym e) (ascending-with_row key k c.in_ok-new.new c.args.rows.now.items c.requires.order keyed)) c.put.ensures
