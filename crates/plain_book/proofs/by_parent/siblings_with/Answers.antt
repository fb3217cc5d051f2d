use Rattle.std.proofs.Common.{◌∷◌, [], Some, sym, ap, subst, ◌∙◌}
use Rattle.std.proofs.lemmas.Result.{IfOk-weaker}
use Rattle.entry_book.specs.Rows.{entry_key}
use Rattle.entry_book.specs.Order.{Ascending, with_row}
use Rattle.plain_book.specs.Siblings.{entries_of, siblings_at}
use Rattle.plain_book.proofs.Copies.{put_alone}
use Rattle.plain_book.proofs.by_parent.siblings_with.Goals as goal

pub with-requires : goal.with-requires
with-requires c =
    let key = c.as_bytes.ensures.value ∙ (c.as_str.ensures.text ∙ (c.get.ensures ∙ c.parent.ensures)) in
    let found = ap entries_of c.in-Some.ensures ∙ ap (λ k. siblings_at k c.args.all.now) key in
    record { order = subst (Ascending entry_key) (sym found) c.requires.entries }

pub returns-in-Some : goal.returns-in-Some
returns-in-Some c =
    let entry = c.args.entry.now in
    let key = c.as_bytes.ensures.value ∙ (c.as_str.ensures.text ∙ (c.get.ensures ∙ c.parent.ensures)) in
    let found = ap entries_of c.in-Some.ensures ∙ ap (λ k. siblings_at k c.args.all.now) key in
    IfOk-weaker c.with.result _ _ (λ new h. h ∙ (ap (λ e. with_row entry_key e.id (Some e) c.in-Some.siblings.now.entries) c.in_ok-copy.ensures.cases ∙ ap (with_row entry_key entry.id (Some entry)) found)) c.with.ensures.rows

pub returns-in-None : goal.returns-in-None
returns-in-None c =
    let entry = c.args.entry.now in
    let key = c.as_bytes.ensures.value ∙ (c.as_str.ensures.text ∙ (c.get.ensures ∙ c.parent.ensures)) in
    let none = ap entries_of c.in-None.ensures ∙ ap (λ k. siblings_at k c.args.all.now) key in
    IfOk-weaker c.only.result _ _ (λ new h. h ∙ (ap (λ e. e ∷ []) c.in_ok-copy.ensures.cases ∙ (sym (put_alone entry_key entry.id entry) ∙ ap (with_row entry_key entry.id (Some entry)) none))) c.only.ensures
