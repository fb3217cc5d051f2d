use Rattle.std.proofs.Common.{None, sym, ap, subst, ◌∙◌}
use Rattle.std.proofs.lemmas.Result.{IfOk-weaker, MatchResult-weaker}
use Rattle.entry_book.specs.Rows.{entry_key}
use Rattle.entry_book.specs.Order.{Ascending, with_row}
use Rattle.plain_book.specs.Siblings.{ChangesAt, entries_of, siblings_at}
use Rattle.plain_book.proofs.Parents.{siblings_same}
use Rattle.plain_book.proofs.by_parent.without_sibling.Goals as goal

pub without-requires : goal.without-requires
without-requires c =
    let key = c.as_bytes.ensures.value ∙ (c.as_str.ensures.text ∙ (c.get.ensures ∙ c.parent.ensures)) in
    let found = ap entries_of c.in-Some.ensures ∙ ap (λ k. siblings_at k c.args.all.now) key in
    record { order = subst (Ascending entry_key) (sym found) c.requires.entries }

pub returns-in_ok-entries-in-Some : goal.returns-in_ok-entries-in-Some
returns-in_ok-entries-in-Some c =
    let entry = c.args.entry.now in
    let key = c.as_bytes.ensures.value ∙ (c.as_str.ensures.text ∙ (c.get.ensures ∙ c.parent.ensures)) in
    let found = ap entries_of c.in-Some.ensures ∙ ap (λ k. siblings_at k c.args.all.now) key in
    let rest = c.in_ok-entries-in-Some.ensures.rows ∙ (ap (λ k. with_row entry_key k None c.in-Some.siblings.now.entries) (c.as_slice.ensures ∙ (c.as_bytes-in-Some.ensures ∙ c.id.ensures)) ∙ ap (with_row entry_key entry.id None) found) in
    IfOk-weaker c.with_siblings.result _ _ (λ new h.
    subst (λ es. ChangesAt entry.parent es c.args.all.now new) rest
    (subst (λ p. ChangesAt p c.in_ok-entries-in-Some.entries c.args.all.now new) c.parent-in-Some.ensures h)) c.with_siblings.ensures

pub returns-in-None : goal.returns-in-None
returns-in-None c =
    let key = c.as_bytes.ensures.value ∙ (c.as_str.ensures.text ∙ (c.get.ensures ∙ c.parent.ensures)) in
    let none = ap entries_of c.in-None.ensures ∙ ap (λ k. siblings_at k c.args.all.now) key in
    MatchResult-weaker c.clone.result c.clone.ensures.cases (λ new h. siblings_same c.args.all.now new c.args.entry.now.parent c.args.entry.now.id c.requires.order (sym none) h) (λ e h. tt)
