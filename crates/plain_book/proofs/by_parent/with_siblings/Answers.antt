use Rattle.std.proofs.Common.{sym, ◌∙◌, arith}
use Rattle.std.proofs.lemmas.List.{nil_from_length}
use Rattle.std.proofs.lemmas.Result.{IfOk-weaker}
use Rattle.plain_book.proofs.Parents.{siblings_gone, siblings_put}
use Rattle.plain_book.proofs.by_parent.with_siblings.Goals as goal

pub returns-then-len-eq0 : goal.returns-then-len-eq0
returns-then-len-eq0 c =
    let none = nil_from_length c.args.entries (sym c.len.ensures ∙ c.if-len-eq0.true) in
    IfOk-weaker c.without.result _ _ (λ new h. siblings_gone c.args.all.now new c.as_bytes.result.now c.args.parent.now c.args.entries c.requires.order (c.as_bytes.ensures.value ∙ (c.as_str.ensures.text ∙ c.get.ensures)) none h) c.without.ensures.rows

pub returns : goal.returns
returns c =
    let parent = rw c.in_ok-entries.ensures.1 at c.clone.ensures.cases in
    IfOk-weaker c.with.result _ _ (λ new h. siblings_put c.args.all.now new (record { parent = c.in_ok-entries.parent; entries = c.in_ok-entries.entries }) c.args.parent.now c.args.entries c.requires.order parent c.in_ok-entries.ensures.0 (omega (arith, c.len.ensures, c.if-len-eq0.false)) h) c.with.ensures.rows
