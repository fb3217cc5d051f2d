use Rattle.std.proofs.Common.{ap, ◌∙◌}
use Rattle.std.proofs.lemmas.Result.{IfOk-weaker}
use Rattle.plain_book.proofs.Parents.{at_no_parent, at_parent, children}
use Rattle.plain_book.proofs.entries.Entries.children.Goals as goal

pub returns-in-Some-clause-found : goal.returns-in-Some-clause-found
returns-in-Some-clause-found c =
    let key = c.as_bytes.ensures.value ∙ c.as_str.ensures.text in
    let found = at_parent c.as_bytes.result.now c.args.parent.now c.self.inside.by_id c.self.inside.by_parent c.in-Some.siblings.now key c.self.invariant.1 c.in-Some.ensures ∙ ap (children c.args.parent.now) c.self.view_is in
    IfOk-weaker c.to_vec.result _ _ (λ all h. h ∙ found) c.to_vec.ensures

pub returns-in-None-clause-found : goal.returns-in-None-clause-found
returns-in-None-clause-found c =
    let key = c.as_bytes.ensures.value ∙ c.as_str.ensures.text in
    c.new.ensures.items ∙ (at_no_parent c.as_bytes.result.now c.args.parent.now c.self.inside.by_id c.self.inside.by_parent key c.self.invariant.1 c.in-None.ensures ∙ ap (children c.args.parent.now) c.self.view_is)
