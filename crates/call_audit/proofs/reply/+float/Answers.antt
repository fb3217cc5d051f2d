use Rattle.std.proofs.Common.{◌≡◌, ◌+◌, ◌∷◌, [], true, false, drop, drop_of_length-le, sym, ap, ◌∙◌, arith, rules}
use Rattle.std.proofs.lemmas.List.{drop_more}
use Rattle.serde_json.specs.View.{items_view, members_view}
use Rattle.serde_json.specs.Written.{items_have_float, members_have_float}
use Rattle.serde_json.proofs.Views.{Entry}
use Rattle.call_audit.proofs.Floats.{first_item, first_member}
use Rattle.call_audit.proofs.reply.+float.Goals as goal

pub items_have_float-loop-item-init : goal.items_have_float-loop-item-init
items_have_float-loop-item-init t c = ap (λ xs. items_have_float (items_view xs)) c.deref-item-items.ensures.value

pub items_have_float-returns-then-has_float : goal.items_have_float-returns-then-has_float
items_have_float-returns-then-has_float t c =
    let l = c.loop-item in
    let xs = c.deref-item-items.result.now in
    let x = c.item-item.result in
    let here : drop l.item-index xs ≡ x ∷ drop (l.item-index + 1) xs = drop_more xs l.item-index x (omega arith) ∙ ap (λ y. y ∷ drop (l.item-index + 1) xs) (sym c.item-item.is) in
    let yes = first_item x (drop (l.item-index + 1) xs) true (sym c.has_float.ensures ∙ c.if-has_float.true) in
    sym yes ∙ (sym (ap (λ ys. items_have_float (items_view ys)) here) ∙ l.invariant)

pub items_have_float-loop-item-preserved : goal.items_have_float-loop-item-preserved
items_have_float-loop-item-preserved t c =
    let l = c.loop-item in
    let xs = c.deref-item-items.result.now in
    let x = c.item-item.result in
    let here : drop l.item-index xs ≡ x ∷ drop (l.item-index + 1) xs = drop_more xs l.item-index x (omega arith) ∙ ap (λ y. y ∷ drop (l.item-index + 1) xs) (sym c.item-item.is) in
    let no = first_item x (drop (l.item-index + 1) xs) false (sym c.has_float.ensures ∙ c.if-has_float.false) in
    sym no ∙ (sym (ap (λ ys. items_have_float (items_view ys)) here) ∙ l.invariant)

pub items_have_float-returns : goal.items_have_float-returns
items_have_float-returns t c =
    let l = c.loop-item in
    let xs = c.deref-item-items.result.now in
    let none : drop l.item-index xs ≡ [] = drop_of_length-le xs (omega arith) in
    sym (ap (λ ys. items_have_float (items_view ys)) none) ∙ l.invariant

pub members_have_float-loop-member-init : goal.members_have_float-loop-member-init
members_have_float-loop-member-init t c = search rules

pub members_have_float-returns-then-has_float : goal.members_have_float-returns-then-has_float
members_have_float-returns-then-has_float t c =
    let l = c.loop-member in
    let e : Entry = (c.in-Some.field-0-0.now, c.in-Some.member.now) in
    let yes = first_member e c.next.new.self true (sym c.has_float.ensures ∙ c.if-has_float.true) in
    sym yes ∙ (sym (ap (λ ys. members_have_float (members_view ys)) c.in-Some.ensures.steps) ∙ l.invariant)

pub members_have_float-loop-member-preserved : goal.members_have_float-loop-member-preserved
members_have_float-loop-member-preserved t c =
    let l = c.loop-member in
    let e : Entry = (c.in-Some.field-0-0.now, c.in-Some.member.now) in
    let no = first_member e c.next.new.self false (sym c.has_float.ensures ∙ c.if-has_float.false) in
    sym no ∙ (sym (ap (λ ys. members_have_float (members_view ys)) c.in-Some.ensures.steps) ∙ l.invariant)

pub members_have_float-returns : goal.members_have_float-returns
members_have_float-returns t c =
    let l = c.loop-member in
    sym (ap (λ ys. members_have_float (members_view ys)) c.in-None.ensures.steps.0) ∙ l.invariant
