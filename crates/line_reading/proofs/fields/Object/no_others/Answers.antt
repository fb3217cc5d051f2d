use Rattle.std.proofs.Common.{Some, sym, ap, subst, ◌∙◌}
use Rattle.std.specs.List.Sorted.{IsStrictlySortedBy}
use Rattle.std.specs.Map.{keys_of}
use Rattle.std.specs.Prelude.{String}
use Rattle.std.specs.String.{string_cmp}
use Rattle.std.specs.declared.alloc.Global.{Global}
use Rattle.serde_json.specs.declared.value.Value.{Value}
use Rattle.serde_json.specs.View.{members_view}
use Rattle.line_reading.specs.Fields.{is_known_key, no_others, unless_other}
use Rattle.line_reading.proofs.Others.{ascending_rest, first_is_least, known_is_passed}
use Rattle.line_reading.proofs.fields.Object.no_others.Goals as goal

pub returns-then-not-is_known_key : goal.returns-then-not-is_known_key
returns-then-not-is_known_key c =
    let keys = c.args.keys.now in
    let m : String Global × Value = (c.in-Some.name.now, c.in-Some.field-0-1.now) in
    let steps = c.in-Some.ensures.steps in
    let order = subst (λ es. IsStrictlySortedBy string_cmp (keys_of es)) steps c.loop-name.invariant.0 in
    let unknown = ap (is_known_key keys) (sym c.deref.ensures) ∙ (sym c.is_known_key.ensures ∙ c.if-not-is_known_key.true) in
    let least = first_is_least keys m c.next.new.self order unknown in
    let same_name = c.of.ensures ∙ c.in_ok-clone.ensures.cases in
    sym c.loop-name.invariant.1
    ∙ (ap (λ es. no_others keys (members_view es)) steps ∙ (ap unless_other least ∙ ap (λ name. unless_other (Some name)) (sym same_name)))

pub loop-name-preserved : goal.loop-name-preserved
loop-name-preserved c =
    let keys = c.args.keys.now in
    let m : String Global × Value = (c.in-Some.name.now, c.in-Some.field-0-1.now) in
    let steps = c.in-Some.ensures.steps in
    let order = subst (λ es. IsStrictlySortedBy string_cmp (keys_of es)) steps c.loop-name.invariant.0 in
    let known = ap (is_known_key keys) (sym c.deref.ensures) ∙ (sym c.is_known_key.ensures ∙ c.if-not-is_known_key.false) in (
      ascending_rest m c.next.new.self order,
      sym (ap unless_other (known_is_passed keys m c.next.new.self known)) ∙ (sym (ap (λ es. no_others keys (members_view es)) steps) ∙ c.loop-name.invariant.1),
    )
