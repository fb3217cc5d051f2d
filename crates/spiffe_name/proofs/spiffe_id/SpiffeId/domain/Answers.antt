use Rattle.std.proofs.Common.{◌≡◌, arith, ap, subst, sym, ◌∙◌, rules}
use Rattle.spiffe_name.specs.Id.{Spells, domain_of, id_refusal}
use Rattle.spiffe_name.proofs.Ids.{Spells-from_none, ascii_at, domain_of-Spells, long_enough}
use Rattle.spiffe_name.proofs.spiffe_id.SpiffeId.domain.Goals as goal

pub domain_end-requires : goal.domain_end-requires
domain_end-requires c =
    let t = ap id_refusal c.as_str-text.ensures.value ∙ c.self.invariant in
    omega (arith, long_enough c.as_str-text.result.now t, c.as_bytes.ensures.len)

pub range-requires-clause-start_boundary : goal.range-requires-clause-start_boundary
range-requires-clause-start_boundary c = λ h.
    let t = ap id_refusal c.as_str-text.ensures.value ∙ c.self.invariant in
    (long_enough c.as_str-text.result.now t, λ l k. absurd (omega (arith, ascii_at c.as_str-text.result.now 9 t)))

pub range-requires-clause-end_boundary : goal.range-requires-clause-end_boundary
range-requires-clause-end_boundary c =
    let t = ap id_refusal c.as_str-text.ensures.value ∙ c.self.invariant in
    (omega (arith, c.as_bytes.ensures.len), λ l k. absurd (omega (arith, ascii_at c.as_str-text.result.now c.domain_end.result t)))

pub returns-clause-part : goal.returns-clause-part
returns-clause-part c =
    let e : c.range.result.now ≡ domain_of c.args.self.now = search rules in
    let w = Spells-from_none c.args.self.now (ap id_refusal (sym c.self.view_is) ∙ c.self.invariant) in
    let same = sym (domain_of-Spells c.args.self.now w.0 w.1 w.2) ∙ sym e in
    (w.1, subst (λ domain. Spells c.args.self.now domain w.1) same w.2)
