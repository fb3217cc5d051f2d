use Rattle.std.proofs.Common.{◌≡◌, arith, ap, sym, ◌∙◌, rules}
use Rattle.spiffe_name.specs.Id.{path_of, id_refusal}
use Rattle.spiffe_name.proofs.Ids.{Spells-from_none, ascii_at, path_of-Spells, long_enough}
use Rattle.spiffe_name.proofs.spiffe_id.SpiffeId.path.Goals as goal

pub domain_end-requires : goal.domain_end-requires
domain_end-requires c =
    let t = ap id_refusal c.as_str-text.ensures.value ∙ c.self.invariant in
    omega (arith, long_enough c.as_str-text.result.now t, c.as_bytes.ensures.len)

pub range_from-requires : goal.range_from-requires
range_from-requires c = λ h.
    let t = ap id_refusal c.as_str-text.ensures.value ∙ c.self.invariant in
    (omega (arith, c.as_bytes.ensures.len), λ l k. absurd (omega (arith, ascii_at c.as_str-text.result.now c.domain_end.result t)))

pub returns-clause-part : goal.returns-clause-part
returns-clause-part c =
    let e : c.range_from.result.now ≡ path_of c.args.self.now = search rules in
    let w = Spells-from_none c.args.self.now (ap id_refusal (sym c.self.view_is) ∙ c.self.invariant) in
    (w.0, w.1, w.2, e ∙ path_of-Spells c.args.self.now w.0 w.1 w.2)
