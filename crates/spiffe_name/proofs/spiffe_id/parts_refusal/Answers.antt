use Rattle.std.proofs.Common.{arith, drop, take, ◌+◌, ◌==◌, ◌∙◌, sym}
use Rattle.std.proofs.lemmas.Grind.{common_steps}
use Rattle.std.specs.List.{slice_split}
use Rattle.spiffe_name.specs.Domain.{domain_refusal}
use Rattle.spiffe_name.specs.Id.{segments_refusal}
use Rattle.spiffe_name.proofs.Ids.{parts_refusal-cut, or_else-some, or_else-none_left}
use Rattle.spiffe_name.proofs.spiffe_id.parts_refusal.Goals as goal

pub returns-in-Some : goal.returns-in-Some
returns-in-Some c =
    let n = c.first_slash-end.result in
    let xs = c.args.rest.now in
    sym (parts_refusal-cut xs n c.first_slash-end.ensures.first (grind (arith, c.first_slash-end.ensures.bound))
    ∙ or_else-some (domain_refusal (take n xs)) (segments_refusal (slice_split (λ b. b == 47) (drop (n + 1) xs))) _ (sym c.domain_refusal-2.ensures ∙ c.in-Some.is))

pub returns-in-None : goal.returns-in-None
returns-in-None c =
    let n = c.first_slash-end.result in
    let xs = c.args.rest.now in
    let e = parts_refusal-cut xs n c.first_slash-end.ensures.first (grind (arith, c.first_slash-end.ensures.bound))
    ∙ or_else-none_left (domain_refusal (take n xs)) (segments_refusal (slice_split (λ b. b == 47) (drop (n + 1) xs))) (sym c.domain_refusal-2.ensures ∙ c.in-None.is) in
    grind (arith, common_steps)
