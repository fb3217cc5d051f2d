use Rattle.std.proofs.Common.{◌≡◌, ◌++◌, ap, ◌∙◌, rules, codes}
use Rattle.std.specs.String.{string_bytes}
use Rattle.spiffe_name.specs.Id.{id_refusal, prefix, server_text}
use Rattle.spiffe_name.proofs.Ids.{server_text-none, server_text-spelled}
use Rattle.spiffe_name.proofs.spiffe_id.SpiffeId.server_of.Goals as goal

joined : (c : goal.In_ok-push_str-2) → string_bytes c.push_str-2.new.self ≡ server_text c.args.domain.now
joined c =
    let first : string_bytes c.push_str.new.self ≡ prefix ++ c.args.domain.now = search rules in
    let second = c.in_ok-push_str-2.ensures.bytes in
    second ∙ ap (λ text. text ++ codes "/spire/server") first

pub invariant_of-result : goal.invariant_of-result
invariant_of-result c = ap id_refusal (joined c) ∙ server_text-none c.args.domain.now c.as_str.ensures.domain

pub returns-clause-id : goal.returns-clause-id
returns-clause-id c = joined c

pub returns-clause-spelled : goal.returns-clause-spelled
returns-clause-spelled c = server_text-spelled c.args.domain.now c.as_str.ensures.domain
