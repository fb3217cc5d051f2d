use Rattle.std.proofs.Common.{◌++◌, sym, ap, ◌∙◌}
use Rattle.std.specs.Prelude.{bytes_eq}
use Rattle.std.proofs.lemmas.Bool.Decides.{Decides-eqb}
use Rattle.std.proofs.lemmas.Slice.Eq.{strip_prefix_is}
use Rattle.spiffe_name.specs.Id.{prefix}
use Rattle.entry_book.proofs.Servers.{no_domain, whole}
use Rattle.entry_book.proofs.check.is_server.Goals as goal

pub returns-in_default-strip_prefix : goal.returns-in_default-strip_prefix
returns-in_default-strip_prefix c =
    let text = c.as_bytes.ensures.value ∙ c.as_str.ensures.text in
    let own = c.as_bytes-2.ensures.value ∙ c.as_str-2.ensures.text in
    let p = rw c.in-Some.is at (strip_prefix_is Decides-eqb c.as_bytes.result.now prefix c.strip_prefix.result c.strip_prefix.ensures.cases) in
    let q = rw c.in_default-strip_prefix.is at (strip_prefix_is Decides-eqb c.in-Some.rest.now c.as_bytes-2.result.now c.strip_prefix-2.result c.strip_prefix-2.ensures.cases) in
    sym (no_domain c.args.id.now c.args.domain.now c.in-Some.rest.now (sym text ∙ p) (λ path e. q path (e ∙ ap (λ d. d ++ path) (sym own))))

pub returns : goal.returns
returns c =
    let text = c.as_bytes.ensures.value ∙ c.as_str.ensures.text in
    let own = c.as_bytes-2.ensures.value ∙ c.as_str-2.ensures.text in
    let p = rw c.in-Some.is at (strip_prefix_is Decides-eqb c.as_bytes.result.now prefix c.strip_prefix.result c.strip_prefix.ensures.cases) in
    let q = rw c.in-Some-strip_prefix.is at (strip_prefix_is Decides-eqb c.in-Some.rest.now c.as_bytes-2.result.now c.strip_prefix-2.result c.strip_prefix-2.ensures.cases) in
    c.eq.ensures ∙ ap (bytes_eq c.in-Some-strip_prefix.path.now) c.as_slice.ensures
    ∙ whole c.args.id.now c.args.domain.now c.in-Some.rest.now c.in-Some-strip_prefix.path.now (sym text ∙ p) (q ∙ ap (λ d. d ++ c.in-Some-strip_prefix.path.now) own)
