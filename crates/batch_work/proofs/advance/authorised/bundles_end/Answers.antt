use Rattle.std.proofs.Common.{◌≡◌, true, List, [], ◌∷◌, refl, sym, ap, ◌∙◌}
use Rattle.entry_book.specs.Rows.{Bytes}
use Rattle.batch_work.specs.declared.phase.WalkFor.TheVariants as walk_for
use Rattle.batch_work.specs.Reads.{domains_of}
use Rattle.batch_work.specs.Steps.{identity_next, next_trusted, trusted_next}
use Rattle.batch_work.specs.WalkStates.{WalkState, is_empty, walked}
use Rattle.batch_work.proofs.advance.authorised.bundles_end.Goals as goal

-- a walk without a pending identity is over
over : (is : List Bytes) (w : WalkState) → is_empty is ≡ true → identity_next is walk_for.Bundles w ≡ trusted_next (domains_of w.found) 0 []
over [] w h = refl
over (i ∷ is) w h = cc

pub returns : goal.returns
returns c =
    let w = walked c.args.entries.items c.args.walk.now in
    let last : c.continues.new.self ≡ w = c.in_ok-continues.ensures.ok ∙ ap (walked c.args.entries.items) c.in_ok-last.ensures.cases in
    let found : c.as_slice.result.now ≡ w.found = c.as_slice.ensures.value ∙ (c.into_found.ensures ∙ ap (λ (w : WalkState). w.found) last) in
    let domains : c.of-domains.result ≡ domains_of w.found = c.of-domains.ensures ∙ (c.in_ok-domains_of.ensures ∙ ap domains_of found) in
    c.trusted_next.ensures
    ∙ (ap (λ next. next_trusted next c.of-domains.result 0 c.empty.result) c.in_ok-next.ensures.domain
    ∙ (ap (trusted_next c.of-domains.result 0) c.empty.ensures
    ∙ (ap (λ ds. trusted_next ds 0 []) domains ∙ sym (over w.pending w c.requires.over))))
