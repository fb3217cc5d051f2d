use Rattle.std.proofs.Common.{◌≡◌, ◌++◌, ◌∷◌, [], fold, ap, subst, sym, ◌∙◌}
use Rattle.shared_registry.specs.Shown.{Shown}
use Rattle.shared_registry.specs.ShownPrivate.{IsOf}
use Rattle.shared_registry.proofs.Steps.{sees}
use Rattle.shared_registry.proofs.commit.publish.Goals as goal

pub publish_as-next-requires : goal.publish_as-next-requires
publish_as-next-requires g c next is =
    let inv = c.loop.invariant in
    let pend = inv.pending ∙ c.append-writer.ensures.pending ∙ ap (λ l. l ++ c.args.next ∷ []) c.requires.clear in
    let e : next ≡ c.args.next = is ∙ ap (λ l. fold (λ (x p : Shown). p) c.loop.writer.desk.shown.value l) pend in
    sees _ _ _ _ _ c.loop.writer.desk.shown.value next
    (λ _. subst (IsOf g.J.RegistryId.history g.J.RegistryId.first g.J.RegistryId.domain) (sym e) c.requires.of_it)
    (rw (e, inv.shown, c.append-writer.ensures.shown) c.requires.more)
