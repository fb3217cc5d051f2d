use Rattle.std.proofs.Common.{ap, ◌∙◌}
use Rattle.shared_registry.proofs.Opening.{alone_is, counts_none, shows_none}
use Rattle.shared_registry.proofs.published.opening.Goals as goal

pub of-requires-3 : goal.of-requires-3
of-requires-3 g c =
    let newest = c.in_ok-newest.ensures.cases ∙ (c.newest.ensures.newest ∙ ap (λ w. w.newest) c.window.ensures.window) in
    let alone = c.in_ok-of.ensures ∙ alone_is _ _ c.requires.alone newest in
    record {
      shows = rw c.requires.prefix (shows_none _ _ _ _ c.requires.first c.requires.domain c.requires.head (ap (λ b. b.window) c.in_ok-of-2.ensures ∙ alone));
      counted = rw c.requires.prefix (counts_none _ (ap (λ b. b.counts) c.in_ok-of-2.ensures));
    }
