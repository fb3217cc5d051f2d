use Rattle.std.proofs.Common.{◌≡◌, ◌∙◌, ap, length, sym, subst}
use Rattle.commit_head.specs.Journals.{IsLawfulJournal}
use Rattle.shared_registry.specs.Rules.{items_of}
use Rattle.shared_registry.specs.Shown.{Shown}
use Rattle.shared_registry.specs.ShownPrivate.{ShowsJournal}
use Rattle.shared_registry.proofs.Showing.{lawful_shown}
use Rattle.shared_registry.proofs.published.PublishedValue.prefix.Goals as goal

pub of-requires : goal.of-requires
of-requires g c =
    let i = c.self.invariant in
    let again = c.again.ensures in
    let shows = subst (λ (s : Shown). ShowsJournal g.J.RegistryId.first g.J.RegistryId.domain s.journal s.window) (sym c.self.view_is) c.requires.shows in (
      ap (λ s. s.book) again ∙ (ap (λ (s : Shown). s.history) c.self.view_is ∙ c.requires.history_is),
      i.0 ∙ ap (λ s. length (items_of s.log)) (sym again),
      subst (IsLawfulJournal g.J.RegistryId.first g.J.RegistryId.domain) (ap (λ s. items_of s.log) (sym again)) (lawful_shown _ _ _ _ shows),
    )
