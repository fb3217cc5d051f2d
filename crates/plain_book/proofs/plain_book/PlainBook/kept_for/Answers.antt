use Rattle.std.proofs.Common.{ap, sym, ◌∙◌}
use Rattle.entry_book.specs.History.{among_kept, kept_for}
use Rattle.plain_book.proofs.plain_book.PlainBook.kept_for.Goals as goal

pub returns-in-Some : goal.returns-in-Some
returns-in-Some c =
    c.among_kept.ensures c.self.inside.domain
    ∙ (ap (λ l. among_kept c.in-Some.number (record { domain = c.self.inside.domain; older = l; newest = c.self.inside.newest; place = c.self.inside.place })) c.as_slice.ensures.value
    ∙ (ap (among_kept c.in-Some.number) c.self.view_is ∙ ap (λ asked. kept_for asked c.args.self.now) (sym c.in-Some.is)))
