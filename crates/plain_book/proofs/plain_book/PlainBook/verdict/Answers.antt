use Rattle.std.proofs.Common.{ap, subst, sym, ◌∙◌}
use Rattle.std.specs.Option.{option_copied}
use Rattle.plain_book.specs.Keeps.{IsSound}
use Rattle.plain_book.proofs.KeptBooks.{read_lawful}
use Rattle.plain_book.proofs.plain_book.PlainBook.verdict.Goals as goal

pub verdict_on-requires-clause-lawful : goal.verdict_on-requires-clause-lawful
verdict_on-requires-clause-lawful c =
    let sound = subst IsSound c.self.view_is c.self.invariant in
    read_lawful c.args.batch.now.domain c.args.self.now c.past_place-asked.result c.in-Some.book.now c.requires.made_for sound (sym (ap option_copied c.in-Some.is) ∙ c.kept_for.ensures)
