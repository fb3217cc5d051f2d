use Rattle.std.proofs.Common.{Some, sym, ap, ◌∙◌}
use Rattle.entry_book.specs.Pages.{last_id}
use Rattle.entry_book.proofs.Pages.{last_of}
use Rattle.plain_book.proofs.listing.last_id.Goals as goal

pub returns-in-Some : goal.returns-in-Some
returns-in-Some c = ap Some c.id.ensures ∙ sym (ap last_id c.in-Some.ensures.cases.0 ∙ last_of c.in-Some.field-0-1.now c.in-Some.entry.now)
