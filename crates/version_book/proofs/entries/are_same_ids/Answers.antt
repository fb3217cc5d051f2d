use Rattle.std.proofs.Common.{sym, ◌∙◌}
use Rattle.entry_book.proofs.Sets.{text_is}
use Rattle.version_book.proofs.entries.are_same_ids.Goals as goal

pub returns : goal.returns
returns c = λ is. text_is c.args.one.now c.args.other.now (sym c.eq.ensures ∙ is)
