use Rattle.std.proofs.Common.{sym, ◌∙◌}
use Rattle.version_book.proofs.Replaced.{domains_are}
use Rattle.version_book.proofs.entries.are_same_domains.Goals as goal

pub returns : goal.returns
returns c = λ is. domains_are c.args.one.now c.args.other.now (sym c.eq.ensures ∙ is)
