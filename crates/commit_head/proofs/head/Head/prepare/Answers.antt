use Rattle.std.proofs.Common.{sym, ap, subst, ◌∙◌}
use Rattle.entry_book.specs.Limits.{IsWithinLimits}
use Rattle.version_book.specs.CommittedRows.{book_of}
use Rattle.commit_head.proofs.Journals.{within}
use Rattle.commit_head.proofs.head.Head.prepare.Goals as goal

pub prepare_commit-requires-clause-within : goal.prepare_commit-requires-clause-within
prepare_commit-requires-clause-within c =
    let j = c.window.ensures.journal in
    subst (λ s. IsWithinLimits (book_of s.rows)) (sym (c.newest-newest.ensures.newest ∙ ap (λ w. w.newest) c.window.ensures.window)) (within c.args.self.now j)
