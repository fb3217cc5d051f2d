use Rattle.std.proofs.Common.{◌≡◌, [], sym, ◌∙◌, ap, subst}
use Rattle.std.specs.Prelude.{IsTrue}
use Rattle.sqlite_disk.specs.Fuse.{inner_of}
use Rattle.line_log.specs.Lines.{lines_in, text_of}
use Rattle.line_log.proofs.HashLemmas.{hashed_same}
use Rattle.line_log.proofs.RestartLemmas.{between_none}
use Rattle.line_log.proofs.restart.reopened.Goals as goal

pub returns-in-Ok : goal.returns-in-Ok
returns-in-Ok g c clean lines is =
    let opened = c.in-Ok.ensures.clean clean in
    let second = c.crash-2.ensures.clean (c.sync-2.ensures.clean opened) in
    let start = subst (λ d. IsTrue (g.D.Disk.is_clean (inner_of d))) c.new-2.ensures.inner (c.run-next.ensures.clean second) in
    let first = c.crash.ensures.clean (c.sync.ensures.clean start) in
    let base = ap (λ d. lines_in (g.D.Disk.seen d)) c.new.ensures.inner ∙ is in
    let (found, has_found, between) = c.run-added.ensures.any_moment first lines base _ c.crash.ensures.left in
    let next = ap (λ d. lines_in (g.D.Disk.seen (inner_of d))) c.new-2.ensures.inner ∙ ap lines_in c.sync.ensures.seen ∙ has_found in
    let (again, has_again, none) = c.run-next.ensures.any_moment second found next _ c.crash-2.ensures.left in
    let (last, has_last, last_is, last_text) = c.in-Ok.ensures.opened clean in
    let same : last ≡ found = hashed_same [] last again (sym last_is ∙ ap lines_in c.sync-2.ensures.seen ∙ has_again) ∙ between_none found again c.run-next.result.1 none in
    record {
      found = found;
      between = between;
      next_reads = c.run-next.ensures.read second found next;
      later_reads = last_text ∙ ap text_of same;
    }
