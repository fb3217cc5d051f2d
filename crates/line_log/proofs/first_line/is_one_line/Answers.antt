use Rattle.std.proofs.Common.{◌+◌, length}
use Rattle.std.proofs.lemmas.Bool.Decides.{Decides-eqb}
use Rattle.line_log.proofs.FirstLemmas.{one_line, more_lines}
use Rattle.line_log.proofs.first_line.is_one_line.Goals as goal

pub returns-in-Some : goal.returns-in-Some
returns-in-Some c =
    let text = c.args.text.now in
    let n = c.in-Some.n in
    let line = c.in-Some.ensures.line in
    let decides = Decides-eqb (n + 1) (length text) in (
      λ all. one_line text n line.0 line.1 line.2 (decides.0 all),
      λ one. decides.1 (more_lines text n line.0 line.1 line.2 c.requires one),
    )
