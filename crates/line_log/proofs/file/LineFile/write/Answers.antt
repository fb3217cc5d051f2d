use Rattle.std.proofs.Common.{arith}
use Rattle.line_log.specs.Lines.{lines_in}
use Rattle.line_log.proofs.StepLemmas.{at_rest, none_new}
use Rattle.line_log.proofs.file.LineFile.write.Goals as goal

pub returns-then-is_empty-clause-any_moment : goal.returns-then-is_empty-clause-any_moment
returns-then-is_empty-clause-any_moment g c clean mixes kind left may =
    let f = g.D.Disk.seen c.args.self.now.disk in
    let s = c.requires.synced clean in
    none_new mixes (lines_in f) (lines_in c.args.text.now) left (at_rest f c.args.self.now.end s.rest (omega (arith, c.args.self.now.short, s.len)) left (omega (arith, c.args.self.now.room, s.len)) (s.durable left may))
