use Rattle.std.proofs.Common.{ℕ, List, sym, subst}
use Rattle.std.specs.Prelude.{IsTrue}
use Rattle.line_log.specs.Damage.{JustifiesFinish}
use Rattle.line_log.specs.Reading.{HasReadLines}
use Rattle.line_log.specs.Tails.{MayEnd}
use Rattle.line_log.specs.declared.error.LogError.{LogError}
use Rattle.line_log.proofs.ReadLemmas.{looked, of_error, past_justified, read_all, read_end}
use Rattle.line_log.proofs.RestLemmas.{is_cut}
use Rattle.line_log.proofs.reader.LogReader.rest_len.Goals as goal

pub returns-in_err-len-clause-kept : goal.returns-in_err-len-clause-kept
returns-in_err-len-clause-kept g c clean lines has =
    let file = g.D.Disk.seen c.args.self.now.disk in
    looked file c.args.self.now c.look_past.new.self lines (c.look_past.ensures.part clean has.part) c.look_past.ensures.at c.look_past.ensures.count c.look_past.ensures.hasher has

pub returns-clause-kept : goal.returns-clause-kept
returns-clause-kept g c clean lines has =
    let file = g.D.Disk.seen c.args.self.now.disk in
    looked file c.args.self.now c.look_past.new.self lines (c.look_past.ensures.part clean has.part) c.look_past.ensures.at c.look_past.ensures.count c.look_past.ensures.hasher has

pub returns-clause-last : goal.returns-clause-last
returns-clause-last g c clean lines has = read_all (g.D.Disk.seen c.args.self.now.disk) c.args.self.now lines has ((c.in_ok-len.ensures.end clean has.part).none)

pub returns-clause-end : goal.returns-clause-end
returns-clause-end g c clean lines has = subst (MayEnd (g.D.Disk.is_mixing c.look_past.new.self.disk)) (sym has.tail) ((c.in_ok-len.ensures.end clean has.part).end)

pub returns-clause-cut : goal.returns-clause-cut
returns-clause-cut g c clean lines has =
    let file = g.D.Disk.seen c.args.self.now.disk in
    let r = c.args.self.now in
    is_cut file r.at c.in_ok-len.len (read_end file r lines has ((c.in_ok-len.ensures.end clean has.part).none)) (c.in_ok-len.ensures.cut clean has.part)

pub returns-in_err-len-clause-justified : goal.returns-in_err-len-clause-justified
returns-in_err-len-clause-justified g c =
    let file = g.D.Disk.seen c.args.self.now.disk in
    let disk = c.look_past.new.self.disk in
    of_error c.from_residual.result
    (λ (e : LogError). IsTrue (g.D.Disk.is_clean disk) → (lines : List (List ℕ)) → HasReadLines file c.args.self.now lines → JustifiesFinish (g.D.Disk.is_mixing disk) file lines e)
    c.in_err-len.field-0.0 c.from_residual.ensures.1
    (λ clean lines has. past_justified (g.D.Disk.is_mixing disk) file c.args.self.now lines c.in_err-len.field-0.0 has (c.in_err-len.ensures.fault clean has.part))
