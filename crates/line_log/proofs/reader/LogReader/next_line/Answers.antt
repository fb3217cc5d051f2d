use Rattle.std.proofs.Common.{ℕ, List, subst}
use Rattle.std.specs.Prelude.{IsTrue}
use Rattle.line_log.specs.Damage.{JustifiesError}
use Rattle.line_log.specs.Failures.{DiskErrorIsCounted}
use Rattle.line_log.specs.Reading.{HasReadLines}
use Rattle.line_log.specs.declared.error.LogError.{LogError}
use Rattle.line_log.proofs.ReadLemmas.{looked, next_justified, of_error}
use Rattle.line_log.proofs.reader.LogReader.next_line.Goals as goal

pub returns-in_err-len-clause-justified : goal.returns-in_err-len-clause-justified
returns-in_err-len-clause-justified g c =
    let file = g.D.Disk.seen c.args.self.now.disk in
    let disk = c.next_len.new.self.disk in
    of_error c.from_residual.result
    (λ (e : LogError). IsTrue (g.D.Disk.is_clean disk) → (lines : List (List ℕ)) → HasReadLines file c.args.self.now lines → JustifiesError (g.D.Disk.is_mixing disk) file lines e)
    c.in_err-len.field-0.0 c.from_residual.ensures.1
    (λ clean lines has. next_justified (g.D.Disk.is_mixing disk) file c.args.self.now lines c.in_err-len.field-0.0 has (c.in_err-len.ensures.fault clean has.part))

pub returns-in_err-accept_line-clause-justified : goal.returns-in_err-accept_line-clause-justified
returns-in_err-accept_line-clause-justified g c =
    let file = g.D.Disk.seen c.args.self.now.disk in
    let disk = c.accept_line.new.self.disk in
    of_error c.from_residual-in_err-accept_line.result
    (λ (e : LogError). IsTrue (g.D.Disk.is_clean disk) → (lines : List (List ℕ)) → HasReadLines file c.args.self.now lines → JustifiesError (g.D.Disk.is_mixing disk) file lines e)
    c.in_err-accept_line.field-0.0 c.from_residual-in_err-accept_line.ensures.1
    (λ clean lines has.
    let before = subst (λ d. IsTrue (g.D.Disk.is_clean d)) c.accept_line.ensures.disk clean in
    c.in_err-accept_line.ensures.justified (g.D.Disk.is_mixing disk) lines file
    (looked file c.args.self.now c.next_len.new.self lines (c.next_len.ensures.part before has.part) c.next_len.ensures.at c.next_len.ensures.count c.next_len.ensures.hasher has))

pub returns-in_err-accept_line-clause-counted : goal.returns-in_err-accept_line-clause-counted
returns-in_err-accept_line-clause-counted g c =
    let file = g.D.Disk.seen c.args.self.now.disk in
    let old = g.D.Disk.faults c.args.self.now.disk in
    let new = g.D.Disk.faults c.accept_line.new.self.disk in
    of_error c.from_residual-in_err-accept_line.result
    (λ (e : LogError). (IsTrue (g.D.Disk.is_clean c.args.self.now.disk) → (lines : List (List ℕ)) × HasReadLines file c.args.self.now lines) → DiskErrorIsCounted old new e)
    c.in_err-accept_line.field-0.0 c.from_residual-in_err-accept_line.ensures.1 (λ read. c.in_err-accept_line.ensures.counted old new)
