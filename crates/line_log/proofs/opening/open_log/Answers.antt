use Rattle.std.proofs.Common.{ℕ, List, sym, ◌∙◌, ap, subst}
use Rattle.line_log.specs.Lines.{lines_in}
use Rattle.std.specs.Prelude.{IsTrue}
use Rattle.line_log.specs.Damage.{JustifiesFinish}
use Rattle.line_log.specs.Reading.{HasReadLines}
use Rattle.line_log.proofs.ReadLemmas.{error_finish, of_any_error}
use Rattle.line_log.proofs.opening.open_log.Goals as goal

pub returns-in_ok-log-in-Ok-clause-opened : goal.returns-in_ok-log-in-Ok-clause-opened
returns-in_ok-log-in-Ok-clause-opened g c clean =
    let log = c.in_ok-log-in-Ok.log in
    let file = g.D.Disk.seen c.in_ok-reader.reader.disk in
    let read = c.in_ok-log-in-Ok.ensures.clean clean in
    let (lines, has, is) = c.in-Ok.ensures.text read (c.in_ok-reader.ensures.read (c.read_text.ensures.clean read)) in
    let here = subst (λ (f : List ℕ). HasReadLines f c.read_text.new.reader lines) (sym c.read_text.ensures.seen) has in
    let opened = c.in_ok-log-in-Ok.ensures.opened clean lines here in
    let kept = c.in_ok-log-in-Ok.ensures.any_moment clean (g.D.Disk.seen log.file.disk) (g.met.D.Disk.seen_may_stay log.file.disk) in
    (lines, opened, ap lines_in (sym c.in_ok-reader.ensures.seen) ∙ ap lines_in (sym c.read_text.ensures.seen) ∙ sym kept.lines ∙ opened.same, is)

pub returns-in_err-log-in-Ok-clause-justified : goal.returns-in_err-log-in-Ok-clause-justified
returns-in_err-log-in-Ok-clause-justified g c =
    let file = g.D.Disk.seen c.args.disk in
    let error = c.in_err-log-in-Ok.field-0.0 in
    of_any_error c.from_residual-in_err-log-in-Ok.result
    (λ e. IsTrue (g.D.Disk.is_clean e.1) → (lines : List (List ℕ)) × JustifiesFinish (g.D.Disk.is_mixing e.1) file lines e.0) error c.from_residual-in_err-log-in-Ok.ensures.1
    (λ clean.
    let read = c.in_err-log-in-Ok.ensures.clean_err clean in
    let (lines, has, is) = c.in-Ok.ensures.text read (c.in_ok-reader.ensures.read (c.read_text.ensures.clean read)) in
    let here = subst (λ (f : List ℕ). HasReadLines f c.read_text.new.reader lines) (sym c.read_text.ensures.seen) has in (
      lines,
      subst (λ (f : List ℕ). JustifiesFinish (g.D.Disk.is_mixing error.1) f lines error.0) (c.read_text.ensures.seen ∙ c.in_ok-reader.ensures.seen)
          (c.in_err-log-in-Ok.ensures.justified clean lines here),
    ))

pub returns-in-Err-clause-justified : goal.returns-in-Err-clause-justified
returns-in-Err-clause-justified g c clean =
    let mixes = g.D.Disk.is_mixing c.read_text.new.reader.disk in
    let (lines, fault) = c.in-Err.ensures.justified clean (c.in_ok-reader.ensures.read (c.read_text.ensures.clean clean)) in
    (lines, subst (λ (f : List ℕ). JustifiesFinish mixes f lines c.in-Err.error) c.in_ok-reader.ensures.seen (error_finish mixes (g.D.Disk.seen c.in_ok-reader.reader.disk) lines c.in-Err.error fault))
