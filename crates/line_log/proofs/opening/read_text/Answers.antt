use Rattle.std.proofs.Common.{rules, ◌≡◌, ◌++◌, ◌∷◌, [], ℕ, List, sym, ◌∙◌, ap, subst, append_assoc}
use Rattle.std.specs.Prelude.{IsTrue}
use Rattle.line_log.specs.Damage.{JustifiesError}
use Rattle.line_log.specs.Failures.{DiskErrorIsCounted}
use Rattle.line_log.specs.Reading.{HasReadLines}
use Rattle.line_log.specs.declared.error.LogError.{LogError}
use Rattle.line_log.proofs.ReadLemmas.{of_error}
use Rattle.line_log.proofs.HashLemmas.{text_more}
use Rattle.line_log.proofs.opening.read_text.Goals as goal

pub lines-preserved : goal.lines-preserved
lines-preserved g c =
    let i = c.lines.invariant in
    let line = c.next_line.new.line.items in
    record {
      usable = c.next_line.ensures.usable;
      clean = λ clean. i.clean (c.next_line.ensures.clean clean);
      seen = c.next_line.ensures.seen ∙ i.seen;
      crash = λ left may. i.crash left (c.next_line.ensures.crash left may);
      faults = c.in_ok-next_line.ensures.faults ∙ i.faults;
      read = λ clean start.
          let (lines, has, is) = i.read (c.next_line.ensures.clean clean) start in
          let here = subst (λ (file : List ℕ). HasReadLines file c.lines.reader lines) (sym i.seen) has in
          let next = c.in_ok-next_line.ensures.next c.if-not-branch.false clean lines here in
          let grown : c.extend_from_slice-in-lines.new.self.items ≡ c.lines.text.items ++ line ++ 10 ∷ [] = search rules in (
            lines ++ line ∷ [],
            subst (λ (file : List ℕ). HasReadLines file c.next_line.new.self (lines ++ line ∷ [])) i.seen next,
            grown ∙ append_assoc c.lines.text.items line (10 ∷ []) ∙ ap (λ (t : List ℕ). t ++ (line ++ 10 ∷ [])) is ∙ sym (text_more lines line),
          );
    }

pub returns-in_err-next_line-clause-counted : goal.returns-in_err-next_line-clause-counted
returns-in_err-next_line-clause-counted g c =
    let file = g.D.Disk.seen c.args.reader.now.disk in
    let i = c.lines.invariant in
    of_error c.from_residual.result
    (λ (e : LogError). (IsTrue (g.D.Disk.is_clean c.args.reader.now.disk) → HasReadLines file c.args.reader.now []) → DiskErrorIsCounted (g.D.Disk.faults c.args.reader.now.disk) (g.D.Disk.faults c.next_line.new.self.disk) e)
    c.in_err-next_line.field-0.0 c.from_residual.ensures.1
    (λ start. subst (λ (n : ℕ). DiskErrorIsCounted n (g.D.Disk.faults c.next_line.new.self.disk) c.in_err-next_line.field-0.0) i.faults
    (c.in_err-next_line.ensures.counted (λ clean.
    let (lines, has, is) = i.read clean (start (i.clean clean)) in
    (lines, subst (λ (f : List ℕ). HasReadLines f c.lines.reader lines) (sym i.seen) has))))

pub returns-in_err-next_line-clause-justified : goal.returns-in_err-next_line-clause-justified
returns-in_err-next_line-clause-justified g c =
    let file = g.D.Disk.seen c.args.reader.now.disk in
    let disk = c.next_line.new.self.disk in
    let mixes = g.D.Disk.is_mixing disk in
    let error = c.in_err-next_line.field-0.0 in
    let i = c.lines.invariant in
    of_error c.from_residual.result
    (λ (e : LogError). IsTrue (g.D.Disk.is_clean disk) → HasReadLines file c.args.reader.now [] → (lines : List (List ℕ)) × JustifiesError mixes file lines e) error c.from_residual.ensures.1
    (λ clean start.
    let (lines, has, is) = i.read (c.next_line.ensures.clean clean) start in
    let here = subst (λ (f : List ℕ). HasReadLines f c.lines.reader lines) (sym i.seen) has in
    (lines, subst (λ (f : List ℕ). JustifiesError mixes f lines error) i.seen (c.in_err-next_line.ensures.justified clean lines here)))
