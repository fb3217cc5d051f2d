use Rattle.std.proofs.Common.{◌+◌, ◌<◌, ℕ, length, drop, take, refl, sym, ◌∙◌, ap, subst}
use Rattle.std.specs.Prelude.{IfSome, IsTrue, slice_index}
use Rattle.line_log.specs.Lines.{lines_in}
use Rattle.line_log.specs.Reading.{IsPartOf, held_by}
use Rattle.line_log.specs.ReadingPrivate.{BeginsAs, IsPastFault}
use Rattle.line_log.specs.declared.error.LogError.{LogError}
use Rattle.line_log.specs.declared.reader.LogReader.{LogReader}
use Rattle.line_log.specs.declared.first_line.FirstLine.TheVariants.{Whole}
use Rattle.line_log.proofs.ReadLemmas.{next_past, of_error, whole_next}
use Rattle.line_log.proofs.reader.LogReader.look_past.Goals as goal

pub returns-in-Some-clause-fault : goal.returns-in-Some-clause-fault
returns-in-Some-clause-fault g c clean part =
    let file = g.D.Disk.seen c.used_from.new.disk in
    let s = c.next_len.new.self in
    let n = c.in-Some.field-0 in
    let seen = c.used_from.ensures.seen in
    let whole = subst (λ o. IfSome o (λ len. (len < length (held_by s)) × BeginsAs (held_by s) (Whole len))) c.in-Some.is c.in_ok-next_len.ensures.whole in
    let here = c.next_len.ensures.part clean (record { len = part.len ∙ ap length (sym seen); each = λ i low. ap (λ f. slice_index f (c.args.self.now.at + i)) seen ∙ part.each i low }) in
    let next = whole_next file s here n whole.0 whole.1 in (
      take n (held_by s),
      lines_in (drop (s.at + (n + 1)) file),
      ap (λ f. lines_in (drop c.args.self.now.at f)) (sym seen) ∙ ap (λ (k : ℕ). lines_in (drop k file)) (sym c.next_len.ensures.at) ∙ next,
    )

pub returns-in_err-next_len-clause-fault : goal.returns-in_err-next_len-clause-fault
returns-in_err-next_len-clause-fault g c =
    let file = g.D.Disk.seen c.args.self.now.disk in
    let disk = c.next_len.new.self.disk in
    let seen = c.used_from.ensures.seen in
    let r = c.args.self.now in
    let s : LogReader g.row.D.Denot g.D.Disk = record { disk = c.used_from.new.disk; len = r.len; at = r.at; count = r.count; block = r.block; from = r.from; hasher = r.hasher; inside = r.inside; counted = r.counted; room = r.room } in
    of_error c.from_residual-in_err-next_len.result
    (λ (e : LogError). IsTrue (g.D.Disk.is_clean disk) → IsPartOf file c.args.self.now → IsPastFault (g.D.Disk.is_mixing disk) file c.args.self.now e)
    c.in_err-next_len.field-0.0 c.from_residual-in_err-next_len.ensures.1
    (λ clean part.
    next_past (g.D.Disk.is_mixing disk) file _ c.args.self.now s c.in_err-next_len.field-0.0 seen refl refl
    (c.in_err-next_len.ensures.fault clean (record { len = part.len ∙ ap length (sym seen); each = λ i low. ap (λ f. slice_index f (c.args.self.now.at + i)) seen ∙ part.each i low })))
