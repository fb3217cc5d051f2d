use Rattle.std.proofs.Common.{◌≡◌, ◌<◌, ℕ, List, drop, length, sym, ◌∙◌, ap, subst}
use Rattle.std.proofs.lemmas.Bool.{false≢true}
use Rattle.std.proofs.lemmas.Bool.Decides.{Decides-eqb}
use Rattle.std.specs.Prelude.{◌≢◌, IsTrue, slice_index}
use Rattle.line_log.specs.Lines.{lines_in, text_of}
use Rattle.line_log.specs.Log.{BeginsWith, IsAtRest, KeepsLines, IsShutAt}
use Rattle.line_log.specs.Damage.{JustifiesFinish}
use Rattle.line_log.specs.Tails.{tail_in, MayEnd}
use Rattle.line_log.specs.declared.error.LogError.{LogError}
use Rattle.line_log.proofs.TailLemmas.{each_disk}
use Rattle.line_log.specs.Reading.{HasReadLines, held_by}
use Rattle.line_log.proofs.ReadLemmas.{disk_finish, gate_within, of_error, past_justified, open_gate, read_end, shut_gate}
use Rattle.line_log.proofs.RecoverLemmas.{kept_on, kept_same}
use Rattle.line_log.proofs.RestLemmas.{is_cut}
use Rattle.line_log.proofs.reader.LogReader.trim.Goals as goal

pub overwrite_brace-requires-clause-durable : goal.overwrite_brace-requires-clause-durable
overwrite_brace-requires-clause-durable g c left may = c.requires.durable left (c.look_past.ensures.crash left may) ∙ sym c.look_past.ensures.seen

pub overwrite_brace-requires-clause-end : goal.overwrite_brace-requires-clause-end
overwrite_brace-requires-clause-end g c clean =
    let file = g.D.Disk.seen c.args.self.now.disk in
    let (lines, has) = c.requires.read (c.look_past.ensures.clean clean) in
    c.look_past.ensures.at ∙ read_end file c.args.self.now lines has ((c.in_ok-cut.ensures.end clean has.part).none) ∙ ap (λ (f : List ℕ). length (text_of (lines_in f))) (sym c.look_past.ensures.seen)

pub overwrite_brace-requires-clause-within : goal.overwrite_brace-requires-clause-within
overwrite_brace-requires-clause-within g c clean has_brace =
    let file = g.D.Disk.seen c.args.self.now.disk in
    let s = c.look_past.new.self in
    let (lines, has) = c.requires.read (c.look_past.ensures.clean clean) in
    let gate = (Decides-eqb (slice_index (held_by s) 0) 123).0 (sym c.begins_line-has_brace.ensures ∙ has_brace) in
    subst (λ (f : List ℕ). s.at < length f) (sym c.look_past.ensures.seen) (gate_within file s (c.look_past.ensures.part clean has.part) gate)

pub overwrite_brace-requires-clause-brace : goal.overwrite_brace-requires-clause-brace
overwrite_brace-requires-clause-brace g c clean has_brace =
    let file = g.D.Disk.seen c.args.self.now.disk in
    let s = c.look_past.new.self in
    let (lines, has) = c.requires.read (c.look_past.ensures.clean clean) in
    let gate = (Decides-eqb (slice_index (held_by s) 0) 123).0 (sym c.begins_line-has_brace.ensures ∙ has_brace) in
    subst (λ (f : List ℕ). slice_index f s.at ≡ 123) (sym c.look_past.ensures.seen) (open_gate file s (c.look_past.ensures.part clean has.part) gate)

pub overwrite_brace-requires-clause-shut : goal.overwrite_brace-requires-clause-shut
overwrite_brace-requires-clause-shut g c clean is_shut =
    let file = g.D.Disk.seen c.args.self.now.disk in
    let s = c.look_past.new.self in
    let (lines, has) = c.requires.read (c.look_past.ensures.clean clean) in
    let other : slice_index (held_by s) 0 ≢ 123 = λ e. false≢true (sym is_shut ∙ c.begins_line-has_brace.ensures ∙ (Decides-eqb (slice_index (held_by s) 0) 123).1 e) in
    subst (λ (f : List ℕ). IsShutAt f s.at) (sym c.look_past.ensures.seen)
    (λ (within : s.at < length file). shut_gate file s (c.look_past.ensures.part clean has.part) (c.in_ok-cut.ensures.held clean has.part within) other)

pub cut_tail-requires-clause-front : goal.cut_tail-requires-clause-front
cut_tail-requires-clause-front g c clean =
    let d = c.overwrite_brace.new.disk in
    let before = subst IsTrue c.overwrite_brace.ensures.clean clean in
    let kept = c.overwrite_brace.ensures.any_moment before (g.D.Disk.seen d) (g.met.D.Disk.seen_may_stay d) in
    subst (λ (ls : List (List ℕ)). BeginsWith (g.D.Disk.seen d) ls c.look_past.new.self.at) (sym kept.lines) (c.in_ok-overwrite_brace.ensures.front before)

pub returns-in_err-cut-clause-any_moment : goal.returns-in_err-cut-clause-any_moment
returns-in_err-cut-clause-any_moment g c clean left may =
    kept_same g.D.Disk.is_mixing (g.D.Disk.seen c.args.self.now.disk) left (c.requires.durable left (c.look_past.ensures.crash left may))

pub returns-then-end-gt-MAX_FILE_LEN-clause-any_moment : goal.returns-then-end-gt-MAX_FILE_LEN-clause-any_moment
returns-then-end-gt-MAX_FILE_LEN-clause-any_moment g c clean left may =
    kept_same g.D.Disk.is_mixing (g.D.Disk.seen c.args.self.now.disk) left (c.requires.durable left (c.look_past.ensures.crash left may))

pub returns-in_err-overwrite_brace-clause-any_moment : goal.returns-in_err-overwrite_brace-clause-any_moment
returns-in_err-overwrite_brace-clause-any_moment g c clean left may =
    subst (λ (f : List ℕ). KeepsLines g.D.Disk.is_mixing f left) c.look_past.ensures.seen (c.overwrite_brace.ensures.any_moment (subst IsTrue c.overwrite_brace.ensures.clean clean) left may)

pub returns-in_err-cut_tail-clause-any_moment : goal.returns-in_err-cut_tail-clause-any_moment
returns-in_err-cut_tail-clause-any_moment g c clean left may =
    let d = c.overwrite_brace.new.disk in
    let between = subst IsTrue c.cut_tail.ensures.clean clean in
    let kept = c.overwrite_brace.ensures.any_moment (subst IsTrue c.overwrite_brace.ensures.clean between) (g.D.Disk.seen d) (g.met.D.Disk.seen_may_stay d) in
    subst (λ (f : List ℕ). KeepsLines g.D.Disk.is_mixing f left) c.look_past.ensures.seen
    (kept_on g.D.Disk.is_mixing (g.D.Disk.seen c.look_past.new.self.disk) (g.D.Disk.seen d) left kept (c.cut_tail.ensures.any_moment between left may))

pub returns-clause-any_moment : goal.returns-clause-any_moment
returns-clause-any_moment g c clean left may =
    let d = c.overwrite_brace.new.disk in
    let between = subst IsTrue c.cut_tail.ensures.clean clean in
    let kept = c.overwrite_brace.ensures.any_moment (subst IsTrue c.overwrite_brace.ensures.clean between) (g.D.Disk.seen d) (g.met.D.Disk.seen_may_stay d) in
    subst (λ (f : List ℕ). KeepsLines g.D.Disk.is_mixing f left) c.look_past.ensures.seen
    (kept_on g.D.Disk.is_mixing (g.D.Disk.seen c.look_past.new.self.disk) (g.D.Disk.seen d) left kept (c.cut_tail.ensures.any_moment between left may))

pub returns-clause-rest : goal.returns-clause-rest
returns-clause-rest g c clean =
    subst (λ (n : ℕ). IsAtRest (g.D.Disk.seen c.cut_tail.new.disk) n) c.look_past.ensures.at (c.in_ok-cut_tail.ensures.rest (subst IsTrue c.cut_tail.ensures.clean clean))

pub returns-clause-same : goal.returns-clause-same
returns-clause-same g c clean =
    let d = c.overwrite_brace.new.disk in
    let between = subst IsTrue c.cut_tail.ensures.clean clean in
    let kept = c.overwrite_brace.ensures.any_moment (subst IsTrue c.overwrite_brace.ensures.clean between) (g.D.Disk.seen d) (g.met.D.Disk.seen_may_stay d) in
    c.in_ok-cut_tail.ensures.same between ∙ kept.lines ∙ ap lines_in c.look_past.ensures.seen

pub returns-clause-all : goal.returns-clause-all
returns-clause-all g c clean =
    let after_look = subst IsTrue c.overwrite_brace.ensures.clean (subst IsTrue c.cut_tail.ensures.clean clean) in
    let (lines, has) = c.requires.read (c.look_past.ensures.clean after_look) in
    (c.in_ok-cut.ensures.end after_look has.part).none

pub returns-clause-end : goal.returns-clause-end
returns-clause-end g c clean lines has mixes kind =
    let file = g.D.Disk.seen c.args.self.now.disk in
    let after_look = subst IsTrue c.overwrite_brace.ensures.clean (subst IsTrue c.cut_tail.ensures.clean clean) in
    let disk = c.look_past.new.self.disk in
    let end = (c.in_ok-cut.ensures.end after_look has.part).end in
    subst (MayEnd mixes) (sym has.tail) (each_disk (g.D.Disk.is_mixing disk) mixes (tail_in (drop c.args.self.now.at file)) (λ is. kind is disk) end)

pub returns-in_err-cut-clause-justified : goal.returns-in_err-cut-clause-justified
returns-in_err-cut-clause-justified g c =
    let file = g.D.Disk.seen c.args.self.now.disk in
    let disk = c.look_past.new.self.disk in
    of_error c.from_residual.result
    (λ (e : LogError). IsTrue (g.D.Disk.is_clean disk) → (lines : List (List ℕ)) → HasReadLines file c.args.self.now lines → JustifiesFinish (g.D.Disk.is_mixing disk) file lines e)
    c.in_err-cut.field-0.0 c.from_residual.ensures.1
    (λ clean lines has. past_justified (g.D.Disk.is_mixing disk) file c.args.self.now lines c.in_err-cut.field-0.0 has (c.in_err-cut.ensures.fault clean has.part))

pub returns-in_err-overwrite_brace-clause-justified : goal.returns-in_err-overwrite_brace-clause-justified
returns-in_err-overwrite_brace-clause-justified g c =
    let file = g.D.Disk.seen c.args.self.now.disk in
    let disk = c.overwrite_brace.new.disk in
    of_error c.from_residual-in_err-overwrite_brace.result
    (λ (e : LogError). IsTrue (g.D.Disk.is_clean disk) → (lines : List (List ℕ)) → HasReadLines file c.args.self.now lines → JustifiesFinish (g.D.Disk.is_mixing disk) file lines e)
    c.in_err-overwrite_brace.field-0.0 c.from_residual-in_err-overwrite_brace.ensures.1
    (λ clean lines has. disk_finish (g.D.Disk.is_mixing disk) file lines _ _ c.in_err-overwrite_brace.field-0.0 c.in_err-overwrite_brace.ensures.justified)

pub returns-in_err-cut_tail-clause-justified : goal.returns-in_err-cut_tail-clause-justified
returns-in_err-cut_tail-clause-justified g c =
    let file = g.D.Disk.seen c.args.self.now.disk in
    let disk = c.cut_tail.new.disk in
    of_error c.from_residual-in_err-cut_tail.result
    (λ (e : LogError). IsTrue (g.D.Disk.is_clean disk) → (lines : List (List ℕ)) → HasReadLines file c.args.self.now lines → JustifiesFinish (g.D.Disk.is_mixing disk) file lines e)
    c.in_err-cut_tail.field-0.0 c.from_residual-in_err-cut_tail.ensures.1
    (λ clean lines has. disk_finish (g.D.Disk.is_mixing disk) file lines _ _ c.in_err-cut_tail.field-0.0 c.in_err-cut_tail.ensures.justified)

pub returns-clause-cut : goal.returns-clause-cut
returns-clause-cut g c clean lines has =
    let file = g.D.Disk.seen c.args.self.now.disk in
    let r = c.args.self.now in
    let after_look = subst IsTrue c.overwrite_brace.ensures.clean (subst IsTrue c.cut_tail.ensures.clean clean) in
    let none = (c.in_ok-cut.ensures.end after_look has.part).none in
    is_cut file r.at c.in_ok-cut.cut (read_end file r lines has none) (c.in_ok-cut.ensures.cut after_look has.part)
