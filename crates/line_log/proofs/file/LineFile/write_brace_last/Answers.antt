use Rattle.std.proofs.Common.{rules, ◌≡◌, false, ◌<◌, ◌+◌, ◌-◌, ℕ, List, length, take, arith, ◌∙◌, ap, subst, length-take}
use Rattle.std.specs.Prelude.{slice_index, slice_range}
use Rattle.std.proofs.lemmas.List.{places, get_or-take}
use Rattle.sqlite_disk.specs.Disk.{Torn}
use Rattle.line_log.specs.Lines.{lines_in}
use Rattle.line_log.proofs.StepLemmas.{none_new, torn_behind, gate_between, gate_rest}
use Rattle.line_log.proofs.file.LineFile.write_brace_last.Goals as goal

shorter : (g : List ℕ) → 0 < length g → length g ≡ length (slice_range g 1 (length g)) + 1
shorter g some =
    let back : length (slice_range g 1 (length g)) ≡ length g - 1 = search (rules, places) in
    omega (arith, back)

part : (g : List ℕ) → 0 < length g → (i : ℕ) → i < length (slice_range g 1 (length g)) → slice_index (slice_range g 1 (length g)) i ≡ slice_index g (i + 1)
part g some i low =
    let read : slice_index (slice_range g 1 (length g)) i ≡ slice_index g (1 + i) = search (rules, places) in
    let there : 1 + i ≡ i + 1 = omega arith in
    read ∙ ap (slice_index g) there

one : (g : List ℕ) → 0 < length g → length (take 1 g) ≡ 1
one g some = omega (arith, length-take 1 g)

pub returns-in_err-write_at-clause-any_moment : goal.returns-in_err-write_at-clause-any_moment
returns-in_err-write_at-clause-any_moment g c clean left may =
    let s = c.requires.synced clean in
    let f = g.D.Disk.seen c.args.self.now.disk in
    let end = c.args.self.now.end in
    let t = c.args.text.now in
    let (before, was, torn) = c.write_at.ensures.crash left may in
    none_new false (lines_in f) (lines_in t) left (torn_behind f end s.rest (omega (arith, c.args.self.now.short, s.len)) (end + 1) (length (slice_range t 1 (length t))) left (omega arith) (omega (arith, shorter t c.requires.some, c.requires.room, c.args.self.now.short)) (omega (arith, c.requires.room, s.len)) (rw (s.durable before was) at torn))

pub returns-in_err-sync-clause-any_moment : goal.returns-in_err-sync-clause-any_moment
returns-in_err-sync-clause-any_moment g c clean left may =
    let s = c.requires.synced clean in
    let f = g.D.Disk.seen c.args.self.now.disk in
    let end = c.args.self.now.end in
    let t = c.args.text.now in
    let (before, was, torn) = c.write_at.ensures.crash left (c.sync.ensures.crash left may) in
    none_new false (lines_in f) (lines_in t) left (torn_behind f end s.rest (omega (arith, c.args.self.now.short, s.len)) (end + 1) (length (slice_range t 1 (length t))) left (omega arith) (omega (arith, shorter t c.requires.some, c.requires.room, c.args.self.now.short)) (omega (arith, c.requires.room, s.len)) (rw (s.durable before was) at torn))

pub returns-in_err-write_at-2-clause-any_moment : goal.returns-in_err-write_at-2-clause-any_moment
returns-in_err-write_at-2-clause-any_moment g c clean left may =
    let s = c.requires.synced clean in
    let f = g.D.Disk.seen c.args.self.now.disk in
    let end = c.args.self.now.end in
    let t = c.args.text.now in
    let m = g.D.Disk.seen c.write_at.new.self in
    let (before, was, step) = c.write_at-2.ensures.crash left may in
    gate_between f end s.rest (omega (arith, c.args.self.now.short, s.len)) t c.requires.text (omega (arith, c.requires.room, s.len)) c.requires.some (slice_range t 1 (length t)) (shorter t c.requires.some) (part t c.requires.some)
    m c.write_at.ensures.others c.in_ok-write_at.ensures.written left (length (take 1 t)) (one t c.requires.some) (rw (c.in_ok-sync.ensures.durable before was) at step)

pub returns-in_err-sync-2-clause-any_moment : goal.returns-in_err-sync-2-clause-any_moment
returns-in_err-sync-2-clause-any_moment g c clean left may =
    let s = c.requires.synced clean in
    let f = g.D.Disk.seen c.args.self.now.disk in
    let end = c.args.self.now.end in
    let t = c.args.text.now in
    let m = g.D.Disk.seen c.write_at.new.self in
    let (before, was, step) = c.write_at-2.ensures.crash left (c.sync-2.ensures.crash left may) in
    gate_between f end s.rest (omega (arith, c.args.self.now.short, s.len)) t c.requires.text (omega (arith, c.requires.room, s.len)) c.requires.some (slice_range t 1 (length t)) (shorter t c.requires.some) (part t c.requires.some)
    m c.write_at.ensures.others c.in_ok-write_at.ensures.written left (length (take 1 t)) (one t c.requires.some) (rw (c.in_ok-sync.ensures.durable before was) at step)

pub returns-clause-any_moment : goal.returns-clause-any_moment
returns-clause-any_moment g c clean left may =
    let s = c.requires.synced clean in
    let f = g.D.Disk.seen c.args.self.now.disk in
    let end = c.args.self.now.end in
    let t = c.args.text.now in
    let m = g.D.Disk.seen c.write_at.new.self in
    let (before, was, step) = c.write_at-2.ensures.crash left (c.sync-2.ensures.crash left may) in
    gate_between f end s.rest (omega (arith, c.args.self.now.short, s.len)) t c.requires.text (omega (arith, c.requires.room, s.len)) c.requires.some (slice_range t 1 (length t)) (shorter t c.requires.some) (part t c.requires.some)
    m c.write_at.ensures.others c.in_ok-write_at.ensures.written left (length (take 1 t)) (one t c.requires.some) (rw (c.in_ok-sync.ensures.durable before was) at step)

pub returns-clause-synced : goal.returns-clause-synced
returns-clause-synced g c clean =
    let s = c.requires.synced clean in
    let f = g.D.Disk.seen c.args.self.now.disk in
    let end = c.args.self.now.end in
    let t = c.args.text.now in
    let m = g.D.Disk.seen c.write_at.new.self in
    let n = g.D.Disk.seen c.write_at-2.new.self in
    let first = c.write_at.ensures.others in
    let step = subst (λ (d : List ℕ). Torn end (length (take 1 t)) d n) c.sync.ensures.seen c.write_at-2.ensures.others in
    let done = gate_rest f end s.rest (omega (arith, c.args.self.now.short, s.len)) t c.requires.text (omega (arith, c.requires.room, s.len)) c.requires.some (slice_range t 1 (length t)) (shorter t c.requires.some) (part t c.requires.some)
    m first c.in_ok-write_at.ensures.written n (take 1 t) (one t c.requires.some) (get_or-take 1 t 0 0 (omega arith)) step (c.in_ok-write_at-2.ensures.written (omega (arith, one t c.requires.some))) in
    record {
      rest = rw c.sync-2.ensures.seen (done.0);
      len = rw c.sync-2.ensures.seen (omega (arith, s.len, first.no_shorter, first.no_longer, step.no_shorter, step.no_longer, c.requires.room, c.requires.some, shorter t c.requires.some, one t c.requires.some));
      durable = rw c.sync-2.ensures.seen (c.in_ok-sync-2.ensures.durable);
    }

pub returns-clause-added : goal.returns-clause-added
returns-clause-added g c clean =
    let s = c.requires.synced clean in
    let f = g.D.Disk.seen c.args.self.now.disk in
    let end = c.args.self.now.end in
    let t = c.args.text.now in
    let m = g.D.Disk.seen c.write_at.new.self in
    let n = g.D.Disk.seen c.write_at-2.new.self in
    let step = subst (λ (d : List ℕ). Torn end (length (take 1 t)) d n) c.sync.ensures.seen c.write_at-2.ensures.others in
    let done = gate_rest f end s.rest (omega (arith, c.args.self.now.short, s.len)) t c.requires.text (omega (arith, c.requires.room, s.len)) c.requires.some (slice_range t 1 (length t)) (shorter t c.requires.some) (part t c.requires.some)
    m c.write_at.ensures.others c.in_ok-write_at.ensures.written n (take 1 t) (one t c.requires.some) (get_or-take 1 t 0 0 (omega arith)) step (c.in_ok-write_at-2.ensures.written (omega (arith, one t c.requires.some))) in
    rw c.sync-2.ensures.seen (done.1)
