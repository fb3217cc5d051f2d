use Rattle.std.proofs.Common.{List, ℕ, subst, arith}
use Rattle.sqlite_disk.specs.Disk.{Mixed}
use Rattle.line_log.proofs.StepLemmas.{mixed_between, held_rest}
use Rattle.line_log.proofs.file.LineFile.write_at_once.Goals as goal

pub returns-in_err-write_at-clause-any_moment : goal.returns-in_err-write_at-clause-any_moment
returns-in_err-write_at-clause-any_moment g c clean left may =
    let s = c.requires.synced clean in
    let f = g.D.Disk.seen c.args.self.now.disk in
    let (before, was, mixed) = c.write_at.ensures.mixed c.requires.mixing (omega (arith, c.requires.room)) left may in
    mixed_between f c.args.self.now.end s.rest (omega (arith, c.args.self.now.short, s.len)) c.args.text.now c.requires.text (omega (arith, c.requires.room, s.len)) c.requires.short c.requires.small left (subst (λ (d : List ℕ). Mixed c.args.self.now.end c.args.text.now d left) (s.durable before was) mixed)

pub returns-in_err-sync-clause-any_moment : goal.returns-in_err-sync-clause-any_moment
returns-in_err-sync-clause-any_moment g c clean left may =
    let s = c.requires.synced clean in
    let f = g.D.Disk.seen c.args.self.now.disk in
    let (before, was, mixed) = c.write_at.ensures.mixed c.requires.mixing (omega (arith, c.requires.room)) left (c.sync.ensures.crash left may) in
    mixed_between f c.args.self.now.end s.rest (omega (arith, c.args.self.now.short, s.len)) c.args.text.now c.requires.text (omega (arith, c.requires.room, s.len)) c.requires.short c.requires.small left (subst (λ (d : List ℕ). Mixed c.args.self.now.end c.args.text.now d left) (s.durable before was) mixed)

pub returns-clause-any_moment : goal.returns-clause-any_moment
returns-clause-any_moment g c clean left may =
    let s = c.requires.synced clean in
    let f = g.D.Disk.seen c.args.self.now.disk in
    let (before, was, mixed) = c.write_at.ensures.mixed c.requires.mixing (omega (arith, c.requires.room)) left (c.sync.ensures.crash left may) in
    mixed_between f c.args.self.now.end s.rest (omega (arith, c.args.self.now.short, s.len)) c.args.text.now c.requires.text (omega (arith, c.requires.room, s.len)) c.requires.short c.requires.small left (subst (λ (d : List ℕ). Mixed c.args.self.now.end c.args.text.now d left) (s.durable before was) mixed)

pub returns-clause-synced : goal.returns-clause-synced
returns-clause-synced g c clean =
    let s = c.requires.synced clean in
    let f = g.D.Disk.seen c.args.self.now.disk in
    let done = held_rest f c.args.self.now.end s.rest (omega (arith, c.args.self.now.short, s.len)) c.args.text.now c.requires.text (omega (arith, c.requires.room, s.len)) (g.D.Disk.seen c.write_at.new.self) c.write_at.ensures.others (c.in_ok-write_at.ensures.written c.requires.some) in
    record {
      rest = rw c.sync.ensures.seen (done.0);
      len = rw c.sync.ensures.seen (omega (arith, s.len, c.write_at.ensures.others.no_shorter, c.write_at.ensures.others.no_longer, c.requires.room));
      durable = rw c.sync.ensures.seen (c.in_ok-sync.ensures.durable);
    }

pub returns-clause-added : goal.returns-clause-added
returns-clause-added g c clean =
    let s = c.requires.synced clean in
    let f = g.D.Disk.seen c.args.self.now.disk in
    let done = held_rest f c.args.self.now.end s.rest (omega (arith, c.args.self.now.short, s.len)) c.args.text.now c.requires.text (omega (arith, c.requires.room, s.len)) (g.D.Disk.seen c.write_at.new.self) c.write_at.ensures.others (c.in_ok-write_at.ensures.written c.requires.some) in
    rw c.sync.ensures.seen (done.1)
