use Rattle.std.proofs.Common.{◌≡◌, ◌+◌, ℕ, List, length, arith, ◌∙◌, ap, subst}
use Rattle.std.specs.Prelude.{slice_index}
use Rattle.std.proofs.lemmas.List.{get_or-replicate, length-replicate}
use Rattle.sqlite_disk.specs.Disk.{Torn, Holds}
use Rattle.line_log.proofs.StepLemmas.{at_rest, torn_behind, rest_with_room}
use Rattle.line_log.proofs.file.LineFile.make_room.Goals as goal

pub returns-in_err-write_at-clause-any_moment : goal.returns-in_err-write_at-clause-any_moment
returns-in_err-write_at-clause-any_moment g c clean left may =
    let s = c.requires.synced clean in
    let f = g.D.Disk.seen c.args.self.now.disk in
    let (before, was, torn) = c.write_at.ensures.crash left may in
    let long : length c.deref.result.now ≡ c.args.count + 262144 = ap length (c.deref.ensures.value ∙ c.in_ok-fillers.ensures) ∙ length-replicate {A = ℕ} (c.args.count + 262144) 30 in
    torn_behind f c.args.self.now.end s.rest (omega (arith, c.args.self.now.short, s.len)) c.args.self.now.len (length c.deref.result.now) left c.args.self.now.room (omega (arith, long, c.if-count-self.false, c.requires.short)) (omega (arith, c.args.self.now.room, s.len)) (rw (s.durable before was) at torn)

pub returns-in_err-sync-clause-any_moment : goal.returns-in_err-sync-clause-any_moment
returns-in_err-sync-clause-any_moment g c clean left may =
    let s = c.requires.synced clean in
    let f = g.D.Disk.seen c.args.self.now.disk in
    let (before, was, torn) = c.write_at.ensures.crash left (c.sync.ensures.crash left may) in
    let long : length c.deref.result.now ≡ c.args.count + 262144 = ap length (c.deref.ensures.value ∙ c.in_ok-fillers.ensures) ∙ length-replicate {A = ℕ} (c.args.count + 262144) 30 in
    torn_behind f c.args.self.now.end s.rest (omega (arith, c.args.self.now.short, s.len)) c.args.self.now.len (length c.deref.result.now) left c.args.self.now.room (omega (arith, long, c.if-count-self.false, c.requires.short)) (omega (arith, c.args.self.now.room, s.len)) (rw (s.durable before was) at torn)

pub returns-clause-any_moment : goal.returns-clause-any_moment
returns-clause-any_moment g c clean left may =
    let s = c.requires.synced clean in
    let f = g.D.Disk.seen c.args.self.now.disk in
    let (before, was, torn) = c.write_at.ensures.crash left (c.sync.ensures.crash left may) in
    let long : length c.deref.result.now ≡ c.args.count + 262144 = ap length (c.deref.ensures.value ∙ c.in_ok-fillers.ensures) ∙ length-replicate {A = ℕ} (c.args.count + 262144) 30 in
    torn_behind f c.args.self.now.end s.rest (omega (arith, c.args.self.now.short, s.len)) c.args.self.now.len (length c.deref.result.now) left c.args.self.now.room (omega (arith, long, c.if-count-self.false, c.requires.short)) (omega (arith, c.args.self.now.room, s.len)) (rw (s.durable before was) at torn)

pub returns-clause-same : goal.returns-clause-same
returns-clause-same g c clean =
    let s = c.requires.synced clean in
    let f = g.D.Disk.seen c.args.self.now.disk in
    let long : length c.deref.result.now ≡ c.args.count + 262144 = ap length (c.deref.ensures.value ∙ c.in_ok-fillers.ensures) ∙ length-replicate {A = ℕ} (c.args.count + 262144) 30 in
    rw c.sync.ensures.seen ((torn_behind f c.args.self.now.end s.rest (omega (arith, c.args.self.now.short, s.len)) c.args.self.now.len (length c.deref.result.now) (g.D.Disk.seen c.write_at.new.self) c.args.self.now.room (omega (arith, long, c.if-count-self.false, c.requires.short)) (omega (arith, c.args.self.now.room, s.len)) c.write_at.ensures.others).0)

pub returns-clause-synced : goal.returns-clause-synced
returns-clause-synced g c clean =
    let s = c.requires.synced clean in
    let f = g.D.Disk.seen c.args.self.now.disk in
    let n = g.D.Disk.seen c.write_at.new.self in
    let b = c.deref.result.now in
    let b_is = c.deref.ensures.value ∙ c.in_ok-fillers.ensures in
    let long : length b ≡ c.args.count + 262144 = ap length b_is ∙ length-replicate {A = ℕ} (c.args.count + 262144) 30 in
    let torn = subst (λ (k : ℕ). Torn k (length b) f n) s.len c.write_at.ensures.others in
    let holds = subst (λ (k : ℕ). Holds n k b) s.len (c.in_ok-write_at.ensures.written (omega (arith, long))) in
    let done = rest_with_room f c.args.self.now.end s.rest (omega (arith, c.args.self.now.short, s.len)) b n (omega (arith, s.len, long, c.if-count-self.false, c.requires.short)) (omega (arith, c.args.self.now.room, s.len)) torn holds
    (λ i low. ap (λ (l : List ℕ). slice_index l i) b_is ∙ get_or-replicate (c.args.count + 262144) i 30 0 (omega (arith, low, long))) in
    record {
      rest = rw c.sync.ensures.seen (done.0);
      len = rw c.sync.ensures.seen (omega (arith, s.len, done.1, c.len.ensures, ap length c.deref.ensures.value));
      durable = rw c.sync.ensures.seen (c.in_ok-sync.ensures.durable);
    }

pub returns-then-count-self-clause-any_moment : goal.returns-then-count-self-clause-any_moment
returns-then-count-self-clause-any_moment g c clean left may =
    let s = c.requires.synced clean in
    at_rest (g.D.Disk.seen c.args.self.now.disk) c.args.self.now.end s.rest (omega (arith, c.args.self.now.short, s.len)) left (omega (arith, c.args.self.now.room, s.len)) (s.durable left may)

pub returns-then-self-gt-MAX_FILE_LEN-clause-any_moment : goal.returns-then-self-gt-MAX_FILE_LEN-clause-any_moment
returns-then-self-gt-MAX_FILE_LEN-clause-any_moment g c clean left may =
    let s = c.requires.synced clean in
    at_rest (g.D.Disk.seen c.args.self.now.disk) c.args.self.now.end s.rest (omega (arith, c.args.self.now.short, s.len)) left (omega (arith, c.args.self.now.room, s.len)) (s.durable left may)

pub returns-in_err-fillers-clause-any_moment : goal.returns-in_err-fillers-clause-any_moment
returns-in_err-fillers-clause-any_moment g c clean left may =
    let s = c.requires.synced clean in
    at_rest (g.D.Disk.seen c.args.self.now.disk) c.args.self.now.end s.rest (omega (arith, c.args.self.now.short, s.len)) left (omega (arith, c.args.self.now.room, s.len)) (s.durable left may)
