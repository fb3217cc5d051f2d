use Rattle.std.proofs.Common.{[], ◌∷◌, ℕ, List, arith, subst}
use Rattle.sqlite_disk.specs.Disk.{Torn, Mixed}
use Rattle.line_log.specs.Tails.{tail_in}
use Rattle.line_log.proofs.TailLemmas.{either_end}
use Rattle.line_log.proofs.RecoverLemmas.{begins, front_same, kept_same, mixed_gate_end, torn_gate_end, torn_gate_same}
use Rattle.line_log.proofs.tail.overwrite_brace.Goals as goal

pub returns-in_err-write_at-clause-any_moment : goal.returns-in_err-write_at-clause-any_moment
returns-in_err-write_at-clause-any_moment g c clean left may =
    let f = g.D.Disk.seen c.args.disk.now in
    let (before, was, torn) = c.write_at.ensures.crash left may in
    let front = begins f c.args.end (c.requires.end clean) in
    let within = c.requires.within clean c.if-has_brace.true in
    let gate = c.requires.brace clean c.if-has_brace.true in
    let torn_once = subst (λ (d : List ℕ). Torn c.args.end 1 d left) (c.requires.durable before was) torn in
    record {
      lines = torn_gate_same f c.args.end front left within gate torn_once;
      end = λ mixes kind. either_end mixes (tail_in f) (tail_in left)
          (λ is may_end.
          let (old, was_old, mixed) = c.write_at.ensures.mixed (kind is c.args.disk.now) (omega (arith, c.requires.short)) left may in
          mixed_gate_end f c.args.end front left within (subst (λ (d : List ℕ). Mixed c.args.end (30 ∷ []) d left) (c.requires.durable old was_old) mixed) may_end)
          (λ may_end. torn_gate_end f c.args.end front left within gate torn_once may_end);
    }

pub returns-in_err-sync-clause-any_moment : goal.returns-in_err-sync-clause-any_moment
returns-in_err-sync-clause-any_moment g c clean left may =
    let f = g.D.Disk.seen c.args.disk.now in
    let (before, was, torn) = c.write_at.ensures.crash left (c.sync.ensures.crash left may) in
    let front = begins f c.args.end (c.requires.end clean) in
    let within = c.requires.within clean c.if-has_brace.true in
    let gate = c.requires.brace clean c.if-has_brace.true in
    let torn_once = subst (λ (d : List ℕ). Torn c.args.end 1 d left) (c.requires.durable before was) torn in
    record {
      lines = torn_gate_same f c.args.end front left within gate torn_once;
      end = λ mixes kind. either_end mixes (tail_in f) (tail_in left)
          (λ is may_end.
          let (old, was_old, mixed) = c.write_at.ensures.mixed (kind is c.args.disk.now) (omega (arith, c.requires.short)) left (c.sync.ensures.crash left may) in
          mixed_gate_end f c.args.end front left within (subst (λ (d : List ℕ). Mixed c.args.end (30 ∷ []) d left) (c.requires.durable old was_old) mixed) may_end)
          (λ may_end. torn_gate_end f c.args.end front left within gate torn_once may_end);
    }

pub returns-in_ok-sync-clause-any_moment : goal.returns-in_ok-sync-clause-any_moment
returns-in_ok-sync-clause-any_moment g c clean left may =
    let f = g.D.Disk.seen c.args.disk.now in
    let (before, was, torn) = c.write_at.ensures.crash left (c.sync.ensures.crash left may) in
    let front = begins f c.args.end (c.requires.end clean) in
    let within = c.requires.within clean c.if-has_brace.true in
    let gate = c.requires.brace clean c.if-has_brace.true in
    let torn_once = subst (λ (d : List ℕ). Torn c.args.end 1 d left) (c.requires.durable before was) torn in
    record {
      lines = torn_gate_same f c.args.end front left within gate torn_once;
      end = λ mixes kind. either_end mixes (tail_in f) (tail_in left)
          (λ is may_end.
          let (old, was_old, mixed) = c.write_at.ensures.mixed (kind is c.args.disk.now) (omega (arith, c.requires.short)) left (c.sync.ensures.crash left may) in
          mixed_gate_end f c.args.end front left within (subst (λ (d : List ℕ). Mixed c.args.end (30 ∷ []) d left) (c.requires.durable old was_old) mixed) may_end)
          (λ may_end. torn_gate_end f c.args.end front left within gate torn_once may_end);
    }

pub returns-in_ok-sync-clause-front : goal.returns-in_ok-sync-clause-front
returns-in_ok-sync-clause-front g c clean =
    let f = g.D.Disk.seen c.args.disk.now in
    let front = begins f c.args.end (c.requires.end clean) in
    let torn = c.write_at.ensures.others in
    rw c.sync.ensures.seen (front_same f c.args.end front (g.D.Disk.seen c.write_at.new.self) (omega (arith, torn.no_shorter, front.within)) (λ i low. torn.below i (omega (arith, front.within)) low))

pub returns-else-has_brace-clause-front : goal.returns-else-has_brace-clause-front
returns-else-has_brace-clause-front g c clean = begins (g.D.Disk.seen c.args.disk.now) c.args.end (c.requires.end clean)

pub returns-else-has_brace-clause-any_moment : goal.returns-else-has_brace-clause-any_moment
returns-else-has_brace-clause-any_moment g c clean left may = kept_same g.D.Disk.is_mixing (g.D.Disk.seen c.args.disk.now) left (c.requires.durable left may)
