use Rattle.std.proofs.Common.{◌+◌, List, ℕ, ◌∙◌, ap, subst, arith}
use Rattle.sqlite_disk.specs.Disk.{Torn, Cut}
use Rattle.line_log.specs.Lines.{lines_in}
use Rattle.line_log.proofs.RecoverLemmas.{kept_cut, kept_last, filler_last, filler_rest}
use Rattle.line_log.proofs.tail.cut_tail.Goals as goal

pub returns-in_err-set_len-clause-any_moment : goal.returns-in_err-set_len-clause-any_moment
returns-in_err-set_len-clause-any_moment g c clean left may =
    let f = g.D.Disk.seen c.args.disk.now in
    let (before, was, cut) = c.set_len.ensures.crash left may in
    kept_cut f c.args.end (c.requires.front clean) g.D.Disk.is_mixing left (c.requires.shut clean) (subst (λ (d : List ℕ). Cut (c.args.end + 1) d left) (c.requires.durable before was) cut)

pub returns-in_err-sync-clause-any_moment : goal.returns-in_err-sync-clause-any_moment
returns-in_err-sync-clause-any_moment g c clean left may =
    let f = g.D.Disk.seen c.args.disk.now in
    let (before, was, cut) = c.set_len.ensures.crash left (c.sync.ensures.crash left may) in
    kept_cut f c.args.end (c.requires.front clean) g.D.Disk.is_mixing left (c.requires.shut clean) (subst (λ (d : List ℕ). Cut (c.args.end + 1) d left) (c.requires.durable before was) cut)

pub returns-in_err-write_at-clause-any_moment : goal.returns-in_err-write_at-clause-any_moment
returns-in_err-write_at-clause-any_moment g c clean left may =
    let f = g.D.Disk.seen c.args.disk.now in
    let m = g.D.Disk.seen c.set_len.new.self in
    let front = c.requires.front clean in
    let (before, was, torn) = c.write_at.ensures.crash left may in
    kept_last g.D.Disk.is_mixing f m left c.args.end front c.in_ok-set_len.ensures.len (λ i low. c.set_len.ensures.others.below i (omega (arith, front.within)) (omega arith))
    (subst (λ (d : List ℕ). Torn c.args.end 1 d left) (c.in_ok-sync.ensures.durable before was) torn)

pub returns-in_err-sync-2-clause-any_moment : goal.returns-in_err-sync-2-clause-any_moment
returns-in_err-sync-2-clause-any_moment g c clean left may =
    let f = g.D.Disk.seen c.args.disk.now in
    let m = g.D.Disk.seen c.set_len.new.self in
    let front = c.requires.front clean in
    let (before, was, torn) = c.write_at.ensures.crash left (c.sync-2.ensures.crash left may) in
    kept_last g.D.Disk.is_mixing f m left c.args.end front c.in_ok-set_len.ensures.len (λ i low. c.set_len.ensures.others.below i (omega (arith, front.within)) (omega arith))
    (subst (λ (d : List ℕ). Torn c.args.end 1 d left) (c.in_ok-sync.ensures.durable before was) torn)

pub returns-clause-any_moment : goal.returns-clause-any_moment
returns-clause-any_moment g c clean left may =
    let f = g.D.Disk.seen c.args.disk.now in
    let m = g.D.Disk.seen c.set_len.new.self in
    let front = c.requires.front clean in
    let (before, was, torn) = c.write_at.ensures.crash left (c.sync-2.ensures.crash left may) in
    kept_last g.D.Disk.is_mixing f m left c.args.end front c.in_ok-set_len.ensures.len (λ i low. c.set_len.ensures.others.below i (omega (arith, front.within)) (omega arith))
    (subst (λ (d : List ℕ). Torn c.args.end 1 d left) (c.in_ok-sync.ensures.durable before was) torn)

pub returns-clause-rest : goal.returns-clause-rest
returns-clause-rest g c clean =
    let f = g.D.Disk.seen c.args.disk.now in
    let m = g.D.Disk.seen c.set_len.new.self in
    let front = c.requires.front clean in
    let torn = subst (λ (d : List ℕ). Torn c.args.end 1 d (g.D.Disk.seen c.write_at.new.self)) c.sync.ensures.seen c.write_at.ensures.others in
    let done = filler_rest f m (g.D.Disk.seen c.write_at.new.self) c.args.end front c.in_ok-set_len.ensures.len (λ i low. c.set_len.ensures.others.below i (omega (arith, front.within)) (omega arith)) torn (c.in_ok-write_at.ensures.written (omega arith)) in
    rw c.sync-2.ensures.seen (done.0)

pub returns-clause-same : goal.returns-clause-same
returns-clause-same g c clean =
    let f = g.D.Disk.seen c.args.disk.now in
    let m = g.D.Disk.seen c.set_len.new.self in
    let front = c.requires.front clean in
    let torn = subst (λ (d : List ℕ). Torn c.args.end 1 d (g.D.Disk.seen c.write_at.new.self)) c.sync.ensures.seen c.write_at.ensures.others in
    let same = filler_last f m (g.D.Disk.seen c.write_at.new.self) c.args.end front c.in_ok-set_len.ensures.len (λ i low. c.set_len.ensures.others.below i (omega (arith, front.within)) (omega arith)) torn in
    ap lines_in c.sync-2.ensures.seen ∙ same
