use Rattle.std.proofs.Common.{◌≡◌, ◌+◌, ◌<◌, [], ℕ, length, drop, sym, ◌∙◌, ap, subst, arith, length-drop}
use Rattle.line_log.specs.Lines.{lines_in}
use Rattle.line_log.specs.Tails.{tail_in, IsTornRest, MayEnd}
use Rattle.line_log.specs.ReadingPrivate.{IsEnd, Tells}
use Rattle.line_log.proofs.ReadLemmas.{none_part, none_broken, end_part, part_wrong, end_torn, end_wrong, long_wrong, rest_wrong, behind, before}
use Rattle.line_log.proofs.reader.LogReader.next_len.Goals as goal

pub returns-else-left-gt1-clause-end : goal.returns-else-left-gt1-clause-end
returns-else-left-gt1-clause-end g c clean part =
    let file = g.D.Disk.seen c.args.self.now.disk in
    let s = c.peek_line.new.self in
    let mixes = g.D.Disk.is_mixing s.disk in
    let here = c.peek_line.ensures.part clean part in
    let tells = subst (Tells s) c.in-Part.is c.in_ok-len.ensures.tells in
    subst (λ (n : ℕ). IsEnd mixes (drop n file)) c.peek_line.ensures.at (record { none = none_part file s here tells; end = end_part file s here mixes tells (omega (arith, c.if-left-gt1.false)) })

pub returns-then-left-gt1-clause-fault : goal.returns-then-left-gt1-clause-fault
returns-then-left-gt1-clause-fault g c clean part =
    let file = g.D.Disk.seen c.args.self.now.disk in
    let s = c.peek_line.new.self in
    let mixes = g.D.Disk.is_mixing s.disk in
    let here = c.peek_line.ensures.part clean part in
    let tells = subst (Tells s) c.in-Part.is c.in_ok-len.ensures.tells in (
      c.peek_line.ensures.count,
      subst (λ (n : ℕ). lines_in (drop n file) ≡ []) c.peek_line.ensures.at (none_part file s here tells),
      subst (λ (n : ℕ). MayEnd mixes (tail_in (drop n file)) → ⊥) c.peek_line.ensures.at (part_wrong file s here mixes tells (omega (arith, c.if-left-gt1.true))),
    )

pub returns-else-not-is_torn-clause-end : goal.returns-else-not-is_torn-clause-end
returns-else-not-is_torn-clause-end g c clean part =
    let file = g.D.Disk.seen c.args.self.now.disk in
    let s = c.peek_line.new.self in
    let n = c.in-Broken.front in
    let mixes = g.D.Disk.is_mixing c.is_torn_rest.new.disk in
    let here = c.peek_line.ensures.part (c.is_torn_rest.ensures.clean clean) part in
    let tells = subst (Tells s) c.in-Broken.is c.in_ok-len.ensures.tells in
    let torn = c.is_torn.ensures.torn c.if-not-is_torn.false in
    let short = c.is_short.ensures.short c.if-not-is_short.false in
    let rest : 0 < n → IsTornRest (drop (s.at + (n + 1)) file) = λ some. behind file s n (g.D.Disk.seen s.disk) c.peek_line.ensures.seen
    (c.in_ok-is_torn_rest-in-Broken.ensures.torn c.if-not-branch.false clean (here.len ∙ ap length (sym c.peek_line.ensures.seen)) some) in
    subst (λ (n : ℕ). IsEnd mixes (drop n file)) c.peek_line.ensures.at (record { none = none_broken file s here n tells; end = end_torn file s here mixes n tells short.0 short.1 torn rest })

pub returns-then-not-is_short-clause-fault : goal.returns-then-not-is_short-clause-fault
returns-then-not-is_short-clause-fault g c clean part =
    let file = g.D.Disk.seen c.args.self.now.disk in
    let s = c.peek_line.new.self in
    let n = c.in-Broken.front in
    let mixes = g.D.Disk.is_mixing s.disk in
    let here = c.peek_line.ensures.part clean part in
    let tells = subst (Tells s) c.in-Broken.is c.in_ok-len.ensures.tells in
    let other = long_wrong file s here mixes n tells (c.is_short.ensures.other c.if-not-is_short.true) in (
      c.peek_line.ensures.count,
      subst (λ (n : ℕ). lines_in (drop n file) ≡ []) c.peek_line.ensures.at (none_broken file s here n tells),
      subst (λ (n : ℕ). MayEnd mixes (tail_in (drop n file)) → ⊥) c.peek_line.ensures.at other,
    )

pub returns-then-not-branch-clause-fault : goal.returns-then-not-branch-clause-fault
returns-then-not-branch-clause-fault g c clean part =
    let file = g.D.Disk.seen c.args.self.now.disk in
    let s = c.peek_line.new.self in
    let n = c.in-Broken.front in
    let mixes = g.D.Disk.is_mixing c.is_torn_rest.new.disk in
    let here = c.peek_line.ensures.part (c.is_torn_rest.ensures.clean clean) part in
    let tells = subst (Tells s) c.in-Broken.is c.in_ok-len.ensures.tells in
    let (some, not) = c.in_ok-is_torn_rest-in-Broken.ensures.other c.if-not-branch.true clean (here.len ∙ ap length (sym c.peek_line.ensures.seen)) in
    let other = rest_wrong file s here mixes n tells some (λ torn. not (before file s n (g.D.Disk.seen s.disk) c.peek_line.ensures.seen torn)) in (
      c.peek_line.ensures.count,
      subst (λ (n : ℕ). lines_in (drop n file) ≡ []) c.peek_line.ensures.at (none_broken file s here n tells),
      subst (λ (n : ℕ). MayEnd mixes (tail_in (drop n file)) → ⊥) c.peek_line.ensures.at other,
    )

pub returns-then-not-is_torn-clause-fault : goal.returns-then-not-is_torn-clause-fault
returns-then-not-is_torn-clause-fault g c clean part =
    let file = g.D.Disk.seen c.args.self.now.disk in
    let s = c.peek_line.new.self in
    let n = c.in-Broken.front in
    let mixes = g.D.Disk.is_mixing c.is_torn_rest.new.disk in
    let here = c.peek_line.ensures.part (c.is_torn_rest.ensures.clean clean) part in
    let tells = subst (Tells s) c.in-Broken.is c.in_ok-len.ensures.tells in
    let other = end_wrong file s here mixes n tells (c.is_torn.ensures.other c.if-not-is_torn.true) in (
      c.peek_line.ensures.count,
      subst (λ (n : ℕ). lines_in (drop n file) ≡ []) c.peek_line.ensures.at (none_broken file s here n tells),
      subst (λ (n : ℕ). MayEnd mixes (tail_in (drop n file)) → ⊥) c.peek_line.ensures.at other,
    )

pub is_torn_rest-requires-clause-within : goal.is_torn_rest-requires-clause-within
is_torn_rest-requires-clause-within g c =
    let s = c.peek_line.new.self in
    let tells = subst (Tells s) c.in-Broken.is c.in_ok-len.ensures.tells in
    omega (arith, tells.begins.0, s.room, s.inside, length-drop s.from s.block.items)
