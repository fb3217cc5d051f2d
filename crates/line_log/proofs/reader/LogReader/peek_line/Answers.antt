use Rattle.std.proofs.Common.{◌≡◌, ◌-◌, ℕ, List, length, drop, min, sym, ◌∙◌, subst}
use Rattle.line_log.specs.Damage.{IsLongLine}
use Rattle.line_log.specs.Reading.{IsPartOf, held_by}
use Rattle.line_log.proofs.ReadLemmas.{long_line}
use Rattle.line_log.proofs.reader.LogReader.peek_line.Goals as goal

pub returns-in-None-clause-fault : goal.returns-in-None-clause-fault
returns-in-None-clause-fault g c clean part =
    let file = g.D.Disk.seen c.args.self.now.disk in
    let s = c.fill.new.self in
    let t = c.fill-2.new.self in
    let once = subst (λ (f : List ℕ). IsPartOf f s) (sym c.fill.ensures.seen) (c.fill.ensures.part (c.fill-2.ensures.clean clean) part) in
    let twice = subst (λ (f : List ℕ). IsPartOf f t) c.fill.ensures.seen (c.fill-2.ensures.part clean once) in
    let size = subst (λ (n : ℕ). length (held_by t) ≡ min 8388608 (n - t.at)) (sym c.fill-2.ensures.len)
    (subst (λ (n : ℕ). length (held_by t) ≡ min 8388608 (s.len - n)) (sym c.fill-2.ensures.at) c.in_ok-fill-2.ensures.size) in
    let long = long_line file t twice c.in-None.ensures.more.0 size c.in-None.ensures.more.1 in
    (c.fill-2.ensures.count ∙ c.fill.ensures.count, subst (λ (n : ℕ). IsLongLine (drop n file)) (c.fill-2.ensures.at ∙ c.fill.ensures.at) long)
