use Rattle.std.proofs.Common.{refl, sym, ap, subst, ◌∙◌}
use Rattle.call_machine.specs.Kept.{Decides, IsOverSlot, head_domain, journal_of, stage_kept}
use Rattle.call_machine.proofs.Slots.{open_rests}
use Rattle.call_machine.proofs.slot.Slot.commit.Goals as goal

pub returns-clause-ok : goal.returns-clause-ok
returns-clause-ok c =
    let old = c.args.self.now in
    let h = c.args.head.now in
    let w = c.in-Open.work in
    let there = open_rests (head_domain h) h.kept old.batch old.state w c.requires.rests.state c.in-Open.is in
    let d = c.in-Some.ensures.some in
    let decided = subst (λ s. Decides (journal_of h) w.batch d.base c.in-Some.decision c.in-Some.place (stage_kept s) (journal_of c.decide.new.head)) (sym c.replace.ensures.after) d.decided in
    record {
      base = d.base;
      in_turn = ap stage_kept c.in-Open.is ∙ d.in_turn;
      decided = subst (λ b. Decides (journal_of h) b d.base c.in-Some.decision c.in-Some.place (stage_kept c.replace.new.dest) (journal_of c.decide.new.head)) there.1 decided;
      extends = d.extends;
      over = subst IsOverSlot (sym c.replace.ensures.after) tt;
      batch = refl;
      invoked = refl;
      turn_is = refl;
      replied = refl;
    }
