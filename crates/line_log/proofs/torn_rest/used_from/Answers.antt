use Rattle.std.proofs.Common.{◌≡◌, ◌+◌, ◌<◌, ℕ, length, arith, sym, ◌∙◌, ap, subst}
use Rattle.std.specs.Prelude.{slice_index}
use Rattle.line_log.specs.TornRestPrivate.{HasEnd, HasLineEnd}
use Rattle.line_log.proofs.torn_rest.used_from.Goals as goal

pub rest-preserved : goal.rest-preserved
rest-preserved g c =
    let i = c.rest.invariant in
    let file = g.D.Disk.seen c.args.disk.now in
    let block = c.in_ok-block.block.items in
    let size = c.in_ok-block.ensures.size in
    let long : length c.deref.result.now ≡ c.min-size.result = ap length c.deref.ensures.value ∙ size in
    let long_2 : length c.deref-in-rest.result.now ≡ c.min-size.result = ap length c.deref-in-rest.ensures.value ∙ size in
    record {
      usable = c.read_block.ensures.usable;
      clean = λ clean. i.clean (c.read_block.ensures.clean clean);
      seen = c.read_block.ensures.seen ∙ i.seen;
      crash = λ left may. i.crash left (c.read_block.ensures.crash left may);
      faults = c.in_ok-block.ensures.faults ∙ i.faults;
      within = omega (arith, c.rest-test.true, c.min-size.ensures);
      end = λ clean.
          let same : (k : ℕ) → k < length c.deref.result.now → slice_index file (c.rest.at + k) ≡ slice_index c.deref.result.now k = λ k low.
          ap (λ f. slice_index f (c.rest.at + k)) (sym i.seen) ∙ c.in_ok-block.ensures.bytes clean k (omega (arith, low, long)) ∙ ap (λ b. slice_index b k) (sym c.deref.ensures.value) in
          subst (λ (n : ℕ). HasEnd file c.args.from (c.rest.at + n) c.next_end-end.result) long (c.next_end-end.ensures file c.args.from (i.end (c.read_block.ensures.clean clean)) same);
      line = λ clean.
          let same : (k : ℕ) → k < length c.deref-in-rest.result.now → slice_index file (c.rest.at + k) ≡ slice_index c.deref-in-rest.result.now k = λ k low.
          ap (λ f. slice_index f (c.rest.at + k)) (sym i.seen) ∙ c.in_ok-block.ensures.bytes clean k (omega (arith, low, long_2)) ∙ ap (λ b. slice_index b k) (sym c.deref-in-rest.ensures.value) in
          subst (λ (n : ℕ). HasLineEnd file c.args.from (c.rest.at + n) c.args.len c.next_line_end-line.result) long_2 (c.next_line_end-line.ensures file c.args.from (i.line (c.read_block.ensures.clean clean)) same);
    }
