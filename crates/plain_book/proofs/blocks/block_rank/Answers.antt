use Rattle.std.proofs.Common.{◌≡◌, ◌+◌, ◌-◌, ◌/◌, ◌<◌, length, get_or, sym, ap, ◌∙◌, arith}
use Rattle.std.proofs.lemmas.List.{get_or_default}
use Rattle.plain_book.specs.Blocks.{begins_behind}
use Rattle.plain_book.proofs.blocks.block_rank.Goals as goal

pub loop-from-init : goal.loop-from-init
loop-from-init g c = record {
  inside = (omega arith, omega arith);
  before = λ none. absurd (omega arith);
  behind = λ none. absurd (omega arith);
}

pub loop-from-preserved-then-begins_behind : goal.loop-from-preserved-then-begins_behind
loop-from-preserved-then-begins_behind g c =
    let begins = begins_behind g.T.BookRow.key c.args.key.now in
    let middle = c.loop-from.from + (c.loop-from.until - c.loop-from.from) / 2 in
    let inside : middle < length c.args.blocks.now = omega arith in
    record {
      inside = (omega arith, omega arith);
      before = c.loop-from.invariant.before;
      behind = λ some d.
          ap begins (get_or_default c.args.blocks.now middle d c.index-blocks-middle.result inside ∙ (sym c.index-blocks-middle.is ∙ sym (c.as_slice.ensures ∙ c.get.ensures)))
          ∙ (sym c.begins_behind.ensures ∙ c.if-begins_behind.true);
    }

pub loop-from-preserved : goal.loop-from-preserved
loop-from-preserved g c =
    let begins = begins_behind g.T.BookRow.key c.args.key.now in
    let middle = c.loop-from.from + (c.loop-from.until - c.loop-from.from) / 2 in
    let inside : middle < length c.args.blocks.now = omega arith in
    let rank : middle + 1 - 1 ≡ middle = omega arith in
    record {
      inside = (omega arith, omega arith);
      before = λ some d.
          ap (λ n. begins (get_or c.args.blocks.now n d)) rank
          ∙ (ap begins (get_or_default c.args.blocks.now middle d c.index-blocks-middle.result inside ∙ (sym c.index-blocks-middle.is ∙ sym (c.as_slice.ensures ∙ c.get.ensures)))
          ∙ (sym c.begins_behind.ensures ∙ c.if-begins_behind.false));
      behind = c.loop-from.invariant.behind;
    }

pub returns : goal.returns
returns g c =
    let begins = begins_behind g.T.BookRow.key c.args.key.now in
    let same : c.loop-from.from ≡ c.loop-from.until = omega arith in
    record {
      inside = omega arith;
      before = c.loop-from.invariant.before;
      behind = λ some d. ap (λ n. begins (get_or c.args.blocks.now n d)) same ∙ c.loop-from.invariant.behind (omega arith) d;
    }
