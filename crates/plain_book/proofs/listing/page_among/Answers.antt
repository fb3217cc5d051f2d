use Rattle.std.proofs.Common.{◌≡◌, ◌&&◌, ◌+◌, ◌++◌, Bool, true, List, drop, filter, length, sym, ap, ◌∙◌}
use Rattle.std.specs.Prelude.{nat_lt, take}
use Rattle.std.proofs.lemmas.List.Elements.{filter-append}
use Rattle.entry_book.specs.Pages.{comes_after, last_id, passes}
use Rattle.entry_book.specs.Rows.{Entry}
use Rattle.plain_book.specs.Blocks.{joined}
use Rattle.plain_book.proofs.Cuts.{block_first}
use Rattle.plain_book.proofs.Listed.{is_full}
use Rattle.plain_book.proofs.listing.page_among.Goals as goal

module _ (c : goal.After-last_id-next) where
  full : (c.add_listed.new.listed.items ≡ take c.args.query.now.size (filter (λ (e : Entry). passes c.args.query.now.filter e && comes_after c.args.query.now.from e) (joined c.args.blocks.now))) × (nat_lt c.args.query.now.size (length (filter (λ (e : Entry). passes c.args.query.now.filter e && comes_after c.args.query.now.from e) (joined c.args.blocks.now))) ≡ true)
  full =
      let listed : Entry → Bool = λ e. passes c.args.query.now.filter e && comes_after c.args.query.now.from e in
      let before : List Entry = c.loop-block.listed.items in
      let rest : List Entry = filter listed (joined (drop (c.loop-block.block-index + 1) c.args.blocks.now)) in
      let whole =
      ap (λ rows. before ++ (filter listed rows ++ rest)) (c.as_slice.ensures ∙ c.get.ensures)
      ∙ (ap (λ l. before ++ l) (sym (block_first (filter listed) (filter-append listed) c.args.blocks.now c.loop-block.block-index c.block-item.result c.loop-block-test.true c.block-item.is)) ∙ c.loop-block.invariant.0) in
      is_full c.args.query.now.size before (filter listed c.as_slice.result.now) rest c.add_listed.new.listed.items (filter listed (joined c.args.blocks.now)) c.in_ok-add_listed.ensures.listed whole (sym c.if-branch.true ∙ c.in_ok-add_listed.ensures.more)

pub returns-then-branch-clause-listed : goal.returns-then-branch-clause-listed
returns-then-branch-clause-listed c = (full c).0

pub returns-then-branch-clause-next : goal.returns-then-branch-clause-next
returns-then-branch-clause-next c = rw (full c).1 (c.last_id-next.ensures ∙ ap last_id c.as_slice-then-branch.ensures.value)
