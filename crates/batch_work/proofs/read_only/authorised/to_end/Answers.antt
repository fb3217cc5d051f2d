use Rattle.std.proofs.Common.{◌+◌, ◌≤◌, length, sym, ap, subst, ◌∙◌, arith}
use Rattle.std.proofs.lemmas.List.{length-map}
use Rattle.spiffe_name.specs.Id.{server_text}
use Rattle.entry_book.specs.Book.{children_of}
use Rattle.version_book.specs.CommittedRows.{row_of}
use Rattle.batch_work.specs.WalkStates.{WalkState, walked}
use Rattle.batch_work.specs.Windows.{book_in}
use Rattle.batch_work.proofs.Questions.{Walking, none_waits, walk_begins, walk_ends, walk_extends}
use Rattle.batch_work.proofs.read_only.authorised.to_end.Goals as goal

pub loop-init : goal.loop-init
loop-init c =
    let s = server_text c.args.version.now.domain in
    let b = book_in c.args.version.now in
    subst (Walking s c.args.agent.now b 0) (sym c.requires.begun) (walk_begins s c.args.agent.now b c.number.ensures.lawful.ascending)

pub returns-in-None : goal.returns-in-None
returns-in-None c =
    let s = server_text c.args.version.now.domain in
    let b = book_in c.args.version.now in
    ap (λ (w : WalkState). w.found) c.in-None.ensures.none.1
    ∙ walk_ends s c.args.agent.now b c.number.ensures.lawful.ascending c.loop.counter c.loop.walk c.loop.invariant c.in-None.ensures.none.0

pub loop-preserved : goal.loop-preserved
loop-preserved c =
    let s = server_text c.args.version.now.domain in
    let b = book_in c.args.version.now in
    let i = c.in-Some.identity in
    let taken = c.in-Some.ensures.some in
    subst (Walking s c.args.agent.now b (c.loop.counter + 1)) (sym (c.in_ok-read_children-in-Some.ensures ∙ (ap (λ j. walked (children_of j b) c.take_least.new.self) c.get.ensures ∙ ap (walked (children_of i b)) taken.1)))
    (walk_extends s c.args.agent.now b c.number.ensures.lawful.ascending c.loop.counter c.loop.walk i c.take_least.new.self.pending c.loop.invariant taken.0)

pub returns : goal.returns
returns c =
    let s = server_text c.args.version.now.domain in
    let b = book_in c.args.version.now in
    let over = c.loop-test.false in
    let count = ap (λ r. r.entries) c.count-end.ensures in
    let size = length-map c.args.version.now.rows.entries row_of in
    let end : length b.entries ≤ c.loop.counter = omega (arith, over, count, size) in
    walk_ends s c.args.agent.now b c.number.ensures.lawful.ascending c.loop.counter c.loop.walk c.loop.invariant
    (none_waits s c.args.agent.now b c.number.ensures.lawful.ascending c.loop.counter c.loop.walk c.loop.invariant end)
