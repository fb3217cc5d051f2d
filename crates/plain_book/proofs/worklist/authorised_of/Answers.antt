use Rattle.std.proofs.Common.{◌++◌, [], length, sym, ap, subst, ◌∙◌, arith}
use Rattle.std.specs.Prelude.{filter, bytes_eq}
use Rattle.std.proofs.lemmas.List.{nil_from_length}
use Rattle.spiffe_name.specs.Id.{server_text}
use Rattle.spiffe_name.specs.SelectorSet.{is_within}
use Rattle.plain_book.specs.Found.{is_missing}
use Rattle.plain_book.proofs.FoundEntries.{filter_both}
use Rattle.plain_book.proofs.Reached.{Turn, Walked, at_end, first_found, found_at_start, turn, turn_smaller, waiting_at_start}
use Rattle.plain_book.proofs.worklist.authorised_of.Goals as goal

pub loop-parent-init : goal.loop-parent-init
loop-parent-init c =
    let s = server_text c.args.own_domain.now in
    let a = c.args.agent.now in
    let es = c.args.entries.now in
    let order = c.in_ok-aliases.ensures.order in
    let aliases = c.in_ok-aliases.ensures.found ∙ ap (λ k. filter (λ e. bytes_eq e.parent k) es) c.in_ok-server.ensures.id in
    let starts =
    c.in_ok-starts.ensures
    ∙ (ap (filter (λ e. is_within e.selectors a.selectors)) (c.as_slice.ensures.value ∙ aliases)
    ∙ filter_both (λ e. bytes_eq e.parent s) (λ e. is_within e.selectors a.selectors) es) in
    let own_domain = c.in_ok-agent_children.ensures.found ∙ ap (λ k. filter (λ e. bytes_eq e.parent k) es) c.get-own_id.ensures in
    let starts_now = c.as_slice-2.ensures.value ∙ starts in
    let own_now = c.as_slice-3.ensures.value ∙ own_domain in
    let none = c.new-found.ensures.items in
    let first = first_found s a es order c.as_slice-2.result.now c.new-found.result.items c.reach.new.found.items starts_now none c.in_ok-reach.ensures.found in
    let before = c.in_ok-reach.ensures.pending ∙ ap (λ l. l ++ filter (is_missing c.new-found.result.items) c.as_slice-2.result.now) c.new-pending.ensures.items in (
      [],
      found_at_start s a es order c.reach.new.found.items c.as_slice-3.result.now c.reach-2.new.found.items first own_now c.in_ok-reach-2.ensures.found,
      waiting_at_start s a es order c.as_slice-2.result.now c.new-found.result.items c.reach.new.found.items c.as_slice-3.result.now c.reach.new.pending.items c.reach-2.new.pending.items starts_now none first own_now before c.in_ok-reach-2.ensures.pending,
      order,
      c.in_ok-reach-2.ensures.order,
    )

module _ (c : goal.After-drop-parent-inside-in-Some) where
  this_turn : Turn (server_text c.args.own_domain.now) c.args.agent.now c.args.entries.now c.in_ok-aliases.ensures.order c.loop-parent.invariant.0 c.get-identity.result.now c.in-Some.parent c.as_slice-in-Some.result.now c.loop-parent.found.items c.reach-in-Some.new.found.items c.pop.new.self.items c.reach-in-Some.new.pending.items
  this_turn = record {
    identity = c.get-identity.ensures ∙ c.identity.ensures;
    read = c.as_slice-in-Some.ensures.value ∙ c.in_ok-children.ensures.found;
    found_before = c.loop-parent.invariant.1;
    found = c.in_ok-reach-3.ensures.found;
    waiting = c.in_ok-reach-3.ensures.pending;
  }

pub loop-parent-preserved : goal.loop-parent-preserved
loop-parent-preserved c =
    let s = server_text c.args.own_domain.now in
    let a = c.args.agent.now in
    let es = c.args.entries.now in
    let read = c.loop-parent.invariant.0 in
    let walked = subst (Walked s a es read) c.in-Some.ensures.items c.loop-parent.invariant.2 in
    let t = turn s a es c.in_ok-aliases.ensures.order read c.get-identity.result.now c.in-Some.parent c.as_slice-in-Some.result.now c.loop-parent.found.items c.reach-in-Some.new.found.items c.pop.new.self.items c.reach-in-Some.new.pending.items (this_turn c) walked in
    (t.0, t.1, t.2, c.in_ok-aliases.ensures.order, c.in_ok-reach-3.ensures.order)

pub loop-parent-smaller : goal.loop-parent-smaller
loop-parent-smaller c =
    let s = server_text c.args.own_domain.now in
    let a = c.args.agent.now in
    let es = c.args.entries.now in
    let smaller = turn_smaller s a es c.in_ok-aliases.ensures.order c.loop-parent.invariant.0 c.get-identity.result.now c.in-Some.parent c.as_slice-in-Some.result.now c.loop-parent.found.items c.reach-in-Some.new.found.items c.pop.new.self.items c.reach-in-Some.new.pending.items (this_turn c) in
    let waited = ap length c.in-Some.ensures.items in
    omega arith

pub returns : goal.returns
returns c =
    let s = server_text c.args.own_domain.now in
    let a = c.args.agent.now in
    let es = c.args.entries.now in
    let read = c.loop-parent.invariant.0 in
    let none = nil_from_length c.loop-parent.pending.items (sym c.loop-parent.pending.ok.0 ∙ c.in_default.ensures.cases.0) in
    c.loop-parent.invariant.1 ∙ at_end s a es read (subst (Walked s a es read) none c.loop-parent.invariant.2)
