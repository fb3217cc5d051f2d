use Rattle.std.proofs.Common.{◌≡◌, ap, subst, ◌∙◌, rules}
use Rattle.std.specs.Prelude.{map, filter}
use Rattle.std.specs.List.Sorted.{IsPermutation}
use Rattle.std.proofs.lemmas.List.Sorted.{IsNonDecreasingBy-from_sort_by_key}
use Rattle.std.proofs.lemmas.Result.{IfOk-weaker}
use Rattle.call_machine.specs.Calls.{MachineState}
use Rattle.call_machine.specs.Laws.{is_listed, turn_of, turn_in, number_of_turn}
use Rattle.call_machine.specs.Kept.{head_domain}
use Rattle.call_machine.proofs.Slots.{listed_turns}
use Rattle.call_machine.proofs.Whole.{headline_holds, replies_held}
use Rattle.call_machine.proofs.machine.Machine.order.Goals as goal

pub returns-clause-order : goal.returns-clause-order
returns-clause-order c =
    let sorted = c.sort_by_key.new.self.items in
    let h = c.self.inside.head in
    let es = c.self.inside.calls.entries in
    let listed : c.in_ok-turns.turns.items ≡ map turn_of (filter is_listed c.args.self.now.calls) = c.in_ok-turns.ensures ∙ (listed_turns (head_domain h) h.kept es c.self.invariant.rest ∙ ap (λ (s : MachineState). map turn_of (filter is_listed s.calls)) c.self.view_is) in
    IfOk-weaker c.numbers_of.result _ _ (λ order h. record {
      turns = sorted;
      listed = subst (λ l. IsPermutation l sorted) listed c.sort_by_key.ensures.permutation;
      by_turn = IsNonDecreasingBy-from_sort_by_key turn_in sorted c.in_ok-sort_by_key.ensures.sorted (λ a r f k. search rules);
      numbers = h ∙ ap (map number_of_turn) c.deref.ensures.value;
    }) c.numbers_of.ensures

pub returns-clause-headline : goal.returns-clause-headline
returns-clause-headline c = IfOk-weaker c.numbers_of.result _ _ (λ order o own_domain events answers r. headline_holds own_domain events answers c.args.self.now order.items r o) (returns-clause-order c)

pub returns-clause-held : goal.returns-clause-held
returns-clause-held c = IfOk-weaker c.numbers_of.result _ _ (λ order o own_domain events answers r. replies_held own_domain events answers c.args.self.now order.items r o) (returns-clause-order c)
