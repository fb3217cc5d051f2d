use Rattle.std.proofs.Common.{◌≤◌, ap, subst, arith, length, List}
use Rattle.std.proofs.lemmas.Bool.Decides.{nat_tests}
use mathlib.Core.List.{IsPrefix}
use Rattle.shared_registry.specs.declared.entry.HistoryEntry.{HistoryEntry}
use Rattle.shared_registry.specs.Rules.{items_of}
use Rattle.shared_registry.proofs.Appending.{items_first}
use Rattle.shared_registry.proofs.Prefixes.{prefix_shorter}
use Rattle.shared_registry.proofs.history.HistoryPrefix.begins.Goals as goal

pub returns : goal.returns
returns g c t =
    let both = c.learn.new.self.log in
    let this : IsPrefix c.self.inside.seen.log both = subst (λ (l : List HistoryEntry). IsPrefix l both) (ap (λ s. s.log) c.again-both.ensures) c.learn.ensures.2 in
    let le : c.self.inside.items ≤ c.other.inside.items = grind (arith, nat_tests) in
    let less : length (items_of c.self.inside.seen.log) ≤ length (items_of c.other.inside.seen.log) = omega (arith, c.self.invariant.0, c.other.invariant.0) in
    rw (← c.self.view_is, ← c.other.view_is) (prefix_shorter (items_of c.self.inside.seen.log) (items_of c.other.inside.seen.log) (items_of both) (items_first _ both this) (items_first _ both c.learn.ensures.3) less)
