use Rattle.std.proofs.Common.{◌≤◌, ap, subst, arith, length, List}
use mathlib.Core.List.{IsPrefix}
use Rattle.shared_registry.specs.declared.entry.HistoryEntry.{HistoryEntry}
use Rattle.shared_registry.specs.Rules.{items_of}
use Rattle.shared_registry.proofs.Appending.{items_first}
use Rattle.shared_registry.proofs.Prefixes.{prefix_shorter}
use Rattle.shared_registry.proofs.history.HistoryPrefix.longer.Goals as goal

pub returns-then-self-other-clause-this : goal.returns-then-self-other-clause-this
returns-then-self-other-clause-this g c =
    let both = c.learn.new.self.log in
    let this : IsPrefix c.self.inside.seen.log both = subst (λ (l : List HistoryEntry). IsPrefix l both) (ap (λ s. s.log) c.again-both.ensures) c.learn.ensures.2 in
    let less : length (items_of c.self.inside.seen.log) ≤ length (items_of c.other.inside.seen.log) = omega (arith, c.self.invariant.0, c.other.invariant.0) in
    rw (c.again.ensures, ← c.self.view_is, ← c.other.view_is) (prefix_shorter (items_of c.self.inside.seen.log) (items_of c.other.inside.seen.log) (items_of both) (items_first _ both this) (items_first _ both c.learn.ensures.3) less)

pub returns-clause-that : goal.returns-clause-that
returns-clause-that g c =
    let both = c.learn.new.self.log in
    let this : IsPrefix c.self.inside.seen.log both = subst (λ (l : List HistoryEntry). IsPrefix l both) (ap (λ s. s.log) c.again-both.ensures) c.learn.ensures.2 in
    let less : length (items_of c.other.inside.seen.log) ≤ length (items_of c.self.inside.seen.log) = omega (arith, c.self.invariant.0, c.other.invariant.0) in
    rw (c.again-else-self-other.ensures, ← c.self.view_is, ← c.other.view_is) (prefix_shorter (items_of c.other.inside.seen.log) (items_of c.self.inside.seen.log) (items_of both) (items_first _ both c.learn.ensures.3) (items_first _ both this) less)
