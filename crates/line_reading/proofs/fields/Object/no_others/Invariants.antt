use Rattle.std.proofs.Common.{◌≡◌}
use Rattle.std.specs.List.Sorted.{IsStrictlySortedBy}
use Rattle.std.specs.Map.{keys_of}
use Rattle.std.specs.String.{string_cmp}
use Rattle.serde_json.specs.View.{members_view}
use Rattle.line_reading.specs.Fields.{no_others}
use Rattle.line_reading.proofs.fields.Object.no_others.Given as goal

abbrev pub invariant-loop-name : goal.invariant-loop-name
invariant-loop-name l =
    IsStrictlySortedBy string_cmp (keys_of l.name-iterator)
    × (no_others l.keys (members_view l.name-iterator) ≡ no_others l.keys (members_view l.self.members.now.entries))
