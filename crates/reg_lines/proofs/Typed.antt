-- Values whose parts satisfy the type invariants that a record needs.
use Rattle.std.proofs.Common.{ℕ, Ordering, Less, Equal, Greater, List}
use Rattle.std.specs.Ordering.{match_ordering}
use Rattle.serde_json.specs.Data.{Data, Members, no_members, member, put}
use Rattle.reg_lines.specs.Spelled.{IsTyped, MembersAreTyped}

typed_match : (o : Ordering) (a b c : Members) → MembersAreTyped a → MembersAreTyped b → MembersAreTyped c → MembersAreTyped (match_ordering o a b c)
typed_match Less a b c x y z = x
typed_match Equal a b c x y z = y
typed_match Greater a b c x y z = z

pub typed-put : (k : List ℕ) (d : Data) (ms : Members) → IsTyped d → MembersAreTyped ms → MembersAreTyped (put k d ms)
typed-put k d no_members t m = (t, tt)
typed-put k d (member l e ms) t m = typed_match _ (member k d (member l e ms)) (member l d ms) (member l e (put k d ms)) (t, m) (t, m.1) (m.0, typed-put k d ms t m.1)
