use Rattle.std.proofs.Common.{◌≡◌, ◌++◌, sym, None, ap, ◌∙◌}
use Rattle.version_shelf.specs.Shelf.{get, rows_above}
use Rattle.version_shelf.proofs.First.{first_equal, first_greater, no_first}
use Rattle.version_shelf.proofs.leaf.part.Goals as goal
use Rattle.version_shelf.proofs.leaf.part.Goals.{in_default-via-in-Some+else-is_eq, in_default-via-in_default}

-- if the first row from the key on is at the key
pub returns-in-Some-clause-value : goal.returns-in-Some-clause-value
returns-in-Some-clause-value g c = rw c.value.ensures (sym (first_equal g.met.K.Ord.total _ _ c.requires.order _ c.split.ensures.others _ _ c.in-Some.ensures.cases.0 _ (c.compared.ensures.order ∙ ap (λ k. g.K.Ord.cmp k c.args.key.now) c.key.ensures) _ c.is_eq.ensures c.if-is_eq.true).0)

pub returns-in-Some-clause-above : goal.returns-in-Some-clause-above
returns-in-Some-clause-above g c = sym (first_equal g.met.K.Ord.total _ _ c.requires.order _ c.split.ensures.others _ _ c.in-Some.ensures.cases.0 _ (c.compared.ensures.order ∙ ap (λ k. g.K.Ord.cmp k c.args.key.now) c.key.ensures) _ c.is_eq.ensures c.if-is_eq.true).1

-- if it is above the key, or there is none
none_at : (g : _) (c : goal.In_default g) → (get g.K.Ord.cmp c.args.rows.now c.args.key.now ≡ None) × (rows_above g.K.Ord.cmp c.args.rows.now c.args.key.now ≡ c.split.result.1.now)
none_at g c = elim c.in_default.branch [
  | in_default-via-in-Some+else-is_eq w ↦ first_greater g.met.K.Ord.total _ _ c.requires.order _ c.split.ensures.others _ _ w.in-Some.ensures.cases.0 _ (w.compared.ensures.order ∙ ap (λ k. g.K.Ord.cmp k c.args.key.now) w.key.ensures) _ w.is_eq.ensures w.if-is_eq.false
  | in_default-via-in_default w ↦ no_first g.met.K.Ord.total _ _ c.requires.order _ c.split.ensures.others w.in_default.ensures.cases
]

pub returns-in_default-clause-value : goal.returns-in_default-clause-value
returns-in_default-clause-value g c = sym (none_at g c).0

pub returns-in_default-clause-above : goal.returns-in_default-clause-above
returns-in_default-clause-above g c = sym (none_at g c).1

pub returns-in-Some-clause-whole : goal.returns-in-Some-clause-whole
returns-in-Some-clause-whole g c = (c.in-Some.row.now, c.split.ensures.whole ∙ ap (λ l. c.split.result.0.now ++ l) c.in-Some.ensures.cases.0)
