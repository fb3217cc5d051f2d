-- Floating-point numbers, item by item.
use Rattle.std.proofs.Common.{◌≡◌, Bool, List, ◌∷◌, ap}
use Rattle.std.specs.Prelude.{◌||◌}
use Rattle.serde_json.specs.View.{items_view, members_view, view}
use Rattle.serde_json.specs.Written.{has_float, items_have_float, members_have_float}
use Rattle.serde_json.specs.declared.value.Value.{Value}
use Rattle.serde_json.proofs.Views.{Entry}

pub first_item : (x : Value) (xs : List Value) (b : Bool) → has_float (view x) ≡ b → items_have_float (items_view (x ∷ xs)) ≡ (b || items_have_float (items_view xs))
first_item x xs b e = ap (λ f. f || items_have_float (items_view xs)) e

pub first_member : (x : Entry) (xs : List Entry) (b : Bool) → has_float (view x.1) ≡ b → members_have_float (members_view (x ∷ xs)) ≡ (b || members_have_float (members_view xs))
first_member x xs b e = ap (λ f. f || members_have_float (members_view xs)) e
