use Rattle.std.proofs.Common.{◌≡◌, ℕ, List, Option, Some, None, refl, ap}
use Rattle.std.proofs.lemmas.Bool.{false≢true}
use Rattle.uuid.specs.Text.{parsed}
use Rattle.line_reading.specs.Fields.{uuid_of}
use Rattle.line_reading.proofs.fields.names.uuid_of.Goals as goal

none_from : (o : Option (List ℕ)) → ((u : List ℕ) → o ≡ Some u → ⊥) → o ≡ None
none_from None n = refl
none_from (Some u) n = absurd (n u refl)

pub returns-in-Err : goal.returns-in-Err
returns-in-Err c = rw c.at_key.ensures (ap (uuid_of c.args.key) (none_from (parsed c.args.text.now) (λ u p. false≢true (c.in-Err.ensures.ok.1 (u, p)))))
