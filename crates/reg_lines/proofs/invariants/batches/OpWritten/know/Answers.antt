use Rattle.std.proofs.Common.{None, codes, refl, subst}
use Rattle.serde_json.specs.Data.{string}
use Rattle.json.proofs.Printed.Utf8.{IsUtf8-are_ascii}
use Rattle.reg_lines.specs.RecordValues.{entry_op_data}
use Rattle.reg_lines.specs.Spelled.{IsTyped}
use Rattle.reg_lines.specs.Values.{uuid_data, whole}
use Rattle.reg_lines.proofs.Written.{children-typed, delete-typed, drop_bundle-typed, keyed-typed, set_bundle-typed}
use Rattle.reg_lines.proofs.invariants.batches.OpWritten.know.Goals as goal

pub returns-in-Create-clause-typed : goal.returns-in-Create-clause-typed
returns-in-Create-clause-typed c = rw c.in-Create.is (subst (λ e. IsTyped (entry_op_data (codes "create") e None)) c.get.ensures (c.know_entry.ensures.typed (codes "create") None (IsUtf8-are_ascii _ refl) tt))

pub returns-in-Update-clause-typed : goal.returns-in-Update-clause-typed
returns-in-Update-clause-typed c = rw c.in-Update.is (subst (λ e. IsTyped (entry_op_data (codes "update") e c.in-Update.expected)) c.get-in-Update.ensures (c.know_entry-in-Update.ensures.typed (codes "update") c.in-Update.expected (IsUtf8-are_ascii _ refl) c.know.ensures.typed))

pub returns-in-Delete-clause-typed : goal.returns-in-Delete-clause-typed
returns-in-Delete-clause-typed c = rw c.in-Delete.is (delete-typed c.in-Delete.id c.in-Delete.expected c.know-in-Delete.ensures.typed c.know-in-Delete-2.ensures.typed)

pub returns-in-Show-clause-typed : goal.returns-in-Show-clause-typed
returns-in-Show-clause-typed c = rw c.in-Show.is (keyed-typed (codes "id") (uuid_data c.in-Show.id) (codes "show") c.know-in-Show.ensures.typed (IsUtf8-are_ascii _ refl))

pub returns-in-ShowAgent-clause-typed : goal.returns-in-ShowAgent-clause-typed
returns-in-ShowAgent-clause-typed c = rw c.in-ShowAgent.is (keyed-typed (codes "agent") (string c.in-ShowAgent.id) (codes "show_agent") c.know-in-ShowAgent.ensures.typed (IsUtf8-are_ascii _ refl))

pub returns-in-ShowBundle-clause-typed : goal.returns-in-ShowBundle-clause-typed
returns-in-ShowBundle-clause-typed c = rw c.in-ShowBundle.is (keyed-typed (codes "domain") (string c.in-ShowBundle.domain) (codes "show_bundle") c.know-in-ShowBundle.ensures.typed (IsUtf8-are_ascii _ refl))

pub returns-in-Children-clause-typed : goal.returns-in-Children-clause-typed
returns-in-Children-clause-typed c = rw c.in-Children.is (children-typed c.in-Children.parent c.know-in-Children.ensures.typed)

pub returns-in-Authorised-clause-typed : goal.returns-in-Authorised-clause-typed
returns-in-Authorised-clause-typed c = rw c.in-Authorised.is (keyed-typed (codes "agent") (string c.in-Authorised.id) (codes "authorised") c.know-in-Authorised.ensures.typed (IsUtf8-are_ascii _ refl))

pub returns-in-Trust-clause-typed : goal.returns-in-Trust-clause-typed
returns-in-Trust-clause-typed c = rw c.in-Trust.is (keyed-typed (codes "agent") (string c.in-Trust.id) (codes "trust") c.know-in-Trust.ensures.typed (IsUtf8-are_ascii _ refl))

pub returns-in-Prune-clause-typed : goal.returns-in-Prune-clause-typed
returns-in-Prune-clause-typed c = rw c.in-Prune.is (keyed-typed (codes "before") (whole c.in-Prune.moment) (codes "prune") c.know-in-Prune.ensures.typed (IsUtf8-are_ascii _ refl))

pub returns-in-DropAgent-clause-typed : goal.returns-in-DropAgent-clause-typed
returns-in-DropAgent-clause-typed c = rw c.in-DropAgent.is (keyed-typed (codes "agent") (string c.in-DropAgent.id) (codes "drop_agent") c.know-in-DropAgent.ensures.typed (IsUtf8-are_ascii _ refl))

pub returns-in-SetBundle-clause-typed : goal.returns-in-SetBundle-clause-typed
returns-in-SetBundle-clause-typed c = rw c.in-SetBundle.is (set_bundle-typed c.in-SetBundle.domain c.in-SetBundle.text c.know-in-SetBundle.ensures.typed c.know-in-SetBundle-2.ensures.typed)

pub returns-in-DropBundle-clause-typed : goal.returns-in-DropBundle-clause-typed
returns-in-DropBundle-clause-typed c = rw c.in-DropBundle.is (drop_bundle-typed c.in-DropBundle.domain _ c.know-in-DropBundle.ensures.typed)
