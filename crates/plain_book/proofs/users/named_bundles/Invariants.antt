use Rattle.std.proofs.Common.{◌≡◌, ◌++◌, drop}
use Rattle.std.specs.Prelude.{filter}
use Rattle.entry_book.specs.Ops.{is_named}
use Rattle.plain_book.proofs.users.named_bundles.Given as goal

abbrev pub invariant-loop-bundle : goal.invariant-loop-bundle
invariant-loop-bundle l = l.named.items ++ filter (is_named l.entries) (drop l.bundle-index l.bundles) ≡ filter (is_named l.entries) l.bundles
