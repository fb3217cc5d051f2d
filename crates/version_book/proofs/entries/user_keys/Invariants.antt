use Rattle.std.proofs.Common.{◌≡◌, ◌++◌, drop, map}
use Rattle.version_book.specs.declared.key.KeyPart.TheVariants.{At}
use Rattle.version_book.specs.Index.{user_keys}
use Rattle.version_book.proofs.entries.user_keys.Given as goal

abbrev pub invariant-loop-domain : goal.invariant-loop-domain
invariant-loop-domain l = l.keys.items ++ map (λ d. (d, At l.entry.id)) (drop l.domain-index l.domain-items) ≡ user_keys l.entry
