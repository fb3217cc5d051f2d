use Rattle.std.proofs.Common.{rules, ◌≡◌, List, ℕ, take, ◌∙◌, ap}
use Rattle.sha2.specs.Sha256.{sha256}
use Rattle.hex.specs.Hex.{encode_lower}
use Rattle.line_log.specs.Hashes.{hash_of}
use Rattle.line_log.proofs.hashing.hash_so_far.Goals as goal

pub returns-clause-hash : goal.returns-clause-hash
unfolding hash_of
returns-clause-hash c text held =
    let digest : c.finalize-digest.result ≡ sha256 text = search rules in
    c.digits_of.ensures.is ∙ ap (λ (d : List ℕ). encode_lower (take 16 d)) digest
