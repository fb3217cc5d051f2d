-- A text is a valid trust domain exactly if it isn't refused as one.
use Rattle.std.proofs.Common.{◌≡◌, ◌∙◌, List, ℕ, None}
use Rattle.std.proofs.lemmas.Bool.{ltb-false}
use Rattle.spiffe_name.specs.Domain.{IsDomain, domain_refusal}
use Rattle.spiffe_name.proofs.Tables.{if_false, if_not, is_not, not_above, not_some, not_zero, zero_not}

pub IsDomain-from_none : (d : List ℕ) → domain_refusal d ≡ None → IsDomain d
unfolding domain_refusal
IsDomain-from_none d e =
    let a = not_some _ _ _ e in
    let b = not_some _ _ _ a.1 in
    record { full = not_zero _ a.0; short = ltb-false _ _ b.0; bytes = (is_not _ _ _ b.1).0 }

pub none_from_IsDomain : (d : List ℕ) → IsDomain d → domain_refusal d ≡ None
unfolding domain_refusal
none_from_IsDomain d h = if_false _ _ _ (zero_not _ h.full) ∙ (if_false _ _ _ (not_above _ _ h.short) ∙ if_not _ _ _ h.bytes)
