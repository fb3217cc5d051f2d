-- The grammar of a trust domain (SPIFFE-ID, sections 2.1 and 2.3).
use Rattle.std.specs.Prelude.{ℕ, ◌<◌, ◌≤◌, Bool, ◌||◌, ◌==◌, not, List, codes, length, nat_lt, IsTrue, Option, None}
use Rattle.std.specs.Char.{is_ascii_digit, is_ascii_lowercase}
use Rattle.std.specs.List.{list_all, list_any}
use Rattle.spiffe_name.specs.declared.refusals.IdRefusal.{IdRefusal}
use Rattle.spiffe_name.specs.declared.refusals.IdRefusal.TheVariants.{NoDomain, DomainTooLong, DomainChar}
use Rattle.spiffe_name.specs.Failures.{refuse_if}

-- whether a trust domain may contain this byte
abbrev pub is_domain_byte : ℕ → Bool
is_domain_byte b = is_ascii_lowercase b || is_ascii_digit b || list_any (λ c. b == c) (codes ".-_")

-- a text that names a trust domain
pub record IsDomain (domain : List ℕ) : Type 0 where
  pub full : 0 < length domain
  pub short : length domain ≤ 255
  pub bytes : IsTrue (list_all is_domain_byte domain)

-- the first refusal that applies to the text, if any
unfoldable pub domain_refusal : List ℕ → Option IdRefusal
domain_refusal d =
    refuse_if (length d == 0) NoDomain (
    refuse_if (nat_lt 255 (length d)) DomainTooLong (
    refuse_if (not (list_all is_domain_byte d)) DomainChar
    None))
