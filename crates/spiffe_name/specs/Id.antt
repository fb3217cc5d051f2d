-- The grammar of a SPIFFE ID (SPIFFE-ID, sections 2.1 to 2.3), as a concatenation of parts.
use Rattle.std.specs.Prelude.{◌≡◌, ◌≢◌, ℕ, ◌<◌, ◌≤◌, ◌+◌, Bool, ◌||◌, ◌==◌, not, List, [], ◌∷◌, ◌++◌, length, drop, codes, bytes_eq, nat_lt, nat_eq, IsTrue, Option, Some, None}
use Rattle.std.specs.Char.{is_ascii_uppercase}
use Rattle.std.specs.List.{AllByRecursion, list_all, slice_split, starts_with, before_first}
use Rattle.spiffe_name.specs.declared.refusals.IdRefusal.{IdRefusal}
use Rattle.spiffe_name.specs.declared.refusals.IdRefusal.TheVariants.{TooLong, Scheme, NoDomain, EmptySegment, DotSegment, PathChar}
use Rattle.spiffe_name.specs.Domain.{is_domain_byte, IsDomain, domain_refusal}
use Rattle.spiffe_name.specs.Failures.{refuse_if}

-- whether a segment may contain this byte
abbrev pub is_path_byte : ℕ → Bool
is_path_byte b = is_domain_byte b || is_ascii_uppercase b

-- one segment of a path
pub record IsSegment (segment : List ℕ) : Type 0 where
  pub full : 0 < length segment
  pub no_dot : segment ≢ codes "."
  pub no_dots : segment ≢ codes ".."
  pub bytes : IsTrue (list_all is_path_byte segment)

-- the text of a path: a slash before each segment
abbrev pub path_text : List (List ℕ) → List ℕ
path_text [] = []
path_text (s ∷ ss) = codes "/" ++ s ++ path_text ss

-- the start of each ID
abbrev pub prefix : List ℕ
prefix = codes "spiffe://"

-- The text spells a valid domain and valid segments: it is the prefix, the domain, and a slash before each segment, in at
-- most 2,048 bytes.
pub record Spells (text domain : List ℕ) (segments : List (List ℕ)) : Type 0 where
  pub joined : text ≡ prefix ++ domain ++ path_text segments
  pub fits : length text ≤ 2048
  pub is_domain : IsDomain domain
  pub are_segments : AllByRecursion IsSegment segments

-- the path segments of the ID of a domain's server
abbrev pub server_segments : List (List ℕ)
server_segments = codes "spire" ∷ codes "server" ∷ []

-- the text of the ID of a domain's server
abbrev pub server_text : List ℕ → List ℕ
server_text domain = prefix ++ domain ++ path_text server_segments

-- ---- the first refusal that applies to a text, over its parts between slashes

abbrev pub is_slash : ℕ → Bool
is_slash b = b == 47

abbrev pub or_else : {A : Type 0} → Option A → Option A → Option A
or_else (Some x) o = Some x
or_else None o = o

-- the first refusal that applies to a segment, if any
unfoldable pub segment_refusal : List ℕ → Option IdRefusal
segment_refusal s =
    refuse_if (length s == 0) EmptySegment (
    refuse_if (bytes_eq s (codes ".") || bytes_eq s (codes "..")) DotSegment (
    refuse_if (not (list_all is_path_byte s)) PathChar
    None))

-- the refusal of the first segment that has one
abbrev pub segments_refusal : List (List ℕ) → Option IdRefusal
segments_refusal [] = None
segments_refusal (s ∷ ss) = or_else (segment_refusal s) (segments_refusal ss)

-- the first part is the domain, and the others are the segments; a text always has a first part
abbrev pub parts_refusal : List (List ℕ) → Option IdRefusal
parts_refusal [] = Some NoDomain
parts_refusal (d ∷ ss) = or_else (domain_refusal d) (segments_refusal ss)

-- the first refusal that applies to the text of an ID, if any
unfoldable pub id_refusal : List ℕ → Option IdRefusal
id_refusal text =
    refuse_if (nat_lt 2048 (length text)) TooLong (
    refuse_if (not (starts_with nat_eq text prefix)) Scheme (
    parts_refusal (slice_split is_slash (drop (length prefix) text))))

-- ---- the parts of an ID, found in its text

-- the text after the prefix, up to the first slash there
abbrev pub domain_of : List ℕ → List ℕ
domain_of text = before_first is_slash (drop (length prefix) text)

-- the text after the domain
abbrev pub path_of : List ℕ → List ℕ
path_of text = drop (length prefix + length (domain_of text)) text
