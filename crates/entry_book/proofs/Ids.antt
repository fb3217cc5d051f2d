-- The parts of an ID, as its text shows them.
use Rattle.std.proofs.Common.{◌≡◌, ℕ, ◌+◌, Bool, true, false, ◌==◌, List, [], ◌∷◌, ◌++◌, length, drop, take, refl, sym, ap, subst, ◌∙◌, arith, codes, nat_eq, not}
use Rattle.std.specs.List.{AllByRecursion, list_all, position_or_len, starts_with}
use Rattle.std.proofs.Math.Seq.{take-append_seam, drop-append_seam, drop-append-add}
use Rattle.std.proofs.lemmas.Bool.{and_parts, both_ways}
use Rattle.std.proofs.lemmas.Bool.Decides.{nat_tests, Decides-eqb}
use Rattle.std.proofs.lemmas.Slice.Eq.{starts_is}
use Rattle.spiffe_name.specs.Domain.{is_domain_byte}
use Rattle.spiffe_name.specs.Id.{is_path_byte, is_slash, IsSegment, Spells, path_text, prefix, domain_of, path_of}
use Rattle.entry_book.specs.Rows.{Bytes, IsId}
use Rattle.entry_book.specs.Faultless.{IsIdOf, IsAgentIdOf}
use Rattle.entry_book.specs.Batches.{is_foreign, has_no_path, is_agent_path}
use Rattle.entry_book.proofs.Sets.{text_is, text_same}

-- ---- domain and path

not_slash : (b : ℕ) → is_domain_byte b ≡ true → is_slash b ≡ false
not_slash b h = grind (arith, nat_tests)

domain_end : (d : Bytes) (ss : List Bytes) → list_all is_domain_byte d ≡ true → position_or_len is_slash (d ++ path_text ss) ≡ length d
domain_end [] [] h = refl
domain_end [] (s ∷ ss) h = refl
domain_end (b ∷ d) ss h =
    let k = and_parts _ _ h in
    let e = domain_end d ss k.1 in
    rw (not_slash b k.0, e) (omega arith)

domain_is : (id d : Bytes) (ss : List Bytes) → Spells id d ss → domain_of id ≡ d
domain_is id d ss h = ap domain_of h.joined ∙ (ap (λ n. take n (d ++ path_text ss)) (domain_end d ss h.is_domain.bytes) ∙ take-append_seam d (path_text ss))

path_is : (id d : Bytes) (ss : List Bytes) → Spells id d ss → path_of id ≡ path_text ss
path_is id d ss h =
    ap (λ e. drop (9 + length e) id) (domain_is id d ss h) ∙ (ap (drop (9 + length d)) h.joined ∙ (drop-append-add prefix (d ++ path_text ss) (length d) ∙ drop-append_seam d (path_text ss)))

-- ---- an ID of a trust domain

pub not_false : (t : Bool) → not t ≡ false → t ≡ true
not_false true h = refl
not_false false h = cc

own_is : (own_domain id d : Bytes) (ss : List Bytes) → Spells id d ss → is_foreign own_domain id ≡ false → d ≡ own_domain
own_is own_domain id d ss h f = sym (domain_is id d ss h) ∙ text_is (domain_of id) own_domain (not_false _ f)

not_foreign : (own_domain id : Bytes) (ss : List Bytes) → Spells id own_domain ss → is_foreign own_domain id ≡ false
not_foreign own_domain id ss h = ap not (text_same (domain_of id) own_domain (domain_is id own_domain ss h))

with_path : (own_domain id : Bytes) (ss : List Bytes) → Spells id own_domain ss → has_no_path id ≡ false → IsIdOf own_domain id
with_path own_domain id [] h n = absurd (both_ways (has_no_path id) n (ap (λ p. length p == 0) (path_is id own_domain [] h)))
with_path own_domain id (s ∷ ss) h n = (s, ss, h)

pub id_of : (own_domain id : Bytes) → IsId id → is_foreign own_domain id ≡ false → has_no_path id ≡ false → IsIdOf own_domain id
id_of own_domain id i f n = with_path own_domain id i.1 (subst (λ d. Spells id d i.1) (own_is own_domain id i.0 i.1 i.2 f) i.2) n

pub some : {X : Type 0} (x : X) (xs : List X) → (length (x ∷ xs) == 0) ≡ false
some x xs = grind (arith, nat_tests)

pub from_id_of : (own_domain id : Bytes) → IsIdOf own_domain id → (is_foreign own_domain id ≡ false) × (has_no_path id ≡ false)
from_id_of own_domain id i = (not_foreign own_domain id (i.0 ∷ i.1) i.2, ap (λ p. length p == 0) (path_is id own_domain (i.0 ∷ i.1) i.2) ∙ some 47 (i.0 ++ path_text i.1))

-- ---- an agent's ID

-- if a slash follows both, the segments before it are the same
cut : (s w r : Bytes) (ss : List Bytes) → list_all is_path_byte s ≡ true → list_all is_path_byte w ≡ true → s ++ path_text ss ≡ w ++ 47 ∷ r → (s ≡ w) × (path_text ss ≡ 47 ∷ r)
cut [] [] r ss h k e = (refl, e)
cut [] (x ∷ w) r [] h k e = cc
cut [] (x ∷ w) r (t ∷ ss) h k e = cc
cut (x ∷ s) [] r ss h k e = cc
cut (x ∷ s) (y ∷ w) r ss h k e =
    let q : x ≡ y = cc in
    let l : s ++ path_text ss ≡ w ++ 47 ∷ r = cc in
    let rest : (s ≡ w) × (path_text ss ≡ 47 ∷ r) = cut s w r ss (and_parts _ _ h).1 (and_parts _ _ k).1 l in
    (ap (λ b. b ∷ s) q ∙ ap (λ bs. y ∷ bs) rest.0, rest.1)

first_segment : (w r : Bytes) (ss : List Bytes) → AllByRecursion IsSegment ss → list_all is_path_byte w ≡ true → path_text ss ≡ 47 ∷ (w ++ 47 ∷ r) → (more : List Bytes) × (ss ≡ w ∷ more) × (path_text more ≡ 47 ∷ r)
first_segment w r [] h k e = cc
first_segment w r (s ∷ ss) h k e =
    let l : s ++ path_text ss ≡ w ++ 47 ∷ r = cc in
    let c = cut s w r ss h.0.bytes k l in
    (ss, ap (λ x. x ∷ ss) c.0, c.1)

agent_segments : (own_domain id : Bytes) (ss : List Bytes) (r : Bytes) → Spells id own_domain ss → path_text ss ≡ 47 ∷ (codes "spire" ++ 47 ∷ (codes "agent" ++ 47 ∷ r)) → IsAgentIdOf own_domain id
agent_segments own_domain id ss r h e =
    let p = first_segment (codes "spire") (codes "agent" ++ 47 ∷ r) ss h.are_segments refl e in
    let segments : AllByRecursion IsSegment (codes "spire" ∷ p.0) = subst (AllByRecursion IsSegment) p.1 h.are_segments in
    let q = first_segment (codes "agent") r p.0 segments.1 refl p.2 in
    extends q.0 (p.1 ∙ ap (λ more. codes "spire" ∷ more) q.1) q.2
  where
    extends : (more : List Bytes) → ss ≡ codes "spire" ∷ codes "agent" ∷ more → path_text more ≡ 47 ∷ r → IsAgentIdOf own_domain id
    extends [] q k = cc
    extends (s ∷ more) q k = (s, more, subst (Spells id own_domain) q h)

starts : (path : Bytes) → (is_agent_path path ≡ true → path ≡ codes "/spire/agent/" ++ drop 13 path) × ((rest : Bytes) → path ≡ codes "/spire/agent/" ++ rest → is_agent_path path ≡ true)
starts path = starts_is Decides-eqb path (codes "/spire/agent/") (starts_with nat_eq path (codes "/spire/agent/")) refl

pub agent_id_of : (own_domain id : Bytes) → IsId id → is_foreign own_domain id ≡ false → is_agent_path (path_of id) ≡ true → IsAgentIdOf own_domain id
agent_id_of own_domain id i f a =
    let h : Spells id own_domain i.1 = subst (λ d. Spells id d i.1) (own_is own_domain id i.0 i.1 i.2 f) i.2 in
    agent_segments own_domain id i.1 (drop 13 (path_of id)) h (sym (path_is id own_domain i.1 h) ∙ (starts (path_of id)).0 a)

pub from_agent_id_of : (own_domain id : Bytes) → IsAgentIdOf own_domain id → (is_foreign own_domain id ≡ false) × (is_agent_path (path_of id) ≡ true)
from_agent_id_of own_domain id i =
    let ss : List Bytes = codes "spire" ∷ codes "agent" ∷ i.0 ∷ i.1 in
    (not_foreign own_domain id ss i.2, (starts (path_of id)).1 (i.0 ++ path_text i.1) (path_is id own_domain ss i.2))
