-- The ids of a seed and of its streams.
use Rattle.std.proofs.Common.{◌≡◌, ℕ, zero, suc, ◌+◌, ◌*◌, ◌<◌, ◌++◌, List, refl, ap, ◌∙◌, arith}
use Rattle.std.specs.Prelude.{◌%◌, ◌^◌}
use Rattle.std.proofs.Math.Nat.{mod-eq_of_lt}
use Rattle.rand_core.specs.Steps.{u32_at}
use Rattle.rand_chacha.specs.Block.{block_word, double_rounds, diagonal_round, quarter_round, column_round}
use Rattle.rand_chacha.specs.ChaCha.{ChaCha, key_of}
use Rattle.uuid.proofs.OnLiterals.{uuid_on_literals}
use Rattle.uuid.specs.Parts.{with_variant, with_version}
use Rattle.uuid.specs.declared.Variant.TheVariants.{RFC4122}
use Rattle.uuid.specs.declared.Version.TheVariants.{Random}
use Rattle.line_reading.specs.Ids.{IsKnownFirst, AreOfTheirWords, ZeroIsTheSeeds, stream_ids, next_id, after_id, after_ids, words_on, next_bytes, stream_bytes}

pub known_first : IsKnownFirst
unfolding next_id u32_at block_word double_rounds diagonal_round quarter_round column_round uuid_on_literals
known_first = refl

abbrev at_place : List ℕ → ℕ → ℕ → ChaCha
at_place seed stream place = record { key = key_of seed; stream = stream; word_pos = place }

place_after : (seed : List ℕ) (stream n : ℕ) → 4 * n < 2 ^ 68 → after_ids n (stream_ids seed stream) ≡ at_place seed stream (4 * n)
unfolding after_id
place_after seed stream zero l = refl
place_after seed stream (suc n) l =
    let e : (4 * n + 4) % 2 ^ 68 ≡ 4 * n + 4 = mod-eq_of_lt (omega arith) in
    let f : 4 * n + 4 ≡ 4 * suc n = omega arith in
    ap (words_on 4) (place_after seed stream n (omega arith)) ∙ ap (at_place seed stream) (e ∙ f)

bytes_on : (seed : List ℕ) (stream place k : ℕ) → place + k < 2 ^ 68 → next_bytes (words_on k (at_place seed stream place)) ≡ stream_bytes seed stream (place + k)
bytes_on seed stream place k l = ap (stream_bytes seed stream) (mod-eq_of_lt l)

id_at_place : (seed : List ℕ) (stream place : ℕ) → place + 3 < 2 ^ 68
    → next_id (at_place seed stream place) ≡ with_version (with_variant (stream_bytes seed stream place ++ stream_bytes seed stream (place + 1) ++ stream_bytes seed stream (place + 2) ++ stream_bytes seed stream (place + 3)) RFC4122) Random
unfolding next_id
id_at_place seed stream place l =
    let ids = at_place seed stream place in
    let one = bytes_on seed stream place 1 (omega arith) in
    let two = bytes_on seed stream place 2 (omega arith) in
    let three = bytes_on seed stream place 3 l in
    ap (λ bytes. with_version (with_variant bytes RFC4122) Random)
    (ap (λ x. next_bytes ids ++ x ++ next_bytes (words_on 2 ids) ++ next_bytes (words_on 3 ids)) one
    ∙ (ap (λ x. next_bytes ids ++ stream_bytes seed stream (place + 1) ++ x ++ next_bytes (words_on 3 ids)) two
    ∙ ap (λ x. next_bytes ids ++ stream_bytes seed stream (place + 1) ++ stream_bytes seed stream (place + 2) ++ x) three))

pub of_their_words : AreOfTheirWords
of_their_words seed stream n l = ap next_id (place_after seed stream n (omega arith)) ∙ id_at_place seed stream (4 * n) l

pub zero_is_the_seeds : ZeroIsTheSeeds
zero_is_the_seeds seed = refl
