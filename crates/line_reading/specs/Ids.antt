-- The ids that a server gives: version 4 UUIDs (RFC 9562, section 5.4) of the words of a ChaCha20 stream.
use Rattle.std.specs.Prelude.{◌≡◌, ℕ, zero, suc, ◌+◌, ◌*◌, ◌%◌, ◌^◌, ◌<◌, List, ◌++◌, replicate, Option, None, Some, codes}
use Rattle.std.specs.Int.{w32, to_le_bytes}
use Rattle.rand_chacha.specs.ChaCha.{ChaCha, key_of, of_seed, word_at}
use Rattle.uuid.specs.Parts.{with_variant, with_version}
use Rattle.uuid.specs.Text.{hyphenated_text, lower}
use Rattle.uuid.specs.declared.Variant.TheVariants.{RFC4122}
use Rattle.uuid.specs.declared.Version.TheVariants.{Random}

-- the generator of a seed, before the first word of stream 0
abbrev pub first_ids : List ℕ → ChaCha
first_ids seed = of_seed seed

-- the generator of a seed, before the first word of this stream; the stream's number is the cipher's nonce
abbrev pub stream_ids : List ℕ → ℕ → ChaCha
stream_ids seed stream = record (of_seed seed) { stream = stream }

-- the generator after this number of further words; a stream repeats after 2 ^ 68 words
abbrev pub words_on : ℕ → ChaCha → ChaCha
words_on n ids = record ids { word_pos = (ids.word_pos + n) % 2 ^ 68 }

-- the next word, of the cipher with ten double rounds, as four bytes in little-endian order
abbrev pub next_bytes : ChaCha → List ℕ
next_bytes ids = to_le_bytes w32 (word_at 10 ids.key ids.stream ids.word_pos)

-- the next four words are the id, except for the bits of the version and the variant
unfoldable pub next_id : ChaCha → List ℕ
next_id ids = with_version (with_variant (next_bytes ids ++ next_bytes (words_on 1 ids) ++ next_bytes (words_on 2 ids) ++ next_bytes (words_on 3 ids)) RFC4122) Random

unfoldable pub after_id : ChaCha → ChaCha
after_id ids = words_on 4 ids

-- an entry's id, and the ids that are left; an id is drawn only if none is given
abbrev pub given_or_drawn : Option (List ℕ) → ChaCha → List ℕ × ChaCha
given_or_drawn (Some id) ids = (id, ids)
given_or_drawn None ids = (next_id ids, after_id ids)

-- ---- theorems on the ids of a seed

-- the generator after this number of ids
abbrev pub after_ids : ℕ → ChaCha → ChaCha
after_ids zero ids = ids
after_ids (suc n) ids = after_id (after_ids n ids)

-- the word at an index of a stream, as four bytes in little-endian order
abbrev pub stream_bytes : List ℕ → ℕ → ℕ → List ℕ
stream_bytes seed stream place = to_le_bytes w32 (word_at 10 (key_of seed) stream place)

-- while the stream has not ended, the id after n others is made of its words 4n to 4n + 3
abbrev pub AreOfTheirWords : Type 0
AreOfTheirWords = (seed : List ℕ) (stream n : ℕ) → 4 * n + 3 < 2 ^ 68
    → next_id (after_ids n (stream_ids seed stream)) ≡ with_version (with_variant (stream_bytes seed stream (4 * n) ++ stream_bytes seed stream (4 * n + 1) ++ stream_bytes seed stream (4 * n + 2) ++ stream_bytes seed stream (4 * n + 3)) RFC4122) Random

-- the ids of a seed, which is the key of the stream cipher, are those of its stream 0
abbrev pub ZeroIsTheSeeds : Type 0
ZeroIsTheSeeds = (key : List ℕ) → stream_ids key 0 ≡ first_ids key

-- the first id of the seed of zeros
abbrev pub IsKnownFirst : Type 0
IsKnownFirst = hyphenated_text lower (next_id (first_ids (replicate 32 0))) ≡ codes "76b8e0ad-a0f1-4d90-805d-6ae55386bd28"
