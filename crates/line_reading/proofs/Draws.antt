-- Four words, drawn one after another.
use Rattle.std.proofs.Common.{◌≡◌, ℕ, ◌+◌, ◌++◌, List, refl, ap, ◌∙◌, arith}
use Rattle.std.specs.Prelude.{◌%◌, ◌^◌}
use Rattle.std.proofs.Math.Nat.{mod-add-mod}
use Rattle.std.specs.Int.{w32, to_le_bytes}
use Rattle.rand_chacha.specs.ChaCha.{ChaCha, next_word}
use Rattle.uuid.specs.Parts.{with_variant, with_version}
use Rattle.uuid.specs.declared.Variant.TheVariants.{RFC4122}
use Rattle.uuid.specs.declared.Version.TheVariants.{Random}
use Rattle.line_reading.specs.Ids.{words_on, next_bytes, next_id, after_id}

mod_once : (p n m k : ℕ) → ((p + n) % k + m) % k ≡ (p + (n + m)) % k
mod_once p n m k = mod-add-mod (p + n) k m ∙ ap (λ x. x % k) (let e : p + n + m ≡ p + (n + m) = omega arith in e)

words_on-more : (n m : ℕ) (ids : ChaCha) → words_on m (words_on n ids) ≡ words_on (n + m) ids
words_on-more n m ids = ap (λ p. record ids { word_pos = p }) (mod_once ids.word_pos n m (2 ^ 68))

-- the generator after one more word
one_more : (n : ℕ) (ids a b : ChaCha) (w : ℕ) → a ≡ words_on n ids → (w, b) ≡ next_word 10 a → b ≡ words_on (n + 1) ids
one_more n ids a b w e d = ap (λ p. p.1) d ∙ (ap (words_on 1) e ∙ words_on-more n 1 ids)

bytes_at : (ids a b : ChaCha) (w : ℕ) → a ≡ ids → (w, b) ≡ next_word 10 a → to_le_bytes w32 w ≡ next_bytes ids
bytes_at ids a b w e d = ap (λ p. to_le_bytes w32 p.0) d ∙ ap next_bytes e

pub drawn-id : (ids a b c d : ChaCha) (k l m n : ℕ) (id : List ℕ) → (k, a) ≡ next_word 10 ids → (l, b) ≡ next_word 10 a → (m, c) ≡ next_word 10 b → (n, d) ≡ next_word 10 c
    → id ≡ with_version (with_variant (to_le_bytes w32 k ++ to_le_bytes w32 l ++ to_le_bytes w32 m ++ to_le_bytes w32 n) RFC4122) Random → id ≡ next_id ids
unfolding next_id
drawn-id ids a b c d k l m n id e f g h i =
    let p : a ≡ words_on 1 ids = ap (λ p. p.1) e in
    let q : b ≡ words_on 2 ids = one_more 1 ids a b l p f in
    let r : c ≡ words_on 3 ids = one_more 2 ids b c m q g in
    let s : to_le_bytes w32 k ≡ next_bytes ids = bytes_at ids ids a k refl e in
    let t : to_le_bytes w32 l ≡ next_bytes (words_on 1 ids) = bytes_at (words_on 1 ids) a b l p f in
    let u : to_le_bytes w32 m ≡ next_bytes (words_on 2 ids) = bytes_at (words_on 2 ids) b c m q g in
    let v : to_le_bytes w32 n ≡ next_bytes (words_on 3 ids) = bytes_at (words_on 3 ids) c d n r h in
    i ∙ ap (λ bytes. with_version (with_variant bytes RFC4122) Random)
    (ap (λ x. x ++ to_le_bytes w32 l ++ to_le_bytes w32 m ++ to_le_bytes w32 n) s
    ∙ (ap (λ x. next_bytes ids ++ x ++ to_le_bytes w32 m ++ to_le_bytes w32 n) t
    ∙ (ap (λ x. next_bytes ids ++ next_bytes (words_on 1 ids) ++ x ++ to_le_bytes w32 n) u
    ∙ ap (λ x. next_bytes ids ++ next_bytes (words_on 1 ids) ++ next_bytes (words_on 2 ids) ++ x) v)))

pub drawn-after : (ids a b c d : ChaCha) (k l m n : ℕ) → (k, a) ≡ next_word 10 ids → (l, b) ≡ next_word 10 a → (m, c) ≡ next_word 10 b → (n, d) ≡ next_word 10 c → d ≡ after_id ids
unfolding after_id
drawn-after ids a b c d k l m n e f g h =
    let p : a ≡ words_on 1 ids = ap (λ p. p.1) e in
    let q : b ≡ words_on 2 ids = one_more 1 ids a b l p f in
    let r : c ≡ words_on 3 ids = one_more 2 ids b c m q g in
    one_more 3 ids c d n r h
