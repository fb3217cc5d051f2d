use Rattle.std.proofs.Common.{rules, ◌≡◌, ◌++◌, ◌∷◌, [], true, false, arith, List, ℕ, length, sym, ◌∙◌, ap}
use Rattle.std.proofs.lemmas.List.{take-append-drop}
use Rattle.std.proofs.lemmas.Bool.{false≢true}
use Rattle.std.proofs.lemmas.Slice.Eq.{bytes_eq-Decides}
use Rattle.line_log.specs.Hashes.{hash_of, hashed_line}
use Rattle.line_log.proofs.HashLemmas.{other_hash, too_short}
use Rattle.line_log.proofs.hashing.take_line.Goals as goal

pub returns-clause-hashed : goal.returns-clause-hashed
returns-clause-hashed c is_right before held =
    let text = c.split_at.result.0.now in
    let tail = c.split_at.result.1.now in
    let line : c.extend_from_slice.new.self.items ≡ text = search rules in
    let both : c.args.found.now ≡ text ++ tail = search (rules, take-append-drop) in
    let right : c.is_hash.result ≡ true = search rules in
    let hash : tail ≡ 32 ∷ hash_of (before ++ text ++ 10 ∷ []) =
    (bytes_eq-Decides tail (32 ∷ c.in_ok-hash.hash)).0 (sym c.is_hash.ensures ∙ right) ∙ ap (λ (h : List ℕ). 32 ∷ h) (c.in_ok-hash.ensures.hash before held) in
    both ∙ ap (λ (t : List ℕ). text ++ t) hash ∙ ap (hashed_line before) (sym line)

pub returns-then-found-le-HASH_LEN-clause-wrong : goal.returns-then-found-le-HASH_LEN-clause-wrong
returns-then-found-le-HASH_LEN-clause-wrong c is_wrong before held other = too_short c.args.found.now before other (omega arith)

pub returns-then-not-is_hash-clause-wrong : goal.returns-then-not-is_hash-clause-wrong
returns-then-not-is_hash-clause-wrong c is_wrong before held other =
    let text = c.split_at.result.0.now in
    let tail = c.split_at.result.1.now in
    let hash = c.in_ok-hash.hash in
    let both : c.args.found.now ≡ text ++ tail = search (rules, take-append-drop) in
    let long : length tail ≡ 33 = omega (arith, c.split_at.ensures.back_len) in
    let no_hash : c.is_hash.result ≡ false = search rules in
    other_hash c.args.found.now text tail hash before other both long (c.in_ok-hash.ensures.hash before held)
    (λ (e : tail ≡ 32 ∷ hash). false≢true (sym no_hash ∙ c.is_hash.ensures ∙ (bytes_eq-Decides tail (32 ∷ hash)).1 e))
