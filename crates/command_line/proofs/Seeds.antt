-- Texts that represent no seed.
use Rattle.std.proofs.Common.{◌≡◌, ℕ, true, false, List, length, None, Some, Result, Ok, Err, sym, ap, ◌∙◌, subst}
use Rattle.std.specs.Result.{result_ok}
use Rattle.std.specs.Str.{bytes_eq}
use Rattle.std.proofs.lemmas.Slice.Eq.{bytes_eq-Decides}
use Rattle.hex.specs.Hex.{IsBytes, decode_sized, encode_lower}
use Rattle.hex.proofs.HexLemmas.{decode_sized-encode_lower}
use Rattle.command_line.specs.CommandLine.{IsNoSeed}

-- the text of a seed decodes to it
decoded : (text key : List ℕ) → length key ≡ 32 → IsBytes key → encode_lower key ≡ text → decode_sized text 32 ≡ Ok key
decoded text key len bytes same = subst (λ (t : List ℕ). decode_sized t 32 ≡ Ok key) same (decode_sized-encode_lower key 32 len bytes)

-- the text isn't 64 hexadecimal digits
pub IsNoSeed-undecoded : (text : List ℕ) → result_ok (decode_sized text 32) ≡ None → IsNoSeed text
IsNoSeed-undecoded text none = λ seed len bytes same.
    let e = ap (λ r. result_ok r) (decoded text seed len bytes same) in
    cc

-- the text isn't that of the bytes to which it decodes
pub IsNoSeed-other : (text found : List ℕ) → decode_sized text 32 ≡ Ok found → bytes_eq (encode_lower found) text ≡ false → IsNoSeed text
IsNoSeed-other text found is other = λ seed len bytes same.
    let again = decoded text seed len bytes same in
    let e : seed ≡ found = cc in
    let met : bytes_eq (encode_lower found) text ≡ true = (bytes_eq-Decides (encode_lower found) text).1 (ap encode_lower (sym e) ∙ same) in
    cc

pub Ok-some : {A E : Type 0} (r : Result A E) (x : A) → result_ok r ≡ Some x → r ≡ Ok x
Ok-some (Ok y) x is = cc
Ok-some (Err e) x is = cc
