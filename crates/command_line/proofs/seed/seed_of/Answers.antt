use Rattle.std.proofs.Common.{rules, ◌≡◌, false, None, ap, ap₂, sym, ◌∙◌}
use Rattle.std.specs.Result.{result_ok}
use Rattle.std.specs.Str.{bytes_eq}
use Rattle.hex.specs.Hex.{decode_sized, encode_lower}
use Rattle.command_line.proofs.Seeds.{Ok-some, IsNoSeed-other, IsNoSeed-undecoded}
use Rattle.command_line.proofs.seed.seed_of.Goals as goal

pub returns-in_err-seed-clause-none : goal.returns-in_err-seed-clause-none
returns-in_err-seed-clause-none c =
    let read : c.from_hex.result ≡ decode_sized c.args.text.now 32 = c.from_hex.ensures in
    let none : result_ok (decode_sized c.args.text.now 32) ≡ None = ap (λ r. result_ok r) (sym read) ∙ (sym c.ok.ensures.value ∙ c.in_err-seed.was) in
    rw c.from_residual.ensures (IsNoSeed-undecoded c.args.text.now none)

pub returns-else-eq-clause-none : goal.returns-else-eq-clause-none
returns-else-eq-clause-none c =
    let read : c.from_hex.result ≡ decode_sized c.args.text.now 32 = c.from_hex.ensures in
    let found = Ok-some _ _ (ap (λ r. result_ok r) (sym read) ∙ (sym c.ok.ensures.value ∙ c.in_ok-seed.was)) in
    let digits = c.as_slice.ensures ∙ c.digits_of.ensures in
    let other : bytes_eq (encode_lower c.in_ok-seed.seed) c.args.text.now ≡ false = ap₂ bytes_eq (sym digits) (sym c.as_bytes.ensures.value) ∙ (sym c.eq.ensures ∙ c.if-eq.false) in
    IsNoSeed-other c.args.text.now c.in_ok-seed.seed found other

pub returns-then-eq-clause-parsed : goal.returns-then-eq-clause-parsed
returns-then-eq-clause-parsed c = λ none. none c.in_ok-seed.seed (search rules) (λ i. search rules) (search rules)
