-- The line of a verdict has no line feed.
use Rattle.std.proofs.Common.{◌≡◌, ◌||◌, ◌==◌, ℕ, false, List, ◌++◌, refl, ap₂, ◌∙◌}
use Rattle.std.specs.Prelude.{codes, decimal}
use Rattle.std.proofs.lemmas.List.Folds.{list_any-append}
use Rattle.reg_lines.specs.Json.{text_json}
use Rattle.line_devices.specs.Lines.{has_lf}
use Rattle.reg_lines.specs.OneLine.{NumbersHaveNoLf, TextsHaveNoLf}
use Rattle.call_audit.specs.declared.verdict.AuditVerdict.TheVariants.{Yes, No}
use Rattle.call_audit.specs.Texts.{VerdictsHaveNoLf, cause_text, no_json, yes_json}

behind : (front back : List ℕ) → has_lf front ≡ false → has_lf back ≡ false → has_lf (front ++ back) ≡ false
behind front back e f = list_any-append (λ b. b == 10) front back ∙ ap₂ (λ a b. a || b) e f

pub verdict-no_lf : TextsHaveNoLf → NumbersHaveNoLf → VerdictsHaveNoLf
unfolding yes_json no_json
verdict-no_lf texts numbers (Yes calls) =
    let front : List ℕ = codes "{\"audit\":\"yes\",\"calls\":" in
    behind (front ++ decimal calls) (codes "}") (behind front (decimal calls) refl (numbers calls)) refl
verdict-no_lf texts numbers (No line cause) =
    let front : List ℕ = codes "{\"audit\":\"no\",\"line\":" in
    let middle : List ℕ = codes ",\"why\":" in
    let why : List ℕ = text_json (cause_text cause) in
    behind (front ++ decimal line ++ middle ++ why) (codes "}")
    (behind (front ++ decimal line ++ middle) why
    (behind (front ++ decimal line) middle (behind front (decimal line) refl (numbers line)) refl)
    (texts (cause_text cause)))
    refl
