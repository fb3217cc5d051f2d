-- The parts of a verdict are printed one after another.
use Rattle.std.proofs.Common.{ℕ}
use Rattle.std.specs.Prelude.{codes, decimal}
use Rattle.reg_lines.specs.Json.{text_json}
use Rattle.line_devices.specs.Stream.{OutputState, Puts}
use Rattle.line_devices.proofs.Puts.{Puts-then}
use Rattle.call_audit.specs.declared.cause.Cause.{Cause}
use Rattle.call_audit.specs.Texts.{cause_text, no_json}

pub Puts-no : (line : ℕ) (cause : Cause) (a b c d e f : OutputState) → Puts a b (codes "{\"audit\":\"no\",\"line\":") → Puts b c (decimal line) → Puts c d (codes ",\"why\":") → Puts d e (text_json (cause_text cause)) → Puts e f (codes "}") → Puts a f (no_json line cause)
unfolding no_json
Puts-no line cause a b c d e f p q r s t = Puts-then _ _ _ _ _ (Puts-then _ _ _ _ _ (Puts-then _ _ _ _ _ (Puts-then _ _ _ _ _ p q) r) s) t
