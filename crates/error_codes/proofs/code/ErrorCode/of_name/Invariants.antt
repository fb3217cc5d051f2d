use Rattle.std.proofs.Common.{◌≢◌, ◌<◌, ℕ, get_or}
use Rattle.error_codes.specs.Codes.{code_name}
use Rattle.error_codes.specs.declared.code.ErrorCode.TheVariants.{I1}
use Rattle.error_codes.specs.declared.code.TheConstants.{CODES}
use Rattle.error_codes.proofs.code.ErrorCode.of_name.Given as goal

-- no code before this one has the name
abbrev pub invariant-loop-code : goal.invariant-loop-code
invariant-loop-code l = (i : ℕ) → i < l.code-index → code_name (get_or CODES i I1) ≢ l.name
