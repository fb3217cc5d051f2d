use Rattle.std.proofs.Common.{inl, inr, ap, codes, subst, [], ◌∷◌, ◌≡◌, ◌≢◌, ◌∙◌}
use Rattle.clap.specs.Words.{HasKind, kind_of}
use Rattle.clap.specs.Kinds.{Kinds}
use Rattle.clap.specs.Walk.{texts}
use Rattle.clap.specs.declared.Error.{Error}
use Rattle.clap.specs.declared.error.ErrorKind.TheVariants.{DisplayHelp, OutOfMemory}
use Rattle.command_line.specs.CommandLine.{line_faults}
use Rattle.command_line.proofs.Lines.{help_is_refused}
use Rattle.command_line.proofs.Words.{HasKind-parse}
use Rattle.command_line.proofs.settings.help.Goals as goal

-- a refusal that has the kinds of a request for help, and isn't for memory, is the help
helps : (kinds : Kinds) (error : Error) → kinds ≡ DisplayHelp ∷ [] → HasKind kinds error → kind_of error ≢ OutOfMemory → kind_of error ≡ DisplayHelp
helps kinds error is has other = elim (subst (λ (k : Kinds). HasKind k error) is has) [
  | inl memory ↦ absurd (other memory)
  | inr among ↦ elim among [
    | inl help ↦ help
    | inr none ↦ absurd none
  ]
]

pub returns-in_default : goal.returns-in_default
returns-in_default c =
    let has = HasKind-parse _ _ c.in-Err.error c.in_ok-command.ensures c.in-Err.ensures.kinds in
    let words = ap texts c.as_slice.ensures in
    helps _ c.in-Err.error (ap line_faults words ∙ (help_is_refused (codes "regd")).0) has (λ memory. c.in_default.not-OutOfMemory (c.kind.ensures ∙ memory))
