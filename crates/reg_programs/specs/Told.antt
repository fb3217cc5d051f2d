-- What the programs without a book print.
use Rattle.std.specs.Prelude.{◌≡◌, ◌⊎◌, Option, Some, None}
use Rattle.clap.specs.Words.{kind_of}
use Rattle.clap.specs.declared.error.Error.{Error}
use Rattle.clap.specs.declared.error.ErrorKind.TheVariants.{DisplayHelp}
use Rattle.command_line.specs.declared.program.Program.{Program}
use Rattle.command_line.specs.declared.program.Program.TheVariants.{Audit, Explain, Help, Plain, Record, Schedule, Serve, Version}
use Rattle.command_line.specs.declared.settings.Topic.{Topic}
use Rattle.error_codes.specs.declared.explanation.Explanation.{Explanation}
use Rattle.reg_programs.specs.declared.ended.Ended.{Ended}
use Rattle.reg_programs.specs.declared.ended.Ended.TheVariants as ended

-- the end explains the code, and the key if there is one
pub record Explains (topic : Topic) (end : Ended) : Type 0 where
  pub explanation : Explanation
  pub end_is : end ≡ ended.Explained explanation
  pub code : explanation.row.code ≡ topic.code
  pub field : explanation.field ≡ topic.field

-- the end has the parser's help
pub record Helps (end : Ended) : Type 0 where
  pub help : Error
  pub end_is : end ≡ ended.Help help
  pub kind : kind_of help ≡ DisplayHelp

-- The end of a program without a book: the text that it asks for. Only for the help, which is made anew, memory may run out.
abbrev pub IsTold : Program → Option Topic → Ended → Type 0
IsTold Explain (Some topic) end = Explains topic end
IsTold Explain None end = ⊥
IsTold Version topic end = end ≡ ended.Version
IsTold Help topic end = Helps end ⊎ (end ≡ ended.NoMemory)
IsTold Plain topic end = ⊥
IsTold Schedule topic end = ⊥
IsTold Record topic end = ⊥
IsTold Audit topic end = ⊥
IsTold Serve topic end = ⊥
