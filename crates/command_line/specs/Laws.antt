-- Theorems about concrete command lines.
use Rattle.std.specs.Prelude.{codes, ◌≡◌, ◌≢◌, ◌++◌, ℕ, [], ◌∷◌, List, None, Some}
use Rattle.clap.specs.Words.{Text}
use Rattle.clap.specs.Words.{subcommand_of}
use Rattle.clap.specs.declared.error.ErrorKind.TheVariants.{DisplayHelp, DisplayVersion, MissingSubcommand}
use Rattle.command_line.specs.CommandLine.{topic_code, domain_word, first_seed, line_faults, option_asked, program_asked, regd_command, seed_text}
use Rattle.command_line.specs.declared.program.Program.{Program}
use Rattle.command_line.specs.declared.program.Program.TheVariants.{Audit, Explain, Help, Plain, Record, Schedule, Serve, Version}

-- the parser accepts the words, and they request this program and give this domain
pub record GivesDomain (words : List Text) (program : Program) (domain : Text) : Type 0 where
  pub taken : line_faults words ≡ []
  pub asked : program_asked words ≡ program
  pub given : domain_word words ≡ Some domain

-- `regd plain --domain=D` requests `plain` and gives D; likewise `regd schedule --domain=D` requests `schedule`, and
-- `regd audit --domain=D` requests `audit`
abbrev pub JoinedDomain : Type 0
JoinedDomain = (name domain : Text)
    → GivesDomain (name ∷ codes "plain" ∷ (codes "--domain=" ++ domain) ∷ []) Plain domain
    × GivesDomain (name ∷ codes "schedule" ∷ (codes "--domain=" ++ domain) ∷ []) Schedule domain
    × GivesDomain (name ∷ codes "audit" ∷ (codes "--domain=" ++ domain) ∷ []) Audit domain

-- `regd plain --domain D` requests `plain` and gives D, if D begins with a byte other than a hyphen (45)
abbrev pub DomainApart : Type 0
DomainApart = (name rest : Text) (first : ℕ) → first ≢ 45
    → GivesDomain (name ∷ codes "plain" ∷ codes "--domain" ∷ (first ∷ rest) ∷ []) Plain (first ∷ rest)

-- `regd plain --domain=D --seed=S` requests `plain` and gives D, and S is the text of the seed
abbrev pub JoinedSeed : Type 0
JoinedSeed = (name domain seed : Text)
    → GivesDomain (name ∷ codes "plain" ∷ (codes "--domain=" ++ domain) ∷ (codes "--seed=" ++ seed) ∷ []) Plain domain
    × (seed_text (name ∷ codes "plain" ∷ (codes "--domain=" ++ domain) ∷ (codes "--seed=" ++ seed) ∷ []) ≡ seed)

-- without a seed, its text is 64 zeros
abbrev pub NoSeed : Type 0
NoSeed = (name domain : Text)
    → seed_text (name ∷ codes "plain" ∷ (codes "--domain=" ++ domain) ∷ []) ≡ first_seed

-- `regd schedule --domain=D --record` requests the records and gives D, and so does `--record` first
abbrev pub JoinedRecord : Type 0
JoinedRecord = (name domain : Text)
    → GivesDomain (name ∷ codes "schedule" ∷ (codes "--domain=" ++ domain) ∷ codes "--record" ∷ []) Record domain
    × GivesDomain (name ∷ codes "schedule" ∷ codes "--record" ∷ (codes "--domain=" ++ domain) ∷ []) Record domain

-- `regd --help` and `regd plain --help` are refused, with the help as the refusal's text
abbrev pub HelpIsRefused : Type 0
HelpIsRefused = (name : Text) → (line_faults (name ∷ codes "--help" ∷ []) ≡ DisplayHelp ∷ [])
    × (line_faults (name ∷ codes "plain" ∷ codes "--help" ∷ []) ≡ DisplayHelp ∷ [])

-- `regd` alone is refused
abbrev pub NothingIsRefused : Type 0
NothingIsRefused = (name : Text) → line_faults (name ∷ []) ≡ MissingSubcommand ∷ []

-- `regd --version` and `regd -V` ask for the version
abbrev pub VersionIsAsked : Type 0
VersionIsAsked = (name : Text) → (line_faults (name ∷ codes "--version" ∷ []) ≡ DisplayVersion ∷ [])
    × (line_faults (name ∷ codes "-V" ∷ []) ≡ DisplayVersion ∷ [])

-- the parser accepts the words, and they request this program, without a domain
pub record AsksFor (words : List Text) (program : Program) : Type 0 where
  pub taken : line_faults words ≡ []
  pub asked : program_asked words ≡ program
  pub none : domain_word words ≡ None

-- `regd version` requests the version, and `regd help` the help
abbrev pub ProgramAlone : Type 0
ProgramAlone = (name : Text) → AsksFor (name ∷ codes "version" ∷ []) Version × AsksFor (name ∷ codes "help" ∷ []) Help

-- `regd explain C` requests the explanation of C, and `regd explain C F` that of C and the key F, if each of the two begins with a
-- byte other than a hyphen (45)
abbrev pub ExplainsWords : Type 0
ExplainsWords = (name rest more : Text) (first second : ℕ) → first ≢ 45 → second ≢ 45
    → (AsksFor (name ∷ codes "explain" ∷ (first ∷ rest) ∷ []) Explain
    × (topic_code (subcommand_of regd_command (name ∷ codes "explain" ∷ (first ∷ rest) ∷ [])) ≡ first ∷ rest)
    × (option_asked (codes "field") (name ∷ codes "explain" ∷ (first ∷ rest) ∷ []) ≡ None))
    × (AsksFor (name ∷ codes "explain" ∷ (first ∷ rest) ∷ (second ∷ more) ∷ []) Explain
    × (topic_code (subcommand_of regd_command (name ∷ codes "explain" ∷ (first ∷ rest) ∷ (second ∷ more) ∷ [])) ≡ first ∷ rest)
    × (option_asked (codes "field") (name ∷ codes "explain" ∷ (first ∷ rest) ∷ (second ∷ more) ∷ []) ≡ Some (second ∷ more)))

-- `regd serve --domain=D --listen=A --workers=4` requests a server, without a number of connections
abbrev pub ServesOn : Type 0
ServesOn = (name domain address : Text) →
    GivesDomain (name ∷ codes "serve" ∷ (codes "--domain=" ++ domain) ∷ (codes "--listen=" ++ address) ∷ codes "--workers=4" ∷ []) Serve domain
    × (option_asked (codes "connections") (name ∷ codes "serve" ∷ (codes "--domain=" ++ domain) ∷ (codes "--listen=" ++ address) ∷ codes "--workers=4" ∷ []) ≡ None)
