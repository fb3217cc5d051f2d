-- Which words are a command line of `regd`, by the command-line parser's own definition of a command line.
use Rattle.std.specs.Prelude.{Bool, codes, false, if◌then◌else◌, is_some, length, option_and_then, option_map, pos, string_bytes, true, unwrap_or, ◌≡◌, ◌≢◌, ◌≤◌, ◌⊎◌, ℕ, List, None, Option, Some, [], ⊤}
use Rattle.std.specs.Net.Grammar.{IsSocketV4Text}
use Rattle.std.specs.Str.Parse.{IsNumeral, digits_value, without_leading_plus}
use Rattle.std.specs.declared.net.SocketAddrV4.{SocketAddrV4}
use Rattle.std.specs.Option.{option_map_or}
use Rattle.std.specs.Str.{bytes_eq}
use Rattle.clap.specs.Words.{App, IsAmong, Kinds, Row, Rule, Text, fault_of, first_of, kind_of, new_app, new_rule, subcommand_of, with_rule, with_subcommand}
use Rattle.clap.specs.Simple.{on_top}
use Rattle.clap.specs.declared.builder.action.ArgAction.TheVariants.{SetTrue}
use Rattle.clap.specs.declared.builder.value_parser.ValueParser.TheVariants.{Signed}
use Rattle.hex.specs.Hex.{IsBytes, encode_lower}
use Rattle.spiffe_name.specs.Domain.{domain_refusal}
use Rattle.command_line.specs.declared.program.Program.{Program}
use Rattle.command_line.specs.declared.program.Program.TheVariants.{Audit, Explain, Help, Plain, Record, Schedule, Serve, Version}
use Rattle.command_line.specs.declared.settings.ServerPlan.{ServerPlan}
use Rattle.command_line.specs.declared.settings.Topic.{Topic}
use Rattle.command_line.specs.declared.fault.LineFault.{LineFault}
use Rattle.command_line.specs.declared.fault.LineFault.TheVariants as line
use Rattle.command_line.specs.declared.fault.LineFault.TheVariants.{Refused, Domain, Seed, Address, Number, NotText, NoMemory}
use Rattle.error_codes.specs.Codes.{code_name}
use Rattle.error_codes.specs.declared.code.ErrorCode.{ErrorCode}
use Rattle.clap.specs.declared.error.ErrorKind.TheVariants.{DisplayVersion}
use Rattle.spiffe_name.specs.declared.IdRefusal.{IdRefusal}

-- ---- the program, as it is described to the parser

-- `--domain D`, required
abbrev pub domain_option : Rule
domain_option = record (new_rule (codes "domain")) {
  long = Some (codes "domain");
  value_names = 1;
  required = true;
}

-- `--seed S`
abbrev pub seed_option : Rule
seed_option = record (new_rule (codes "seed")) {
  long = Some (codes "seed");
  value_names = 1;
}

-- `--record`, a flag
abbrev pub record_option : Rule
record_option = record (new_rule (codes "record")) {
  long = Some (codes "record");
  action = Some SetTrue;
}

-- `--listen A`, required
abbrev pub listen_option : Rule
listen_option = record (new_rule (codes "listen")) {
  long = Some (codes "listen");
  value_names = 1;
  required = true;
}

-- the maximum numbers of workers and of connections of a server
abbrev pub most_workers : ℕ
most_workers = 32

abbrev pub most_connections : ℕ
most_connections = 65535

-- a required option of this name, with a number from 1 to `most`
abbrev pub number_option : Text → ℕ → Rule
number_option name most = record (new_rule name) {
  long = Some name;
  value_names = 1;
  parser = Some (Signed (pos 1) (pos most));
  required = true;
}

-- `--connections C`, which may be left out
abbrev pub connections_option : Rule
connections_option = record (number_option (codes "connections") most_connections) { required = false }

-- `plain --domain D [--seed S]`
abbrev pub plain_command : App
plain_command = with_rule (with_rule (new_app (codes "plain")) domain_option) seed_option

-- `schedule --domain D [--seed S] [--record]`
abbrev pub schedule_command : App
schedule_command = with_rule (with_rule (with_rule (new_app (codes "schedule")) domain_option) seed_option) record_option

-- `audit --domain D`
abbrev pub audit_command : App
audit_command = with_rule (new_app (codes "audit")) domain_option

-- `serve` with the option for its address
abbrev pub listen_command : App
listen_command = with_rule (with_rule (new_app (codes "serve")) domain_option) listen_option

-- `serve --domain D --listen A --workers N [--connections C] [--seed S]`
abbrev pub serve_command : App
serve_command = with_rule (with_rule (with_rule listen_command (number_option (codes "workers") most_workers)) connections_option) seed_option

-- a word without an option: the first one, which is required, and the second one
abbrev pub code_word : Rule
code_word = record (new_rule (codes "code")) {
  value_names = 1;
  required = true;
}

abbrev pub field_word : Rule
field_word = record (new_rule (codes "field")) { value_names = 1 }

-- `explain CODE [FIELD]`
abbrev pub explain_command : App
explain_command = with_rule (with_rule (new_app (codes "explain")) code_word) field_word

-- `version`, and `help`
abbrev pub version_command : App
version_command = new_app (codes "version")

abbrev pub help_command : App
help_command = new_app (codes "help")

-- `regd`, which requires the word of one of its programs, and has `--version`
abbrev pub regd_alone : App
regd_alone = on_top (λ s. record s { has_version = true; subcommand_required = true; disable_help_subcommand = true })
    (new_app (codes "regd"))

-- `regd` with the first two programs, with all that have a book, and with all
abbrev pub book_commands : App
book_commands = with_subcommand (with_subcommand regd_alone plain_command.top) schedule_command.top

abbrev pub line_commands : App
line_commands = with_subcommand (with_subcommand book_commands audit_command.top) serve_command.top

abbrev pub regd_command : App
regd_command = with_subcommand (with_subcommand (with_subcommand line_commands explain_command.top) version_command.top) help_command.top

-- ---- the meaning of the words; the first of them is the program's own name

-- why the parser refuses the words: empty if it accepts them, and otherwise the kinds that its refusal may have
abbrev pub line_faults : List Text → Kinds
line_faults words = fault_of regd_command words

-- the text of the option `id` of the program `name`, if that is the parsed program and has it
abbrev pub option_in : Text → Text → Option (Text × List Row) → Option Text
option_in name id = option_and_then (λ program. if bytes_eq program.0 name then first_of id program.1 else None)

-- the word for a program on a command line
abbrev pub program_name : Program → Text
program_name Plain = codes "plain"
program_name Schedule = codes "schedule"
program_name Record = codes "schedule"
program_name Audit = codes "audit"
program_name Serve = codes "serve"
program_name Explain = codes "explain"
program_name Version = codes "version"
program_name Help = codes "help"

-- whether the program has a book, and so requires a trust domain
abbrev pub has_book : Program → Bool
has_book Explain = false
has_book Version = false
has_book Help = false
has_book _ = true

-- whether `schedule` got `--record`: the parser gives such an option the text `true` if it is given, and `false` otherwise
abbrev pub is_recorded : Option (Text × List Row) → Bool
is_recorded met = option_map_or (λ word. bytes_eq word (codes "true")) (option_in (codes "schedule") (codes "record") met) false

-- whether the parsed program has this name
abbrev pub names_program : Text → Option (Text × List Row) → Bool
names_program name met = option_map_or (λ program. bytes_eq program.0 name) met false

-- the parsed program, if it has no book; otherwise `plain`
abbrev pub program_without_book : Option (Text × List Row) → Program
program_without_book met = if names_program (codes "explain") met then Explain else (if names_program (codes "version") met then Version else (if names_program (codes "help") met then Help else Plain))

-- the parsed program: the one of `schedule`, `audit` and `serve` that got a domain, which each requires; otherwise one without a
-- book; otherwise `plain`
abbrev pub program_in : Option (Text × List Row) → Program
program_in met = if is_some (option_in (codes "schedule") (codes "domain") met) then (if is_recorded met then Record else Schedule) else (if is_some (option_in (codes "audit") (codes "domain") met) then Audit else (if is_some (option_in (codes "serve") (codes "domain") met) then Serve else program_without_book met))

-- the program that the words request
abbrev pub program_asked : List Text → Program
program_asked words = program_in (subcommand_of regd_command words)

-- the text that the words give to an option of the program that they request
abbrev pub option_asked : Text → List Text → Option Text
option_asked id words = option_in (program_name (program_asked words)) id (subcommand_of regd_command words)

-- the text that `--domain` of this program got, if it has a book
abbrev pub program_domain : Program → Option (Text × List Row) → Option Text
program_domain program met = if has_book program then option_in (program_name program) (codes "domain") met else None

-- why that isn't a trust domain; a program with a book requires one, so the empty text stands for none
abbrev pub domain_refusal_in : Program → Option (Text × List Row) → Option IdRefusal
domain_refusal_in program met = if has_book program then domain_refusal (unwrap_or (program_domain program met) []) else None

-- the text that the words give to `--domain`, if the program that they request has a book
abbrev pub domain_word : List Text → Option Text
domain_word words = program_domain (program_asked words) (subcommand_of regd_command words)

-- why that isn't a trust domain
abbrev pub refusal_of_domain : List Text → Option IdRefusal
refusal_of_domain words = domain_refusal_in (program_asked words) (subcommand_of regd_command words)

-- the text that the words give to `--seed`
abbrev pub seed_word : List Text → Option Text
seed_word words = option_asked (codes "seed") words

-- ---- the seed, written as 64 lower-case hexadecimal digits, two for each byte

-- the text of the seed by default
abbrev pub first_seed : Text
first_seed = codes "0000000000000000000000000000000000000000000000000000000000000000"

-- the text of the seed
abbrev pub seed_text : List Text → Text
seed_text words = unwrap_or (seed_word words) first_seed

-- no 32 bytes have this text
abbrev pub IsNoSeed : Text → Type 0
IsNoSeed text = (seed : List ℕ) → length seed ≡ 32 → IsBytes seed → encode_lower seed ≢ text

-- ---- a server

-- the text is a decimal numeral, possibly after a plus, of this number, which is 1 to `most`
pub record ParsesNumber (most : ℕ) (text : Text) (n : ℕ) : Type 0 where
  pub digits : IsNumeral 10 (without_leading_plus text)
  pub value : n ≡ digits_value 10 (without_leading_plus text)
  pub least : 1 ≤ n
  pub up_to : n ≤ most

-- the text that the words give to an option of `serve`, or the empty text
abbrev pub server_word : Text → Option (Text × List Row) → Text
server_word id met = unwrap_or (option_in (codes "serve") id met) []

-- there is a number exactly if there is a text, and the text is a numeral of it, from 1 to `most`
abbrev pub ParsesOptional : ℕ → Option Text → Option ℕ → Type 0
ParsesOptional most None None = ⊤
ParsesOptional most (Some text) (Some n) = ParsesNumber most text n
ParsesOptional most None (Some n) = ⊥
ParsesOptional most (Some text) None = ⊥

-- The words give a server this address and these numbers, each in its range.
pub record ParsesServer (met : Option (Text × List Row)) (plan : ServerPlan) : Type 0 where
  pub listen : IsSocketV4Text (server_word (codes "listen") met) plan.listen
  pub workers : ParsesNumber most_workers (server_word (codes "workers") met) plan.workers
  pub connections : ParsesOptional most_connections (option_in (codes "serve") (codes "connections") met) plan.connections

-- there is a plan exactly if a server is requested, and the words give it the plan's values
abbrev pub AsksServer : Option (Text × List Row) → Program → Option ServerPlan → Type 0
AsksServer met Serve (Some plan) = ParsesServer met plan
AsksServer met Serve None = ⊥
AsksServer met program (Some plan) = ⊥
AsksServer met program None = ⊤

-- the text is an address
abbrev pub ParsesAddress : Text → Type 0
ParsesAddress text = (a : SocketAddrV4) × IsSocketV4Text text a

-- the text isn't an address
abbrev pub IsNoAddress : Text → Type 0
IsNoAddress text = (a : SocketAddrV4) → IsSocketV4Text text a → ⊥

-- there is a text, but it is no number of connections in its range
abbrev pub IsNoCount : Option Text → Type 0
IsNoCount None = ⊥
IsNoCount (Some text) = (n : ℕ) → ParsesNumber most_connections text n → ⊥

-- the words don't give a number of workers in its range, or give connections a text that is none
abbrev pub AreNoNumbers : Option (Text × List Row) → Type 0
AreNoNumbers met = ((n : ℕ) → ParsesNumber most_workers (server_word (codes "workers") met) n → ⊥) ⊎ IsNoCount (option_in (codes "serve") (codes "connections") met)

-- ---- what is to be explained

-- the text that the words give to the code, or the empty text
abbrev pub topic_code : Option (Text × List Row) → Text
topic_code met = unwrap_or (option_in (codes "explain") (codes "code") met) []

-- The words name this code, and this key if they name one.
pub record NamesTopic (met : Option (Text × List Row)) (topic : Topic) : Type 0 where
  pub code : code_name topic.code ≡ topic_code met
  pub field : option_in (codes "explain") (codes "field") met ≡ option_map string_bytes topic.field

-- there is a topic exactly if an explanation is requested, and the words name it
abbrev pub AsksTopic : Option (Text × List Row) → Program → Option Topic → Type 0
AsksTopic met Explain (Some topic) = NamesTopic met topic
AsksTopic met Explain None = ⊥
AsksTopic met program (Some topic) = ⊥
AsksTopic met program None = ⊤

-- no code has this name
abbrev pub IsNoCode : Text → Type 0
IsNoCode text = (code : ErrorCode) → code_name code ≢ text

-- ---- the faults of a command line

-- The parser accepts the words, and they request this program, with a valid trust domain if it has a book, and a valid seed.
pub record AsksWell (words : List Text) (program : Program) : Type 0 where
  pub taken : line_faults words ≡ []
  pub asked : program_asked words ≡ program
  pub domain : refusal_of_domain words ≡ None
  pub seed : IsNoSeed (seed_text words) → ⊥

-- The words have this fault: the parser refuses them, for another reason than that they ask for the version; or they ask for it;
-- or it accepts them, and they request a program with a book, whose domain (the empty text if there is none) isn't a trust domain;
-- or it is one, and the text of the seed isn't a seed; or it is one, and the words request a server without a valid address, or with
-- one but with a number out of its range; or they request the explanation of a word that is no code. Any words may fail for lack of
-- memory. These faults don't include words that aren't text.
abbrev pub IsFaultOf : List Text → LineFault → Type 0
IsFaultOf words (Refused error) = IsAmong (kind_of error) (line_faults words) × (kind_of error ≡ DisplayVersion → ⊥)
IsFaultOf words line.Version = IsAmong DisplayVersion (line_faults words)
IsFaultOf words (Domain refusal) = (line_faults words ≡ []) × (refusal_of_domain words ≡ Some refusal)
IsFaultOf words Seed = (line_faults words ≡ []) × (refusal_of_domain words ≡ None) × IsNoSeed (seed_text words)
IsFaultOf words Address = AsksWell words Serve × IsNoAddress (server_word (codes "listen") (subcommand_of regd_command words))
IsFaultOf words Number = AsksWell words Serve × ParsesAddress (server_word (codes "listen") (subcommand_of regd_command words)) × AreNoNumbers (subcommand_of regd_command words)
IsFaultOf words line.Code = AsksWell words Explain × IsNoCode (topic_code (subcommand_of regd_command words))
IsFaultOf words NotText = ⊥
IsFaultOf words NoMemory = ⊤
