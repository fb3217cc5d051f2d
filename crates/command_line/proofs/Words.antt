-- The result of parsing the words, in the terms of the command line's definitions.
use Rattle.std.proofs.Common.{Bool, ap, ap₂, refl, subst, sym, ◌≡◌, ◌∙◌, inl, inr, List, Option, Some, None, option_map, [], true}
use Rattle.std.specs.Str.{bytes_eq}
use Rattle.std.proofs.lemmas.Slice.Eq.{bytes_eq-Decides}
use Rattle.std.specs.Prelude.{if◌then◌else◌, Box, codes, unwrap_or}
use Rattle.std.proofs.lemmas.Option.{none-some}
use Rattle.std.specs.Borrow.{Bor}
use Rattle.std.specs.Box.{box_value}
use Rattle.clap.specs.Words.{App, HasKind, HasMatchesOf, IsAmong, Row, Text, fault_of, first_of, first_value, is_simple, is_simple_and_free, kind_of, rows_of, subcommand_name_of, subcommand_of, subcommand_rows, subcommand_rows_of}
use Rattle.clap.specs.declared.ArgMatches.{ArgMatches}
use Rattle.clap.specs.declared.parser.matches.Found.{Found}
use Rattle.clap.specs.declared.parser.matches.SubCommand.{SubCommand}
use Rattle.clap.specs.declared.parser.matches.ArgMatches.TheViews.{out-SubCommand}
use Rattle.clap.specs.declared.Error.{Error}
use Rattle.clap.specs.declared.error.ErrorKind.{ErrorKind}
use Rattle.clap.specs.declared.error.ErrorKind.TheVariants.{DisplayVersion, OutOfMemory}
use Rattle.clap.proofs.OnLiterals.{clap_on_literals}
use Rattle.clap.proofs.WalkLemmas.{first_value-rows}
use Rattle.spiffe_name.specs.Domain.{domain_refusal}
use Rattle.spiffe_name.specs.Failures.{FailsBy}
use Rattle.spiffe_name.specs.declared.Failure.{Failure}
use Rattle.spiffe_name.specs.declared.Failure.TheVariants as name
use Rattle.spiffe_name.specs.declared.IdRefusal.{IdRefusal}
use Rattle.command_line.specs.CommandLine.{AsksServer, AsksTopic, AsksWell, IsFaultOf, IsNoSeed, program_domain, domain_refusal_in, domain_word, has_book, line_faults, option_asked, option_in, program_asked, program_in, program_name, refusal_of_domain, regd_command, seed_text}
use Rattle.command_line.specs.CommandLinePrivate.{IsDomainFault, IsServerFault, IsTopicFault}
use Rattle.command_line.specs.declared.program.Program.{Program}
use Rattle.command_line.specs.declared.program.Program.TheVariants.{Explain, Serve}
use Rattle.command_line.specs.declared.settings.ServerPlan.{ServerPlan}
use Rattle.command_line.specs.declared.settings.Topic.{Topic}
use Rattle.command_line.specs.declared.fault.LineFault.{LineFault}
use Rattle.command_line.specs.declared.fault.LineFault.TheVariants.{Address, Code, Domain, NoMemory, NotText, Number, Refused, Seed, Version}
use Rattle.command_line.specs.Conversions.{fault_of_domain, fault_of_kind, fault_of_refusal}

-- the conditions of the parser's contract hold for the program
pub is_simple_and_free-regd : is_simple_and_free regd_command ≡ true
unfolding clap_on_literals
is_simple_and_free-regd = refl

is_simple-regd : is_simple regd_command ≡ true
unfolding clap_on_literals
is_simple-regd = refl

-- a refusal of the parser is a fault of the words, or out of memory
pub IsFaultOf-refusal : (words : List Text) (error : Error) → HasKind (line_faults words) error → IsFaultOf words (fault_of_refusal error)
IsFaultOf-refusal words error has = go (kind_of error) refl
  where
    go : (k : ErrorKind) → kind_of error ≡ k → IsFaultOf words (fault_of_kind k error)
    go OutOfMemory is = tt
    go DisplayVersion is = elim has [
      | inl memory ↦
          let bad : DisplayVersion ≡ OutOfMemory = sym is ∙ memory in
          cc
      | inr among ↦ subst (λ (k : ErrorKind). IsAmong k (line_faults words)) is among
    ]
    go k is = elim has [
      | inl memory ↦
          let bad : k ≡ OutOfMemory = sym is ∙ memory in
          cc
      | inr among ↦ (among, λ version. let bad : k ≡ DisplayVersion = sym is ∙ version in cc)
    ]

-- what parsing with the program's command says about the words

pub HasKind-parse : (app : App) (words : List Text) (error : Error) → app ≡ regd_command
    → (is_simple_and_free app ≡ true → HasKind (fault_of app words) error) → HasKind (line_faults words) error
HasKind-parse app words error is kinds =
    subst (λ (a : App). HasKind (fault_of a words) error) is (kinds (ap is_simple_and_free is ∙ is_simple_and_free-regd))

pub IsFaultOf-parse : (app : App) (words : List Text) (error : Error) → app ≡ regd_command
    → (is_simple_and_free app ≡ true → HasKind (fault_of app words) error) → IsFaultOf words (fault_of_refusal error)
IsFaultOf-parse app words error is kinds = IsFaultOf-refusal words error (HasKind-parse app words error is kinds)

pub line_faults-parse : (app : App) (words : List Text) → app ≡ regd_command
    → (is_simple_and_free app ≡ true → fault_of app words ≡ []) → line_faults words ≡ []
line_faults-parse app words is kinds =
    subst (λ (a : App). fault_of a words ≡ []) is (kinds (ap is_simple_and_free is ∙ is_simple_and_free-regd))

met-parse : (app : App) (words : List Text) (m : ArgMatches) → app ≡ regd_command → HasMatchesOf app words m
    → subcommand_rows_of m ≡ subcommand_of regd_command words
met-parse app words m is has = (has (ap is_simple is ∙ is_simple-regd)).1 ∙ ap (λ (a : App). subcommand_of a words) is

pub program_in-parse : (app : App) (words : List Text) (m : ArgMatches) (program : Program) → app ≡ regd_command → HasMatchesOf app words m
    → program ≡ program_in (subcommand_rows_of m) → program ≡ program_asked words
program_in-parse app words m program is has e = e ∙ ap program_in (met-parse app words m is has)

pub option_in-parse : (id name : Text) (app : App) (words : List Text) (m : ArgMatches) (program : Program) → app ≡ regd_command → HasMatchesOf app words m
    → program ≡ program_in (subcommand_rows_of m) → name ≡ program_name program → option_in name id (subcommand_rows_of m) ≡ option_asked id words
option_in-parse id name app words m program is has e n =
    let met = met-parse app words m is has in
    let same : name ≡ program_name (program_asked words) = n ∙ ap program_name (e ∙ ap program_in met) in
    ap₂ (λ (x : Text) (r : Option (Text × List Row)). option_in x id r) same met

-- the trust domain of the parsed program, and why it is none

pub program_domain-parse : (app : App) (words : List Text) (m : ArgMatches) (program : Program) → app ≡ regd_command → HasMatchesOf app words m
    → program ≡ program_in (subcommand_rows_of m) → program_domain program (subcommand_rows_of m) ≡ domain_word words
program_domain-parse app words m program is has e =
    ap₂ (λ (p : Program) (r : Option (Text × List Row)). program_domain p r) (program_in-parse app words m program is has e) (met-parse app words m is has)

pub refusal_of_domain-parse : (app : App) (words : List Text) (m : ArgMatches) (program : Program) → app ≡ regd_command → HasMatchesOf app words m
    → program ≡ program_in (subcommand_rows_of m) → domain_refusal_in program (subcommand_rows_of m) ≡ refusal_of_domain words
refusal_of_domain-parse app words m program is has e =
    ap₂ (λ (p : Program) (r : Option (Text × List Row)). domain_refusal_in p r) (program_in-parse app words m program is has e) (met-parse app words m is has)

-- a text that isn't a trust domain, in words that the parser accepts
pub IsFaultOf-domain : (app : App) (words : List Text) (m : ArgMatches) (program : Program) (fault : LineFault) → app ≡ regd_command → HasMatchesOf app words m
    → line_faults words ≡ [] → program ≡ program_in (subcommand_rows_of m) → IsDomainFault (subcommand_rows_of m) program fault → IsFaultOf words fault
IsFaultOf-domain app words m program (Domain refusal) is has taken e fails = (taken, sym (refusal_of_domain-parse app words m program is has e) ∙ fails)
IsFaultOf-domain app words m program NoMemory is has taken e fails = tt
IsFaultOf-domain app words m program (Refused error) is has taken e fails = absurd fails
IsFaultOf-domain app words m program Version is has taken e fails = absurd fails
IsFaultOf-domain app words m program Seed is has taken e fails = absurd fails
IsFaultOf-domain app words m program Address is has taken e fails = absurd fails
IsFaultOf-domain app words m program Number is has taken e fails = absurd fails
IsFaultOf-domain app words m program Code is has taken e fails = absurd fails
IsFaultOf-domain app words m program NotText is has taken e fails = absurd fails

-- the refusal of a text, as the fault of a program with a book
pub IsDomainFault-refused : (met : Option (Text × List Row)) (program : Program) (text : Text) (failure : Failure IdRefusal) → has_book program ≡ true
    → text ≡ unwrap_or (option_in (program_name program) (codes "domain") met) [] → FailsBy (domain_refusal text) failure → IsDomainFault met program (fault_of_domain failure)
IsDomainFault-refused met program text name.NoMemory book is fails = tt
IsDomainFault-refused met program text (name.Refused refusal) book is fails = simp book (subst (λ (t : Text). domain_refusal t ≡ Some refusal) is fails)

-- a text that represents no seed, in words that the parser accepts and whose domain is valid
pub IsFaultOf-seed : (words : List Text) (seed : Text) → line_faults words ≡ [] → refusal_of_domain words ≡ None
    → seed ≡ seed_text words → IsNoSeed seed → IsFaultOf words Seed
IsFaultOf-seed words seed taken fine parsed none = (taken, fine, subst (λ (t : Text). IsNoSeed t) parsed none)

-- a text that is a domain was given: the empty text isn't one
pub domain_word-given : (word : Option Text) (domain : Text) → domain ≡ unwrap_or word [] → domain_refusal domain ≡ None → word ≡ Some domain
unfolding domain_refusal
domain_word-given None domain is fine =
    let bad : domain_refusal [] ≡ None = subst (λ (t : Text). domain_refusal t ≡ None) is fine in
    cc
domain_word-given (Some text) domain is fine = ap (λ (t : Text). Some t) (sym is)

-- the matches of the parsed program give its options
option_in-rows : (name id : Text) (met : Option (Text × List Row)) (rows : List Row) → option_map (λ p. p.0) met ≡ Some name
    → option_map (λ p. p.1) met ≡ Some rows → option_in name id met ≡ first_of id rows
option_in-rows name id None rows named is = absurd (none-some _ named)
option_in-rows name id (Some program) rows named is =
    let same_name : program.0 ≡ name = ap (λ (o : Option Text). unwrap_or o []) named in
    let same_rows : program.1 ≡ rows = ap (λ (o : Option (List Row)). unwrap_or o []) is in
    let met : bytes_eq name name ≡ true = (bytes_eq-Decides name name).1 refl in
    ap₂ (λ (n : Text) (r : List Row). option_in name id (Some (n, r))) same_name same_rows
    ∙ ap (λ (b : Bool). if b then first_of id rows else None) met

name_in : {Z : Type 0} (o : Option (Box SubCommand Z)) → option_map (λ p. p.0) (subcommand_rows o) ≡ option_map (λ b. (out-SubCommand (box_value b)).name.now) o
name_in None = refl
name_in (Some b) = refl

pub option_in-matches : (m : ArgMatches) (found : Found) (name id : Text) → subcommand_name_of m ≡ Some name
    → option_map (λ p. p.1) (subcommand_rows_of m) ≡ Some (rows_of found) → option_in name id (subcommand_rows_of m) ≡ first_value found id
option_in-matches m found name id named is =
    option_in-rows name id (subcommand_rows_of m) (rows_of found) (name_in _ ∙ named) is ∙ sym (first_value-rows found id)

-- the text behind a reference, or another one
pub unwrap_or-text : (o : Option (Bor Text)) (other text : Bor Text) (word : Option Text) (last : Text) → text ≡ unwrap_or o other → other.now ≡ last
    → option_map (λ s. s.now) o ≡ word → text.now ≡ unwrap_or word last
unwrap_or-text None other text word last is none same = ap (λ (b : Bor Text). b.now) is ∙ none ∙ ap (λ (w : Option Text). unwrap_or w last) same
unwrap_or-text (Some s) other text word last is none same = ap (λ (b : Bor Text). b.now) is ∙ ap (λ (w : Option Text). unwrap_or w last) same

-- ---- a server

pub server-parse : (app : App) (words : List Text) (m : ArgMatches) (program : Program) (server : Option ServerPlan) → app ≡ regd_command → HasMatchesOf app words m
    → AsksServer (subcommand_rows_of m) program server → AsksServer (subcommand_of regd_command words) program server
server-parse app words m program server is has asks = subst (λ met. AsksServer met program server) (met-parse app words m is has) asks

server_fault : (words : List Text) (program : Program) (fault : LineFault) → AsksWell words Serve → IsServerFault (subcommand_of regd_command words) program fault → IsFaultOf words fault
server_fault words program Address well is = (well, is.1)
server_fault words program Number well is = (well, is.1, is.2)
server_fault words program Seed well is = absurd is
server_fault words program NotText well is = absurd is
server_fault words program NoMemory well is = absurd is
server_fault words program Version well is = absurd is
server_fault words program Code well is = absurd is
server_fault words program (Refused error) well is = absurd is
server_fault words program (Domain refusal) well is = absurd is

asks_server : (met : Option (Text × List Row)) (program : Program) (fault : LineFault) → IsServerFault met program fault → program ≡ Serve
asks_server met program Address is = is.0
asks_server met program Number is = is.0
asks_server met program Seed is = absurd is
asks_server met program NotText is = absurd is
asks_server met program NoMemory is = absurd is
asks_server met program Version is = absurd is
asks_server met program Code is = absurd is
asks_server met program (Refused error) is = absurd is
asks_server met program (Domain refusal) is = absurd is

-- the words ask for a program well, up to its own options
asks_well : (app : App) (words : List Text) (m : ArgMatches) (program wanted : Program) (seed : Text) → app ≡ regd_command → HasMatchesOf app words m
    → line_faults words ≡ [] → program ≡ program_in (subcommand_rows_of m) → refusal_of_domain words ≡ None → seed ≡ seed_text words → (IsNoSeed seed → ⊥)
    → program ≡ wanted → AsksWell words wanted
asks_well app words m program wanted seed is has taken e fine s parsed named = record {
  taken = taken;
  asked = sym (program_in-parse app words m program is has e) ∙ named;
  domain = fine;
  seed = subst (λ (t : Text). IsNoSeed t → ⊥) s parsed;
}

-- the options of a server are refused, in words that the parser accepts and whose domain and seed are valid
pub IsFaultOf-server : (app : App) (words : List Text) (m : ArgMatches) (program : Program) (fault : LineFault) (seed : Text) → app ≡ regd_command → HasMatchesOf app words m
    → line_faults words ≡ [] → program ≡ program_in (subcommand_rows_of m) → refusal_of_domain words ≡ None → seed ≡ seed_text words → (IsNoSeed seed → ⊥)
    → IsServerFault (subcommand_rows_of m) program fault → IsFaultOf words fault
IsFaultOf-server app words m program fault seed is has taken e fine s parsed fails =
    server_fault words program fault (asks_well app words m program Serve seed is has taken e fine s parsed (asks_server (subcommand_rows_of m) program fault fails))
    (subst (λ met. IsServerFault met program fault) (met-parse app words m is has) fails)

-- ---- an explanation

pub topic-parse : (app : App) (words : List Text) (m : ArgMatches) (program : Program) (topic : Option Topic) → app ≡ regd_command → HasMatchesOf app words m
    → AsksTopic (subcommand_rows_of m) program topic → AsksTopic (subcommand_of regd_command words) program topic
topic-parse app words m program topic is has asks = subst (λ met. AsksTopic met program topic) (met-parse app words m is has) asks

-- the words of an explanation are refused, in words that the parser accepts and whose seed is valid
pub IsFaultOf-topic : (app : App) (words : List Text) (m : ArgMatches) (program : Program) (fault : LineFault) (seed : Text) → app ≡ regd_command → HasMatchesOf app words m
    → line_faults words ≡ [] → program ≡ program_in (subcommand_rows_of m) → refusal_of_domain words ≡ None → seed ≡ seed_text words → (IsNoSeed seed → ⊥)
    → IsTopicFault (subcommand_rows_of m) program fault → IsFaultOf words fault
IsFaultOf-topic app words m program Code seed is has taken e fine s parsed fails =
    let on = subst (λ met. IsTopicFault met program Code) (met-parse app words m is has) fails in
    (asks_well app words m program Explain seed is has taken e fine s parsed fails.0, on.1)
IsFaultOf-topic app words m program NoMemory seed is has taken e fine s parsed fails = tt
IsFaultOf-topic app words m program (Refused error) seed is has taken e fine s parsed fails = absurd fails
IsFaultOf-topic app words m program (Domain refusal) seed is has taken e fine s parsed fails = absurd fails
IsFaultOf-topic app words m program Version seed is has taken e fine s parsed fails = absurd fails
IsFaultOf-topic app words m program Seed seed is has taken e fine s parsed fails = absurd fails
IsFaultOf-topic app words m program Address seed is has taken e fine s parsed fails = absurd fails
IsFaultOf-topic app words m program Number seed is has taken e fine s parsed fails = absurd fails
IsFaultOf-topic app words m program NotText seed is has taken e fine s parsed fails = absurd fails
