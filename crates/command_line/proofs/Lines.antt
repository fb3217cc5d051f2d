-- Concrete command lines, computed.
use Rattle.std.proofs.Common.{codes, false, refl, ◌≡◌, ◌==◌, ℕ, [], ◌∷◌, None, Some}
use Rattle.std.proofs.lemmas.Bool.{ne_eqb}
use Rattle.clap.specs.Words.{Text, subcommand_of}
use Rattle.clap.proofs.OnLiterals.{clap_on_literals}
use Rattle.command_line.specs.CommandLine.{topic_code, domain_word, line_faults, option_asked, program_asked, regd_command}
use Rattle.command_line.specs.declared.program.Program.TheVariants.{Explain, Plain}
use Rattle.command_line.specs.Laws.{ExplainsWords, ProgramAlone, ServesOn, VersionIsAsked, DomainApart, HelpIsRefused, JoinedDomain, JoinedRecord, JoinedSeed, NoSeed, NothingIsRefused}

pub joined_domain : JoinedDomain
unfolding clap_on_literals
joined_domain name domain = (record { taken = refl; asked = refl; given = refl }, record { taken = refl; asked = refl; given = refl }, record { taken = refl; asked = refl; given = refl })

pub joined_seed : JoinedSeed
unfolding clap_on_literals
joined_seed name domain seed = (record { taken = refl; asked = refl; given = refl }, refl)

pub joined_record : JoinedRecord
unfolding clap_on_literals
joined_record name domain = (record { taken = refl; asked = refl; given = refl }, record { taken = refl; asked = refl; given = refl })

pub no_seed : NoSeed
unfolding clap_on_literals
no_seed name domain = refl

taken_apart : (name rest : Text) (first : ℕ) → (first == 45) ≡ false → line_faults (name ∷ codes "plain" ∷ codes "--domain" ∷ (first ∷ rest) ∷ []) ≡ []
unfolding clap_on_literals
taken_apart name rest first other = simp other refl

given_apart : (name rest : Text) (first : ℕ) → (first == 45) ≡ false
    → domain_word (name ∷ codes "plain" ∷ codes "--domain" ∷ (first ∷ rest) ∷ []) ≡ Some (first ∷ rest)
unfolding clap_on_literals
given_apart name rest first other = simp other refl

asked_apart : (name rest : Text) (first : ℕ) → (first == 45) ≡ false
    → program_asked (name ∷ codes "plain" ∷ codes "--domain" ∷ (first ∷ rest) ∷ []) ≡ Plain
unfolding clap_on_literals
asked_apart name rest first other = refl

pub domain_apart : DomainApart
domain_apart name rest first other = record { taken = taken_apart name rest first (ne_eqb _ _ other); asked = asked_apart name rest first (ne_eqb _ _ other); given = given_apart name rest first (ne_eqb _ _ other) }

pub help_is_refused : HelpIsRefused
unfolding clap_on_literals
help_is_refused name = (refl, refl)

pub nothing_is_refused : NothingIsRefused
unfolding clap_on_literals
nothing_is_refused name = refl

pub version_is_asked : VersionIsAsked
unfolding clap_on_literals
version_is_asked name = (refl, refl)

pub program_alone : ProgramAlone
unfolding clap_on_literals
program_alone name = (record { taken = refl; asked = refl; none = refl }, record { taken = refl; asked = refl; none = refl })

pub serves_on : ServesOn
unfolding clap_on_literals
serves_on name domain address = (record { taken = refl; asked = refl; given = refl }, refl)

taken_code : (name rest : Text) (first : ℕ) → (first == 45) ≡ false → line_faults (name ∷ codes "explain" ∷ (first ∷ rest) ∷ []) ≡ []
unfolding clap_on_literals
taken_code name rest first other = simp other refl

asked_code : (name rest : Text) (first : ℕ) → (first == 45) ≡ false → program_asked (name ∷ codes "explain" ∷ (first ∷ rest) ∷ []) ≡ Explain
unfolding clap_on_literals
asked_code name rest first other = refl

none_of_code : (name rest : Text) (first : ℕ) → (first == 45) ≡ false → domain_word (name ∷ codes "explain" ∷ (first ∷ rest) ∷ []) ≡ None
unfolding clap_on_literals
none_of_code name rest first other = refl

given_code : (name rest : Text) (first : ℕ) → (first == 45) ≡ false
    → topic_code (subcommand_of regd_command (name ∷ codes "explain" ∷ (first ∷ rest) ∷ [])) ≡ first ∷ rest
unfolding clap_on_literals
given_code name rest first other = simp other refl

taken_field : (name rest more : Text) (first second : ℕ) → (first == 45) ≡ false → (second == 45) ≡ false
    → line_faults (name ∷ codes "explain" ∷ (first ∷ rest) ∷ (second ∷ more) ∷ []) ≡ []
unfolding clap_on_literals
taken_field name rest more first second other others = simp (other, others) refl

asked_field : (name rest more : Text) (first second : ℕ) → (first == 45) ≡ false → (second == 45) ≡ false
    → program_asked (name ∷ codes "explain" ∷ (first ∷ rest) ∷ (second ∷ more) ∷ []) ≡ Explain
unfolding clap_on_literals
asked_field name rest more first second other others = refl

none_of_field : (name rest more : Text) (first second : ℕ) → (first == 45) ≡ false → (second == 45) ≡ false
    → domain_word (name ∷ codes "explain" ∷ (first ∷ rest) ∷ (second ∷ more) ∷ []) ≡ None
unfolding clap_on_literals
none_of_field name rest more first second other others = refl

given_field : (name rest more : Text) (first second : ℕ) → (first == 45) ≡ false → (second == 45) ≡ false
    → option_asked (codes "field") (name ∷ codes "explain" ∷ (first ∷ rest) ∷ (second ∷ more) ∷ []) ≡ Some (second ∷ more)
unfolding clap_on_literals
given_field name rest more first second other others = simp (other, others) refl

no_field : (name rest : Text) (first : ℕ) → (first == 45) ≡ false
    → option_asked (codes "field") (name ∷ codes "explain" ∷ (first ∷ rest) ∷ []) ≡ None
unfolding clap_on_literals
no_field name rest first other = simp other refl

given_code_of_two : (name rest more : Text) (first second : ℕ) → (first == 45) ≡ false → (second == 45) ≡ false
    → topic_code (subcommand_of regd_command (name ∷ codes "explain" ∷ (first ∷ rest) ∷ (second ∷ more) ∷ [])) ≡ first ∷ rest
unfolding clap_on_literals
given_code_of_two name rest more first second other others = simp (other, others) refl

pub explains_words : ExplainsWords
explains_words name rest more first second other others =
    let one = ne_eqb _ _ other in let two = ne_eqb _ _ others in (
      (record { taken = taken_code name rest first one; asked = asked_code name rest first one; none = none_of_code name rest first one }, given_code name rest first one, no_field name rest first one),
      (record { taken = taken_field name rest more first second one two; asked = asked_field name rest more first second one two; none = none_of_field name rest more first second one two }, given_code_of_two name rest more first second one two, given_field name rest more first second one two),
    )
