use Rattle.std.proofs.Common.{refl, sym, ◌∙◌}
use Rattle.clap.specs.Words.{found_of}
use Rattle.command_line.proofs.Words.{option_in-matches}
use Rattle.command_line.proofs.settings.option_word.Goals as goal

pub returns : goal.returns
returns c =
    let met = c.in_ok-subcommand_matches in
    c.get_str.ensures ∙ sym (option_in-matches _ (found_of met.field-0.now) _ _ (met.ensures.found.0 refl) met.ensures.rows)
