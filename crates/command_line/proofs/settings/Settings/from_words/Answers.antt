use Rattle.std.proofs.Common.{refl, sym, ◌∙◌}
use Rattle.clap.proofs.TakesLemmas.{passed_up}
use Rattle.clap.specs.Walk.{texts}
use Rattle.command_line.proofs.Words.{IsFaultOf-domain, IsFaultOf-parse, IsFaultOf-seed, IsFaultOf-server, IsFaultOf-topic, program_domain-parse, line_faults-parse, option_in-parse, program_in-parse, refusal_of_domain-parse, server-parse, topic-parse, unwrap_or-text}
use Rattle.command_line.proofs.settings.Settings.from_words.Goals as goal

pub returns-in_err-matches-clause-fault : goal.returns-in_err-matches-clause-fault
returns-in_err-matches-clause-fault c = passed_up c.from_residual-in_err-matches.result _ _ c.from_residual-in_err-matches.ensures.1
    (IsFaultOf-parse _ _ _ c.in_ok-regd_command.ensures c.in_err-matches.ensures.kinds)

pub returns-in_err-domain-clause-fault : goal.returns-in_err-domain-clause-fault
returns-in_err-domain-clause-fault c = passed_up c.from_residual-in_err-domain.result _ _ c.from_residual-in_err-domain.ensures.1
    (IsFaultOf-domain _ (texts c.args.words.now) _ _ _ c.in_ok-regd_command.ensures c.in_ok-matches.ensures.matches (line_faults-parse _ _ c.in_ok-regd_command.ensures c.in_ok-matches.ensures.kinds) c.program_of-program.ensures c.in_err-domain.ensures.fault)

pub returns-clause-taken : goal.returns-clause-taken
returns-clause-taken c = line_faults-parse _ _ c.in_ok-regd_command.ensures c.in_ok-matches.ensures.kinds

pub returns-clause-domain : goal.returns-clause-domain
returns-clause-domain c = sym (program_domain-parse _ _ _ _ c.in_ok-regd_command.ensures c.in_ok-matches.ensures.matches c.program_of-program.ensures) ∙ c.in_ok-domain.ensures.domain

pub returns-in_default-clause-fault : goal.returns-in_default-clause-fault
returns-in_default-clause-fault c =
    let fine = sym (refusal_of_domain-parse _ _ _ _ c.in_ok-regd_command.ensures c.in_ok-matches.ensures.matches c.program_of-program.ensures) ∙ c.in_ok-domain.ensures.valid in
    let parsed = c.option_word.ensures ∙ option_in-parse _ _ _ _ _ _ c.in_ok-regd_command.ensures c.in_ok-matches.ensures.matches c.program_of-program.ensures c.name.ensures in
    let seed = unwrap_or-text c.option_word.result _ _ _ _ c.unwrap_or-text.ensures refl parsed in
    IsFaultOf-seed (texts c.args.words.now) _ (line_faults-parse _ _ c.in_ok-regd_command.ensures c.in_ok-matches.ensures.kinds) fine seed c.in_default.ensures.none

pub returns-clause-seed : goal.returns-clause-seed
returns-clause-seed c =
    let parsed = c.option_word.ensures ∙ option_in-parse _ _ _ _ _ _ c.in_ok-regd_command.ensures c.in_ok-matches.ensures.matches c.program_of-program.ensures c.name.ensures in
    c.in-Some.ensures.seed ∙ unwrap_or-text c.option_word.result _ _ _ _ c.unwrap_or-text.ensures refl parsed

pub returns-clause-program : goal.returns-clause-program
returns-clause-program c = program_in-parse _ _ _ _ c.in_ok-regd_command.ensures c.in_ok-matches.ensures.matches c.program_of-program.ensures

pub returns-in_err-server-clause-fault : goal.returns-in_err-server-clause-fault
returns-in_err-server-clause-fault c =
    let fine = sym (refusal_of_domain-parse _ _ _ _ c.in_ok-regd_command.ensures c.in_ok-matches.ensures.matches c.program_of-program.ensures) ∙ c.in_ok-domain.ensures.valid in
    let parsed = c.option_word.ensures ∙ option_in-parse _ _ _ _ _ _ c.in_ok-regd_command.ensures c.in_ok-matches.ensures.matches c.program_of-program.ensures c.name.ensures in
    let seed = unwrap_or-text c.option_word.result _ _ _ _ c.unwrap_or-text.ensures refl parsed in
    passed_up c.from_residual-in_err-server.result _ _ c.from_residual-in_err-server.ensures.1
    (IsFaultOf-server _ (texts c.args.words.now) _ _ _ _ c.in_ok-regd_command.ensures c.in_ok-matches.ensures.matches (line_faults-parse _ _ c.in_ok-regd_command.ensures c.in_ok-matches.ensures.kinds) c.program_of-program.ensures fine seed c.in-Some.ensures.parsed c.in_err-server.ensures.fault)

pub returns-clause-server : goal.returns-clause-server
returns-clause-server c = server-parse _ _ _ _ _ c.in_ok-regd_command.ensures c.in_ok-matches.ensures.matches c.in_ok-server.ensures.server

pub returns-in_err-topic-clause-fault : goal.returns-in_err-topic-clause-fault
returns-in_err-topic-clause-fault c =
    let fine = sym (refusal_of_domain-parse _ _ _ _ c.in_ok-regd_command.ensures c.in_ok-matches.ensures.matches c.program_of-program.ensures) ∙ c.in_ok-domain.ensures.valid in
    let parsed = c.option_word.ensures ∙ option_in-parse _ _ _ _ _ _ c.in_ok-regd_command.ensures c.in_ok-matches.ensures.matches c.program_of-program.ensures c.name.ensures in
    let seed = unwrap_or-text c.option_word.result _ _ _ _ c.unwrap_or-text.ensures refl parsed in
    passed_up c.from_residual-in_err-topic.result _ _ c.from_residual-in_err-topic.ensures.1
    (IsFaultOf-topic _ (texts c.args.words.now) _ _ _ _ c.in_ok-regd_command.ensures c.in_ok-matches.ensures.matches (line_faults-parse _ _ c.in_ok-regd_command.ensures c.in_ok-matches.ensures.kinds) c.program_of-program.ensures fine seed c.in-Some.ensures.parsed c.in_err-topic.ensures.fault)

pub returns-clause-topic : goal.returns-clause-topic
returns-clause-topic c = topic-parse _ _ _ _ _ c.in_ok-regd_command.ensures c.in_ok-matches.ensures.matches c.in_ok-topic.ensures.topic
