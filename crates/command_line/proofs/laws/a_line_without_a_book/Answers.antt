use Rattle.command_line.proofs.Lines.{explains_words, program_alone, serves_on, version_is_asked}
use Rattle.command_line.proofs.laws.a_line_without_a_book.Goals as goal

pub returns-clause-explained : goal.returns-clause-explained
returns-clause-explained c = explains_words

pub returns-clause-alone : goal.returns-clause-alone
returns-clause-alone c = program_alone

pub returns-clause-version : goal.returns-clause-version
returns-clause-version c = version_is_asked

pub returns-clause-serves_on : goal.returns-clause-serves_on
returns-clause-serves_on c = serves_on
