use Rattle.line_reading.proofs.SeedIds.{known_first, of_their_words, zero_is_the_seeds}
use Rattle.line_reading.proofs.ids.ids_law.Goals as goal

pub returns-clause-words : goal.returns-clause-words
returns-clause-words c = of_their_words

pub returns-clause-first : goal.returns-clause-first
returns-clause-first c = known_first

pub returns-clause-zero : goal.returns-clause-zero
returns-clause-zero c = zero_is_the_seeds
