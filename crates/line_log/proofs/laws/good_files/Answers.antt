use Rattle.std.proofs.Common.{inl, inr, [], sym, ◌∙◌}
use Rattle.line_log.proofs.HashLemmas.{hashed_same, no_wrong_line}
use Rattle.line_log.specs.Hashes.{hashed}
use Rattle.line_log.proofs.LongLemmas.{no_long_line}
use Rattle.line_log.proofs.laws.good_files.Goals as goal

pub returns-clause-never_damaged : goal.returns-clause-never_damaged
returns-clause-never_damaged c mixes file all lines n is end due = elim (due.1) [
  | inl line ↦ no_wrong_line file all lines is line
  | inr wrong ↦ wrong.wrong end
]

pub returns-clause-never_too_long : goal.returns-clause-never_too_long
returns-clause-never_too_long c mixes file lines more n is short end due = no_long_line mixes file (hashed lines) more is short end due.1

pub returns-clause-one_list : goal.returns-clause-one_list
returns-clause-one_list c file lines others is other = hashed_same [] lines others (sym is ∙ other)
