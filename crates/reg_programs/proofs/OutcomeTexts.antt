-- The text of the outcome of a batch of changes is that of the call's answer, or of why it has none.
use Rattle.std.proofs.Common.{◌≡◌, ℕ, Ok, Err, ap}
use Rattle.entry_book.specs.declared.reply.CallAnswer.{CallAnswer}
use Rattle.entry_book.specs.declared.reply.CallAnswer.TheVariants as gave
use Rattle.reg_lines.specs.Replies.{answer_json}
use Rattle.shared_registry.specs.Outcomes.{answer_given}
use Rattle.shared_registry.specs.declared.outcome.Outcome.{Outcome}
use Rattle.shared_registry.specs.declared.outcome.Outcome.TheVariants.{Committed, Repeated, Refused, Conflict, NoMemory, NoEntry}
use Rattle.shared_registry.specs.declared.seat.NoAnswer.{NoAnswer}
use Rattle.shared_registry.specs.declared.seat.NoAnswer.TheVariants as no
use Rattle.reg_programs.specs.Sessions.{no_answer_json, submit_json}

pub text_given : (call line : ℕ) (o : Outcome) (answer : CallAnswer) → answer_given o ≡ Ok answer → submit_json call line o ≡ answer_json call answer
text_given call line (Committed reply) answer e = let q : gave.Replied reply ≡ answer = cc in ap (answer_json call) q
text_given call line (Repeated reply) answer e = let q : gave.Replied reply ≡ answer = cc in ap (answer_json call) q
text_given call line (Refused reply) answer e = let q : gave.Replied reply ≡ answer = cc in ap (answer_json call) q
text_given call line (Conflict n) answer e = let q : gave.Conflict n ≡ answer = cc in ap (answer_json call) q
text_given call line NoMemory answer e = cc
text_given call line NoEntry answer e = cc

pub text_ungiven : (call line : ℕ) (o : Outcome) (why : NoAnswer) → answer_given o ≡ Err why → submit_json call line o ≡ no_answer_json line why
text_ungiven call line (Committed reply) why e = cc
text_ungiven call line (Repeated reply) why e = cc
text_ungiven call line (Refused reply) why e = cc
text_ungiven call line (Conflict n) why e = cc
text_ungiven call line NoMemory why e = let q : no.NoMemory ≡ why = cc in ap (no_answer_json line) q
text_ungiven call line NoEntry why e = let q : no.NoEntry ≡ why = cc in ap (no_answer_json line) q
