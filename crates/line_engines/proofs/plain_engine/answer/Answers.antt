use Rattle.std.proofs.Common.{◌≡◌, ◌+◌, ℕ, List, refl, inl, inr, subst, sym, ◌∙◌, arith}
use Rattle.std.specs.Prelude.{Ok}
use Rattle.spiffe_name.specs.declared.refusals.Failure.{Failure}
use Rattle.spiffe_name.specs.declared.refusals.Failure.TheVariants.{NoMemory, Refused}
use Rattle.rand_chacha.specs.ChaCha.{ChaCha}
use Rattle.entry_book.specs.Book.{Book}
use Rattle.entry_book.specs.History.{PlainState, RepresentsFrom, books_after, reply_to}
use Rattle.line_reading.specs.Fields.{Fails}
use Rattle.reg_lines.specs.Refusals.{fault_json, failure_json, no_memory_json}
use Rattle.reg_lines.specs.Replies.{reply_json}
use Rattle.line_reading.specs.Requests.{spelled}
use Rattle.line_devices.specs.Stream.{OutputState, Puts}
use Rattle.line_reading.specs.declared.fault.Fault.{Fault}
use Rattle.line_reading.specs.declared.request.Request.{Request}
use Rattle.line_engines.specs.Answers.{Running, as_line, called, plain_skips, refused, replied, not_read, not_run}
use Rattle.line_engines.specs.AnswersPrivate.{AnswersBatch, AnswersLine}
use Rattle.line_engines.proofs.plain_engine.answer.Goals as goal

-- the line isn't a batch, or memory ran out
of_failure : (first : List Book) (domain : List ℕ) (now : Running) (line : List ℕ) (old new : OutputState) (book : PlainState) (ids : ChaCha) (failure : Failure Fault) → RepresentsFrom first book now.books → Fails failure (spelled domain now.ids line) → now.ids ≡ ids → Puts old new (as_line (failure_json (now.lines + 1) failure)) → AnswersLine first domain now line old new book ids now.calls
of_failure first domain now line old new book ids NoMemory s e i p = (plain_skips now, as_line (no_memory_json (now.lines + 1)), not_read refl refl, p, s, i, refl, refl)
of_failure first domain now line old new book ids (Refused fault) s e i p = (plain_skips now, as_line (fault_json (now.lines + 1) fault), refused fault e refl refl, p, s, i, refl, refl)

of_batch : (first : List Book) (domain : List ℕ) (now : Running) (line : List ℕ) (old new : OutputState) (book : PlainState) (ids : ChaCha) (request : Request) → spelled domain now.ids line ≡ Ok (request, ids) → AnswersBatch first now.books request.batch (now.calls + 1) (now.lines + 1) old new book → AnswersLine first domain now line old new book ids (now.calls + 1)
of_batch first domain now line old new book ids request e (inl a) = (called now (books_after request.batch now.books) ids, as_line (reply_json (now.calls + 1) (reply_to request.batch now.books)), replied request ids e refl refl, a.1, a.0, refl, refl, refl)
of_batch first domain now line old new book ids request e (inr a) = (called now now.books ids, as_line (no_memory_json (now.lines + 1)), not_run request ids e refl refl, a.1, a.0, refl, refl, refl)

pub returns-in-Err-clause-line : goal.returns-in-Err-clause-line
returns-in-Err-clause-line g c = λ first books lines represents next few.
    let said = c.in-Err.ensures.spelled in
    let reported = rw c.domain.ensures at said.1 in
    let put = subst (λ (line : ℕ). Puts c.args.output.now c.print_line.new.output (as_line (failure_json line c.in-Err.refusal.failure))) (said.0 ∙ next) c.print_line.ensures in
    of_failure first c.args.book.now.domain (record { books = books; ids = c.args.ids.now; calls = c.args.calls; lines = lines }) c.args.line.now _ _ _ _ c.in-Err.refusal.failure represents reported (sym c.in-Err.ensures.kept) put

pub returns-in-Ok-clause-line : goal.returns-in-Ok-clause-line
returns-in-Ok-clause-line g c = λ first books lines represents next few.
    let e = rw c.domain.ensures at c.in-Ok.ensures.spelled in
    let now : Running = record { books = books; ids = c.args.ids.now; calls = c.args.calls; lines = lines } in
    let numbered : c.saturating_add-calls.result ≡ c.args.calls + 1 = omega arith in
    let P : ℕ → ℕ → Type 0 = λ call line. AnswersBatch first books c.in-Ok.request.batch call line c.args.output.now c.call.new.output c.call.new.book in
    let answered = subst (λ (line : ℕ). P (c.args.calls + 1) line) next (subst (λ (call : ℕ). P call c.args.number) numbered (c.call.ensures.answered first books represents)) in
    let Q : ℕ → Type 0 = λ calls. AnswersLine first c.args.book.now.domain now c.args.line.now c.args.output.now c.call.new.output c.call.new.book c.read_request.new.ids calls in
    subst Q (sym numbered) (of_batch first c.args.book.now.domain now c.args.line.now _ _ _ _ c.in-Ok.request e answered)
