-- What the engine `plain` replies to one line.
use Rattle.std.proofs.Common.{◌≡◌, ◌+◌, ◌≤◌, ℕ, List, true, false, refl, ap, subst, sym, ◌∙◌}
use Rattle.rand_chacha.specs.ChaCha.{ChaCha}
use Rattle.entry_book.specs.Book.{Book}
use Rattle.line_devices.specs.Lines.{stored_part, IsLine}
use Rattle.line_devices.specs.Stream.{OutputState}
use Rattle.line_reading.proofs.Kept.{kept_spells}
use Rattle.line_engines.specs.Answers.{Answers, Running, refused, replied, not_read, not_run}
use Rattle.line_engines.specs.AnswersPrivate.{AnswersLine, PlainKept, PlainRepresents}
use Rattle.line_engines.specs.Driver.{AnswersKept}

same_state : (a b : Running) → a.books ≡ b.books → a.ids ≡ b.ids → a.calls ≡ b.calls → a.lines ≡ b.lines → a ≡ b
same_state a b e i f g =
    let p : List Book → Running = λ x. record { books = x; ids = a.ids; calls = a.calls; lines = a.lines } in
    let d : ChaCha → Running = λ x. record { books = b.books; ids = x; calls = a.calls; lines = a.lines } in
    let q : ℕ → Running = λ x. record { books = b.books; ids = b.ids; calls = x; lines = a.lines } in
    let r : ℕ → Running = λ x. record { books = b.books; ids = b.ids; calls = b.calls; lines = x } in
    ap p e ∙ (ap d i ∙ (ap q f ∙ ap r g))

-- a reply to what is kept of a line is one to the line
of_kept : (domain : List ℕ) (now : Running) (line : List ℕ) (next : Running) (reply : List ℕ) → IsLine line → Answers domain now (stored_part line) next reply → Answers domain now line next reply
of_kept domain now line next reply is (refused fault e n r) = refused fault (sym (kept_spells domain now.ids line is) ∙ e) n r
of_kept domain now line next reply is (replied request ids e n r) = replied request ids (sym (kept_spells domain now.ids line is) ∙ e) n r
of_kept domain now line next reply is (not_read n r) = not_read n r
of_kept domain now line next reply is (not_run request ids e n r) = not_run request ids (sym (kept_spells domain now.ids line is) ∙ e) n r

-- the line of which these bytes are kept was answered
pub reported : (first : List Book) (domain : List ℕ) (before after : PlainKept) (lines number : ℕ) (now : Running) (bytes : List ℕ) (old out : OutputState) → PlainRepresents before lines now → AnswersLine first domain (record { books = now.books; ids = before.ids; calls = before.calls; lines = lines }) bytes old out after.book after.ids after.calls → number ≡ lines + 1 → after.calls ≤ number → AnswersKept (Answers domain) (λ _. false) (PlainRepresents after number) now bytes old out true
reported first domain before after lines number now bytes old out s a l few =
    let e = same_state (record { books = now.books; ids = before.ids; calls = before.calls; lines = lines }) now refl (sym s.1) (sym s.2) (sym s.3) in
    let P : Running → Type 0 = λ r. AnswersLine first domain r bytes old out after.book after.ids after.calls in
    let b = subst P e a in
    let Q : (x : List ℕ) → Type 0 = λ x. Answers domain now x b.0 b.1 in
    (b.0, b.1, (λ line is k. of_kept domain now line b.0 b.1 is (subst Q k b.2)), b.3, ((first, b.4), b.5, b.6, b.7 ∙ (ap (λ n. n + 1) s.3 ∙ sym l), few), refl)
