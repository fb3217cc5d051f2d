-- The records of a schedule are calls that the plain book confirms, so the verdict on them is yes.
use Rattle.std.proofs.Common.{◌≡◌, ◌≤◌, ℕ, zero, suc, inl, inr, List, [], ◌∷◌, ◌++◌, map, take, length, Option, None, Some, refl, sym, ap, ◌∙◌, subst, arith}
use Rattle.std.specs.List.{AllByRecursion, flat_map}
use Rattle.entry_book.specs.Book.{Book}
use Rattle.entry_book.specs.History.{books_after, books_from, first_books, reply_to}
use Rattle.entry_book.specs.Order.{Within}
use Rattle.entry_book.proofs.Sets.{All-within}
use Rattle.call_machine.specs.Calls.{Call}
use Rattle.call_machine.specs.Schedules.{Different}
use Rattle.line_devices.specs.Lines.{lines_of}
use Rattle.reg_lines.specs.Spelled.{FitsInLine}
use Rattle.call_audit.specs.Confirmed.{AreConfirmed, CallAt, CallHasEnded, CallsAreStrict, CallsHaveEnded, CallsAreOnce, ConfirmedAreAudited, IsReadableCall, RecordedCall, line_of_call, text_of_call}
use Rattle.call_audit.specs.Verdicts.{verdict_of_lines}
use Rattle.call_audit.specs.declared.verdict.AuditVerdict.TheVariants.{Yes}
use Rattle.line_engines.specs.Confirmed.{RecordsAreAudited, call_of}
use Rattle.line_engines.specs.Recorded.{RecordedAreLegal, AreRecords, IsEnded, IsEndedAt, IsWritten, Recorded, StampsInOrder, record_line}

abbrev calls_of : List Recorded → List RecordedCall
calls_of rs = map call_of rs

same_call : (c d : RecordedCall) → Some c ≡ Some d → d ≡ c
same_call c d e = cc

-- ---- properties of every record are properties of every call

at_call : (P : RecordedCall → Type 0) (rs : List Recorded) → AllByRecursion (λ r. P (call_of r)) rs → (i : ℕ) (c : RecordedCall) → CallAt (calls_of rs) i c → P c
at_call P [] h i c e = absurd (cc)
at_call P (r ∷ rs) h zero c e = subst P (sym (same_call (call_of r) c e)) h.0
at_call P (r ∷ rs) h (suc i) c e = at_call P rs h.1 i c e

ended_at : (r : Recorded) (replied : Option ℕ) → IsEndedAt replied r.invoked r.reply → CallHasEnded (call_of r) replied
ended_at r None h = h
ended_at r (Some n) h = h

all_ended : (rs : List Recorded) → AllByRecursion IsEnded rs → AllByRecursion (λ r. CallHasEnded (call_of r) r.replied) rs
all_ended [] h = tt
all_ended (r ∷ rs) h = (ended_at r r.replied h.0, all_ended rs h.1)

have_ended : (rs : List Recorded) → AllByRecursion IsEnded rs → CallsHaveEnded (calls_of rs)
have_ended rs h = at_call (λ c. CallHasEnded c c.replied) rs (all_ended rs h)

-- ---- each number occurs once

within_numbers : (calls : List Call) (numbers : List ℕ) (rs : List Recorded) (i : ℕ) (c : RecordedCall) → AreRecords calls numbers rs → CallAt (calls_of rs) i c → Within numbers c.call
within_numbers calls [] [] i c h e = absurd (cc)
within_numbers calls [] (r ∷ rs) i c h e = absurd h
within_numbers calls (n ∷ ns) [] i c h e = absurd h
within_numbers calls (n ∷ ns) (r ∷ rs) zero c h e = inl (sym h.0.number_is ∙ ap (λ x. x.call) (sym (same_call (call_of r) c e)))
within_numbers calls (n ∷ ns) (r ∷ rs) (suc i) c h e = inr (within_numbers calls ns rs i c h.1 e)

-- the first record's number isn't that of a later one
not_again : (calls : List Call) (n : ℕ) (ns : List ℕ) (rs : List Recorded) (j : ℕ) (b : RecordedCall) → AllByRecursion (λ d. n ≡ d → ⊥) ns → AreRecords calls ns rs → CallAt (calls_of rs) j b → n ≡ b.call → ⊥
not_again calls n ns rs j b d h e same = All-within (λ x. n ≡ x → ⊥) ns b.call d (within_numbers calls ns rs j b h e) same

are_once : (calls : List Call) (numbers : List ℕ) (rs : List Recorded) → Different numbers → AreRecords calls numbers rs → CallsAreOnce (calls_of rs)
are_once calls [] [] d h i j a b e f same = absurd (cc)
are_once calls [] (r ∷ rs) d h i j a b e f same = absurd h
are_once calls (n ∷ ns) [] d h i j a b e f same = absurd h
are_once calls (n ∷ ns) (r ∷ rs) d h zero zero a b e f same = refl
are_once calls (n ∷ ns) (r ∷ rs) d h zero (suc j) a b e f same =
    absurd (not_again calls n ns rs j b d.0 h.1 f (sym h.0.number_is ∙ ap (λ x. x.call) (sym (same_call (call_of r) a e)) ∙ same))
are_once calls (n ∷ ns) (r ∷ rs) d h (suc i) zero a b e f same =
    absurd (not_again calls n ns rs i a d.0 h.1 e (sym h.0.number_is ∙ ap (λ x. x.call) (sym (same_call (call_of r) b f)) ∙ sym same))
are_once calls (n ∷ ns) (r ∷ rs) d h (suc i) (suc j) a b e f same = ap suc (are_once calls ns rs d.1 h.1 i j a b e f same)

-- ---- what ended before another began comes before it

in_order : (rs : List Recorded) → StampsInOrder rs → CallsAreStrict (calls_of rs)
in_order [] h i j a b n l e f replied = absurd (cc)
in_order (r ∷ rs) h zero zero a b n l e f replied = absurd (omega (arith, l))
in_order (r ∷ rs) h zero (suc j) a b n l e f replied =
    subst (λ x. x.invoked ≤ n) (sym (same_call (call_of r) a e)) (at_call (λ c. (m : ℕ) → c.replied ≡ Some m → r.invoked ≤ m) rs h.0 j b f n replied)
in_order (r ∷ rs) h (suc i) zero a b n l e f replied = absurd (omega (arith, l))
in_order (r ∷ rs) h (suc i) (suc j) a b n l e f replied = in_order rs h.1 i j a b n (omega (arith, l)) e f replied

-- ---- the plain book gives the replies

given : (books : List Book) (rs : List Recorded) → RecordedAreLegal books rs → (i : ℕ) (c : RecordedCall) → CallAt (calls_of rs) i c → c.reply ≡ reply_to c.batch (books_from books (map (λ d. d.batch) (take i (calls_of rs))))
given books [] h i c e = absurd (cc)
given books (r ∷ rs) h zero c e = subst (λ x. x.reply ≡ reply_to x.batch books) (sym (same_call (call_of r) c e)) h.0
given books (r ∷ rs) h (suc i) c e = given (books_after r.batch books) rs h.1 i c e

-- ---- their lines

same_lines : (rs : List Recorded) → flat_map record_line rs ≡ flat_map line_of_call (calls_of rs)
same_lines [] = refl
same_lines (r ∷ rs) = ap (λ l. record_line r ++ l) (same_lines rs)

same_count : (rs : List Recorded) → length (calls_of rs) ≡ length rs
same_count [] = refl
same_count (r ∷ rs) = ap suc (same_count rs)

-- ---- each can be read back

readable : (domain : List ℕ) (rs : List Recorded) → AllByRecursion (λ r. r.batch.domain ≡ domain) rs → AllByRecursion IsWritten rs → AllByRecursion (λ r. FitsInLine (text_of_call (call_of r))) rs → AllByRecursion (λ r. IsReadableCall domain (call_of r)) rs
readable domain [] made written fits = tt
readable domain (r ∷ rs) made written fits = (record { domain_is = made.0; batch = written.0.0; call = written.0.1; fits = fits.0 }, readable domain rs made.1 written.1 fits.1)

pub records_are_audited : ConfirmedAreAudited → RecordsAreAudited
records_are_audited law domain last order recorded end h fits =
    let confirmed : AreConfirmed (calls_of recorded) = record { once = are_once last.machine.calls order recorded h.headline.serial.once h.records; ended = have_ended recorded h.ended; strict = in_order recorded h.in_order; legal = given first_books recorded h.legal } in
    ap (λ bytes. verdict_of_lines domain (lines_of bytes)) (h.end_is ∙ same_lines recorded)
    ∙ law domain (calls_of recorded) confirmed (at_call (IsReadableCall domain) recorded (readable domain recorded h.made_for h.written fits))
    ∙ ap (λ n. Yes n) (same_count recorded)
