-- What the engine `session` replies to one line.
use Rattle.std.proofs.Common.{◌≡◌, ◌+◌, ◌≤◌, ◌^◌, ℕ, List, true, false, refl, ap, subst, sym, ◌∙◌}
use Rattle.std.specs.Prelude.{Ok}
use Rattle.rand_chacha.specs.ChaCha.{ChaCha}
use Rattle.spiffe_name.specs.declared.refusals.Failure.{Failure}
use Rattle.spiffe_name.specs.declared.refusals.Failure.TheVariants.{NoMemory, Refused}
use Rattle.entry_book.specs.Book.{Book}
use Rattle.entry_book.specs.Rows.{Bytes}
use Rattle.line_reading.specs.Fields.{Fails}
use Rattle.line_devices.specs.Lines.{stored_part, IsLine}
use Rattle.reg_lines.specs.Refusals.{failure_json, refusal_json}
use Rattle.line_reading.specs.Requests.{spelled}
use Rattle.reg_lines.specs.SeatLines.{seat_refusal_json}
use Rattle.line_devices.specs.Stream.{OutputState, Puts}
use Rattle.line_reading.specs.declared.fault.Fault.{Fault}
use Rattle.line_reading.specs.declared.refusal.LineRefusal.{LineRefusal}
use Rattle.reg_lines.specs.declared.printing.seats.SeatRefusal.TheVariants.{Spent}
use Rattle.line_reading.specs.declared.request.Request.{Request}
use Rattle.line_reading.proofs.Kept.{kept_spells}
use mathlib.Core.List.{IsPrefix}
use Rattle.shared_registry.specs.Seated.{CaughtUp, MaySeeFound, Seated, SawNothingNew}
use Rattle.commit_head.specs.declared.item.Item.{Item}
use Rattle.line_engines.specs.Answers.{as_line}
use Rattle.line_engines.specs.Driver.{AnswersKept}
use Rattle.reg_programs.specs.declared.session_engine.Taken.{Taken}
use Rattle.reg_programs.specs.declared.session_engine.Taken.TheVariants.{Answered, Query, NotAnswered, NotRead}
use Rattle.reg_programs.specs.Sessions.{AnswersCall, AnswersRequest, Session, answered, asked, not_read, session_skips, refused, spent}
use Rattle.reg_programs.specs.SessionsPrivate.{HasText, IsPrinted, IsToAnswer, TakesRequestLine}

-- ---- a seat that has seen what it found

pub entered : (first : List Book) (domain : Bytes) (s u t : Seated) → SawNothingNew first domain s u → MaySeeFound first domain u → t ≡ record u { seen = u.found } → CaughtUp first domain s t
entered first domain s u t is_unchanged may is =
    let after_call = is_unchanged.after_call in
    let seen : IsPrefix s.seen u.found = subst (λ (l : List Item). IsPrefix l u.found) is_unchanged.same may.seen in
    let learnt : IsPrefix s.learnt u.found = subst (λ (l : List Item). IsPrefix l u.found) after_call.learnt may.learnt in
    subst (CaughtUp first domain s) (sym is) (record {
      after_call = record {
        number = after_call.number;
        calls = after_call.calls;
        fresh = after_call.fresh;
        lawful = may.lawful;
        seen = seen;
        learnt = after_call.learnt;
        own = may.own;
      };
      seen_learnt = learnt;
    })

-- ---- a line that has its answer already

pub to_answer : (first : List Book) (domain : Bytes) (s : Seated) (taken : Taken) (learnt : List ℕ) → HasText taken learnt → IsToAnswer first domain s taken
to_answer first domain s (Answered call answer) learnt h = tt
to_answer first domain s (Query line batch) learnt h = absurd h
to_answer first domain s (NotAnswered r) learnt h = tt
to_answer first domain s (NotRead r) learnt h = tt

-- this answer is printed, and the seat stays as it is
pub printed_as : (first : List Book) (s t : Seated) (taken : Taken) (learnt text : List ℕ) → HasText taken learnt → IsPrinted first s taken t text → (t ≡ s) × (text ≡ learnt)
printed_as first s t (Answered call answer) learnt text h p = (p.0, p.1 ∙ sym h)
printed_as first s t (Query line batch) learnt text h p = absurd h
printed_as first s t (NotAnswered r) learnt text h p = (p.0, p.1 ∙ sym h)
printed_as first s t (NotRead r) learnt text h p = (p.0, p.1 ∙ sym h)

-- ---- one line

failed : (first : List Book) (domain : Bytes) (now : Session) (line text : List ℕ) (ids : ChaCha) (failure : Failure Fault) → now.ids ≡ ids → Fails failure (spelled domain now.ids line) → text ≡ failure_json (now.lines + 1) failure → TakesRequestLine first domain now line text now.seat ids
failed first domain now line text ids NoMemory i e t = record {
  next = session_skips now;
  answers = not_read refl (ap as_line t);
  seat_is = refl;
  ids_is = i;
  lines_is = refl;
}
failed first domain now line text ids (Refused fault) i e t = record {
  next = session_skips now;
  answers = refused fault e refl (ap as_line t);
  seat_is = refl;
  ids_is = i;
  lines_is = refl;
}

-- the line isn't a request, or memory ran out
pub line_refused : (first : List Book) (domain : Bytes) (now : Session) (line : List ℕ) (ids : ChaCha) (refusal : LineRefusal) → now.ids ≡ ids → Fails refusal.failure (spelled domain now.ids line) → refusal.line ≡ now.lines + 1 → TakesRequestLine first domain now line (refusal_json refusal) now.seat ids
line_refused first domain now line ids refusal i e n = failed first domain now line (refusal_json refusal) ids refusal.failure i e (ap (λ k. failure_json k refusal.failure) n)

pub seat_spent : (first : List Book) (domain : Bytes) (now : Session) (line : List ℕ) (ids : ChaCha) (request : Request) → spelled domain now.ids line ≡ Ok (request, ids) → 2 ^ 48 ≤ now.seat.calls → TakesRequestLine first domain now line (seat_refusal_json (now.lines + 1) Spent) now.seat ids
seat_spent first domain now line ids request e l = record {
  next = asked now now.seat ids;
  answers = spent request ids e l refl refl;
  seat_is = refl;
  ids_is = refl;
  lines_is = refl;
}

pub call_answered : (first : List Book) (domain : Bytes) (now : Session) (line text : List ℕ) (seat : Seated) (ids : ChaCha) (request : Request) → spelled domain now.ids line ≡ Ok (request, ids) → AnswersCall first domain now.seat request (now.lines + 1) seat text → TakesRequestLine first domain now line text seat ids
call_answered first domain now line text seat ids request e a = record {
  next = asked now seat ids;
  answers = answered request ids seat text e a refl refl;
  seat_is = refl;
  ids_is = refl;
  lines_is = refl;
}

-- what was printed is the answer that the line had, and the seat is unchanged
pub printed : (first : List Book) (domain : Bytes) (now : Session) (line learnt text : List ℕ) (seat t : Seated) (ids : ChaCha) → t ≡ seat → text ≡ learnt → TakesRequestLine first domain now line learnt seat ids → TakesRequestLine first domain now line text t ids
printed first domain now line learnt text seat t ids s e taken = subst (λ (u : Seated). TakesRequestLine first domain now line text u ids) (sym s) (subst (λ (x : List ℕ). TakesRequestLine first domain now line x seat ids) (sym e) taken)

-- ---- the line of which bytes are kept

same_state : (a b : Session) → a.seat ≡ b.seat → a.ids ≡ b.ids → a.lines ≡ b.lines → a ≡ b
same_state a b s i n =
    let p : Seated → Session = λ x. record { seat = x; ids = a.ids; lines = a.lines } in
    let q : ChaCha → Session = λ x. record { seat = b.seat; ids = x; lines = a.lines } in
    let r : ℕ → Session = λ x. record { seat = b.seat; ids = b.ids; lines = x } in
    ap p s ∙ (ap q i ∙ ap r n)

-- a reply to what is kept of a line is one to the line
of_kept : (first : List Book) (domain : Bytes) (now : Session) (line : List ℕ) (next : Session) (reply : List ℕ) → IsLine line → AnswersRequest first domain now (stored_part line) next reply → AnswersRequest first domain now line next reply
of_kept first domain now line next reply is (refused fault e n r) = refused fault (sym (kept_spells domain now.ids line is) ∙ e) n r
of_kept first domain now line next reply is (not_read n r) = not_read n r
of_kept first domain now line next reply is (spent request ids e l n r) = spent request ids (sym (kept_spells domain now.ids line is) ∙ e) l n r
of_kept first domain now line next reply is (answered request ids seat text e a n r) = answered request ids seat text (sym (kept_spells domain now.ids line is) ∙ e) a n r

-- the line of which these bytes are kept was answered
pub taken : (first : List Book) (domain : Bytes) (before after : Session) (bytes text : List ℕ) (old out : OutputState) → TakesRequestLine first domain before bytes text after.seat after.ids → after.lines ≡ before.lines + 1 → Puts old out (as_line text) → (now : Session) → now ≡ before → AnswersKept (AnswersRequest first domain) (λ _. false) (λ s. s ≡ after) now bytes old out true
taken first domain before after bytes text old out a l p now is =
    let P : Session → Type 0 = λ s. AnswersKept (AnswersRequest first domain) (λ _. false) (λ s. s ≡ after) s bytes old out true in
    let whole : (line : List ℕ) → IsLine line → bytes ≡ stored_part line → AnswersRequest first domain before line a.next (as_line text) = λ line l k. of_kept first domain before line a.next (as_line text) l (subst (λ x. AnswersRequest first domain before x a.next (as_line text)) k a.answers) in
    subst P (sym is) (a.next, as_line text, whole, p, same_state a.next after a.seat_is a.ids_is (a.lines_is ∙ sym l), refl)
