-- What the engine `schedule` replies to one line.
use Rattle.std.proofs.Common.{◌≡◌, ◌+◌, ℕ, Bool, true, false, List, refl, ap, subst, sym, ◌∙◌}
use Rattle.std.specs.Prelude.{Ok}
use Rattle.rand_chacha.specs.ChaCha.{ChaCha}
use Rattle.spiffe_name.specs.declared.refusals.Failure.{Failure}
use Rattle.spiffe_name.specs.declared.refusals.Failure.TheVariants.{NoMemory, Refused}
use Rattle.entry_book.proofs.Sets.{All-more}
use Rattle.call_machine.specs.Calls.{MachineState, first_machine}
use Rattle.call_events.specs.Events.{IsFor}
use Rattle.call_machine.specs.Machine.{Applies, AreFor, Runs}
use Rattle.call_machine.specs.Schedules.{EventAnswer}
use Rattle.call_events.specs.declared.event.Event.{Event}
use Rattle.call_machine.proofs.Runs.{event_leaves, runs_extend}
use Rattle.line_reading.specs.Events.{spelled_event}
use Rattle.line_reading.specs.Fields.{Fails}
use Rattle.line_devices.specs.Lines.{stored_part, IsLine}
use Rattle.reg_lines.specs.Refusals.{failure_json, refusal_json}
use Rattle.line_reading.specs.declared.fault.Fault.{Fault}
use Rattle.line_reading.specs.declared.refusal.LineRefusal.{LineRefusal}
use Rattle.line_reading.proofs.EventDomain.{spelled_event-domain}
use Rattle.line_reading.proofs.Kept.{kept_spells_event}
use Rattle.line_engines.specs.Answers.{as_line}
use Rattle.line_engines.specs.Schedules.{AnswersEvent, LosesLine, Scheduled, TakesEvent, applied, lacks_memory, not_read, schedule_skips, refused, stepped, took, took_none, unapplied, unread}
use Rattle.line_engines.specs.SchedulesPrivate.{AnswersOrLoses, Applied, LosesOrTakes, ScheduleKept, ScheduleRepresents, TakesEventLine, TakesKept, is_unread}

-- ---- one line

event_refused : (domain : List ℕ) (now : Scheduled) (line text : List ℕ) (machine : MachineState) (ids : ChaCha) (failure : Failure Fault) → now.machine ≡ machine → now.ids ≡ ids → Fails failure (spelled_event domain now.ids line) → text ≡ failure_json (now.lines + 1) failure → TakesEventLine domain now line text (is_unread failure) machine ids
event_refused domain now line text machine ids NoMemory m i e t = record {
  next = schedule_skips now;
  answers = not_read refl (ap as_line t);
  loses = unread refl;
  machine_is = m;
  ids_is = i;
  lines_is = refl;
  domain_is = ap (λ (s : MachineState). s.domain) (sym m);
  runs = λ first r. r;
  made = λ m. m;
}
event_refused domain now line text machine ids (Refused fault) m i e t = record {
  next = schedule_skips now;
  answers = refused fault e refl (ap as_line t);
  loses = took_none fault e refl;
  machine_is = m;
  ids_is = i;
  lines_is = refl;
  domain_is = ap (λ (s : MachineState). s.domain) (sym m);
  runs = λ first r. r;
  made = λ m. m;
}

pub line_refused : (domain : List ℕ) (now : Scheduled) (line : List ℕ) (machine : MachineState) (ids : ChaCha) (refusal : LineRefusal) → now.machine ≡ machine → now.ids ≡ ids → Fails refusal.failure (spelled_event domain now.ids line) → refusal.line ≡ now.lines + 1 → TakesEventLine domain now line (refusal_json refusal) (is_unread refusal.failure) machine ids
line_refused domain now line machine ids refusal m i e n = event_refused domain now line (refusal_json refusal) machine ids refusal.failure m i e (ap (λ k. failure_json k refusal.failure) n)

-- the line of an event that was applied was taken or lost, according to the answer
loses_or_takes : (domain : List ℕ) (now : Scheduled) (line : List ℕ) (event : Event) (ids : ChaCha) (answer : EventAnswer) (machine : MachineState) (lost : Bool) → spelled_event domain now.ids line ≡ Ok (event, ids) → Applies now.machine event answer machine → lacks_memory answer ≡ lost → LosesOrTakes lost domain now line (stepped now event answer machine ids)
loses_or_takes domain now line event ids answer machine true e a l = unapplied event ids answer machine e a l refl
loses_or_takes domain now line event ids answer machine false e a l = took event ids answer machine e a l refl

pub event_applied : (domain : List ℕ) (now : Scheduled) (line text : List ℕ) (lost : Bool) (after : MachineState) (ids : ChaCha) (event : Event) → spelled_event domain now.ids line ≡ Ok (event, ids) → Applied now.machine event (now.lines + 1) text lost after → TakesEventLine domain now line text lost after ids
event_applied domain now line text lost after ids event e a =
    let left_is = event_leaves now.machine event a.0 after a.1 in
    record {
      next = stepped now event a.0 after ids;
      answers = applied event ids a.0 after e a.1 refl (ap as_line a.2);
      loses = loses_or_takes domain now line event ids a.0 after lost e a.1 (sym a.3);
      machine_is = refl;
      ids_is = refl;
      lines_is = refl;
      domain_is = left_is.domain;
      runs = λ first r. runs_extend now.events now.answers first now.machine after event a.0 r a.1;
      made = λ m. All-more (IsFor domain) now.events event m (spelled_event-domain domain now.ids ids line event e);
    }

-- ---- the line of which bytes are kept

of_kept : (domain : List ℕ) (now : Scheduled) (line : List ℕ) (next : Scheduled) (reply : List ℕ) → IsLine line → AnswersEvent domain now (stored_part line) next reply → AnswersEvent domain now line next reply
of_kept domain now line next reply is (refused fault e n r) = refused fault (sym (kept_spells_event domain now.ids line is) ∙ e) n r
of_kept domain now line next reply is (applied event ids answer machine e a n r) = applied event ids answer machine (sym (kept_spells_event domain now.ids line is) ∙ e) a n r
of_kept domain now line next reply is (not_read n r) = not_read n r

takes_kept : (domain : List ℕ) (now : Scheduled) (line : List ℕ) (next : Scheduled) → IsLine line → TakesEvent domain now (stored_part line) next → TakesEvent domain now line next
takes_kept domain now line next is (took_none fault e n) = took_none fault (sym (kept_spells_event domain now.ids line is) ∙ e) n
takes_kept domain now line next is (took event ids answer machine e a m n) = took event ids answer machine (sym (kept_spells_event domain now.ids line is) ∙ e) a m n

loses_kept : (domain : List ℕ) (now : Scheduled) (line : List ℕ) (next : Scheduled) → IsLine line → LosesLine domain now (stored_part line) next → LosesLine domain now line next
loses_kept domain now line next is (unread n) = unread n
loses_kept domain now line next is (unapplied event ids answer machine e a m n) = unapplied event ids answer machine (sym (kept_spells_event domain now.ids line is) ∙ e) a m n

either_kept : (lost : Bool) (domain : List ℕ) (now : Scheduled) (line : List ℕ) (next : Scheduled) → IsLine line → LosesOrTakes lost domain now (stored_part line) next → LosesOrTakes lost domain now line next
either_kept true domain now line next is k = loses_kept domain now line next is k
either_kept false domain now line next is k = takes_kept domain now line next is k

both_kept : (lost : Bool) (domain : List ℕ) (now : Scheduled) (bytes : List ℕ) (next : Scheduled) (reply : List ℕ) → AnswersOrLoses lost domain now bytes next reply → (line : List ℕ) → IsLine line → bytes ≡ stored_part line → AnswersOrLoses lost domain now line next reply
both_kept lost domain now bytes next reply a line is k = (
  of_kept domain now line next reply is (subst (λ x. AnswersEvent domain now x next reply) k a.0),
  either_kept lost domain now line next is (subst (λ x. LosesOrTakes lost domain now x next) k a.1),
)

pub scheduled : (domain : List ℕ) (before after : ScheduleKept) (lines number : ℕ) (now : Scheduled) (bytes text : List ℕ) (lost : Bool) → before.machine.domain ≡ domain → ScheduleRepresents before lines now → TakesEventLine domain now bytes text lost after.machine after.ids → number ≡ lines + 1 → TakesKept domain after number now bytes text lost
scheduled domain before after lines number now bytes text lost of s a l =
    let own_domain : before.machine.domain ≡ after.machine.domain = sym (a.domain_is ∙ ap (λ (m : MachineState). m.domain) s.machine) in
    let represents : ScheduleRepresents after number a.next = record {
      runs = subst (λ d. Runs (first_machine d) a.next.events a.next.answers a.next.machine) own_domain (a.runs (first_machine before.machine.domain) s.runs);
      made = subst (λ d. AreFor d a.next.events) (sym of ∙ own_domain) (a.made (subst (λ d. AreFor d now.events) of s.made));
      machine = a.machine_is;
      ids = a.ids_is;
      lines = a.lines_is ∙ (ap (λ n. n + 1) s.lines ∙ sym l);
    } in
    (a.next, both_kept lost domain now bytes a.next (as_line text) (a.answers, a.loses), represents)
