-- The JSON values of the lines of schedules, and the theorem that each line is the compact text of its value.
use Rattle.std.specs.Prelude.{◌≡◌, ℕ, false, List, codes}
use Rattle.serde_json.specs.Data.{Data, object, string, put, no_members}
use Rattle.serde_json.specs.Written.{compact_text, has_float}
use Rattle.entry_book.specs.declared.limit.Limit.{Limit}
use Rattle.entry_book.specs.Codes.{limit_code}
use Rattle.version_book.specs.declared.mark.MarkKind.{MarkKind}
use Rattle.batch_work.specs.declared.status.Status.{Status}
use Rattle.batch_work.specs.declared.status.Status.TheVariants.{New}
use Rattle.call_events.specs.Events.{event_code}
use Rattle.call_answers.specs.declared.answer.Decision.{Decision}
use Rattle.call_answers.specs.declared.answer.Decision.TheVariants as is
use Rattle.call_answers.specs.declared.answer.Done.{Done}
use Rattle.call_answers.specs.declared.answer.Done.TheVariants.{Invoked, Begun, Stepped, Decided, Answered}
use Rattle.call_events.specs.declared.event.EventRefusal.{EventRefusal}
use Rattle.entry_book.specs.declared.reply.CallAnswer.{CallAnswer}
use Rattle.entry_book.specs.declared.reply.CallAnswer.TheVariants.{Replied, Conflict}
use Rattle.reg_lines.specs.EventAnswers.{event_json, event_refusal_json, mark_text, order_json, status_text}
use Rattle.reg_lines.specs.Values.{conflict_data, list_data, refused_line_data, reply_data, whole}

abbrev pub mark_data : MarkKind → Data
mark_data m = string (mark_text m)

abbrev pub status_data : Status → Data
status_data s = string (status_text s)

-- ---- accepted events

abbrev pub invoked_data : ℕ → Data
invoked_data call = object (
    put (codes "call") (whole call) (
    put (codes "state") (status_data New)
    no_members))

abbrev pub begun_data : ℕ → ℕ → Status → Data
begun_data call place status = object (
    put (codes "call") (whole call) (
    put (codes "place") (whole place) (
    put (codes "state") (status_data status)
    no_members)))

abbrev pub stepped_data : ℕ → MarkKind → Status → Data
stepped_data call read status = object (
    put (codes "call") (whole call) (
    put (codes "read") (mark_data read) (
    put (codes "state") (status_data status)
    no_members)))

abbrev pub commit_data : ℕ → List ℕ → ℕ → Data
commit_data call word place = object (
    put (codes "call") (whole call) (
    put (codes "commit") (string word) (
    put (codes "place") (whole place)
    no_members)))

abbrev pub full_data : ℕ → Limit → ℕ → Data
full_data call limit place = object (
    put (codes "call") (whole call) (
    put (codes "code") (string (limit_code limit)) (
    put (codes "commit") (string (codes "full")) (
    put (codes "place") (whole place)
    no_members))))

abbrev pub decided_data : ℕ → Decision → ℕ → Data
decided_data call is.Committed place = commit_data call (codes "committed") place
decided_data call is.Conflict place = commit_data call (codes "conflict") place
decided_data call (is.Full limit) place = full_data call limit place

abbrev pub answer_data : ℕ → CallAnswer → Data
answer_data call (Replied reply) = reply_data call reply
answer_data call (Conflict place) = conflict_data call place

abbrev pub event_data : Done → Data
event_data (Invoked call) = invoked_data call
event_data (Begun call place status) = begun_data call place status
event_data (Stepped call read status) = stepped_data call read status
event_data (Decided call decision place) = decided_data call decision place
event_data (Answered call answer) = answer_data call answer

-- ---- refused events, and the order

abbrev pub event_refusal_data : ℕ → EventRefusal → Data
event_refusal_data line r = refused_line_data line (event_code r)

abbrev pub order_data : List ℕ → Data
order_data calls = object (put (codes "order") (list_data whole calls) no_members)

-- ---- the theorem

abbrev pub EventsAreCompact : Type 0
EventsAreCompact = (done : Done) → event_json done ≡ compact_text (event_data done)

abbrev pub EventRefusalsAreCompact : Type 0
EventRefusalsAreCompact = (line : ℕ) (r : EventRefusal) → event_refusal_json line r ≡ compact_text (event_refusal_data line r)

abbrev pub OrdersAreCompact : Type 0
OrdersAreCompact = (calls : List ℕ) → order_json calls ≡ compact_text (order_data calls)

abbrev pub EventsHaveNoFloat : Type 0
EventsHaveNoFloat = (done : Done) → has_float (event_data done) ≡ false

abbrev pub EventRefusalsHaveNoFloat : Type 0
EventRefusalsHaveNoFloat = (line : ℕ) (r : EventRefusal) → has_float (event_refusal_data line r) ≡ false

abbrev pub OrdersHaveNoFloat : Type 0
OrdersHaveNoFloat = (calls : List ℕ) → has_float (order_data calls) ≡ false
