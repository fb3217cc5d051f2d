-- The printed lines of a schedule are the compact texts of values.
use Rattle.std.proofs.Common.{◌≡◌, ℕ, false, List, [], ◌∷◌, refl, ◌∙◌, append_assoc}
use Rattle.std.specs.Prelude.{codes, decimal}
use Rattle.serde_json.specs.Written.{compact_text, has_float}
use Rattle.serde_json.proofs.OnLiterals.{serde_json_on_literals}
use Rattle.entry_book.specs.declared.limit.Limit.{Limit}
use Rattle.entry_book.specs.Codes.{limit_code}
use Rattle.version_book.specs.declared.mark.MarkKind.{MarkKind}
use Rattle.batch_work.specs.declared.status.Status.{Status}
use Rattle.call_events.specs.Events.{event_code}
use Rattle.call_answers.specs.declared.answer.Decision.{Decision}
use Rattle.call_answers.specs.declared.answer.Decision.TheVariants as is
use Rattle.call_answers.specs.declared.answer.Done.TheVariants.{Invoked, Begun, Stepped, Decided, Answered}
use Rattle.entry_book.specs.declared.reply.CallAnswer.{CallAnswer}
use Rattle.entry_book.specs.declared.reply.CallAnswer.TheVariants.{Replied, Conflict}
use Rattle.reg_lines.specs.Replies.{answer_json}
use Rattle.reg_lines.specs.EventAnswers.{begun_json, commit_json, decided_json, full_json, invoked_json, mark_json, order_json, status_json, stepped_json}
use Rattle.reg_lines.specs.EventValues.{answer_data, begun_data, commit_data, decided_data, full_data, invoked_data, stepped_data}
use Rattle.reg_lines.specs.EventValues.{EventsAreCompact, EventsHaveNoFloat, EventRefusalsAreCompact, EventRefusalsHaveNoFloat, OrdersAreCompact, OrdersHaveNoFloat}
use Rattle.reg_lines.specs.Json.{list_json, text_json}
use Rattle.reg_lines.specs.Values.{list_data, whole}
use Rattle.reg_lines.proofs.Compact.{text_json-is, list_json-is, left-right, refused_line_json-is, reply_json-is, conflict_json-is, reply-no_float, conflict-no_float, list-no_float}

-- ---- accepted events

invoked_json-is : (call : ℕ) → invoked_json call ≡ compact_text (invoked_data call)
unfolding invoked_json serde_json_on_literals
invoked_json-is call = left-right (codes "{\"call\":") (decimal call ∷ codes ",\"state\":\"new\"}" ∷ []) ∙ refl

begun_json-is : (call place : ℕ) (status : Status) → begun_json call place status ≡ compact_text (begun_data call place status)
unfolding begun_json serde_json_on_literals
begun_json-is call place status =
    left-right (codes "{\"call\":") (
    decimal call
    ∷ codes ",\"place\":" ∷ decimal place
    ∷ codes ",\"state\":" ∷ status_json status
    ∷ codes "}" ∷ [])
    ∙ simp text_json-is refl

stepped_json-is : (call : ℕ) (read : MarkKind) (status : Status) → stepped_json call read status ≡ compact_text (stepped_data call read status)
unfolding stepped_json serde_json_on_literals
stepped_json-is call read status =
    left-right (codes "{\"call\":") (
    decimal call
    ∷ codes ",\"read\":" ∷ mark_json read
    ∷ codes ",\"state\":" ∷ status_json status
    ∷ codes "}" ∷ [])
    ∙ simp text_json-is refl

commit_json-is : (call : ℕ) (word : List ℕ) (place : ℕ) → commit_json call word place ≡ compact_text (commit_data call word place)
unfolding commit_json serde_json_on_literals
commit_json-is call word place =
    left-right (codes "{\"call\":") (
    decimal call
    ∷ codes ",\"commit\":" ∷ text_json word
    ∷ codes ",\"place\":" ∷ decimal place
    ∷ codes "}" ∷ [])
    ∙ simp text_json-is refl

full_json-is : (call : ℕ) (limit : Limit) (place : ℕ) → full_json call limit place ≡ compact_text (full_data call limit place)
unfolding full_json serde_json_on_literals
full_json-is call limit place =
    left-right (codes "{\"call\":") (
    decimal call
    ∷ codes ",\"code\":" ∷ text_json (limit_code limit)
    ∷ codes ",\"commit\":\"full\",\"place\":" ∷ decimal place
    ∷ codes "}" ∷ [])
    ∙ simp text_json-is refl

decided_json-is : (call : ℕ) (decision : Decision) (place : ℕ) → decided_json call decision place ≡ compact_text (decided_data call decision place)
decided_json-is call is.Committed place = commit_json-is call (codes "committed") place
decided_json-is call is.Conflict place = commit_json-is call (codes "conflict") place
decided_json-is call (is.Full limit) place = full_json-is call limit place

answer_json-is : (call : ℕ) (answer : CallAnswer) → answer_json call answer ≡ compact_text (answer_data call answer)
answer_json-is call (Replied reply) = reply_json-is call reply
answer_json-is call (Conflict place) = conflict_json-is call place

pub event_json-is : EventsAreCompact
event_json-is (Invoked call) = invoked_json-is call
event_json-is (Begun call place status) = begun_json-is call place status
event_json-is (Stepped call read status) = stepped_json-is call read status
event_json-is (Decided call decision place) = decided_json-is call decision place
event_json-is (Answered call answer) = answer_json-is call answer

-- ---- refused events, and the order

pub event_refusal_json-is : EventRefusalsAreCompact
event_refusal_json-is line r = refused_line_json-is line (event_code r)

numbers-are : (ns : List ℕ) → list_json decimal ns ≡ compact_text (list_data whole ns)
unfolding serde_json_on_literals
numbers-are ns = list_json-is decimal whole (λ n. refl) ns

pub order_json-is : OrdersAreCompact
unfolding order_json serde_json_on_literals
order_json-is calls = simp (append_assoc, numbers-are) refl

-- ---- no value has a float

decided-no_float : (call : ℕ) (decision : Decision) (place : ℕ) → has_float (decided_data call decision place) ≡ false
decided-no_float call is.Committed place = refl
decided-no_float call is.Conflict place = refl
decided-no_float call (is.Full limit) place = refl

answer-no_float : (call : ℕ) (answer : CallAnswer) → has_float (answer_data call answer) ≡ false
answer-no_float call (Replied reply) = reply-no_float call reply
answer-no_float call (Conflict place) = conflict-no_float call place

pub event-no_float : EventsHaveNoFloat
event-no_float (Invoked call) = refl
event-no_float (Begun call place status) = refl
event-no_float (Stepped call read status) = refl
event-no_float (Decided call decision place) = decided-no_float call decision place
event-no_float (Answered call answer) = answer-no_float call answer

pub event_refusal-no_float : EventRefusalsHaveNoFloat
event_refusal-no_float line r = refl

pub order-no_float : OrdersHaveNoFloat
order-no_float calls = simp (list-no_float whole (λ n. refl)) refl
