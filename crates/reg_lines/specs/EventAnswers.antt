-- The lines that answer events, and the one that reports the order: compact text, with the keys of each object in ascending order
-- of their bytes.
use Rattle.std.specs.Prelude.{ℕ, List, ◌++◌, codes, decimal}
use Rattle.entry_book.specs.declared.limit.Limit.{Limit}
use Rattle.entry_book.specs.Codes.{limit_code}
use Rattle.version_book.specs.declared.mark.MarkKind.{MarkKind}
use Rattle.version_book.specs.declared.mark.MarkKind.TheVariants as mark
use Rattle.batch_work.specs.declared.status.Status.{Status}
use Rattle.batch_work.specs.declared.status.Status.TheVariants.{New, Running, Ready, Settled}
use Rattle.call_events.specs.Events.{event_code}
use Rattle.call_answers.specs.declared.answer.Decision.{Decision}
use Rattle.call_answers.specs.declared.answer.Decision.TheVariants as is
use Rattle.call_answers.specs.declared.answer.Done.{Done}
use Rattle.call_answers.specs.declared.answer.Done.TheVariants.{Invoked, Begun, Stepped, Decided, Answered}
use Rattle.call_events.specs.declared.event.EventRefusal.{EventRefusal}
use Rattle.reg_lines.specs.Json.{list_json, text_json}
use Rattle.reg_lines.specs.Refusals.{refused_line_json}
use Rattle.reg_lines.specs.Replies.{answer_json, uuid_text}

-- ---- reads and statuses

-- the kind of the rows of a mark, and which they are
abbrev pub mark_text : MarkKind → List ℕ
mark_text (mark.Entry id) = codes "entry " ++ uuid_text id
mark_text (mark.Group parent identity) = codes "group " ++ parent ++ codes " " ++ identity
mark_text (mark.Children parent) = codes "children " ++ parent
mark_text (mark.Users domain) = codes "users " ++ domain
mark_text (mark.Expiring moment) = codes "expiring " ++ decimal moment
mark_text mark.All = codes "all"
mark_text (mark.Agent id) = codes "agent " ++ id
mark_text (mark.Bundle domain) = codes "bundle " ++ domain
mark_text (mark.Token token) = codes "token " ++ uuid_text token

abbrev pub mark_json : MarkKind → List ℕ
mark_json m = text_json (mark_text m)

abbrev pub status_text : Status → List ℕ
status_text New = codes "new"
status_text Running = codes "running"
status_text Ready = codes "ready"
status_text Settled = codes "settled"

abbrev pub status_json : Status → List ℕ
status_json s = text_json (status_text s)

-- ---- accepted events

unfoldable pub invoked_json : ℕ → List ℕ
invoked_json call = codes "{\"call\":" ++ decimal call ++ codes ",\"state\":\"new\"}"

unfoldable pub begun_json : ℕ → ℕ → Status → List ℕ
begun_json call place status =
    codes "{\"call\":" ++ decimal call
    ++ codes ",\"place\":" ++ decimal place
    ++ codes ",\"state\":" ++ status_json status
    ++ codes "}"

unfoldable pub stepped_json : ℕ → MarkKind → Status → List ℕ
stepped_json call read status =
    codes "{\"call\":" ++ decimal call
    ++ codes ",\"read\":" ++ mark_json read
    ++ codes ",\"state\":" ++ status_json status
    ++ codes "}"

-- a commit that met no limit, with the word for its decision
unfoldable pub commit_json : ℕ → List ℕ → ℕ → List ℕ
commit_json call word place =
    codes "{\"call\":" ++ decimal call
    ++ codes ",\"commit\":" ++ text_json word
    ++ codes ",\"place\":" ++ decimal place
    ++ codes "}"

unfoldable pub full_json : ℕ → Limit → ℕ → List ℕ
full_json call limit place =
    codes "{\"call\":" ++ decimal call
    ++ codes ",\"code\":" ++ text_json (limit_code limit)
    ++ codes ",\"commit\":\"full\",\"place\":" ++ decimal place
    ++ codes "}"

abbrev pub decided_json : ℕ → Decision → ℕ → List ℕ
decided_json call is.Committed place = commit_json call (codes "committed") place
decided_json call is.Conflict place = commit_json call (codes "conflict") place
decided_json call (is.Full limit) place = full_json call limit place

abbrev pub event_json : Done → List ℕ
event_json (Invoked call) = invoked_json call
event_json (Begun call place status) = begun_json call place status
event_json (Stepped call read status) = stepped_json call read status
event_json (Decided call decision place) = decided_json call decision place
event_json (Answered call answer) = answer_json call answer

-- ---- refused events, and the order

-- the refusal of the event on the line of this number
abbrev pub event_refusal_json : ℕ → EventRefusal → List ℕ
event_refusal_json line r = refused_line_json line (event_code r)

unfoldable pub order_json : List ℕ → List ℕ
order_json calls = codes "{\"order\":" ++ list_json decimal calls ++ codes "}"
