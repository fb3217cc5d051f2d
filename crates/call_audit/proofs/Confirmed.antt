-- The verdict on the records of calls that the plain book confirms is yes.
use Rattle.std.proofs.Common.{◌≡◌, ◌<◌, ◌≤◌, ℕ, zero, suc, true, List, [], ◌∷◌, ◌++◌, map, take, length, Option, None, Some, Ok, inl, refl, sym, ap, ◌∙◌, subst}
use Rattle.std.specs.List.{concat, flat_map}
use Rattle.std.specs.Prelude.{slice_get, codes}
use Rattle.serde_json.specs.Data.{string}
use Rattle.serde_json.specs.Find.{get}
use Rattle.serde_json.proofs.OnLiterals.{serde_json_on_literals}
use Rattle.entry_book.specs.History.{books_of, is_committed, reply_to}
use Rattle.entry_book.specs.declared.reply.ReplyOutcome.{ReplyOutcome}
use Rattle.entry_book.specs.declared.reply.ReplyOutcome.TheVariants as outcome
use Rattle.line_devices.specs.Lines.{AreLines, IsWholeLine, OnlyLinesJoin, lines_of}
use Rattle.reg_lines.specs.OneLine.{RecordsHaveNoLf}
use Rattle.line_reading.specs.Records.{AuditRecord, spelled_record}
use Rattle.reg_lines.specs.Replies.{reply_json}
use Rattle.reg_lines.specs.Spelled.{RecordsAreSpelled}
use Rattle.reg_lines.specs.Values.{RepliesAreCompact, RepliesHaveNoFloat, outcome_data, reply_data}
use Rattle.call_audit.specs.Audits.{batches_of_records}
use Rattle.call_audit.specs.Confirmed.{AreConfirmed, CallAt, CallHasEnded, ConfirmedAreAudited, IsReadableCall, RecordedCall, line_of_call, text_of_call}
use Rattle.call_audit.specs.Follows.{AreHistory, HasEnded, IsReplyTo}
use Rattle.call_audit.specs.Verdicts.{Spell, verdict_of_lines}
use Rattle.call_audit.specs.declared.verdict.AuditVerdict.TheVariants.{Yes}
use Rattle.call_audit.proofs.Faultless.{history_is_yes}

abbrev record_of : RecordedCall → AuditRecord
record_of c = record { batch = c.batch; call = c.call; invoked = c.invoked; replied = c.replied; reply = reply_data c.call c.reply }

abbrev records_of : List RecordedCall → List AuditRecord
records_of calls = map record_of calls

-- ---- each line parses to its call's record

spells : (law : RecordsAreSpelled) (domain : List ℕ) (c : RecordedCall) → IsReadableCall domain c → spelled_record domain (line_of_call c) ≡ Ok (record_of c)
spells law domain c h = subst (λ d. spelled_record d (line_of_call c) ≡ Ok (record_of c)) h.domain_is (law c.batch c.call c.invoked c.replied c.reply h.batch h.call h.fits)

all-spell : (law : RecordsAreSpelled) (domain : List ℕ) (calls : List RecordedCall) → ((i : ℕ) (c : RecordedCall) → CallAt calls i c → IsReadableCall domain c) → Spell domain (map line_of_call calls) (records_of calls)
all-spell law domain [] h = tt
all-spell law domain (c ∷ calls) h = (spells law domain c (h 0 c refl), all-spell law domain calls (λ i d e. h (suc i) d e))

-- ---- the records, call by call

record CallOf (calls : List RecordedCall) (i : ℕ) (r : AuditRecord) : Type 0 where
  call : RecordedCall
  at : CallAt calls i call
  is : r ≡ record_of call

same_some : (c : AuditRecord) (r : AuditRecord) → Some c ≡ Some r → r ≡ c
same_some c r e = cc

call_of : (calls : List RecordedCall) (i : ℕ) (r : AuditRecord) → slice_get (records_of calls) i ≡ Some r → CallOf calls i r
call_of [] i r e = absurd (cc)
call_of (c ∷ calls) zero r e = record { call = c; at = refl; is = same_some (record_of c) r e }
call_of (c ∷ calls) (suc i) r e = let d = call_of calls i r e in record { call = d.call; at = d.at; is = d.is }

batches-front : (calls : List RecordedCall) (i : ℕ) → batches_of_records (take i (records_of calls)) ≡ map (λ e. e.batch) (take i calls)
batches-front calls zero = refl
batches-front [] (suc i) = refl
batches-front (c ∷ calls) (suc i) = ap (λ l. c.batch ∷ l) (batches-front calls i)

-- ---- a committed reply says so

committed-word : (call place : ℕ) (o : ReplyOutcome) → is_committed o ≡ true → get (codes "result") (outcome_data call place o) ≡ Some (string (codes "committed"))
unfolding serde_json_on_literals
committed-word call place (outcome.Committed rs) e = refl
committed-word call place (outcome.Answered rs) e = absurd (cc)
committed-word call place (outcome.Repeated rs) e = absurd (cc)
committed-word call place (outcome.Refused r) e = absurd (cc)

ended : (c : RecordedCall) (replied : Option ℕ) → CallHasEnded c replied → HasEnded (record_of c) replied
ended c None h = committed-word c.call c.reply.place c.reply.outcome h
ended c (Some n) h = h

-- ---- they are a history

module _ (compact : RepliesAreCompact) (plain : RepliesHaveNoFloat) (calls : List RecordedCall) (h : AreConfirmed calls) where
  at_once : (i j : ℕ) (a b : AuditRecord) → slice_get (records_of calls) i ≡ Some a → slice_get (records_of calls) j ≡ Some b → a.call ≡ b.call → i ≡ j
  at_once i j a b e f same =
      let c = call_of calls i a e in
      let d = call_of calls j b f in
      h.once i j c.call d.call c.at d.at (ap (λ r. r.call) (sym c.is) ∙ same ∙ ap (λ r. r.call) d.is)

  have_ended : (i : ℕ) (r : AuditRecord) → slice_get (records_of calls) i ≡ Some r → HasEnded r r.replied
  have_ended i r e =
      let c = call_of calls i r e in
      subst (λ x. HasEnded x x.replied) (sym c.is) (ended c.call c.call.replied (h.ended i c.call c.at))

  are_strict : (i j : ℕ) (a b : AuditRecord) (n : ℕ) → i < j → slice_get (records_of calls) i ≡ Some a → slice_get (records_of calls) j ≡ Some b → b.replied ≡ Some n → a.invoked ≤ n
  are_strict i j a b n l e f replied =
      let c = call_of calls i a e in
      let d = call_of calls j b f in
      subst (λ x. x.invoked ≤ n) (sym c.is) (h.strict i j c.call d.call n l c.at d.at (ap (λ r. r.replied) (sym d.is) ∙ replied))

  reply-text : (i : ℕ) (c : RecordedCall) → CallAt calls i c → IsReplyTo (record_of c) (take i (records_of calls))
  reply-text i c at =
      let given : c.reply ≡ reply_to c.batch (books_of (batches_of_records (take i (records_of calls)))) = h.legal i c at ∙ ap (λ bs. reply_to c.batch (books_of bs)) (sym (batches-front calls i)) in
      record { whole = plain c.call c.reply; text = sym (compact c.call c.reply) ∙ ap (reply_json c.call) given }

  are_legal : (i : ℕ) (r : AuditRecord) → slice_get (records_of calls) i ≡ Some r → IsReplyTo r (take i (records_of calls))
  are_legal i r e =
      let c = call_of calls i r e in
      subst (λ x. IsReplyTo x (take i (records_of calls))) (sym c.is) (reply-text i c.call c.at)

  are_history : AreHistory (records_of calls)
  are_history = record { once = at_once; ended = have_ended; strict = are_strict; legal = are_legal }

-- ---- the lines of what is printed

whole : (law : RecordsHaveNoLf) (c : RecordedCall) → IsWholeLine (line_of_call c)
whole law c = (text_of_call c, law c.batch c.call c.invoked c.replied c.reply, refl)

are_lines : (law : RecordsHaveNoLf) (calls : List RecordedCall) → AreLines (map line_of_call calls)
are_lines law [] = tt
are_lines law (c ∷ []) = inl (whole law c)
are_lines law (c ∷ d ∷ calls) = (whole law c, are_lines law (d ∷ calls))

joined : (calls : List RecordedCall) → flat_map line_of_call calls ≡ concat (map line_of_call calls)
joined [] = refl
joined (c ∷ calls) = ap (λ l. line_of_call c ++ l) (joined calls)

count : (calls : List RecordedCall) → length (records_of calls) ≡ length calls
count [] = refl
count (c ∷ calls) = ap suc (count calls)

pub confirmed_are_audited : RecordsAreSpelled → RecordsHaveNoLf → OnlyLinesJoin → RepliesAreCompact → RepliesHaveNoFloat → ConfirmedAreAudited
confirmed_are_audited law lines only compact plain domain calls h readable =
    ap (λ bytes. verdict_of_lines domain (lines_of bytes)) (joined calls)
    ∙ ap (verdict_of_lines domain) (sym (only (map line_of_call calls) (are_lines lines calls)))
    ∙ history_is_yes domain (map line_of_call calls) (records_of calls) (all-spell law domain calls readable) (are_history compact plain calls h)
    ∙ ap (λ n. Yes n) (count calls)
