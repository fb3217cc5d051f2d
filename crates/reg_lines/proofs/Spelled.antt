-- The text of a batch is a line that parses to it, and that of a record parses to that record.
use Rattle.std.proofs.Common.{◌≡◌, ℕ, ◌-◌, ◌<◌, ◌≤◌, ◌^◌, true, false, cond, List, [], ◌∷◌, ◌++◌, map, take, length, Option, None, Some, Ok, refl, ap, ◌∙◌, arith, length-append, lt-ltb, le-ltb}
use Rattle.std.specs.Prelude.{slice_index, codes, nat_lt, ◌&&◌, ◌==◌, IfSome}
use Rattle.std.specs.List.{AllByRecursion}
use Rattle.std.specs.Io.BufRead.{ends_with_byte, strip_last}
use Rattle.serde_json.specs.Data.{Data, object, Members, no_members, put}
use Rattle.serde_json.specs.Find.{get, as_object}
use Rattle.serde_json.specs.Read.{max_depth}
use Rattle.serde_json.specs.Written.{compact_text}
use Rattle.serde_json.specs.View.{items_of}
use Rattle.rand_chacha.specs.ChaCha.{ChaCha}
use Rattle.entry_book.specs.Batches.{Batch, batch_refusal, op_fault}
use Rattle.entry_book.specs.declared.op.Op.{Op}
use Rattle.entry_book.specs.declared.reply.Reply.{Reply}
use Rattle.line_reading.specs.declared.fault.Key.{Key}
use Rattle.line_reading.specs.declared.fault.Key.TheVariants as key
use Rattle.line_reading.specs.Batches.{batch_in, listed_in, missing_with_token}
use Rattle.line_reading.specs.Codes.{key_name}
use Rattle.reg_lines.specs.ReadBack.{IsWrittenOp}
use Rattle.line_reading.specs.Fields.{◌>>=◌, no_others, optional_number_at, tries_at}
use Rattle.reg_lines.specs.RecordLines.{batch_json, record_json}
use Rattle.reg_lines.specs.RecordValues.{batch_data, op_data, record_data}
use Rattle.line_reading.specs.Records.{record_in, spelled_record}
use Rattle.line_reading.specs.Requests.{framed, line_limit, object_in, request_in, spelled, value_in}
use Rattle.reg_lines.proofs.Typed.{typed-put}
use Rattle.reg_lines.specs.Spelled.{BatchesAreSpelled, OpsAreSpelled, batch_of_one, FitsInLine, IsTyped, IsWrittenBatch, IsWrittenCall, RecordsAreSpelled}
use Rattle.reg_lines.specs.Values.{list_data, option_data, reply_data, whole}
use Rattle.reg_lines.proofs.CompactRecords.{batch_json-is, record_json-is}
use Rattle.reg_lines.proofs.Canonical.{IsCanonical, line-utf8, read-line}
use Rattle.reg_lines.proofs.CanonicalValues.{batch-canonical, record-canonical}
use Rattle.reg_lines.proofs.ReadBack.{Due, found, members_due, or_none}
use Rattle.reg_lines.proofs.ReadBackOps.{only}
use Rattle.reg_lines.proofs.ReadBackRecords.{batch-due, batch_due, listed-back, ops-back, record-back}
use Rattle.line_reading.proofs.Utf8.{value_in-text}

-- ---- the frame of a line

last : (xs : List ℕ) → slice_index (xs ++ 10 ∷ []) (length xs) ≡ 10
last [] = refl
last (x ∷ xs) = last xs

front : (xs : List ℕ) → take (length xs) (xs ++ 10 ∷ []) ≡ xs
front [] = refl
front (x ∷ xs) = ap (λ l. x ∷ l) (front xs)

one_less : (xs : List ℕ) → length (xs ++ 10 ∷ []) - 1 ≡ length xs
one_less xs = omega (arith, length-append xs (10 ∷ []))

ends : (xs : List ℕ) → ends_with_byte 10 (xs ++ 10 ∷ []) ≡ true
ends xs = ap (λ n. nat_lt 0 (length (xs ++ 10 ∷ [])) && (slice_index (xs ++ 10 ∷ []) n == 10)) (one_less xs) ∙ rw (last xs) (rw (lt-ltb 0 (length (xs ++ 10 ∷ [])) (omega (arith, length-append xs (10 ∷ [])))) refl)

stripped : (xs : List ℕ) → strip_last 10 (xs ++ 10 ∷ []) ≡ xs
stripped xs = ap (λ b. cond b (take (length (xs ++ 10 ∷ []) - 1) (xs ++ 10 ∷ [])) (xs ++ 10 ∷ [])) (ends xs) ∙ ap (λ n. take n (xs ++ 10 ∷ [])) (one_less xs) ∙ front xs

not_over : (xs : List ℕ) → FitsInLine xs → nat_lt line_limit (length xs) ≡ false
not_over xs h = le-ltb line_limit (length xs) h

framed-text : (xs : List ℕ) → FitsInLine xs → framed (xs ++ 10 ∷ []) ≡ Ok tt
unfolding framed
framed-text xs h = rw (stripped xs) (rw (not_over xs h) (rw (ends xs) refl))

-- ---- the value of a line

value-text : (n : ℕ) (d : Data) → IsCanonical n d → n ≤ max_depth → IsTyped d → value_in (compact_text d ++ 10 ∷ []) ≡ Ok d
value-text n d canonical shallow typed = value_in-text _ _ (line-utf8 n d canonical typed) (read-line n d shallow canonical typed)

-- ---- a batch

abbrev request_keys : List Key
request_keys = key.Ops ∷ key.After ∷ key.Token ∷ key.Tries ∷ []

tried-once : (d : Data) → get (key_name key.Tries) d ≡ None → tries_at key.Tries d ≡ Ok 1
unfolding tries_at optional_number_at
tried-once d e = rw e refl

batch_in-back : (batch : Batch) (ids : ChaCha) → AllByRecursion IsWrittenOp batch.ops → batch_refusal batch.domain batch.ops batch.token ≡ None
    → batch_in batch.domain ids (record { items = items_of (map op_data batch.ops); after = batch.after; token = batch.token }) ≡ Ok (batch, ids)
unfolding batch_in
batch_in-back batch ids w f = rw (ops-back 0 (missing_with_token batch.token) ids batch.ops w) (rw f refl)

request-back : (d : Data) (ms : Members) (batch : Batch) (ids : ChaCha)
    → listed_in d ≡ Ok (record { items = items_of (map op_data batch.ops); after = batch.after; token = batch.token }) → tries_at key.Tries d ≡ Ok 1 → no_others request_keys ms ≡ Ok tt
    → AllByRecursion IsWrittenOp batch.ops → batch_refusal batch.domain batch.ops batch.token ≡ None
    → request_in batch.domain ids d ms ≡ Ok (record { batch = batch; tries = 1 }, ids)
unfolding request_in
request-back d ms batch ids l t n w f = rw l (rw t (rw n (rw (batch_in-back batch ids w f) refl)))

due-back : (batch : Batch) (ids : ChaCha) → IsWrittenBatch batch → request_in batch.domain ids (object (members_due (batch_due batch))) (members_due (batch_due batch)) ≡ Ok (record { batch = batch; tries = 1 }, ids)
due-back batch ids w =
    let xs : List Due = batch_due batch in
    let d : Data = object (members_due xs) in
    request-back d (members_due xs) batch ids
    (listed-back d batch (found (codes "ops") xs) (found (codes "after") xs) (found (codes "token") xs ∙ or_none _) w.token)
    (tried-once d (found (codes "tries") xs))
    (only request_keys xs refl) w.ops w.no_fault

value-back : (batch : Batch) (ids : ChaCha) → IsWrittenBatch batch → object_in (as_object (batch_data batch)) >>= request_in batch.domain ids (batch_data batch) ≡ Ok (record { batch = batch; tries = 1 }, ids)
value-back batch ids w = ap (λ d. object_in (as_object d) >>= request_in batch.domain ids d) (batch-due batch) ∙ due-back batch ids w

spelled-text : (domain : List ℕ) (ids : ChaCha) (line : List ℕ) (d : Data) → framed line ≡ Ok tt → value_in line ≡ Ok d → spelled domain ids line ≡ object_in (as_object d) >>= request_in domain ids d
unfolding spelled
spelled-text domain ids line d f v = rw f (rw v refl)

pub batch-spelled : BatchesAreSpelled
batch-spelled batch ids w fits =
    spelled-text batch.domain ids (batch_json batch ++ 10 ∷ []) (batch_data batch) (framed-text (batch_json batch) fits)
    (ap (λ s. value_in (s ++ 10 ∷ [])) (batch_json-is batch) ∙ value-text 4 (batch_data batch) (batch-canonical batch) (omega arith) w.typed)
    ∙ value-back batch ids w

-- ---- a record

record-text : (domain line : List ℕ) (d : Data) → framed line ≡ Ok tt → value_in line ≡ Ok d → spelled_record domain line ≡ object_in (as_object d) >>= record_in domain d
unfolding spelled_record
record-text domain line d f v = rw f (rw v refl)

replied-typed : (replied : Option ℕ) → IfSome replied (λ n. n < 2 ^ 64) → IsTyped (option_data whole replied)
replied-typed None h = tt
replied-typed (Some n) h = h

record-typed : (batch : Batch) (call invoked : ℕ) (replied : Option ℕ) (reply : Reply) → IsTyped (batch_data batch) → IsWrittenCall call invoked replied reply → IsTyped (record_data batch call invoked replied reply)
record-typed batch call invoked replied reply b w =
    let with_reply : Members = put (codes "reply") (reply_data call reply) no_members in
    let with_replied : Members = put (codes "replied") (option_data whole replied) with_reply in
    let with_invoked : Members = put (codes "invoked") (whole invoked) with_replied in
    let with_call : Members = put (codes "call") (whole call) with_invoked in
    typed-put (codes "batch") (batch_data batch) with_call b
    (typed-put (codes "call") (whole call) with_invoked w.number
    (typed-put (codes "invoked") (whole invoked) with_replied w.handed_in
    (typed-put (codes "replied") (option_data whole replied) with_reply (replied-typed replied w.given_out)
    (typed-put (codes "reply") (reply_data call reply) no_members w.answer tt))))

pub record-spelled : RecordsAreSpelled
record-spelled batch call invoked replied reply w c fits =
    let d : Data = record_data batch call invoked replied reply in
    let typed : IsTyped d = record-typed batch call invoked replied reply w.typed c in
    record-text batch.domain (record_json batch call invoked replied reply ++ 10 ∷ []) d (framed-text (record_json batch call invoked replied reply) fits)
    (ap (λ s. value_in (s ++ 10 ∷ [])) (record_json-is batch call invoked replied reply) ∙ value-text 7 d (record-canonical batch call invoked replied reply) (omega arith) typed)
    ∙ record-back batch call invoked replied reply w.ops w.token w.no_fault

-- ---- an operation alone

no_fault-alone : (domain : List ℕ) (o : Op) → op_fault domain o ≡ None → batch_refusal domain (o ∷ []) None ≡ None
unfolding batch_refusal
no_fault-alone domain o e = rw e refl

typed-alone : (domain : List ℕ) (o : Op) → IsTyped (op_data o) → IsTyped (batch_data (batch_of_one domain o))
typed-alone domain o t = typed-put (codes "after") (whole 0) (put (codes "ops") (list_data op_data (o ∷ [])) no_members) (omega arith) (typed-put (codes "ops") (list_data op_data (o ∷ [])) no_members (t, tt) tt)

pub op-spelled : OpsAreSpelled
op-spelled domain o ids w t f fits =
    (batch_json (batch_of_one domain o) ++ codes "\n", batch-spelled (batch_of_one domain o) ids (record { ops = (w, tt); token = tt; typed = typed-alone domain o t; no_fault = no_fault-alone domain o f }) fits)
