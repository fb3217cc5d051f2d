-- A session of which nobody else uses the registry is answered as by `plain`.
use Rattle.std.proofs.Common.{◌≡◌, ◌+◌, ◌-◌, ◌≤◌, ◌<◌, ◌^◌, ◌⊎◌, ℕ, suc, true, false, inl, inr, List, [], ◌∷◌, ◌++◌, length, None, Some, Result, Ok, refl, sym, ap, ◌∙◌, append_assoc, subst, arith, length-append, eq-eqb}
use Rattle.std.specs.Prelude.{◌&&◌, ⊤, Bool, IfOk, cond, nat_lt, not, unwrap_or}
use Rattle.std.specs.List.{AllByRecursion}
use Rattle.std.proofs.lemmas.Bool.Decides.{nat_tests}
use Rattle.std.proofs.lemmas.List.{length-take}
use mathlib.Core.List.{IsPrefix}
use Rattle.rand_chacha.specs.ChaCha.{ChaCha}
use Rattle.entry_book.specs.Batches.{Batch}
use Rattle.entry_book.specs.Book.{Book}
use Rattle.entry_book.specs.History.{books_after, books_from, commits, is_committed, place_of, replies_from, reply_to}
use Rattle.entry_book.specs.Laws.{OneMore, OthersLeave, QueriesNeverCommit}
use Rattle.entry_book.specs.Rows.{Bytes}
use Rattle.entry_book.specs.declared.reply.Reply.{Reply}
use Rattle.entry_book.specs.declared.reply.ReplyOutcome.TheVariants as became
use Rattle.commit_head.specs.declared.item.Item.{Item}
use Rattle.commit_head.specs.Journals.{batches_of, committed_after, place_after}
use Rattle.commit_head.specs.Laws.{BatchesJoin, CountOfBatches}
use Rattle.line_devices.specs.Lines.{most_lines}
use Rattle.line_devices.specs.Runs.{IsRun}
use Rattle.line_reading.proofs.Domain.{both_ok, of_line-ok, then_ok}
use Rattle.line_reading.specs.Batches.{Listed, batch_in, listed_in}
use Rattle.line_reading.specs.Fields.{◌>>=◌, no_others, optional_number_at, required, tries_at, tries_of}
use Rattle.line_reading.specs.Ids.{first_ids}
use Rattle.line_reading.specs.Requests.{request_in, spelled}
use Rattle.line_reading.specs.declared.fault.Fault.{Fault}
use Rattle.line_reading.specs.declared.fault.Key.{Key}
use Rattle.line_reading.specs.declared.fault.Key.TheVariants as key
use Rattle.line_reading.specs.declared.request.Request.{Request}
use Rattle.reg_lines.specs.Refusals.{no_memory_json}
use Rattle.reg_lines.specs.Replies.{reply_json}
use Rattle.reg_lines.specs.SeatLines.{seat_refusal_json}
use Rattle.reg_lines.specs.declared.printing.seats.SeatRefusal.TheVariants.{NoEntry as NotAdmitted}
use Rattle.shared_registry.specs.Outcomes.{AreOvertaken, IsAdded, IsSubmitted, RepeatsBatch, WasOvertaken}
use Rattle.shared_registry.specs.SeatCalls.{calls_of}
use Rattle.shared_registry.specs.Seated.{AfterCall, Seated}
use Rattle.shared_registry.specs.declared.outcome.Outcome.{Outcome}
use Rattle.shared_registry.specs.declared.outcome.Outcome.TheVariants.{Committed, Repeated, Refused, Conflict, NoMemory, NoEntry}
use Rattle.shared_registry.specs.declared.seat.NoAnswer.{NoAnswer}
use Rattle.shared_registry.specs.declared.seat.NoAnswer.TheVariants as no
use Rattle.shared_registry.proofs.Prefixes.{prefix_whole}
use Rattle.line_engines.specs.Answers.{Answers, Running, as_line, plain_start_on, refused as plain_refused, replied as plain_replied, not_read as plain_not_read, not_run as plain_not_run}
use Rattle.reg_programs.specs.Alone.{RunsAsPlain, SawItsOwn, SessionsAloneArePlain, as_plain, not_admitted, plain_state}
use Rattle.reg_programs.specs.Sessions.{AnswersCall, AnswersRequest, Session, SessionsGrow, answered, asked, no_answer_json, no_reply, not_read, session_start, refused, replied, spent, submitted, submit_json}

-- ---- the laws of the crates below that this rests on

pub record Laws : Type 0 where
  pub others : OthersLeave
  pub queries : QueriesNeverCommit
  pub one_more : OneMore
  pub join : BatchesJoin
  pub count : CountOfBatches

-- ---- a seat that has seen only its own calls

abbrev IsOf : ℕ → Item → Type 0
IsOf number item = item.seat ≡ number

all_front : (number : ℕ) (items more : List Item) → AllByRecursion (IsOf number) (items ++ more) → AllByRecursion (IsOf number) items
all_front number [] more h = tt
all_front number (item ∷ items) more h = (h.0, all_front number items more h.1)

saw_before : (s t : Seated) → s.number ≡ t.number → IsPrefix s.seen t.seen → SawItsOwn t → SawItsOwn s
saw_before s t number p own =
    subst (λ n. AllByRecursion (IsOf n) s.seen) (sym number) (all_front t.number s.seen p.0 (subst (AllByRecursion (IsOf t.number)) (sym p.1) own))

own_count : (number : ℕ) (items : List Item) → AllByRecursion (IsOf number) items → length (calls_of number items) ≡ length items
own_count number [] h = refl
own_count number (item ∷ items) h = rw (eq-eqb item.seat number h.0) (ap suc (own_count number items h.1))

-- its list of own calls is that of its items
abbrev OwnIsSeen : Seated → Type 0
OwnIsSeen s = calls_of s.number s.seen ≡ s.own

count_own : (s : Seated) → OwnIsSeen s → SawItsOwn s → length s.own ≡ length s.seen
count_own s e own = sym (ap length e) ∙ own_count s.number s.seen own

-- a call that commits nothing leaves what was seen as it was
saw_the_same : (s t : Seated) → OwnIsSeen s → OwnIsSeen t → SawItsOwn s → SawItsOwn t → IsPrefix s.seen t.seen → t.own ≡ s.own → s.seen ≡ t.seen
saw_the_same s t es et os ot p same =
    let a = count_own s es os in
    let b = count_own t et ot in
    let l = ap length same in
    prefix_whole s.seen t.seen p (omega (arith, a, b, l))

-- ---- the last commit of a journal

first_reply : (x y : Reply) (xs ys : List Reply) → x ∷ xs ≡ y ∷ ys → x ≡ y
first_reply x y xs ys e = cc

later_replies : (x y : Reply) (xs ys : List Reply) → x ∷ xs ≡ y ∷ ys → xs ≡ ys
later_replies x y xs ys e = cc

last_reply : (items : List Item) (item : Item) (n : ℕ) (books : List Book) → replies_from books (batches_of (items ++ item ∷ [])) ≡ committed_after n (items ++ item ∷ [])
    → reply_to item.batch (books_from books (batches_of items)) ≡ record { place = n + length items + 1; outcome = became.Committed item.replies }
last_reply [] item n books e =
    let number : n + 1 ≡ n + 0 + 1 = omega arith in
    first_reply _ _ _ _ e ∙ ap (λ k. record { place = k; outcome = became.Committed item.replies }) number
last_reply (other ∷ items) item n books e =
    let number : n + 1 + length items + 1 ≡ n + length (other ∷ items) + 1 = omega arith in
    last_reply items item (n + 1) (books_after other.batch books) (later_replies _ _ _ _ e) ∙ ap (λ k. record { place = k; outcome = became.Committed item.replies }) number

-- ---- a line with a call

abbrev books_seen : List Book → Seated → List Book
books_seen first s = books_from first (batches_of s.seen)

abbrev state_of : List Book → ChaCha → ℕ → ℕ → Running
state_of books ids calls lines = record { books = books; ids = ids; calls = calls; lines = lines }

-- the call's reply is that of `plain`
is_replied : (first : List Book) (domain : Bytes) (now : Session) (line : List ℕ) (request : Request) (ids : ChaCha) (t : Seated) (text : List ℕ) → spelled domain now.ids line ≡ Ok (request, ids) → books_seen first t ≡ books_after request.batch (books_seen first now.seat) → t.calls ≡ now.seat.calls + 1
    → text ≡ reply_json t.calls (reply_to request.batch (books_seen first now.seat)) → Answers domain (plain_state first now) line (plain_state first (asked now t ids)) (as_line text)
is_replied first domain now line request ids t text e books calls is =
    plain_replied request ids e
    (ap (λ b. state_of b ids t.calls (now.lines + 1)) books ∙ ap (λ c. state_of (books_after request.batch (books_seen first now.seat)) ids c (now.lines + 1)) calls)
    (ap as_line is ∙ ap (λ c. as_line (reply_json c (reply_to request.batch (books_seen first now.seat)))) calls)

-- memory runs out for the call, as in `plain`
is_not_run : (first : List Book) (domain : Bytes) (now : Session) (line : List ℕ) (request : Request) (ids : ChaCha) (t : Seated) (text : List ℕ) → spelled domain now.ids line ≡ Ok (request, ids) → books_seen first t ≡ books_seen first now.seat → t.calls ≡ now.seat.calls + 1
    → text ≡ no_memory_json (now.lines + 1) → Answers domain (plain_state first now) line (plain_state first (asked now t ids)) (as_line text)
is_not_run first domain now line request ids t text e books calls is =
    plain_not_run request ids e
    (ap (λ b. state_of b ids t.calls (now.lines + 1)) books ∙ ap (λ c. state_of (books_seen first now.seat) ids c (now.lines + 1)) calls)
    (ap as_line is)

-- The line is answered as by `plain`, or L8.
abbrev IsPlainly : List Book → Bytes → Session → List ℕ → Session → List ℕ → Type 0
IsPlainly first domain now line next reply = Answers domain (plain_state first now) line (plain_state first next) reply ⊎ (reply ≡ as_line (seat_refusal_json (now.lines + 1) NotAdmitted))

-- a call that commits nothing, and gets the reply on the books of what was seen
without_commit : Laws → (first : List Book) (domain : Bytes) (now : Session) (line : List ℕ) (request : Request) (ids : ChaCha) (t : Seated) (text : List ℕ) → spelled domain now.ids line ≡ Ok (request, ids) → now.seat.seen ≡ t.seen → t.calls ≡ now.seat.calls + 1
    → commits request.batch (books_seen first now.seat) ≡ false → text ≡ reply_json t.calls (reply_to request.batch (books_seen first t)) → Answers domain (plain_state first now) line (plain_state first (asked now t ids)) (as_line text)
without_commit laws first domain now line request ids t text e same calls none is =
    let books : books_seen first t ≡ books_seen first now.seat = ap (λ items. books_from first (batches_of items)) (sym same) in
    is_replied first domain now line request ids t text e (books ∙ sym (laws.others request.batch (books_seen first now.seat) none).0) calls (is ∙ ap (λ b. reply_json t.calls (reply_to request.batch b)) books)

-- the same reply isn't that of a commit
not_committed : (batch : Batch) (books : List Book) (reply : Reply) → reply ≡ reply_to batch books → is_committed reply.outcome ≡ false → commits batch books ≡ false
not_committed batch books reply e f = sym (ap (λ r. is_committed r.outcome) e) ∙ f

-- a prefix of a list with one item more, which is as long as the list, is a prefix of the list
prefix_of_longer : (xs ys : List Item) (y : Item) → IsPrefix xs (ys ++ y ∷ []) → length ys ≡ length xs → IsPrefix xs ys
prefix_of_longer [] ys y p e = (ys, refl)
prefix_of_longer (x ∷ xs) [] y p e = absurd (cc)
prefix_of_longer (x ∷ xs) (z ∷ ys) y p e =
    let rest = prefix_of_longer xs ys y (p.0, cc (p.1)) (cc) in
    (rest.0, cc (p.1, rest.1))

-- the call was committed after all that the seat had seen
with_commit : Laws → (first : List Book) (domain : Bytes) (now : Session) (line : List ℕ) (request : Request) (ids : ChaCha) (t : Seated) (text : List ℕ) (reply : Reply) → spelled domain now.ids line ≡ Ok (request, ids) → AfterCall first domain now.seat t
    → OwnIsSeen now.seat → SawItsOwn now.seat → SawItsOwn t → (added : IsAdded first now.seat t request.batch reply) → text ≡ reply_json t.calls reply → Answers domain (plain_state first now) line (plain_state first (asked now t ids)) (as_line text)
with_commit laws first domain now line request ids t text reply e a es os ot added is =
    let items : List Item = now.seat.seen in
    let item : Item = added.item in
    let one_more : List Item = item ∷ [] in
    let c = count_own now.seat es os in
    let d = count_own t a.own ot in
    let o = ap length added.own in
    let p = length-append now.seat.own (t.calls ∷ []) in
    let l = ap length added.seen in
    let q = length-append added.log one_more in
    let as_long : length added.log ≡ length items = omega (arith, c, d, o, p, l, q) in
    let front : IsPrefix items added.log = prefix_of_longer items added.log item (subst (IsPrefix items) added.seen a.seen) as_long in
    let same : items ≡ added.log = prefix_whole items added.log front (omega (arith, as_long)) in
    let seen : t.seen ≡ items ++ one_more = added.seen ∙ ap (λ x. x ++ one_more) (sym same) in
    let n = place_of first in
    let given : replies_from first (batches_of (items ++ one_more)) ≡ committed_after n (items ++ one_more) = subst (λ x. replies_from first (batches_of x) ≡ committed_after n x) seen a.lawful.replies in
    let number : n + length items + 1 ≡ place_after first t.seen = omega (arith, as_long, l, q) in
    let told : reply_to request.batch (books_seen first now.seat) ≡ reply =
    ap (λ b. reply_to b (books_seen first now.seat)) (sym added.batch_is) ∙ (last_reply items item n first given
    ∙ (ap (λ k. record { place = k; outcome = became.Committed item.replies }) number ∙ sym added.reply_is)) in
    let books : books_seen first t ≡ books_after request.batch (books_seen first now.seat) =
    ap (λ x. books_from first (batches_of x)) seen ∙ (ap (books_from first) (laws.join items one_more) ∙ (laws.one_more first (batches_of items) item.batch ∙ ap (λ b. books_after b (books_seen first now.seat)) added.batch_is)) in
    is_replied first domain now line request ids t text e books a.calls (is ∙ ap (reply_json t.calls) (sym told))

-- no commit is later than what was seen
none_since : Laws → (first : List Book) (s t : Seated) (batch : Batch) (place : ℕ) (bases : List ℕ) → 1 ≤ length bases → s.seen ≡ t.seen → AreOvertaken first (batches_of t.seen) batch (length s.seen) place bases → ⊥
none_since laws first s t batch place [] some same o = absurd (omega (arith, some))
none_since laws first s t batch place (base ∷ bases) some same o =
    let hit = o.1 in
    let least = o.0 in
    let since = hit.since in
    let split = ap length hit.split in
    let parts = length-append hit.before (hit.other ∷ hit.later) in
    let short = length-take place (batches_of t.seen) in
    let count = laws.count t.seen in
    let seen = ap length same in
    omega (arith, least, since, split, parts, short, count, seen)

-- nobody else's commit can be in the way
no_conflict : (laws : Laws) (first : List Book) (s t : Seated) (batch : Batch) (tries place : ℕ) → 1 ≤ tries → s.seen ≡ t.seen → WasOvertaken first s t batch tries place → ⊥
no_conflict laws first s t batch tries place one same o = none_since laws first s t batch place o.bases (let c = o.count in omega (arith, c, one)) same o.since_seen

-- a repeat is the reply on the books of what was seen, and not that of a commit
repeated_reply : (first : List Book) (t : Seated) (batch : Batch) (reply : Reply) → RepeatsBatch first t batch reply → (reply ≡ reply_to batch (books_seen first t)) × (is_committed reply.outcome ≡ false)
repeated_reply first t batch reply (inl item) = (item.reply_is, ap (λ r. is_committed r.outcome) item.repeats)
repeated_reply first t batch reply (inr row) = (row.reply_is, ap (λ r. is_committed r.outcome) row.repeats)

by_outcome : Laws → (first : List Book) (domain : Bytes) (now : Session) (line : List ℕ) (request : Request) (ids : ChaCha) (t : Seated) (text : List ℕ) (outcome : Outcome) → spelled domain now.ids line ≡ Ok (request, ids) → 1 ≤ request.tries → AfterCall first domain now.seat t
    → OwnIsSeen now.seat → SawItsOwn now.seat → SawItsOwn t → IsSubmitted first now.seat t request.batch request.tries outcome → text ≡ submit_json t.calls (now.lines + 1) outcome → IsPlainly first domain now line (asked now t ids) (as_line text)
by_outcome laws first domain now line request ids t text (Committed reply) e one a es os ot is printed = inl (with_commit laws first domain now line request ids t text reply e a es os ot is printed)
by_outcome laws first domain now line request ids t text (Repeated reply) e one a es os ot is printed =
    let same = saw_the_same now.seat t es a.own os ot a.seen is.1 in
    let again = repeated_reply first t request.batch reply is.0 in
    let none : commits request.batch (books_seen first t) ≡ false = not_committed request.batch (books_seen first t) reply again.0 again.1 in
    inl (without_commit laws first domain now line request ids t text e same a.calls (subst (λ x. commits request.batch (books_from first (batches_of x)) ≡ false) (sym same) none) (printed ∙ ap (reply_json t.calls) again.0))
by_outcome laws first domain now line request ids t text (Refused reply) e one a es os ot is printed =
    let same = saw_the_same now.seat t es a.own os ot a.seen is.1 in
    let there = is.0 in
    let none : commits request.batch (books_seen first t) ≡ false = not_committed request.batch (books_seen first t) reply there.reply_is (ap (λ r. is_committed r.outcome) there.refused) in
    inl (without_commit laws first domain now line request ids t text e same a.calls (subst (λ x. commits request.batch (books_from first (batches_of x)) ≡ false) (sym same) none) (printed ∙ ap (reply_json t.calls) there.reply_is))
by_outcome laws first domain now line request ids t text (Conflict n) e one a es os ot is printed =
    absurd (no_conflict laws first now.seat t request.batch request.tries (n - place_of first) one (saw_the_same now.seat t es a.own os ot a.seen is.2) is.0)
by_outcome laws first domain now line request ids t text NoMemory e one a es os ot is printed =
    inl (is_not_run first domain now line request ids t text e (ap (λ x. books_from first (batches_of x)) (sym (saw_the_same now.seat t es a.own os ot a.seen is))) a.calls printed)
by_outcome laws first domain now line request ids t text NoEntry e one a es os ot is printed = inr (ap as_line printed)

by_no_answer : (first : List Book) (domain : Bytes) (now : Session) (line : List ℕ) (request : Request) (ids : ChaCha) (t : Seated) (text : List ℕ) (why : NoAnswer) → spelled domain now.ids line ≡ Ok (request, ids) → now.seat.seen ≡ t.seen → t.calls ≡ now.seat.calls + 1 → text ≡ no_answer_json (now.lines + 1) why → IsPlainly first domain now line (asked now t ids) (as_line text)
by_no_answer first domain now line request ids t text no.NoMemory e same calls printed = inl (is_not_run first domain now line request ids t text e (ap (λ x. books_from first (batches_of x)) (sym same)) calls printed)
by_no_answer first domain now line request ids t text no.NoEntry e same calls printed = inr (ap as_line printed)

by_call : Laws → (first : List Book) (domain : Bytes) (now : Session) (line : List ℕ) (request : Request) (ids : ChaCha) (t : Seated) (text : List ℕ) → spelled domain now.ids line ≡ Ok (request, ids) → 1 ≤ request.tries → OwnIsSeen now.seat → SawItsOwn now.seat → SawItsOwn t
    → AnswersCall first domain now.seat request (now.lines + 1) t text → IsPlainly first domain now line (asked now t ids) (as_line text) × OwnIsSeen t
by_call laws first domain now line request ids t text e one es os ot (replied query caught own printed) =
    let a = caught.after_call in
    let same = saw_the_same now.seat t es a.own os ot a.seen own in
    (inl (without_commit laws first domain now line request ids t text e same a.calls (laws.queries request.batch (books_seen first now.seat) query) printed), a.own)
by_call laws first domain now line request ids t text e one es os ot (no_reply why query unchanged own printed) =
    let a = unchanged.after_call in
    (by_no_answer first domain now line request ids t text why e (sym unchanged.same) a.calls printed, a.own)
by_call laws first domain now line request ids t text e one es os ot (submitted outcome changes a learnt is printed) =
    (by_outcome laws first domain now line request ids t text outcome e one a es os ot is printed, a.own)

-- ---- a request has at least one try

abbrev Read : Type 0
Read = Result (Request × ChaCha) Fault

abbrev is_tried : Request × ChaCha → Type 0
is_tried read = 1 ≤ read.0.tries

in_range : (n : ℕ) (some over : Bool) → (some ≡ true → 1 ≤ n) → IfOk (required key.Tries (cond (some && not over) (Some n) None)) (λ tries. 1 ≤ tries)
in_range n true true h = tt
in_range n true false h = h refl
in_range n false over h = tt

is_some : (n : ℕ) → nat_lt 0 n ≡ true → 1 ≤ n
is_some n e = grind (arith, nat_tests)

at_least_one : (n : ℕ) → IfOk (required key.Tries (tries_of n)) (λ tries. 1 ≤ tries)
at_least_one n = in_range n (nat_lt 0 n) (nat_lt 16 n) (is_some n)

spelled-tries : (domain : List ℕ) (ids after : ChaCha) (line : List ℕ) (request : Request) → spelled domain ids line ≡ Ok (request, after) → 1 ≤ request.tries
unfolding spelled request_in tries_at
spelled-tries domain ids after line request e =
    let keys : List Key = key.Ops ∷ key.After ∷ key.Token ∷ key.Tries ∷ [] in
    let request_of : ℕ → Batch × ChaCha → Read = λ tries batch. Ok (record { batch = batch.0; tries = tries }, batch.1) in
    let from_keys : Listed → ℕ → ⊤ → Read = λ listed tries none. batch_in domain ids listed >>= request_of tries in
    of_line-ok is_tried (request_in domain ids) line (request, after) (λ d ms.
    let from_tries : Listed → ℕ → Read = λ listed tries. no_others keys ms >>= from_keys listed tries in
    let from_listed : Listed → Read = λ listed. tries_at key.Tries d >>= from_tries listed in
    let are_some : IfOk (tries_at key.Tries d) (λ tries. 1 ≤ tries) =
    then_ok (λ tries. 1 ≤ tries) (optional_number_at key.Tries d) (λ number. required key.Tries (tries_of (unwrap_or number 1))) (λ number. at_least_one (unwrap_or number 1)) in
    then_ok is_tried (listed_in d) from_listed (λ listed.
    both_ok (λ tries. 1 ≤ tries) is_tried (tries_at key.Tries d) (from_tries listed) are_some (λ tries one.
    then_ok is_tried (no_others keys ms) (from_keys listed tries) (λ none.
    then_ok is_tried (batch_in domain ids listed) (request_of tries) (λ batch. one))))) e

-- ---- one line after another

calls_of_call : (first : List Book) (domain : Bytes) (s t : Seated) (request : Request) (line : ℕ) (text : List ℕ) → AnswersCall first domain s request line t text → t.calls ≤ s.calls + 1
calls_of_call first domain s t request line text (replied query caught own printed) = let a = caught.after_call.calls in omega (arith, a)
calls_of_call first domain s t request line text (no_reply why query unchanged own printed) = let a = unchanged.after_call.calls in omega (arith, a)
calls_of_call first domain s t request line text (submitted outcome changes after learnt is printed) = let a = after.calls in omega (arith, a)

by_line : Laws → (first : List Book) (domain : Bytes) (now next : Session) (line reply : List ℕ) → now.seat.calls < 2 ^ 48 → OwnIsSeen now.seat → SawItsOwn now.seat → SawItsOwn next.seat → AnswersRequest first domain now line next reply
    → IsPlainly first domain now line next reply × (OwnIsSeen next.seat × (next.seat.calls ≤ now.seat.calls + 1))
by_line laws first domain now next line reply few es os ot (refused fault e n r) =
    let P : Session → Type 0 = λ x. IsPlainly first domain now line x reply × (OwnIsSeen x.seat × (x.seat.calls ≤ now.seat.calls + 1)) in
    subst P (sym n) (inl (plain_refused fault e refl r), (es, omega arith))
by_line laws first domain now next line reply few es os ot (not_read n r) =
    let P : Session → Type 0 = λ x. IsPlainly first domain now line x reply × (OwnIsSeen x.seat × (x.seat.calls ≤ now.seat.calls + 1)) in
    subst P (sym n) (inl (plain_not_read refl r), (es, omega arith))
by_line laws first domain now next line reply few es os ot (spent request ids e most n r) = absurd (omega (arith, few, most))
by_line laws first domain now next line reply few es os ot (answered request ids seat text e a n r) =
    let P : Session → Type 0 = λ x. IsPlainly first domain now line x reply × (OwnIsSeen x.seat × (x.seat.calls ≤ now.seat.calls + 1)) in
    let seen : SawItsOwn seat = subst (λ (x : Session). SawItsOwn x.seat) n ot in
    let call = by_call laws first domain now line request ids seat text e (spelled-tries domain now.ids ids line request e) es os seen a in
    let calls : seat.calls ≤ now.seat.calls + 1 = calls_of_call first domain now.seat seat request (now.lines + 1) text a in
    subst P (sym n) (subst (λ x. IsPlainly first domain now line (asked now seat ids) x) (sym r) call.0, (call.1, calls))

-- the text is that of `plain` from a state on, or there is a line answered L8
data RunsFrom (first : List Book) (domain : Bytes) (start : Session) (lines : List (List ℕ)) (last : Session) (text : List ℕ) : Type 0 where
  plainly : IsRun (Answers domain) (plain_state first start) lines (plain_state first last) text → RunsFrom first domain start lines last text
  refused_at : (before : List (List ℕ)) (line : List ℕ) (after : List (List ℕ)) (mid : Session) (front rest : List ℕ) → lines ≡ before ++ line ∷ after → IsRun (Answers domain) (plain_state first start) before (plain_state first mid) front → text ≡ front ++ (as_line (seat_refusal_json (mid.lines + 1) NotAdmitted) ++ rest) → RunsFrom first domain start lines last text

one_more : (first : List Book) (domain : Bytes) (start next last : Session) (line : List ℕ) (lines : List (List ℕ)) (reply rest text : List ℕ) → Answers domain (plain_state first start) line (plain_state first next) reply → text ≡ reply ++ rest → RunsFrom first domain next lines last rest → RunsFrom first domain start (line ∷ lines) last text
one_more first domain start next last line lines reply rest text a e (plainly run) = plainly (plain_state first next, reply, rest, a, e, run)
one_more first domain start next last line lines reply rest text a e (refused_at before other after mid front behind f run g) =
    refused_at (line ∷ before) other after mid (reply ++ front) behind (ap (λ l. line ∷ l) f) (plain_state first next, reply, front, a, refl, run) (e ∙ (ap (λ x. reply ++ x) g ∙ sym (append_assoc reply front _)))

runs_from : Laws → SessionsGrow → (first : List Book) (domain : Bytes) (lines : List (List ℕ)) (start last : Session) (text : List ℕ) → start.seat.calls + length lines ≤ 2 ^ 48 → OwnIsSeen start.seat → SawItsOwn last.seat → IsRun (AnswersRequest first domain) start lines last text → RunsFrom first domain start lines last text
runs_from laws grow first domain [] start last text few es own run =
    let P : Session → Type 0 = λ x. RunsFrom first domain start [] x text in
    subst P (sym run.0) (plainly (refl, run.1))
runs_from laws grow first domain (line ∷ lines) start last text few es own run =
    let next : Session = run.0 in
    let later = grow first domain lines next last run.2 run.5 in
    let whole = grow first domain (line ∷ lines) start last text run in
    let os : SawItsOwn start.seat = saw_before start.seat last.seat (sym whole.number) whole.seen own in
    let ot : SawItsOwn next.seat = saw_before next.seat last.seat (sym later.number) later.seen own in
    let step = by_line laws first domain start next line run.1 (omega (arith, few)) es os ot run.3 in
    let calls = step.1.1 in
    elim step.0 [
      | inl a ↦ one_more first domain start next last line lines run.1 run.2 text a run.4 (runs_from laws grow first domain lines next last run.2 (omega (arith, few, calls)) step.1.0 own run.5)
      | inr l8 ↦ refused_at [] line lines start [] run.2 refl (refl, refl) (run.4 ∙ ap (λ x. x ++ run.2) l8)
    ]

finished : (first : List Book) (domain : Bytes) (seed : List ℕ) (lines : List (List ℕ)) (start last : Session) (text : List ℕ) → plain_state first start ≡ plain_start_on first seed → RunsFrom first domain start lines last text → RunsAsPlain first domain seed lines last text
finished first domain seed lines start last text e (plainly run) =
    let P : Running → Type 0 = λ s. IsRun (Answers domain) s lines (plain_state first last) text in
    as_plain (subst P e run)
finished first domain seed lines start last text e (refused_at before line after mid front rest f run g) =
    let P : Running → Type 0 = λ s. IsRun (Answers domain) s before (plain_state first mid) front in
    not_admitted before line after mid front rest f (subst P e run) g

pub alone_are_plain : Laws → SessionsGrow → SessionsAloneArePlain
unfolding most_lines
alone_are_plain laws grow first domain seed seat lines last text new many run own =
    let start : Session = session_start seat (first_ids seed) in
    let calls = new.calls in
    let few : seat.calls + length lines ≤ 2 ^ 48 = omega (arith, many, calls) in
    let es : OwnIsSeen seat = ap (calls_of seat.number) new.seen ∙ sym new.own in
    let begins : plain_state first start ≡ plain_start_on first seed = ap (λ x. state_of (books_from first (batches_of x)) (first_ids seed) seat.calls 0) new.seen ∙ ap (λ c. state_of first (first_ids seed) c 0) new.calls in
    finished first domain seed lines start last text begins (runs_from laws grow first domain lines start last text few es own run)
