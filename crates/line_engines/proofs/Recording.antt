-- The records of a machine's calls.
use Rattle.std.proofs.Common.{◌≡◌, ◌+◌, ◌≤◌, ◌<◌, ℕ, zero, suc, true, inl, inr, ⊎_elim, List, [], ◌∷◌, ◌++◌, take, length, get_or, Option, None, Some, Result, Ok, Err, refl, sym, ap, ◌∙◌, append_assoc, subst, arith}
use Rattle.std.specs.Prelude.{⊤, Bool, IfSome, false, slice_get}
use Rattle.std.specs.Io.KnownBytes.{Appends}
use Rattle.std.specs.List.{AllByRecursion, flat_map}
use Rattle.std.proofs.lemmas.Grind.{flat_map-append}
use Rattle.std.proofs.lemmas.List.{append-nil, take_more}
use Rattle.std.specs.Borrow.{Bor}
use Rattle.entry_book.specs.declared.reply.Reply.{Reply}
use Rattle.entry_book.specs.Book.{Book}
use Rattle.entry_book.specs.Batches.{Batch}
use Rattle.entry_book.specs.History.{books_after, first_books, is_committed, reply_to}
use Rattle.entry_book.specs.Order.{Within}
use Rattle.entry_book.proofs.Sets.{All-more, All-within}
use Rattle.call_machine.specs.Calls.{Call, CallStage, MachineState, waiting, running, ready, answered, committed, conflict, call_at, first_machine, answer_of}
use Rattle.call_machine.specs.Known.{Reports, ReportsCall, decided_of}
use Rattle.call_machine.specs.Laws.{HasEventsInOrder, HoldReplies, IsOrder, IsStamped}
use Rattle.call_events.specs.Events.{IsFor}
use Rattle.call_machine.specs.Machine.{AreFor, Runs}
use Rattle.call_machine.specs.Schedules.{EventAnswer, EventAt, Different, EndedBefore, GaveOut, HandedIn, Happened, Headline, IsListed, IsReplyOf, OneBatch, RunsFrom, IsListedBefore, accepted}
use Rattle.call_answers.specs.declared.call.KnownCall.{KnownCall}
use Rattle.call_answers.specs.declared.answer.Done.TheVariants.{Answered}
use Rattle.call_events.specs.declared.event.Event.{Event}
use Rattle.call_events.specs.declared.event.Event.TheVariants.{Invoke}
use Rattle.call_events.specs.declared.event.Event.TheVariants as on
use Rattle.entry_book.specs.declared.reply.CallAnswer.{CallAnswer}
use Rattle.entry_book.specs.declared.reply.CallAnswer.TheVariants.{Replied}
use Rattle.call_machine.proofs.Runs.{runs_extend}
use Rattle.call_machine.proofs.Whole.{calls_are_in_order, calls_are_stamped, found_under_number}
use Rattle.reg_lines.specs.CallRecords.{HasRecord, HasRecordWith, Records}
use Rattle.reg_lines.specs.RecordLines.{record_json}
use Rattle.line_devices.specs.Runs.{IsRun, first_lines}
use Rattle.reg_lines.specs.Spelled.{IsWrittenBatch, IsWrittenCall}
use Rattle.line_devices.specs.Stream.{InputState, OutputState, Puts}
use Rattle.line_devices.proofs.Puts.{Puts-nil}
use Rattle.reg_lines.specs.declared.printing.records.CallRecord.{CallRecord}
use Rattle.line_engines.specs.Answers.{as_line}
use Rattle.line_devices.specs.Lines.{most_lines}
use Rattle.line_engines.specs.Driver.{AfterSomeLines, AnswersKept, AppendsClosed, Closes, ClosesAs, RunsOver}
use Rattle.line_engines.specs.Recorded.{AppendsAllRecords, AppendsRecords, RecordedAreLegal, AreRecords, ClosesRecording, ClosesWithRecords, HasStamps, IsEnded, IsEndedAt, IsNotPast, IsRecordOf, IsWritten, Recorded, Recording, RecordsLine, RunsRecord, StampsInOrder, WritesRecords, events_by, events_of, first_recording, record_line, was_lost, was_taken}
use Rattle.line_engines.specs.RecordedPrivate.{RecordRepresents, RecordKept}
use Rattle.line_engines.specs.declared.fault.RunFault.{RunFault}
use Rattle.line_engines.specs.Schedules.{Scheduled, TakesEvent, lacks_memory, schedule_skips, stepped, took, took_none}
use Rattle.line_engines.specs.SchedulesPrivate.{ScheduleKept, TakesKept}

-- ---- one record after another

pub record_at : (calls : List Call) (numbers : List ℕ) (records : List Recorded) (i d : ℕ) → AreRecords calls numbers records → i < length numbers → (r : Recorded) × IsRecordOf calls (get_or numbers i d) r × (r ≡ get_or records i r) × (i < length records)
record_at calls [] [] i d h l = absurd (omega arith)
record_at calls [] (r ∷ rs) i d h l = absurd h
record_at calls (m ∷ ns) [] i d h l = absurd h
record_at calls (m ∷ ns) (r ∷ rs) zero d h l = (r, h.0, refl, omega arith)
record_at calls (m ∷ ns) (r ∷ rs) (suc i) d h l =
    let t = record_at calls ns rs i d h.1 (omega arith) in
    (t.0, t.1, t.2, omega (arith, t.3))

pub records_next : (records : List Recorded) (i : ℕ) (r : Recorded) → r ≡ get_or records i r → i < length records → flat_map record_line (take i records) ++ record_line r ≡ flat_map record_line (take (i + 1) records)
records_next records i r e l =
    ap (λ x. flat_map record_line (take i records) ++ x) (sym (append-nil (record_line r)))
    ∙ (sym (flat_map-append record_line (take i records) (r ∷ []))
    ∙ (ap (λ x. flat_map record_line (take i records ++ x ∷ [])) e
    ∙ ap (flat_map record_line) (sym (take_more records i r l))))

pub same_length : (calls : List Call) (numbers : List ℕ) (records : List Recorded) → AreRecords calls numbers records → length numbers ≡ length records
same_length calls [] [] h = refl
same_length calls [] (r ∷ rs) h = absurd h
same_length calls (n ∷ ns) [] h = absurd h
same_length calls (n ∷ ns) (r ∷ rs) h = ap suc (same_length calls ns rs h.1)

pub written_next : (records : List Recorded) (i : ℕ) (r : Recorded) → r ≡ get_or records i r → i < length records → AllByRecursion IsWritten (take i records) → IsWritten r → AllByRecursion IsWritten (take (i + 1) records)
written_next records i r e l all w =
    subst (AllByRecursion IsWritten) (sym (take_more records i r l)) (All-more IsWritten (take i records) (get_or records i r) all (subst IsWritten e w))

-- ---- what the machine reports about a call

abbrev made : Batch → ℕ → ℕ → Option ℕ → Reply → Recorded
made batch call invoked replied reply = record { batch = batch; call = call; invoked = invoked; replied = replied; reply = reply }

abbrev recorded_as : CallRecord → Recorded
recorded_as x = made x.batch.now x.call x.invoked x.replied x.reply.now

same_record : (r : Recorded) (batch : Batch) (call invoked : ℕ) (replied : Option ℕ) (reply : Reply) → r.batch ≡ batch → r.call ≡ call → r.invoked ≡ invoked → r.replied ≡ replied → r.reply ≡ reply → r ≡ made batch call invoked replied reply
same_record r batch call invoked replied reply a b c d e =
    ap (λ x. made x r.call r.invoked r.replied r.reply) a
    ∙ (ap (λ x. made batch x r.invoked r.replied r.reply) b
    ∙ (ap (λ x. made batch call x r.replied r.reply) c
    ∙ (ap (λ x. made batch call invoked x r.reply) d
    ∙ ap (λ x. made batch call invoked replied x) e)))

-- what the machine reports about a call is its record
known_answer : (calls : List Call) (n : ℕ) (r : Recorded) (known : KnownCall) → IsRecordOf calls n r → Reports (call_at n calls) (Some known) → (c : Option CallRecord) → HasRecord n known c → HasRecordWith n known (Some (Replied r.reply)) c
known_answer calls n r known of t c has =
    let reported : ReportsCall of.call known = subst (λ o. Reports o (Some known)) of.found t in
    subst (λ a. HasRecordWith n known a c) (reported.answer ∙ of.holds) has

reported_same_record : (calls : List Call) (n : ℕ) (r : Recorded) (known : KnownCall) (x : CallRecord) → IsRecordOf calls n r → Reports (call_at n calls) (Some known) → HasRecord n known (Some x) → recorded_as x ≡ r
reported_same_record calls n r known x of t has =
    let reported : ReportsCall of.call known = subst (λ o. Reports o (Some known)) of.found t in
    let is : Records n known r.reply x = known_answer calls n r known of t (Some x) has in
    sym (same_record r x.batch.now x.call x.invoked x.replied x.reply.now
    (of.batch_is ∙ (sym reported.batch ∙ ap (λ (b : Bor Batch). b.now) (sym is.batch)))
    (of.number_is ∙ sym is.call_is)
    (of.invoked_is ∙ (sym reported.invoked ∙ sym is.invoked))
    (of.replied_is ∙ (sym reported.replied ∙ sym is.replied))
    (sym is.reply_is))

pub reported_line : (calls : List Call) (n : ℕ) (r : Recorded) (known : KnownCall) (x : CallRecord) → IsRecordOf calls n r → Reports (call_at n calls) (Some known) → HasRecord n known (Some x) → as_line (record_json x.batch.now x.call x.invoked x.replied x.reply.now) ≡ record_line r
reported_line calls n r known x of t has = ap record_line (reported_same_record calls n r known x of t has)

pub reported_written : (calls : List Call) (n : ℕ) (r : Recorded) (known : KnownCall) (x : CallRecord) → IsRecordOf calls n r → Reports (call_at n calls) (Some known) → HasRecord n known (Some x) → IsWrittenBatch x.batch.now → IsWrittenCall x.call x.invoked x.replied x.reply.now → IsWritten r
reported_written calls n r known x of t has batch call = subst IsWritten (reported_same_record calls n r known x of t has) (batch, call)

-- ---- the records of an order

abbrev recorded : (call : Call) (number : ℕ) (books : List Book) → Recorded
recorded call number books = record { batch = call.batch; call = number; invoked = call.invoked; replied = call.replied; reply = reply_to call.batch books }

records_of : (calls : List Call) (books : List Book) (order : List ℕ) → HoldReplies calls books order → (records : List Recorded) × AreRecords calls order records × RecordedAreLegal books records
records_of calls books [] h = ([], tt, tt)
records_of calls books (n ∷ ns) h =
    let t = records_of calls (books_after h.0.batch books) ns h.3 in (
      recorded h.0 n books ∷ t.0,
      (record { call = h.0; found = h.1; number_is = refl; batch_is = refl; invoked_is = refl; replied_is = refl; holds = h.2 }, t.1),
      (refl, t.2),
    )

-- ---- their stamps

reported_same : (a b : CallAnswer) → Some a ≡ Some b → a ≡ b
reported_same a b e = cc

has_stamps : (log : List Happened) (calls : List Call) (n : ℕ) (r : Recorded) (of : IsRecordOf calls n r) → IsStamped log of.call → HasStamps log r
has_stamps log calls n r of s =
    let same : of.call.number ≡ r.call = found_under_number calls n of.call of.found ∙ sym of.number_is in
    let invoked = (s.invoked of.call.invoked of.call.batch).0 (refl, refl) in
    record {
      invoked = (
        invoked.0,
        subst (λ b. EventAt log r.invoked (Invoke r.call b) invoked.0) (sym of.batch_is)
            (subst (λ k. EventAt log r.invoked (Invoke k of.call.batch) invoked.0) same
            (subst (λ i. EventAt log i (Invoke of.call.number of.call.batch) invoked.0) (sym of.invoked_is) invoked.1)),
      );
      replied = λ i. (
        λ e.
            let at = (s.replied i).0 (sym of.replied_is ∙ e) in
            let t = s.logged i at.0 at.1 in
            let is : t.0 ≡ Replied r.reply = reported_same _ _ (sym t.1 ∙ of.holds) in
            subst (λ k. EventAt log i (on.Reply k) (Answered k (Replied r.reply))) same
            (subst (λ d. EventAt log i (on.Reply of.call.number) d) (t.2 ∙ ap (Answered of.call.number) is) at.1),
        λ at. of.replied_is ∙ (s.replied i).1 (Answered r.call (Replied r.reply), subst (λ k. EventAt log i (on.Reply k) (Answered r.call (Replied r.reply))) (sym same) at),
      );
    }

have_stamps : (log : List Happened) (calls : List Call) → ((n : ℕ) (call : Call) → call_at n calls ≡ Some call → IsStamped log call) → (order : List ℕ) (records : List Recorded) → AreRecords calls order records → AllByRecursion (HasStamps log) records
have_stamps log calls s [] [] h = tt
have_stamps log calls s [] (r ∷ rs) h = absurd h
have_stamps log calls s (n ∷ ns) [] h = absurd h
have_stamps log calls s (n ∷ ns) (r ∷ rs) h = (has_stamps log calls n r h.0 (s n h.0.call h.0.found), have_stamps log calls s ns rs h.1)

-- ---- strict by their stamps

at_most : (i k : ℕ) → (k < i → ⊥) → i ≤ k
at_most zero k f = omega arith
at_most (suc i) zero f = absurd (f (omega arith))
at_most (suc i) (suc k) f = let h = at_most i k (λ l. f (omega arith)) in omega arith

listed_within : (order : List ℕ) (a b : ℕ) → IsListedBefore order a b → Within order b
listed_within [] a b s = absurd s
listed_within (c ∷ cs) a b s = ⊎_elim (λ p. inr p.1) (λ t. inr (listed_within cs a b t)) s

-- by the stamps of the records, the call of the second ended before that of the first
ended_before : (log : List Happened) (first second : Recorded) (k : ℕ) → HasStamps log first → HasStamps log second → second.replied ≡ Some k → k < first.invoked → EndedBefore log second.call first.call
ended_before log first second k f s e l = record {
  reply_number = k;
  invoke_number = first.invoked;
  reply_done = Answered second.call (Replied second.reply);
  batch = first.batch;
  done = f.invoked.0;
  reply = (s.replied k).0 e;
  invoke = f.invoked.1;
  earlier = l;
}

none_past : (log : List Happened) (calls : List Call) (r : Recorded) → HasStamps log r → (order : List ℕ) (records : List Recorded) → AreRecords calls order records → AllByRecursion (HasStamps log) records → ((d : ℕ) → Within order d → EndedBefore log d r.call → ⊥) → AllByRecursion (IsNotPast r) records
none_past log calls r h [] [] a s f = tt
none_past log calls r h [] (x ∷ xs) a s f = absurd a
none_past log calls r h (n ∷ ns) [] a s f = absurd a
none_past log calls r h (n ∷ ns) (x ∷ xs) a s f = (
  (λ k e. at_most r.invoked k (λ l. f x.call (inl (sym a.0.number_is)) (ended_before log r x k h s.0 e l))),
  none_past log calls r h ns xs a.1 s.1 (λ d w. f d (inr w)),
)

in_order : (log : List Happened) (calls : List Call) (order : List ℕ) (records : List Recorded) → AreRecords calls order records → AllByRecursion (HasStamps log) records → Different order → ((a b : ℕ) → Within order a → Within order b → EndedBefore log a b → IsListedBefore order a b) → StampsInOrder records
in_order log calls [] [] a s d strict = tt
in_order log calls [] (r ∷ rs) a s d strict = absurd a
in_order log calls (n ∷ ns) [] a s d strict = absurd a
in_order log calls (n ∷ ns) (r ∷ rs) a s d strict =
    let apart : (c : ℕ) → Within ns c → n ≡ c → ⊥ = λ c w. All-within (λ x. n ≡ x → ⊥) ns c d.0 w in (
      none_past log calls r s.0 ns rs a.1 s.1 (λ c w e.
          let here : EndedBefore log c n = subst (λ k. EndedBefore log c k) a.0.number_is e in
          ⊎_elim (λ p. apart c w p.0) (λ t. apart n (listed_within ns c n t) refl) (strict c n (inr w) (inl refl) here)),
      in_order log calls ns rs a.1 s.1 d.1 (λ b c v w e. ⊎_elim (λ p. absurd (apart b v p.0)) (λ t. t) (strict b c (inr v) (inr w) e)),
    )

-- ---- their ends

-- a call with the plain book's reply was decided
decided_reported : (stage : CallStage) (turn : ℕ) (reply : Reply) → answer_of stage ≡ Some (Replied reply) → decided_of stage turn ≡ Some turn
decided_reported waiting turn reply e = absurd (cc)
decided_reported (running base made) turn reply e = absurd (cc)
decided_reported (ready base) turn reply e = absurd (cc)
decided_reported (conflict n) turn reply e = absurd (cc)
decided_reported (answered r) turn reply e = refl
decided_reported (committed r) turn reply e = refl

-- a call whose reply was returned has replied
gave_out : (log : List Happened) (n : ℕ) (call : Call) → IsStamped log call → call.number ≡ n → (reply : Reply) → GaveOut log n reply → (k : ℕ) × (call.replied ≡ Some k)
gave_out log n call s e reply out = (out.0, (s.replied out.0).1 (Answered n (Replied reply), subst (λ m. EventAt log out.0 (on.Reply m) (Answered n (Replied reply))) (sym e) out.1))

not_stamped : (replied of_call : Option ℕ) (k : ℕ) → replied ≡ None → replied ≡ of_call → of_call ≡ Some k → ⊥
not_stamped replied of_call k none same e = cc

ended_by : (replied : Option ℕ) (invoked : ℕ) (reply : Reply) → (replied ≡ None → is_committed reply.outcome ≡ true) → ((k : ℕ) → replied ≡ Some k → invoked < k) → IsEndedAt replied invoked reply
ended_by None invoked reply f g = f refl
ended_by (Some k) invoked reply f g = g k refl

-- the second list of books is the first one: both come from the batches of the calls
have_ended : (log : List Happened) (calls : List Call) → OneBatch log → ((n : ℕ) (call : Call) → call_at n calls ≡ Some call → IsStamped log call × HasEventsInOrder call) → (books : List Book) (order : List ℕ) (records : List Recorded) → ((n : ℕ) → Within order n → IsListed log n) → AreRecords calls order records → RecordedAreLegal books records → RunsFrom log books order → AllByRecursion IsEnded records
have_ended log calls one holds books [] [] listed are legal runs = tt
have_ended log calls one holds books [] (r ∷ rs) listed are legal runs = absurd are
have_ended log calls one holds books (n ∷ ns) [] listed are legal runs = absurd are
have_ended log calls one holds books (n ∷ ns) (r ∷ rs) listed are legal runs =
    let of = are.0 in
    let call = of.call in
    let number = found_under_number calls n call of.found in
    let hold = holds n call of.found in
    let invoked = (hold.0.invoked call.invoked call.batch).0 (refl, refl) in
    let decided = decided_reported call.stage call.turn r.reply of.holds in
    let handed : HandedIn log n call.batch = subst (λ m. HandedIn log m call.batch) number (call.invoked, invoked.0, invoked.1) in
    let batch : runs.0 ≡ r.batch = one n runs.0 call.batch runs.1 handed ∙ sym of.batch_is in
    let reply : reply_to runs.0 books ≡ r.reply = ap (λ b. reply_to b books) batch ∙ sym legal.0 in
    let is_reply : IsReplyOf log n r.reply = subst (IsReplyOf log n) reply runs.2 in
    let rest : RunsFrom log (books_after r.batch books) ns = subst (λ b. RunsFrom log (books_after b books) ns) batch runs.3 in (
      ended_by r.replied r.invoked r.reply
          (λ none. ⊎_elim
          (λ c. (is_reply.committed c.0 c.1).1)
          (λ g. let k = gave_out log n call hold.0 number g.0 g.1 in absurd (not_stamped r.replied call.replied k.0 none of.replied_is k.1))
          (listed n (inl refl)))
          (λ k e.
          let late = hold.1.replied call.turn k decided (sym of.replied_is ∙ e) in
          let early = hold.1.decided call.turn decided in
          let same = of.invoked_is in
          omega arith),
      have_ended log calls one holds (books_after r.batch books) ns rs (λ m w. listed m (inr w)) are.1 legal.1 rest,
    )

-- ---- the trust domain of their batches

all_accepted : (own_domain : List ℕ) (events : List Event) (answers : List EventAnswer) → AreFor own_domain events → AllByRecursion (λ h. IsFor own_domain h.event) (accepted events answers)
all_accepted own_domain [] answers m = tt
all_accepted own_domain (e ∷ es) [] m = tt
all_accepted own_domain (e ∷ es) (Ok d ∷ answers) m = (m.0, all_accepted own_domain es answers m.1)
all_accepted own_domain (e ∷ es) (Err r ∷ answers) m = all_accepted own_domain es answers m.1

same_event : (g h : Happened) → Some g ≡ Some h → g ≡ h
same_event g h e = cc

at_event : (P : Happened → Type 0) (log : List Happened) (i : ℕ) (h : Happened) → AllByRecursion P log → slice_get log i ≡ Some h → P h
at_event P [] i h all e = absurd (cc)
at_event P (g ∷ log) zero h all e = subst P (same_event g h e) all.0
at_event P (g ∷ log) (suc i) h all e = at_event P log i h all.1 e

made_for : (own_domain : List ℕ) (log : List Happened) → AllByRecursion (λ h. IsFor own_domain h.event) log → (records : List Recorded) → AllByRecursion (HasStamps log) records → AllByRecursion (λ r. r.batch.domain ≡ own_domain) records
made_for own_domain log all [] s = tt
made_for own_domain log all (r ∷ rs) s =
    let invoked = s.0.invoked.1 in
    (at_event (λ h. IsFor own_domain h.event) log invoked.0 _ all invoked.2, made_for own_domain log all rs s.1)

-- ---- what the end of a run writes

pub writes_records : (own_domain : List ℕ) (last : Scheduled) (order : List ℕ) → Runs (first_machine own_domain) last.events last.answers last.machine → AreFor own_domain last.events → IsOrder last.machine order → Headline (accepted last.events last.answers) order → HoldReplies last.machine.calls first_books order → ((records : List Recorded) → AreRecords last.machine.calls order records → AllByRecursion IsWritten records) → (records : List Recorded) × WritesRecords own_domain last order records (flat_map record_line records)
writes_records own_domain last order runs made is headline held written =
    let log = accepted last.events last.answers in
    let calls = last.machine.calls in
    let found = records_of calls first_books order held in
    let stamps : (n : ℕ) (call : Call) → call_at n calls ≡ Some call → IsStamped log call = λ n call at. calls_are_stamped own_domain last.events last.answers last.machine n call runs at in
    let stamped = have_stamps log calls stamps order found.0 found.1 in (
      found.0,
      record {
        is_order = is;
        headline = headline;
        records = found.1;
        stamped = stamped;
        ended = have_ended log calls headline.one_batch (λ n call at. (stamps n call at, calls_are_in_order own_domain last.events last.answers last.machine n call runs at)) first_books order found.0 (λ n w. (headline.serial.listed n).0 w) found.1 found.2 headline.legal;
        legal = found.2;
        in_order = in_order log calls order found.0 found.1 stamped headline.serial.once (λ a b v w e. headline.strict a b ((headline.serial.listed a).0 v) ((headline.serial.listed b).0 w) e);
        made_for = made_for own_domain log (all_accepted own_domain last.events last.answers made) found.0 stamped;
        written = written found.0 found.1;
        end_is = refl;
      },
    )

-- ---- nothing else is written

no_reply : (domain : List ℕ) (now next : Recording) (line reply : List ℕ) → RecordsLine domain now line next reply → reply ≡ []
no_reply domain now next line reply (was_taken t l r) = r
no_reply domain now next line reply (was_lost t l r) = r

nothing_reported : (domain : List ℕ) (first last : Recording) (lines : List (List ℕ)) (text : List ℕ) → IsRun (RecordsLine domain) first lines last text → text ≡ []
nothing_reported domain first last [] text r = r.1
nothing_reported domain first last (l ∷ lines) text r =
    r.4 ∙ (ap (λ x. x ++ r.2) (no_reply domain first r.0 l r.1 r.3) ∙ nothing_reported domain r.0 last lines r.2 r.5)

-- ---- how many lines were lost

lost_more : (domain : List ℕ) (now next : Recording) (line reply : List ℕ) → RecordsLine domain now line next reply → now.lost ≤ next.lost
lost_more domain now next line reply (was_taken t l r) = omega arith
lost_more domain now next line reply (was_lost t l r) = omega arith

lost_so_far : (domain : List ℕ) (first last : Recording) (lines : List (List ℕ)) (text : List ℕ) → IsRun (RecordsLine domain) first lines last text → first.lost ≤ last.lost
lost_so_far domain first last [] text r =
    let same : last.lost ≡ first.lost = ap (λ (s : Recording). s.lost) r.0 in
    omega arith
lost_so_far domain first last (l ∷ lines) text r =
    let here = lost_more domain first r.0 l r.1 r.3 in
    let later = lost_so_far domain r.0 last lines r.2 r.5 in
    omega arith

-- if no line is lost, the machine is run through all events that the lines represent
record Went (domain : List ℕ) (lines : List (List ℕ)) (first last : Scheduled) : Type 0 where
  events : last.events ≡ first.events ++ events_of domain first.ids lines
  memory : AllByRecursion (λ answer. lacks_memory answer ≡ false) first.answers → AllByRecursion (λ answer. lacks_memory answer ≡ false) last.answers
  runs : (s : MachineState) → Runs s first.events first.answers first.machine → Runs s last.events last.answers last.machine

went_on : (domain : List ℕ) (line : List ℕ) (lines : List (List ℕ)) (first next last : Scheduled) → TakesEvent domain first line next → Went domain lines next last → Went domain (line ∷ lines) first last
went_on domain line lines first next last (took_none fault e n) w =
    let then : Went domain lines (schedule_skips first) last = subst (λ s. Went domain lines s last) n w in
    record {
      events = then.events ∙ ap (λ r. first.events ++ events_by r (λ event left. event ∷ events_of domain left lines) (events_of domain first.ids lines)) (sym e);
      memory = then.memory;
      runs = then.runs;
    }
went_on domain line lines first next last (took event ids answer machine e a m n) w =
    let then : Went domain lines (stepped first event answer machine ids) last = subst (λ s. Went domain lines s last) n w in
    record {
      events = then.events
          ∙ (append_assoc first.events (event ∷ []) (events_of domain ids lines)
          ∙ ap (λ r. first.events ++ events_by r (λ event left. event ∷ events_of domain left lines) (events_of domain first.ids lines)) (sym e));
      memory = λ h. then.memory (All-more (λ answer. lacks_memory answer ≡ false) first.answers answer h m);
      runs = λ s r. then.runs s (runs_extend first.events first.answers s first.machine machine event answer r a);
    }

none_lost : (domain : List ℕ) (line : List ℕ) (first next : Recording) (reply : List ℕ) → RecordsLine domain first line next reply → next.lost ≡ 0 → TakesEvent domain first.scheduled line next.scheduled
none_lost domain line first next reply (was_taken t l r) z = t
none_lost domain line first next reply (was_lost t l r) z = absurd (omega arith)

went : (domain : List ℕ) (lines : List (List ℕ)) (first last : Recording) (text : List ℕ) → IsRun (RecordsLine domain) first lines last text → last.lost ≡ 0 → Went domain lines first.scheduled last.scheduled
went domain [] first last text run z =
    let same : last.scheduled ≡ first.scheduled = ap (λ (s : Recording). s.scheduled) run.0 in
    subst (λ s. Went domain [] first.scheduled s) (sym same) (record {
      events = sym (append-nil first.scheduled.events);
      memory = λ h. h;
      runs = λ s r. r;
    })
went domain (line ∷ lines) first last text run z =
    let later = lost_so_far domain run.0 last lines run.2 run.5 in
    let none : (run.0).lost ≡ 0 = omega arith in
    went_on domain line lines first.scheduled (run.0).scheduled last.scheduled (none_lost domain line first run.0 run.1 run.3 none) (went domain lines run.0 last run.2 run.5 z)

-- ---- the end of a run

records_alone : (domain seed : List ℕ) (kept : RecordKept) (lines : List (List ℕ)) (old new : Option (List ℕ)) → AppendsClosed (RecordsLine domain) (ClosesAs (ClosesRecording domain) (AfterSomeLines (RecordRepresents kept))) (first_recording domain seed) lines old new → AppendsRecords domain seed lines kept.lost old new
records_alone domain seed kept lines old new a =
    let run = a.1 in
    let none = nothing_reported domain (first_recording domain seed) run.0 lines run.1 run.3 in
    let text : a.0 ≡ run.2 = run.5 ∙ ap (λ x. x ++ run.2) none in (
      run.0,
      run.2,
      subst (λ (x : List ℕ). IsRun (RecordsLine domain) (first_recording domain seed) lines run.0 x) none run.3,
      run.4.1.1.1,
      run.4.0,
      subst (λ (x : List ℕ). Appends old new x) text a.2,
    )

all_records : (domain seed : List ℕ) (lines : List (List ℕ)) (lost : ℕ) (old new : Option (List ℕ)) → AppendsRecords domain seed lines lost old new → lost ≡ 0 → AppendsAllRecords domain seed lines old new
all_records domain seed lines lost old new a z =
    let w = went domain lines (first_recording domain seed) a.0 [] a.2 (a.3 ∙ z) in
    record {
      last = (a.0).scheduled;
      text = a.1;
      events = w.events;
      runs = w.runs (first_machine domain) refl;
      memory = w.memory tt;
      closes = a.4;
      appends = a.5;
    }

pub alone : (domain seed : List ℕ) (kept : RecordKept) (lost : ℕ) (left : Option (List ℕ)) (old new : Option (List ℕ)) → lost ≡ kept.lost → IfSome left (λ bytes. AppendsClosed (RecordsLine domain) (ClosesAs (ClosesRecording domain) (AfterSomeLines (RecordRepresents kept))) (first_recording domain seed) (first_lines most_lines bytes) old new) → IfSome left (λ bytes. AppendsRecords domain seed (first_lines most_lines bytes) lost old new)
alone domain seed kept lost None old new e h = tt
alone domain seed kept lost (Some bytes) old new e h =
    subst (λ n. AppendsRecords domain seed (first_lines most_lines bytes) n old new) (sym e) (records_alone domain seed kept (first_lines most_lines bytes) old new h)

pub all : (domain seed : List ℕ) (lost : ℕ) (left : Option (List ℕ)) (old new : Option (List ℕ)) → IfSome left (λ bytes. AppendsRecords domain seed (first_lines most_lines bytes) lost old new) → lost ≡ 0 → IfSome left (λ bytes. AppendsAllRecords domain seed (first_lines most_lines bytes) old new)
all domain seed lost None old new h z = tt
all domain seed lost (Some bytes) old new h z = all_records domain seed (first_lines most_lines bytes) lost old new h z

pub fault_recorded : (domain seed : List ℕ) (input rest : InputState) (output out : OutputState) (result : Result ℕ RunFault) (e : RunFault) → result ≡ Err e → RunsOver (RecordsLine domain) (ClosesRecording domain) ⊤ (first_recording domain seed) input rest output out result → RunsRecord domain seed input rest output out result
fault_recorded domain seed input rest output out (Ok lost) e is run = absurd (cc)
fault_recorded domain seed input rest output out (Err f) e is run = record { run = run; alone = tt; all = tt }

-- ---- one line

abbrev pub counted : Bool → ℕ → ℕ
counted true n = n + 1
counted false n = n

abbrev pub recorded_as_lost : ScheduleKept → ℕ → Bool → RecordKept
recorded_as_lost schedule before lost = record { schedule = schedule; lost = counted lost before }

pub recorded_line : (domain : List ℕ) (before after : RecordKept) (schedule : ScheduleKept) (lines number : ℕ) (now : Recording) (bytes text : List ℕ) (lost : Bool) (out : OutputState) → RecordRepresents before lines now → number ≡ lines + 1 → TakesKept domain schedule number now.scheduled bytes text lost → after ≡ recorded_as_lost schedule before.lost lost → AnswersKept (RecordsLine domain) (λ _. false) (RecordRepresents after number) now bytes out out true
recorded_line domain before after schedule lines number now bytes text true out preserves n t e =
    let next : Recording = record { scheduled = t.0; lost = now.lost + 1 } in
    let few : before.lost + 1 ≤ number = omega (arith, n, preserves.2) in
    let kept : RecordRepresents (recorded_as_lost schedule before.lost true) number next = (t.2, ap (λ n. n + 1) preserves.1, few) in
    (next, [], (λ line is k. was_lost (t.1 line is k).1 refl refl), Puts-nil out, subst (λ r. RecordRepresents r number next) (sym e) kept, refl)
recorded_line domain before after schedule lines number now bytes text false out preserves n t e =
    let next : Recording = record { scheduled = t.0; lost = now.lost } in
    let few : before.lost ≤ number = omega (arith, n, preserves.2) in
    let kept : RecordRepresents (recorded_as_lost schedule before.lost false) number next = (t.2, preserves.1, few) in
    (next, [], (λ line is k. was_taken (t.1 line is k).1 refl refl), Puts-nil out, subst (λ r. RecordRepresents r number next) (sym e) kept, refl)

-- the records were put after what was put before
pub closed_with_records : (own_domain : List ℕ) (now : Scheduled) (m : MachineState) (order : List ℕ) → now.machine ≡ m → Runs (first_machine own_domain) now.events now.answers now.machine → AreFor own_domain now.events → IsOrder m order → ((own_domain : List ℕ) (events : List Event) (answers : List EventAnswer) → Runs (first_machine own_domain) events answers m → Headline (accepted events answers) order) → ((own_domain : List ℕ) (events : List Event) (answers : List EventAnswer) → Runs (first_machine own_domain) events answers m → HoldReplies m.calls first_books order) → (a b : OutputState) → ((records : List Recorded) → AreRecords m.calls order records → Puts a b (flat_map record_line records)) → ((records : List Recorded) → AreRecords m.calls order records → AllByRecursion IsWritten records) → Closes (ClosesWithRecords own_domain) now a b
closed_with_records own_domain now m order e runs made is headline held a b put written =
    let ran = subst (λ s. Runs (first_machine own_domain) now.events now.answers s) e runs in
    let reported = writes_records own_domain now order runs made
    (subst (λ s. IsOrder s order) (sym e) is)
    (headline own_domain now.events now.answers ran)
    (subst (λ (s : MachineState). HoldReplies s.calls first_books order) (sym e) (held own_domain now.events now.answers ran))
    (λ records are. written records (subst (λ (s : MachineState). AreRecords s.calls order records) e are)) in
    (flat_map record_line reported.0, (order, reported.0, reported.1), put reported.0 (subst (λ (s : MachineState). AreRecords s.calls order reported.0) e reported.1.records))
