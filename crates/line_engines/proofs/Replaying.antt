-- The engine `plain` answers the request log of a journal with the journal's replies.
use Rattle.std.proofs.Common.{◌≡◌, ◌+◌, ◌-◌, ◌≤◌, ◌^◌, ◌⊎◌, ℕ, suc, ◌==◌, Bool, true, false, ◌||◌, inl, inr, List, [], ◌∷◌, ◌++◌, map, take, length, Option, None, Ok, Err, decimal, refl, sym, ap, ◌∙◌, append_assoc, append-nil, subst, arith}
use Rattle.std.specs.Io.KnownBytes.{Appends}
use Rattle.std.specs.List.{AllByRecursion, concat, flat_map}
use Rattle.std.specs.Prelude.{Result, codes}
use Rattle.std.proofs.lemmas.List.Folds.{concat-append, list_any-append}
use Rattle.std.proofs.Math.Seq.{take-append-add}
use Rattle.rand_chacha.specs.ChaCha.{ChaCha}
use Rattle.entry_book.specs.Batches.{Batch, IsMadeFor}
use Rattle.entry_book.specs.Book.{Book}
use Rattle.entry_book.specs.History.{books_after, books_from, books_of, first_books, replies_from, reply_to}
use Rattle.entry_book.specs.Laws.{CountOfBooks, HistoryBounded}
use Rattle.entry_book.specs.declared.reply.Reply.{Reply}
use Rattle.entry_book.specs.declared.reply.Refusal.TheVariants.{NotYet}
use Rattle.entry_book.specs.declared.reply.ReplyOutcome.TheVariants.{Committed, Refused}
use Rattle.commit_head.specs.declared.item.Item.{Item}
use Rattle.commit_head.specs.Journals.{IsLawfulJournal, batches_of, committed_after}
use Rattle.commit_head.specs.Laws.{CountOfBatches}
use Rattle.line_devices.specs.Lines.{AreLines, IsWholeLine, has_lf, LinesAreLines, LinesJoin, OnlyLinesJoin, lines_of, most_lines}
use Rattle.line_devices.specs.Runs.{IsRun, first_lines}
use Rattle.line_devices.specs.Stream.{AppendsPrefix}
use Rattle.line_reading.specs.Ids.{first_ids}
use Rattle.line_reading.specs.Requests.{spelled}
use Rattle.line_reading.specs.declared.fault.Fault.{Fault}
use Rattle.line_reading.specs.declared.request.Request.{Request}
use Rattle.reg_lines.specs.Json.{option_json}
use Rattle.reg_lines.specs.OneLine.{RecordsHaveNoLf}
use Rattle.reg_lines.specs.RecordLines.{batch_json, record_json}
use Rattle.reg_lines.specs.Refusals.{no_memory_json}
use Rattle.reg_lines.specs.Replies.{reply_json}
use Rattle.reg_lines.specs.Spelled.{BatchesAreSpelled, IsWrittenBatch}
use Rattle.line_engines.specs.Answers.{Answers, Running, as_line, plain_start, refused, replied, not_read, not_run}
use Rattle.line_engines.specs.Replays.{IsReadable, ItemsAreReplayed, IsShort, JournalsAreReplayed, JournalsMayBeReplayed, LogsHaveLines, PlainWritesReplays, Replays, WritesReplay, replayed, reply_line, request_line, request_log, stopped}

-- ---- one item

-- after n commits that left these books
abbrev state_at : List Book → ChaCha → ℕ → Running
state_at books ids n = record { books = books; ids = ids; calls = n; lines = n }

abbrev reply_of : ℕ → Item → Reply
reply_of n item = record { place = n; outcome = Committed item.replies }

-- its request line parses to its batch, and no id is drawn
abbrev IsItsLine : List ℕ → ChaCha → Item → Type 0
IsItsLine domain ids item = spelled domain ids (request_line item) ≡ Ok (record { batch = item.batch; tries = 1 }, ids)

abbrev ok : Request × ChaCha → Result (Request × ChaCha) Fault
ok p = Ok p

same_ok : (p q : Request × ChaCha) → ok p ≡ ok q → p ≡ q
same_ok p q e = cc

not_both : {Y : Type 0} (p : Request × ChaCha) (fault : Fault) → ok p ≡ Err fault → Y
not_both p fault e = absurd (cc)

-- it gets its reply, or memory runs out
answered : (domain : List ℕ) (ids : ChaCha) (books : List Book) (n : ℕ) (item : Item) (next : Running) (reply : List ℕ) → IsItsLine domain ids item → reply_to item.batch books ≡ reply_of (n + 1) item → Answers domain (state_at books ids n) (request_line item) next reply
    → ((next ≡ state_at (books_after item.batch books) ids (n + 1)) × (reply ≡ reply_line (reply_of (n + 1) item))) ⊎ (reply ≡ as_line (no_memory_json (n + 1)))
answered domain ids books n item next reply line given (refused fault e x r) = not_both _ fault (sym line ∙ e)
answered domain ids books n item next reply line given (replied request left e x r) =
    let same : (request, left) ≡ (record { batch = item.batch; tries = 1 }, ids) = same_ok _ _ (sym e ∙ line) in
    inl (x ∙ ap (λ p. state_at (books_after p.0.batch books) p.1 (n + 1)) same, r ∙ (ap (λ p. as_line (reply_json (n + 1) (reply_to p.0.batch books))) same ∙ ap (λ y. as_line (reply_json (n + 1) y)) given))
answered domain ids books n item next reply line given (not_read x r) = inr r
answered domain ids books n item next reply line given (not_run request left e x r) = inr r

-- ---- the items in order

-- the same as `Replays`, after n commits that left these books
data ReplaysFrom (domain : List ℕ) (ids : ChaCha) (books : List Book) (n : ℕ) (items : List Item) (more : List (List ℕ)) (last : Running) (text : List ℕ) : Type 0 where
  all : (rest : List ℕ) → text ≡ flat_map reply_line (committed_after n items) ++ rest → IsRun (Answers domain) (state_at (books_from books (batches_of items)) ids (n + length items)) more last rest → ReplaysFrom domain ids books n items more last text
  some : (before : List Item) (item : Item) (after : List Item) (rest : List ℕ) → items ≡ before ++ item ∷ after → text ≡ flat_map reply_line (committed_after n before) ++ (as_line (no_memory_json (n + length before + 1)) ++ rest) → ReplaysFrom domain ids books n items more last text

state_number : (books : List Book) (ids : ChaCha) (m n : ℕ) → m ≡ n → state_at books ids m ≡ state_at books ids n
state_number books ids m n e = ap (state_at books ids) e

-- one item more in front
longer : (domain : List ℕ) (ids : ChaCha) (books : List Book) (n : ℕ) (item : Item) (items : List Item) (more : List (List ℕ)) (last : Running) (rest text : List ℕ) → text ≡ reply_line (reply_of (n + 1) item) ++ rest
    → ReplaysFrom domain ids (books_after item.batch books) (n + 1) items more last rest → ReplaysFrom domain ids books n (item ∷ items) more last text
longer domain ids books n item items more last rest text t (all after e run) =
    let line : List ℕ = reply_line (reply_of (n + 1) item) in
    let P : Running → Type 0 = λ s. IsRun (Answers domain) s more last after in
    let number : n + 1 + length items ≡ n + length (item ∷ items) = omega arith in
    all after (t ∙ (ap (λ x. line ++ x) e ∙ sym (append_assoc line _ after))) (subst P (state_number _ ids _ _ number) run)
longer domain ids books n item items more last rest text t (some before other after behind e f) =
    let line : List ℕ = reply_line (reply_of (n + 1) item) in
    let number : n + 1 + length before + 1 ≡ n + length (item ∷ before) + 1 = omega arith in
    some (item ∷ before) other after behind (ap (λ l. item ∷ l) e)
    (t ∙ (ap (λ x. line ++ x) f ∙ (sym (append_assoc line _ _) ∙ ap (λ k. (line ++ flat_map reply_line (committed_after (n + 1) before)) ++ (as_line (no_memory_json k) ++ behind)) number)))

first_reply : (x y : Reply) (xs ys : List Reply) → x ∷ xs ≡ y ∷ ys → x ≡ y
first_reply x y xs ys e = cc

later_replies : (x y : Reply) (xs ys : List Reply) → x ∷ xs ≡ y ∷ ys → xs ≡ ys
later_replies x y xs ys e = cc

replays_from : (domain : List ℕ) (ids : ChaCha) (books : List Book) (n : ℕ) (items : List Item) (more : List (List ℕ)) (last : Running) (text : List ℕ) → AllByRecursion (IsItsLine domain ids) items → replies_from books (batches_of items) ≡ committed_after n items
    → IsRun (Answers domain) (state_at books ids n) (map request_line items ++ more) last text → ReplaysFrom domain ids books n items more last text
replays_from domain ids books n [] more last text lines given run =
    let P : Running → Type 0 = λ s. IsRun (Answers domain) s more last text in
    let number : n ≡ n + 0 = omega arith in
    all text refl (subst P (state_number books ids n (n + 0) number) run)
replays_from domain ids books n (item ∷ items) more last text lines given run =
    let P : Running → Type 0 = λ s. IsRun (Answers domain) s (map request_line items ++ more) last run.2 in
    let number : n + 1 ≡ n + 0 + 1 = omega arith in
    elim (answered domain ids books n item run.0 run.1 lines.0 (first_reply _ _ _ _ given) run.3) [
      | inl h ↦ longer domain ids books n item items more last run.2 text (run.4 ∙ ap (λ x. x ++ run.2) h.1)
          (replays_from domain ids (books_after item.batch books) (n + 1) items more last run.2 lines.1 (later_replies _ _ _ _ given) (subst P h.0 run.5))
      | inr r ↦ some [] item items run.2 refl (run.4 ∙ ap (λ x. x ++ run.2) (r ∙ ap (λ k. as_line (no_memory_json k)) number))
    ]

replays : (domain : List ℕ) (ids : ChaCha) (items : List Item) (more : List (List ℕ)) (last : Running) (text : List ℕ) → ReplaysFrom domain ids first_books 0 items more last text → Replays domain ids items more last text
replays domain ids items more last text (all rest e run) =
    let P : Running → Type 0 = λ s. IsRun (Answers domain) s more last rest in
    let number : 0 + length items ≡ length items = omega arith in
    replayed rest e (subst P (state_number _ ids _ _ number) run)
replays domain ids items more last text (some before item after rest e f) =
    let number : 0 + length before + 1 ≡ length before + 1 = omega arith in
    stopped before item after rest e (f ∙ ap (λ k. flat_map reply_line (committed_after 0 before) ++ (as_line (no_memory_json k) ++ rest)) number)

-- ---- the run in which each item gets its reply

may_from : (domain : List ℕ) (ids : ChaCha) (books : List Book) (n : ℕ) (items : List Item) → AllByRecursion (IsItsLine domain ids) items → replies_from books (batches_of items) ≡ committed_after n items
    → IsRun (Answers domain) (state_at books ids n) (map request_line items) (state_at (books_from books (batches_of items)) ids (n + length items)) (flat_map reply_line (committed_after n items))
may_from domain ids books n [] lines given =
    let number : n + 0 ≡ n = omega arith in
    (state_number books ids (n + 0) n number, refl)
may_from domain ids books n (item ∷ items) lines given =
    let reply : Reply = reply_of (n + 1) item in
    let books_then : List Book = books_after item.batch books in
    let books_last : List Book = books_from books_then (batches_of items) in
    let text : List ℕ = flat_map reply_line (committed_after (n + 1) items) in
    let P : Running → Type 0 = λ s. IsRun (Answers domain) (state_at books_then ids (n + 1)) (map request_line items) s text in
    let number : n + 1 + length items ≡ n + length (item ∷ items) = omega arith in
    let is : as_line (reply_json (n + 1) reply) ≡ as_line (reply_json (n + 1) (reply_to item.batch books)) = ap (λ y. as_line (reply_json (n + 1) y)) (sym (first_reply _ _ _ _ given)) in (
      state_at books_then ids (n + 1),
      reply_line reply,
      text,
      replied (record { batch = item.batch; tries = 1 }) ids lines.0 refl is,
      refl,
      subst P (state_number books_last ids _ _ number) (may_from domain ids books_then (n + 1) items lines.1 (later_replies _ _ _ _ given)),
    )

-- ---- each line parses to its batch

its_lines : BatchesAreSpelled → (domain : List ℕ) (ids : ChaCha) (items : List Item) → AllByRecursion (IsMadeFor domain) (batches_of items) → AllByRecursion IsReadable items → AllByRecursion (IsItsLine domain ids) items
its_lines law domain ids [] made readable = tt
its_lines law domain ids (item ∷ items) made readable = (
  subst (λ d. spelled d ids (request_line item) ≡ Ok (record { batch = item.batch; tries = 1 }, ids)) made.0.domain_is (law item.batch ids readable.0.batch readable.0.fits),
  its_lines law domain ids items made.1 readable.1,
)

pub are_replayed : BatchesAreSpelled → JournalsAreReplayed
are_replayed law domain seed items more last text lawful readable run =
    replays domain (first_ids seed) items more last text
    (replays_from domain (first_ids seed) first_books 0 items more last text (its_lines law domain (first_ids seed) items lawful.made readable) lawful.replies run)

pub may_be_replayed : BatchesAreSpelled → JournalsMayBeReplayed
may_be_replayed law domain seed items lawful readable =
    let ids : ChaCha = first_ids seed in
    let text : List ℕ = flat_map reply_line (committed_after 0 items) in
    let P : Running → Type 0 = λ s. IsRun (Answers domain) (plain_start seed) (map request_line items) s text in
    let number : 0 + length items ≡ length items = omega arith in
    subst P (state_number _ ids _ _ number) (may_from domain ids first_books 0 items (its_lines law domain ids items lawful.made readable) lawful.replies)

-- ---- the lines of a request log

-- the text of a batch has no LF, since that of a record with it has none

neither : (a b : Bool) → (a || b) ≡ false → (a ≡ false) × (b ≡ false)
neither true b e = absurd (cc)
neither false b e = (refl, e)

parts_have_none : (xs ys : List ℕ) → has_lf (xs ++ ys) ≡ false → (has_lf xs ≡ false) × (has_lf ys ≡ false)
parts_have_none xs ys e = neither (has_lf xs) (has_lf ys) (sym (list_any-append (λ b. b == 10) xs ys) ∙ e)

front_has_none : (xs a b c d e f g h i : List ℕ) → has_lf (xs ++ a ++ b ++ c ++ d ++ e ++ f ++ g ++ h ++ i) ≡ false → has_lf xs ≡ false
front_has_none xs a b c d e f g h i none =
    let without_i = parts_have_none (xs ++ a ++ b ++ c ++ d ++ e ++ f ++ g ++ h) i none in
    let without_h = parts_have_none (xs ++ a ++ b ++ c ++ d ++ e ++ f ++ g) h without_i.0 in
    let without_g = parts_have_none (xs ++ a ++ b ++ c ++ d ++ e ++ f) g without_h.0 in
    let without_f = parts_have_none (xs ++ a ++ b ++ c ++ d ++ e) f without_g.0 in
    let without_e = parts_have_none (xs ++ a ++ b ++ c ++ d) e without_f.0 in
    let without_d = parts_have_none (xs ++ a ++ b ++ c) d without_e.0 in
    let without_c = parts_have_none (xs ++ a ++ b) c without_d.0 in
    let without_b = parts_have_none (xs ++ a) b without_c.0 in
    let without_a = parts_have_none xs a without_b.0 in
    without_a.0

some_reply : Reply
some_reply = record { place = 0; outcome = Refused NotYet }

batch_has_none : RecordsHaveNoLf → (batch : Batch) → has_lf (batch_json batch) ≡ false
unfolding record_json
batch_has_none law batch =
    let front : has_lf (codes "{\"batch\":" ++ batch_json batch) ≡ false = front_has_none (codes "{\"batch\":" ++ batch_json batch) (codes ",\"call\":") (decimal 0) (codes ",\"invoked\":") (decimal 0) (codes ",\"replied\":") (option_json decimal None) (codes ",\"reply\":") (reply_json 0 some_reply) (codes "}") (law batch 0 0 None some_reply) in
    let parts = parts_have_none (codes "{\"batch\":") (batch_json batch) front in
    parts.1

is_whole : RecordsHaveNoLf → (item : Item) → IsWholeLine (request_line item)
is_whole law item = (batch_json item.batch, batch_has_none law item.batch, refl)

one_more_line : (line : List ℕ) (lines : List (List ℕ)) → IsWholeLine line → AreLines lines → AreLines (line ∷ lines)
one_more_line line [] w a = inl w
one_more_line line (next ∷ lines) w a = (w, a)

are_lines : RecordsHaveNoLf → (items : List Item) (lines : List (List ℕ)) → AreLines lines → AreLines (map request_line items ++ lines)
are_lines law [] lines a = a
are_lines law (item ∷ items) lines a = one_more_line (request_line item) (map request_line items ++ lines) (is_whole law item) (are_lines law items lines a)

joined : (items : List Item) → concat (map request_line items) ≡ request_log items
joined [] = refl
joined (item ∷ items) = ap (λ l. request_line item ++ l) (joined items)

pub logs_have_lines : RecordsHaveNoLf → LinesJoin → LinesAreLines → OnlyLinesJoin → LogsHaveLines
logs_have_lines law join lines only items bytes =
    let whole : concat (map request_line items ++ lines_of bytes) ≡ request_log items ++ bytes =
    concat-append (map request_line items) (lines_of bytes) ∙ (ap (λ l. l ++ concat (lines_of bytes)) (joined items) ∙ ap (λ l. request_log items ++ l) (join bytes)) in
    ap lines_of (sym whole) ∙ sym (only (map request_line items ++ lines_of bytes) (are_lines law items (lines_of bytes) (lines bytes)))

-- ---- a journal isn't too long for a run

count_of_lines : (items : List Item) → length (map request_line items) ≡ length items
count_of_lines [] = refl
count_of_lines (item ∷ items) = ap suc (count_of_lines items)

fits_in_run : HistoryBounded → CountOfBooks → CountOfBatches → (domain : List ℕ) (items : List Item) → IsLawfulJournal first_books domain items → length items ≤ most_lines
unfolding most_lines
fits_in_run bounded count batches domain items lawful =
    let most : length (books_of (batches_of items)) ≤ 2 ^ 48 + 1 = bounded first_books domain (books_of (batches_of items)) (batches_of items, record { is_first = lawful.is_first; made = lawful.made; committed = lawful.committed; books_are = refl }) in
    let books : length (books_of (batches_of items)) ≡ length (batches_of items) + 1 = count first_books (batches_of items) (omega arith) lawful.committed in
    let same : length (batches_of items) ≡ length items = batches items in
    omega (arith, most, books, same)

first_are : LogsHaveLines → (items : List Item) (bytes : List ℕ) → length items ≤ most_lines → first_lines most_lines (request_log items ++ bytes) ≡ map request_line items ++ first_lines (most_lines - length items) bytes
first_are law items bytes few =
    let most : most_lines ≡ length (map request_line items) + (most_lines - length items) = rw (count_of_lines items) (omega arith) in
    ap (take most_lines) (law items bytes)
    ∙ (ap (λ n. take n (map request_line items ++ lines_of bytes)) most ∙ take-append-add (map request_line items) (lines_of bytes) (most_lines - length items))

-- ---- what a run of the engine writes

closed : (xs ys end : List ℕ) → xs ≡ ys ++ end → end ≡ [] → ys ≡ xs
closed xs ys end e f = sym (e ∙ (ap (λ l. ys ++ l) f ∙ append-nil ys))

may_be_closed : (end : List ℕ) → (end ≡ []) ⊎ (end ≡ []) → end ≡ []
may_be_closed end (inl e) = e
may_be_closed end (inr e) = e

writes_replay : JournalsAreReplayed → (domain seed : List ℕ) (items : List Item) (bytes : List ℕ) (old new : Option (List ℕ)) → IsLawfulJournal first_books domain items → AllByRecursion IsReadable items
    → first_lines most_lines (request_log items ++ bytes) ≡ map request_line items ++ first_lines (most_lines - length items) bytes → WritesReplay domain seed items bytes old new
writes_replay law domain seed items bytes old new lawful readable lines =
    let more : List (List ℕ) = first_lines (most_lines - length items) bytes in
    let P : Running → List ℕ → List (List ℕ) → Type 0 = λ last text ls. IsRun (Answers domain) (plain_start seed) ls last text in
    let replay : (last : Running) (text : List ℕ) → IsRun (Answers domain) (plain_start seed) (first_lines most_lines (request_log items ++ bytes)) last text → Replays domain (first_ids seed) items more last text =
    λ last text run. law domain seed items more last text lawful readable (subst (P last text) lines run) in
    record {
      text = λ c. (c.1.0, c.1.1, replay c.1.0 c.1.1 c.1.3, subst (Appends old new) (sym (closed c.0 c.1.1 c.1.2 c.1.5 c.1.4)) c.2);
      front = λ c. (c.1.0, c.1.1, replay c.1.0 c.1.1 c.1.3, subst (AppendsPrefix old new) (sym (closed c.0 c.1.1 c.1.2 c.1.5 (may_be_closed c.1.2 c.1.4))) c.2);
    }

pub plain_writes_replays : JournalsAreReplayed → LogsHaveLines → HistoryBounded → CountOfBooks → CountOfBatches → PlainWritesReplays
plain_writes_replays law lines bounded count batches domain seed items bytes old new lawful readable =
    writes_replay law domain seed items bytes old new lawful readable (first_are lines items bytes (fits_in_run bounded count batches domain items lawful))

-- ---- the items of a program

readable_items : (items : List Item) → AllByRecursion (λ item. IsWrittenBatch item.batch) items → AllByRecursion IsShort items → AllByRecursion IsReadable items
readable_items [] written short = tt
readable_items (item ∷ items) written short = (record { batch = written.0; fits = short.0 }, readable_items items written.1 short.1)

pub items_are_replayed : PlainWritesReplays → (items : List Item) → AllByRecursion (λ item. IsWrittenBatch item.batch) items → ItemsAreReplayed items
items_are_replayed law items written domain seed bytes old new lawful short = law domain seed items bytes old new lawful (readable_items items written short)
