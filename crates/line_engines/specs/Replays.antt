-- The request log of a journal, and what the engine `plain` answers to it: a replay.
use Rattle.std.specs.Prelude.{◌≡◌, ◌+◌, ◌-◌, ◌++◌, ℕ, List, ◌∷◌, map, length, Option}
use Rattle.std.specs.Io.KnownBytes.{Appends}
use Rattle.std.specs.List.{AllByRecursion, flat_map}
use Rattle.rand_chacha.specs.ChaCha.{ChaCha}
use Rattle.entry_book.specs.History.{books_of, first_books}
use Rattle.entry_book.specs.declared.reply.Reply.{Reply}
use Rattle.commit_head.specs.declared.item.Item.{Item}
use Rattle.commit_head.specs.Journals.{IsLawfulJournal, batches_of, committed_after}
use Rattle.line_devices.specs.Lines.{lines_of, most_lines}
use Rattle.line_devices.specs.Runs.{IsRun, first_lines}
use Rattle.line_devices.specs.Stream.{AppendsPrefix}
use Rattle.line_reading.specs.Ids.{first_ids}
use Rattle.reg_lines.specs.RecordLines.{batch_json}
use Rattle.reg_lines.specs.Refusals.{no_memory_json}
use Rattle.reg_lines.specs.Replies.{reply_json}
use Rattle.reg_lines.specs.Spelled.{FitsInLine, IsWrittenBatch}
use Rattle.line_engines.specs.Answers.{Answers, ClosesWithNothing, Running, as_line, plain_start}
use Rattle.line_engines.specs.Driver.{AppendsClosed, AppendsClosedPrefix, MayClose}

-- ---- the request log of a journal

-- the request line of an item: its batch, with the id of each create
abbrev pub request_line : Item → List ℕ
request_line item = as_line (batch_json item.batch)

-- a line for each item, in order
abbrev pub request_log : List Item → List ℕ
request_log items = flat_map request_line items

-- the text of the item's batch fits into a line
abbrev pub IsShort : Item → Type 0
IsShort item = FitsInLine (batch_json item.batch)

-- The item's batch satisfies the invariants of its types, as every value of the program does, and its text fits into a line.
pub record IsReadable (item : Item) : Type 0 where
  pub batch : IsWrittenBatch item.batch
  pub fits : IsShort item

-- ---- the replies

-- the line of a reply whose call number is its place
abbrev pub reply_line : Reply → List ℕ
reply_line reply = as_line (reply_json reply.place reply)

-- the reply lines of a journal: item n was committed at place n with its replies, by call n
abbrev pub reply_log : List Item → List ℕ
reply_log items = flat_map reply_line (committed_after 0 items)

-- The state after the request log of a journal: the books are those of the journal, no id was drawn, and each line was a call.
abbrev pub after_replay : ChaCha → List Item → Running
after_replay ids items = record { books = books_of (batches_of items); ids = ids; calls = length items; lines = length items }

-- The replies to the request log of a journal and to the lines after it. Each item gets its reply, and the lines after the log are
-- answered on the books of the journal. Or memory runs out for the line of an item, whose reply says so; then the items before it
-- get their replies.
pub data Replays (domain : List ℕ) (ids : ChaCha) (items : List Item) (more : List (List ℕ)) (last : Running) (text : List ℕ) : Type 0 where
  replayed : (rest : List ℕ) → text ≡ reply_log items ++ rest → IsRun (Answers domain) (after_replay ids items) more last rest → Replays domain ids items more last text
  stopped : (before : List Item) (item : Item) (after : List Item) (rest : List ℕ) → items ≡ before ++ item ∷ after → text ≡ reply_log before ++ (as_line (no_memory_json (length before + 1)) ++ rest) → Replays domain ids items more last text

-- ---- the theorems

-- The bytes of a request log have one line for each item. Bytes behind it keep their lines.
abbrev pub LogsHaveLines : Type 0
LogsHaveLines = (items : List Item) (bytes : List ℕ) → lines_of (request_log items ++ bytes) ≡ map request_line items ++ lines_of bytes

-- a run over the request log of a lawful journal, and any lines after it, is a replay
abbrev pub JournalsAreReplayed : Type 0
JournalsAreReplayed = (domain seed : List ℕ) (items : List Item) (more : List (List ℕ)) (last : Running) (text : List ℕ) → IsLawfulJournal first_books domain items → AllByRecursion IsReadable items
    → IsRun (Answers domain) (plain_start seed) (map request_line items ++ more) last text → Replays domain (first_ids seed) items more last text

-- and the run in which each item gets its reply is one of those that `plain` allows
abbrev pub JournalsMayBeReplayed : Type 0
JournalsMayBeReplayed = (domain seed : List ℕ) (items : List Item) → IsLawfulJournal first_books domain items → AllByRecursion IsReadable items
    → IsRun (Answers domain) (plain_start seed) (map request_line items) (after_replay (first_ids seed) items) (reply_log items)

-- ---- what a run of the engine writes: the fields `text` and `front` of `RunsPlain`

-- known bytes grow by the replies to the request log of a journal and to the bytes behind it, of which a run reads at most
-- `most_lines` lines in all
abbrev pub AppendsReplay : List ℕ → List ℕ → List Item → List ℕ → Option (List ℕ) → Option (List ℕ) → Type 0
AppendsReplay domain seed items bytes old new = (last : Running) × (text : List ℕ) × Replays domain (first_ids seed) items (first_lines (most_lines - length items) bytes) last text × Appends old new text

-- known bytes grow by a prefix of such replies
abbrev pub AppendsReplayPrefix : List ℕ → List ℕ → List Item → List ℕ → Option (List ℕ) → Option (List ℕ) → Type 0
AppendsReplayPrefix domain seed items bytes old new = (last : Running) × (text : List ℕ) × Replays domain (first_ids seed) items (first_lines (most_lines - length items) bytes) last text × AppendsPrefix old new text

-- A run of `plain` over the request log of a lawful journal, and any bytes behind it, writes the replies of the journal if it ends
-- well, and otherwise a prefix of them.
pub record WritesReplay (domain seed : List ℕ) (items : List Item) (bytes : List ℕ) (old new : Option (List ℕ)) : Type 0 where
  pub text : AppendsClosed (Answers domain) ClosesWithNothing (plain_start seed) (first_lines most_lines (request_log items ++ bytes)) old new → AppendsReplay domain seed items bytes old new
  pub front : AppendsClosedPrefix (Answers domain) (MayClose ClosesWithNothing) (plain_start seed) (first_lines most_lines (request_log items ++ bytes)) old new → AppendsReplayPrefix domain seed items bytes old new

abbrev pub PlainWritesReplays : Type 0
PlainWritesReplays = (domain seed : List ℕ) (items : List Item) (bytes : List ℕ) (old new : Option (List ℕ)) → IsLawfulJournal first_books domain items → AllByRecursion IsReadable items → WritesReplay domain seed items bytes old new

-- The same of the items of a program: their batches satisfy the invariants of their types. So all that is left to check is that
-- the journal is lawful and that each text fits into a line.
abbrev pub ItemsAreReplayed : List Item → Type 0
ItemsAreReplayed items = (domain seed bytes : List ℕ) (old new : Option (List ℕ)) → IsLawfulJournal first_books domain items → AllByRecursion IsShort items → WritesReplay domain seed items bytes old new
