-- What the outcome of a commit means for the list of all books of the head's journal.
use Rattle.std.proofs.Common.{◌≡◌, ℕ, ◌+◌, ◌-◌, ◌<◌, List, ◌∷◌, ◌++◌, length, length-append, take, drop, Some, None, sym, ap, subst, ◌∙◌, arith}
use Rattle.std.specs.List.{AllByRecursion}
use Rattle.std.proofs.lemmas.List.{append_assoc, length-map, map-append, take-append-drop, take-map}
use Rattle.entry_book.specs.declared.limit.Limit.{Limit}
use Rattle.entry_book.specs.declared.reply.ReplyOutcome.TheVariants.{Committed as WasCommitted, Refused as WasRefused}
use Rattle.entry_book.specs.declared.reply.Refusal.TheVariants.{Full as TooMuch}
use Rattle.entry_book.specs.Order.{Within}
use Rattle.entry_book.specs.Rows.{Bytes}
use Rattle.entry_book.specs.Batches.{Batch, IsMadeFor, past_place}
use Rattle.entry_book.specs.Book.{Book}
use Rattle.entry_book.specs.History.{CommitAll, books_after, books_from, books_of, last_book, place_of as place_in, refuses, reply_to, reply_with, verdict}
use Rattle.entry_book.proofs.Histories.{count_of_books}
use Rattle.entry_book.proofs.PastPages.{changes_newest}
use Rattle.entry_book.proofs.Sets.{from_any}
use Rattle.version_book.specs.CommittedRows.{book_of}
use Rattle.version_book.specs.History.{SomeHit, any_hits, writes_of}
use Rattle.version_book.specs.Marks.{Agree}
use Rattle.version_book.proofs.Batches.{books_join, commits_join}
use Rattle.version_book.proofs.Histories.{books_follow, verdict_last}
use Rattle.version_book.proofs.Writers.{hits_in_books}
use Rattle.batch_work.specs.declared.status.Status.TheVariants.{Ready}
use Rattle.batch_work.specs.Reads.{case_on}
use Rattle.batch_work.specs.Windows.{book_in}
use Rattle.batch_work.specs.Working.{Base, Work, footprint_there, status_of}
use Rattle.batch_work.proofs.Cases.{waits}
use Rattle.batch_work.proofs.Ready.{ready_has_read}
use Rattle.commit_head.specs.declared.commit.Commit.TheVariants.{Conflict, Full, Committed, NoMemory}
use Rattle.commit_head.specs.declared.item.Item.{Item}
use Rattle.commit_head.specs.Heads.{Head, IsCommitted, IsDueOnVersions, IsJournal, ReadsAreUnchanged, newest_of, head_place}
use Rattle.commit_head.specs.Journals.{Leads, batches_of, empty_version, first_version}
use Rattle.commit_head.specs.Laws.{BatchesJoin, CountOfBatches, LeadsOnBooks}
use Rattle.commit_head.specs.Outcomes.{CommitOnBooks, CommitsOnBooks, HitSinceEmpty, IsHitSince, IsReadyOn, IsUnchangedSince, ReadyOnEmpty, UnchangedSinceEmpty}
use Rattle.commit_head.proofs.Begun.{began_inside, journal_kept}
use Rattle.commit_head.proofs.Journals.{first_last, items_follow, joins_on_books, journal_extends, journal_last}

-- ---- items and batches

pub count_of_batches : CountOfBatches
count_of_batches items = length-map items (λ item. item.batch)

pub batches_join : BatchesJoin
batches_join items more = map-append (λ item. item.batch) items more

pub led_to : LeadsOnBooks
led_to first own_domain items s some l =
    let start = first_version own_domain first in
    let f = items_follow items start s l in
    let begins = first_last own_domain first in
    let b = books_follow (batches_of items) start s first some begins.book begins.place f.follows in
    record {
      commit = b.0;
      last = record { book = b.1; place = b.2 };
      number = let c = f.count in omega arith;
    }

-- ---- the outcomes

-- if the newest version passes a limit, the specification refuses the batch for it on the list of all books
pub full_on_books : (first : List Book) (items : List Item) (h : Head) (batch : Batch) (limit : Limit) (n : ℕ) → IsJournal first items h → past_place batch.ops ≡ None → n ≡ head_place h → verdict batch (head_place h) (Some (book_of (newest_of h).rows)) ≡ refuses (TooMuch limit) → reply_to batch (books_from first (batches_of items)) ≡ record { place = n; outcome = WasRefused (TooMuch limit) }
full_on_books first items h batch limit n k newest e v =
    let books = books_from first (batches_of items) in
    let last = journal_last first items h k in
    ap (reply_with (place_in books)) (verdict_last batch (newest_of h) books last.book last.place newest ∙ v)
    ∙ ap (λ m. record { place = m; outcome = WasRefused (TooMuch limit) }) (last.place ∙ sym e)

-- if each list of items that leads to the newest version has a batch that hits, the journal has one
pub due_on_books : (first : List Book) (items : List Item) (h : Head) (batch : Batch) (base : Base) → 0 < length first → IsJournal first items h → Leads (first_version h.window.newest.domain first) (take (base.newest.number - place_in first) items) base.newest → IsDueOnVersions (Some base) batch (newest_of h) h.kept → IsHitSince first (batches_of items) base.newest.number (footprint_there batch base)
due_on_books first items h batch base some_first k leads due =
    let own_domain = h.window.newest.domain in
    let n = base.newest.number - place_in first in
    let before = take n items in
    let since = drop n items in
    let parts : before ++ since ≡ items = take-append-drop n items in
    let inside = began_inside first before since base h (subst (λ l. IsJournal first l h) (sym parts) k) leads in
    let marks = footprint_there batch base in
    let found = from_any (λ m. any_hits m base.newest (batches_of since)) marks (due since inside.leads inside.agrees) in
    let led = led_to first own_domain before base.newest some_first leads in
    let books = books_from first (batches_of before) in
    let count = count_of_books first (batches_of before) some_first led.commit in
    let follows = (items_follow since base.newest (newest_of h) inside.leads).follows in
    let some : SomeHit found.0 books (batches_of since) = (hits_in_books found.0 (batches_of since) base.newest (newest_of h) books (omega arith) led.last follows).0 found.2 in
    let journal : batches_of items ≡ batches_of before ++ batches_of since = ap batches_of (sym parts) ∙ batches_join before since in
    let split : batches_of items ≡ (batches_of before ++ some.before) ++ some.batch ∷ some.later = journal ∙ (ap (λ l. batches_of before ++ l) some.split ∙ sym (append_assoc (batches_of before) some.before (some.batch ∷ some.later))) in
    let all : CommitAll first ((batches_of before ++ some.before) ++ some.batch ∷ some.later) = subst (CommitAll first) split (led_to first own_domain items (newest_of h) some_first k.leads).commit in
    let front = ((commits_join (batches_of before ++ some.before) (some.batch ∷ some.later) first).0 all).0 in
    let there : books_from books some.before ≡ books_from first (batches_of before ++ some.before) = sym (books_join (batches_of before) some.before first) in
    let place : place_in (books_from books some.before) + 1 ≡ length (batches_of before ++ some.before) + length first = (let c = count_of_books first (batches_of before ++ some.before) some_first front in let l = ap length there in omega arith) in
    let long : length (batches_of before) + place_in first ≡ base.newest.number = ap (λ m. m + place_in first) (count_of_batches before) ∙ sym led.number in
    record {
      before = batches_of before ++ some.before;
      other = some.batch;
      later = some.later;
      split = split;
      since = let l = length-append (batches_of before) some.before in omega arith;
      mark = found.0;
      read = found.1;
      write = some.write;
      is_made = subst (λ l. Within l some.write) (λ i. writes_of some.batch (place i) (last_book (there i))) some.is_made;
      hit = some.hit;
    }

-- a batch that awaits its commit doesn't read an earlier book
asks_newest : (own_domain : Bytes) (w : Work) → IsMadeFor own_domain w.batch → status_of w ≡ Ready → past_place w.batch.ops ≡ None
asks_newest own_domain w made ready =
    let read = ready_has_read own_domain w made ready in
    changes_newest own_domain w.batch made (waits w.batch (case_on w.batch (book_in read.base.newest)) read.awaits).2

-- what is unchanged between the version on which a work began and the newest one is unchanged on the journal's books
unchanged_on_books : (first : List Book) (items : List Item) (h : Head) (batch : Batch) (base : Base) → 0 < length first → IsJournal first items h → Leads (first_version h.window.newest.domain first) (take (base.newest.number - place_in first) items) base.newest → ReadsAreUnchanged (Some base) batch (book_of (newest_of h).rows) → IsUnchangedSince first (batches_of items) base.newest.number (footprint_there batch base)
unchanged_on_books first items h batch base some_first k leads same =
    let n = base.newest.number - place_in first in
    let began : last_book (books_from first (take n (batches_of items))) ≡ book_of base.newest.rows = ap (λ l. last_book (books_from first l)) (take-map (λ (item : Item). item.batch) n items) ∙ (led_to first h.window.newest.domain (take n items) base.newest some_first leads).last.book in
    let now : last_book (books_from first (batches_of items)) ≡ book_of (newest_of h).rows = (journal_last first items h k).book in
    subst (λ b. AllByRecursion (Agree b (last_book (books_from first (batches_of items)))) (footprint_there batch base)) (sym began)
    (subst (λ b. AllByRecursion (Agree (book_of base.newest.rows) b) (footprint_there batch base)) (sym now) same)

committed_on_books : (first : List Book) (items : List Item) (old new : Head) (seat call : ℕ) (w : Work) (base : Base) (n : ℕ) → 0 < length first → IsJournal first items old → IsReadyOn first old.window.newest.domain items w base → IsCommitted old seat call w n new → CommitsOnBooks first items seat call w base n new
committed_on_books first items old new seat call w base n some_first k r c =
    let on = joins_on_books first items c.item old k c.joins in
    let batch : c.item.batch ≡ w.batch = c.of_work.batch_is in
    let number = (led_to first old.window.newest.domain items (newest_of old) some_first k.leads).number in
    record {
      item = c.item;
      of_work = c.of_work;
      number = let m = c.number in omega arith;
      validated = unchanged_on_books first items old w.batch base some_first k r.leads (subst (λ o. ReadsAreUnchanged o w.batch (book_of (newest_of old).rows)) r.base_is c.validated);
      reply = ap (λ b. reply_to b (books_from first (batches_of items))) (sym batch) ∙ (on.reply ∙ ap (λ m. record { place = m; outcome = WasCommitted c.item.replies }) (sym c.number));
      books = ap (λ b. books_after b (books_from first (batches_of items))) (sym batch) ∙ on.books;
      journal = journal_extends first items c.item old new k c.joins c.appended;
    }

pub commit_on_books : CommitOnBooks
commit_on_books first items old seat call w base (Committed n) new begins k r c = committed_on_books first items old new seat call w base n begins.some k r c
commit_on_books first items old seat call w base (Full limit n) new begins k r c =
    let some_first = begins.some in
    let number = (led_to first old.window.newest.domain items (newest_of old) some_first k.leads).number in (
      c.1.0 ∙ number,
      full_on_books first items old w.batch limit n k (asks_newest old.window.newest.domain w r.made r.ready) c.1.0 c.1.1,
      journal_kept first items old new k c.0,
    )
commit_on_books first items old seat call w base (Conflict n) new begins k r c =
    let some_first = begins.some in
    let number = (led_to first old.window.newest.domain items (newest_of old) some_first k.leads).number in (
      c.1.0 ∙ number,
      due_on_books first items old w.batch base some_first k r.leads (subst (λ o. IsDueOnVersions o w.batch (newest_of old) old.kept) r.base_is c.1.1),
      journal_kept first items old new k c.0,
    )
commit_on_books first items old seat call w base NoMemory new begins k r c = journal_kept first items old new k c

-- ---- a history that begins with the empty book

pub unchanged_since_empty : UnchangedSinceEmpty
unchanged_since_empty journal base marks =
    let n : base - 0 ≡ base = omega arith in
    let P : ℕ → Type 0 = λ k. AllByRecursion (Agree (last_book (books_of (take k journal))) (last_book (books_of journal))) marks in
    (λ u. subst P n u, λ u. subst P (sym n) u)

pub hit_since_empty : HitSinceEmpty
hit_since_empty journal base marks = (
  λ h. record {
    before = h.before;
    other = h.other;
    later = h.later;
    split = h.split;
    since = let since = h.since in omega arith;
    mark = h.mark;
    read = h.read;
    write = h.write;
    is_made = h.is_made;
    hit = h.hit;
  },
  λ h. record {
    before = h.before;
    other = h.other;
    later = h.later;
    split = h.split;
    since = let since = h.since in omega arith;
    mark = h.mark;
    read = h.read;
    write = h.write;
    is_made = h.is_made;
    hit = h.hit;
  },
)

pub ready_on_empty : ReadyOnEmpty
ready_on_empty own_domain items w base r =
    let n : base.newest.number - 0 ≡ base.newest.number = omega arith in
    subst (λ k. Leads (empty_version own_domain) (take k items) base.newest) n r.leads
