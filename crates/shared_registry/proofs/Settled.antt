-- The outcome of a batch of changes with nothing to commit, in terms of the journal.
use Rattle.std.proofs.Common.{◌≡◌, ℕ, ◌+◌, Bool, true, false, cond, List, [], ◌∷◌, ◌++◌, length, Option, Some, None, Ok, Err, refl, sym, ap, subst, ◌∙◌, inl, inr, ⊎_elim, arith}
use Rattle.std.specs.Prelude.{nat_lt, slice_get, IsSome}
use Rattle.entry_book.specs.declared.kept.KeptBatch.{KeptBatch}
use Rattle.entry_book.specs.declared.limit.Limit.{Limit}
use Rattle.entry_book.specs.declared.reply.OpReply.{OpReply}
use Rattle.entry_book.specs.declared.reply.ReplyOutcome.{ReplyOutcome}
use Rattle.entry_book.specs.declared.reply.ReplyOutcome.TheVariants.{Answered, Committed, Refused, Repeated}
use Rattle.entry_book.specs.declared.reply.Refusal.{Refusal}
use Rattle.entry_book.specs.declared.reply.Refusal.TheVariants.{NotYet, TokenReused}
use Rattle.entry_book.specs.declared.reply.Reply.{Reply}
use Rattle.entry_book.specs.Rows.{Bytes}
use Rattle.entry_book.specs.Order.{Within}
use Rattle.entry_book.specs.Book.{Book}
use Rattle.entry_book.specs.SameOps.{ops_eq}
use Rattle.entry_book.specs.Runs.{RunResult, run}
use Rattle.entry_book.specs.Batches.{Batch, is_query, past_place}
use Rattle.entry_book.specs.History.{LeadToBooks as Led, Verdict, adds, adds_within, answers, book_for, books_after, books_from, first_books, is_committed, is_repeated, kept_under, last_book, place_of, refuses, repeats, reply_to, reply_with, verdict, verdict_again, verdict_on, verdict_over, verdict_when, replies_from}
use Rattle.entry_book.specs.Laws.{WasCommitted}
use Rattle.entry_book.specs.Tokens.{token_key}
use Rattle.entry_book.proofs.Keys.{at_row}
use Rattle.entry_book.proofs.KeptBatches.{kept_committed}
use Rattle.entry_book.proofs.OfVerdict.{of_verdict}
use Rattle.entry_book.proofs.PastPages.{changes_newest}
use Rattle.entry_book.proofs.SameOps.{same_ops}
use Rattle.batch_work.specs.declared.status.Status.TheVariants.{Ready, Running, Settled}
use Rattle.batch_work.specs.Reads.{awaits_commit}
use Rattle.batch_work.specs.Working.{IsAnswer, IsReplyOn, Work, awaits_there, base_in, end_status, footprint_there, reply_there, status_from, status_of}
use Rattle.batch_work.proofs.Batches.{others_dont_commit}
use Rattle.batch_work.proofs.Windows.{window_represents}
use Rattle.commit_head.specs.declared.item.Item.{Item}
use Rattle.commit_head.specs.Journals.{IsLawfulJournal, batches_of, committed_after, place_after}
use Rattle.shared_registry.specs.Outcomes.{IsRefusedThere, IsSubmitted, RepeatsAreSeen, RepeatsBatch, RepeatsItem, RepeatsRow}
use Rattle.shared_registry.specs.OutcomesPrivate.{IsNotConflict, outcome_by, outcome_with}
use Rattle.shared_registry.specs.Seated.{Seated}
use Rattle.shared_registry.specs.Works.{IsRead}
use Rattle.commit_head.proofs.OnBooks.{count_of_batches, led_to}

-- ---- a work with nothing to commit is settled

settled_or : (running awaits : Bool) → (cond running Running (end_status awaits) ≡ Running → ⊥) → (cond running Running (end_status awaits) ≡ Ready → ⊥) → (awaits ≡ false) × (cond running Running (end_status awaits) ≡ Settled)
settled_or true awaits over unready = absurd (over refl)
settled_or false true over unready = absurd (unready refl)
settled_or false false over unready = (refl, refl)

status_is : (first : List Book) (domain : Bytes) (seen : List Item) (batch : Batch) (w : Work) (r : IsRead first domain seen batch w) → status_of w ≡ status_from (Some (base_in batch r.snapshot.window)) batch w.steps
status_is first domain seen batch w r = ap (λ o. status_from o w.batch w.steps) r.at_end.begun.base_is ∙ ap (λ b. status_from (Some (base_in batch r.snapshot.window)) b w.steps) r.at_end.begun.batch_is

at_end : (first : List Book) (domain : Bytes) (seen : List Item) (batch : Batch) (w : Work) (r : IsRead first domain seen batch w) → (status_of w ≡ Ready → ⊥) → (awaits_there batch (base_in batch r.snapshot.window) ≡ false) × (status_of w ≡ Settled)
at_end first domain seen batch w r unready =
    let base = base_in batch r.snapshot.window in
    let e = status_is first domain seen batch w r in
    let s = settled_or (nat_lt w.steps (length (footprint_there batch base))) (awaits_there batch base) (λ k. r.at_end.over (e ∙ k)) (λ k. unready (e ∙ k)) in
    (s.0, e ∙ s.1)

pub settled_is : (first : List Book) (domain : Bytes) (seen : List Item) (batch : Batch) (w : Work) → IsRead first domain seen batch w → (status_of w ≡ Ready → ⊥) → status_of w ≡ Settled
settled_is first domain seen batch w r unready = (at_end first domain seen batch w r unready).1

pub reply_is : (first : List Book) (domain : Bytes) (seen : List Item) (batch : Batch) (w : Work) (reply : Reply) → IsRead first domain seen batch w → IsAnswer w reply → reply ≡ reply_to batch (books_from first (batches_of seen))
reply_is first domain seen batch w reply r a =
    let base = base_in batch r.snapshot.window in
    let there : reply ≡ reply_there w.batch base = subst (λ o. IsReplyOn o w.batch reply) r.at_end.begun.base_is a in
    there ∙ (ap (λ b. reply_there b base) r.at_end.begun.batch_is ∙ (window_represents batch r.snapshot.window (books_from first (batches_of seen)) r.shows.journal.shown).reply)

uncommitted : (first : List Book) (domain : Bytes) (seen : List Item) (batch : Batch) (w : Work) → IsRead first domain seen batch w → (status_of w ≡ Ready → ⊥) → is_committed (reply_to batch (books_from first (batches_of seen))).outcome ≡ false
uncommitted first domain seen batch w r unready =
    let books = books_from first (batches_of seen) in
    let waits : awaits_commit batch books ≡ false = sym (window_represents batch r.snapshot.window books r.shows.journal.shown).wait ∙ (at_end first domain seen batch w r unready).0 in
    (others_dont_commit batch books waits).0

-- ---- a batch of changes never gets the reply of a query

within_not : (place : ℕ) (replies : List OpReply) (c : Book) (o : Option Limit) (rs : List OpReply) → (reply_with place (adds_within o replies c)).outcome ≡ Answered rs → ⊥
within_not place replies c (Some limit) rs e = cc
within_not place replies c None rs e = cc

when_not : (batch : Batch) (place : ℕ) (b : Book) (r : RunResult) (rs : List OpReply) → (reply_with place (verdict_when false batch place b r)).outcome ≡ Answered rs → ⊥
when_not batch place b (Err s) rs e = cc
when_not batch place b (Ok t) rs e = within_not place t.replies _ _ rs e

pub not_answered : (batch : Batch) (books : List Book) (rs : List OpReply) → is_query batch.ops ≡ false → (reply_to batch books).outcome ≡ Answered rs → ⊥
not_answered batch books rs q =
    of_verdict (λ v. (reply_with (place_of books) v).outcome ≡ Answered rs → ⊥) batch (place_of books) (λ r e. cc) (λ n replies e. cc) (book_for (past_place batch.ops) books)
    (λ b e k. subst (λ t. (reply_with (place_of books) (verdict_when t batch (place_of books) b (run batch.domain batch.ops b))).outcome ≡ Answered rs → ⊥) (sym q) (when_not batch (place_of books) b (run batch.domain batch.ops b) rs))

-- ---- a refusal is at the place of the books

refused_place : (place : ℕ) (v : Verdict) (why : Refusal) → (reply_with place v).outcome ≡ Refused why → reply_with place v ≡ record { place = place; outcome = Refused why }
refused_place place (refuses r) why e = ap (λ (o : ReplyOutcome). record { place = place; outcome = o }) e
refused_place place (answers replies) why e = cc
refused_place place (adds replies b) why e = cc
refused_place place (repeats n replies) why e = cc

refused_of : (o : ReplyOutcome) → is_committed o ≡ false → ((rs : List OpReply) → o ≡ Answered rs → ⊥) → is_repeated o ≡ false → (why : Refusal) × (o ≡ Refused why)
refused_of (Committed rs) c a r = cc
refused_of (Answered rs) c a r = absurd (a rs refl)
refused_of (Repeated rs) c a r = cc
refused_of (Refused why) c a r = (why, refl)

pub refused_is : (first : List Book) (domain : Bytes) (t : Seated) (batch : Batch) (w : Work) (reply : Reply) → IsRead first domain t.seen batch w → (status_of w ≡ Ready → ⊥) → is_query batch.ops ≡ false → IsAnswer w reply → is_repeated reply.outcome ≡ false → IsRefusedThere first t batch reply
refused_is first domain t batch w reply r unready q a n =
    let books = books_from first (batches_of t.seen) in
    let e = reply_is first domain t.seen batch w reply r a in
    let o = ap (λ (x : Reply). x.outcome) e in
    let found = refused_of (reply_to batch books).outcome (uncommitted first domain t.seen batch w r unready) (λ rs. not_answered batch books rs q) (sym (ap is_repeated o) ∙ n) in
    let led = led_to first r.snapshot.window.newest.domain t.seen r.snapshot.window.newest r.shows.is_first.some r.shows.journal.leads in
    let place : place_of books ≡ place_after first t.seen = led.last.place ∙ led.number in
    record {
      reply_is = e;
      why = found.0;
      refused = e ∙ (refused_place (place_of books) (verdict batch (place_of books) (book_for (past_place batch.ops) books)) found.0 found.1 ∙ ap (λ m. record { place = m; outcome = Refused found.0 }) place);
    }

-- ---- a repeat is of an item that was seen

-- the batch stored under the token has the same operations, this place and these replies
record IsKept (batch : Batch) (b : Book) (n : ℕ) (replies : List OpReply) : Type 0 where
  kept : KeptBatch
  there : kept_under batch.token b ≡ Some kept
  same : ops_eq kept.ops batch.ops ≡ true
  place : kept.place ≡ n
  replies_are : kept.replies ≡ replies

no_run : (query : Bool) (batch : Batch) (place : ℕ) (b : Book) (r : RunResult) (n : ℕ) (rs : List OpReply) → (reply_with place (verdict_when query batch place b r)).outcome ≡ Repeated rs → ⊥
no_run query batch place b (Err s) n rs e = cc
no_run true batch place b (Ok t) n rs e = cc
no_run false batch place b (Ok t) n rs e = no_limit t.replies _ _ e
  where
    no_limit : (replies : List OpReply) (c : Book) (o : Option Limit) → (reply_with place (adds_within o replies c)).outcome ≡ Repeated rs → ⊥
    no_limit replies c (Some limit) e = cc
    no_limit replies c None e = cc

not_repeated : (r : Refusal) (rs : List OpReply) → Refused r ≡ Repeated rs → ⊥
not_repeated r rs e = cc

one_again : (xs ys : List OpReply) → Repeated xs ≡ Repeated ys → xs ≡ ys
one_again xs ys e = cc

kept_again : (same : Bool) (batch : Batch) (b : Book) (k : KeptBatch) (place n : ℕ) (rs : List OpReply) → kept_under batch.token b ≡ Some k → ops_eq k.ops batch.ops ≡ same → reply_with place (verdict_again same k) ≡ record { place = n; outcome = Repeated rs } → IsKept batch b n rs
kept_again true batch b k place n rs u s e = record { kept = k; there = u; same = s; place = ap (λ (x : Reply). x.place) e; replies_are = one_again k.replies rs (ap (λ (x : Reply). x.outcome) e) }
kept_again false batch b k place n rs u s e = absurd (not_repeated TokenReused rs (ap (λ (x : Reply). x.outcome) e))

kept_over : (o : Option KeptBatch) (batch : Batch) (place : ℕ) (b : Book) (n : ℕ) (rs : List OpReply) → kept_under batch.token b ≡ o → reply_with place (verdict_over o batch place b) ≡ record { place = n; outcome = Repeated rs } → IsKept batch b n rs
kept_over (Some k) batch place b n rs u e = kept_again (ops_eq k.ops batch.ops) batch b k place n rs u refl e
kept_over None batch place b n rs u e = absurd (no_run (is_query batch.ops) batch place b (run batch.domain batch.ops b) n rs (ap (λ (x : Reply). x.outcome) e))

kept_time : (early : Bool) (batch : Batch) (place : ℕ) (b : Book) (n : ℕ) (rs : List OpReply) → reply_with place (cond early (refuses NotYet) (verdict_on batch place (Some b))) ≡ record { place = n; outcome = Repeated rs } → IsKept batch b n rs
kept_time true batch place b n rs e = absurd (not_repeated NotYet rs (ap (λ (x : Reply). x.outcome) e))
kept_time false batch place b n rs e = kept_over (kept_under batch.token b) batch place b n rs refl e

-- a row that is stored under a token has it
kept_row : (token : Option Bytes) (b : Book) (k : KeptBatch) → kept_under token b ≡ Some k → Within b.tokens k × (token ≡ Some k.token)
kept_row None b k e = cc
kept_row (Some t) b k e = let row = at_row token_key t b.tokens k e in (row.0, ap Some (sym row.1))

-- ---- items and batches

record IsSplit (items : List Item) (before : List Batch) (batch : Batch) : Type 0 where
  front : List Item
  item : Item
  later : List Item
  split : items ≡ front ++ item ∷ later
  before_is : batches_of front ≡ before
  batch_is : item.batch ≡ batch

split_items : (items : List Item) (before : List Batch) (batch : Batch) (later : List Batch) → batches_of items ≡ before ++ batch ∷ later → IsSplit items before batch
split_items [] [] batch later e = cc
split_items [] (c ∷ before) batch later e = cc
split_items (i ∷ items) [] batch later e = record { front = []; item = i; later = items; split = refl; before_is = refl; batch_is = cc }
split_items (i ∷ items) (c ∷ before) batch later e =
    let rest : batches_of items ≡ before ++ batch ∷ later = cc in
    let s = split_items items before batch later rest in
    let head : i.batch ≡ c = cc in
    record {
      front = i ∷ s.front;
      item = s.item;
      later = s.later;
      split = ap (λ l. i ∷ l) s.split;
      before_is = ap (λ l. i.batch ∷ l) s.before_is ∙ ap (λ x. x ∷ before) head;
      batch_is = s.batch_is;
    }

reply_at : (books : List Book) (front : List Item) (item : Item) (later : List Item) → slice_get (replies_from books (batches_of (front ++ item ∷ later))) (length front) ≡ Some (reply_to item.batch (books_from books (batches_of front)))
reply_at books [] item later = refl
reply_at books (i ∷ front) item later = reply_at (books_after i.batch books) front item later

committed_at : (n : ℕ) (front : List Item) (item : Item) (later : List Item) → slice_get (committed_after n (front ++ item ∷ later)) (length front) ≡ Some (record { place = n + length front + 1; outcome = Committed item.replies })
committed_at n [] item later = let e : n + 0 + 1 ≡ n + 1 = omega arith in ap (λ m. Some (record { place = m; outcome = Committed item.replies })) (sym e)
committed_at n (i ∷ front) item later = let e : n + 1 + length front + 1 ≡ n + length (i ∷ front) + 1 = omega arith in committed_at (n + 1) front item later ∙ ap (λ m. Some (record { place = m; outcome = Committed item.replies })) e

-- the plain book's reply to an item of a lawful journal has the item's replies
replied : (first : List Book) (domain : Bytes) (items front later : List Item) (item : Item) → IsLawfulJournal first domain items → items ≡ front ++ item ∷ later → reply_to item.batch (books_from first (batches_of front)) ≡ record { place = place_after first front + 1; outcome = Committed item.replies }
replied first domain items front later item l e =
    let n = place_of first in
    let all : replies_from first (batches_of (front ++ item ∷ later)) ≡ committed_after n (front ++ item ∷ later) = subst (λ x. replies_from first (batches_of x) ≡ committed_after n x) e l.replies in
    let both = sym (reply_at first front item later) ∙ (ap (λ rs. slice_get rs (length front)) all ∙ committed_at n front item later) in
    let place : n + length front + 1 ≡ place_after first front + 1 = omega arith in
    some_is _ _ both ∙ ap (λ m. record { place = m; outcome = Committed item.replies }) place
  where
    some_is : (x y : Reply) → Some x ≡ Some y → x ≡ y
    some_is x y e = cc

same_replies : (r : Reply) (m n : ℕ) (xs ys : List OpReply) → r ≡ record { place = m; outcome = Committed xs } → r ≡ record { place = n; outcome = Committed ys } → xs ≡ ys
same_replies r m n xs ys e f = one_list xs ys (sym (ap (λ (x : Reply). x.outcome) e) ∙ ap (λ (x : Reply). x.outcome) f)
  where
    one_list : (xs ys : List OpReply) → Committed xs ≡ Committed ys → xs ≡ ys
    one_list xs ys e = cc

is_some : (o : Option Bytes) (x : Bytes) → o ≡ Some x → IsSome o
is_some None x e = cc
is_some (Some y) x e = refl

-- a reply that repeats has the replies that it repeats
repeats_of : (o : ReplyOutcome) → is_repeated o ≡ true → (rs : List OpReply) × (o ≡ Repeated rs)
repeats_of (Committed rs) e = cc
repeats_of (Answered rs) e = cc
repeats_of (Repeated rs) e = (rs, refl)
repeats_of (Refused why) e = cc

-- the batch is stored by the first books
repeats_row : (first : List Book) (t : Seated) (batch : Batch) (reply : Reply) (rs : List OpReply) (k : IsKept batch (last_book (books_from first (batches_of t.seen))) reply.place rs) → reply ≡ reply_to batch (books_from first (batches_of t.seen)) → reply.outcome ≡ Repeated rs → batch.token ≡ Some k.kept.token → Within (last_book first).tokens k.kept → RepeatsRow first t batch reply
repeats_row first t batch reply rs k e o token stored = record {
  reply_is = e;
  row = k.kept;
  stored = stored;
  repeats = λ i. record { place = sym k.place i; outcome = (o ∙ ap Repeated (sym k.replies_are)) i };
  token = token;
  ops = (same_ops k.kept.ops batch.ops).0 k.same;
}

-- the batch is one of the journal
repeats_item : (first : List Book) (domain : Bytes) (t : Seated) (batch : Batch) (reply : Reply) (rs : List OpReply) (k : IsKept batch (last_book (books_from first (batches_of t.seen))) reply.place rs) → IsLawfulJournal first domain t.seen → reply ≡ reply_to batch (books_from first (batches_of t.seen)) → reply.outcome ≡ Repeated rs → batch.token ≡ Some k.kept.token → WasCommitted first (batches_of t.seen) k.kept → RepeatsItem first t batch reply
repeats_item first domain t batch reply rs k l e o token was =
    let s = split_items t.seen was.before was.batch was.later was.split in
    let long : length s.front ≡ length was.before = sym (count_of_batches s.front) ∙ ap length s.before_is in
    let here : reply_to s.item.batch (books_from first (batches_of s.front)) ≡ record { place = place_after first s.front + 1; outcome = Committed s.item.replies } = replied first domain t.seen s.front s.later s.item l s.split in
    let there : reply_to s.item.batch (books_from first (batches_of s.front)) ≡ record { place = k.kept.place; outcome = Committed k.kept.replies } = (λ i. reply_to (s.batch_is i) (books_from first (s.before_is i))) ∙ was.replied in
    let place : reply.place ≡ place_after first s.front + 1 = (let p = ap (λ (r : Reply). r.place) (sym here ∙ there) in let q = k.place in omega arith) in
    let same : rs ≡ s.item.replies = sym (same_replies _ _ _ _ _ here there ∙ k.replies_are) in
    record {
      reply_is = e;
      before = s.front;
      item = s.item;
      later = s.later;
      split = s.split;
      repeats = λ i. record { place = place i; outcome = (o ∙ ap Repeated same) i };
      with_token = is_some batch.token k.kept.token token;
      token = ap (λ b. b.token) s.batch_is ∙ (was.token ∙ sym token);
      ops = ap (λ b. b.ops) s.batch_is ∙ (was.ops ∙ (same_ops k.kept.ops batch.ops).0 k.same);
    }

repeated_by : (first : List Book) (domain : Bytes) (t : Seated) (batch : Batch) (w : Work) (reply : Reply) (rs : List OpReply) → IsRead first domain t.seen batch w → IsLawfulJournal first domain t.seen → is_query batch.ops ≡ false → IsAnswer w reply → reply.outcome ≡ Repeated rs → RepeatsBatch first t batch reply
repeated_by first domain t batch w reply rs r l q a o =
    let batches = batches_of t.seen in
    let books = books_from first batches in
    let e = reply_is first domain t.seen batch w reply r a in
    let whole : reply_to batch books ≡ record { place = reply.place; outcome = Repeated rs } = sym e ∙ ap (λ x. record { place = reply.place; outcome = x }) o in
    let newest : past_place batch.ops ≡ None = changes_newest domain batch r.made q in
    let there : reply_with (place_of books) (verdict batch (place_of books) (Some (last_book books))) ≡ record { place = reply.place; outcome = Repeated rs } = ap (λ p. reply_with (place_of books) (verdict batch (place_of books) (book_for p books))) (sym newest) ∙ whole in
    let k = kept_time (nat_lt (place_of books) batch.after) batch (place_of books) (last_book books) reply.place rs there in
    let row = kept_row batch.token (last_book books) k.kept k.there in
    let led : Led first domain batches books = record { is_first = l.is_first; made = l.made; committed = l.committed; books_are = refl } in
    ⊎_elim
    (λ (stored : Within (last_book first).tokens k.kept). inr (repeats_row first t batch reply rs k e o row.1 stored))
    (λ (was : WasCommitted first batches k.kept). inl (repeats_item first domain t batch reply rs k l e o row.1 was))
    (kept_committed first domain batches books k.kept led row.0)

pub repeated_is : (first : List Book) (domain : Bytes) (t : Seated) (batch : Batch) (w : Work) (reply : Reply) → IsRead first domain t.seen batch w → IsLawfulJournal first domain t.seen → is_query batch.ops ≡ false → IsAnswer w reply → is_repeated reply.outcome ≡ true → RepeatsBatch first t batch reply
repeated_is first domain t batch w reply r l q a o = let rs = repeats_of reply.outcome o in repeated_by first domain t batch w reply rs.0 r l q a rs.1

-- the empty book stores no batch
pub repeats_are_seen : RepeatsAreSeen
repeats_are_seen t batch reply r = ⊎_elim (λ (i : RepeatsItem first_books t batch reply). i) (λ (row : RepeatsRow first_books t batch reply). absurd row.stored) r

-- ---- the outcome with this reply

settled_by : (first : List Book) (t : Seated) (batch : Batch) (reply : Reply) (o : ReplyOutcome) → is_committed o ≡ false → (is_repeated o ≡ true → RepeatsBatch first t batch reply) → (is_repeated o ≡ false → IsRefusedThere first t batch reply) → IsSubmitted first t t batch 0 (outcome_by o reply)
settled_by first t batch reply (Committed rs) c repeated refused = cc
settled_by first t batch reply (Repeated rs) c repeated refused = (repeated refl, refl)
settled_by first t batch reply (Refused why) c repeated refused = (refused refl, refl)
settled_by first t batch reply (Answered rs) c repeated refused = (refused refl, refl)

pub settled_submitted : (first : List Book) (domain : Bytes) (t : Seated) (batch : Batch) (w : Work) (reply : Reply) → IsRead first domain t.seen batch w → (status_of w ≡ Ready → ⊥) → IsLawfulJournal first domain t.seen → is_query batch.ops ≡ false → IsAnswer w reply → IsSubmitted first t t batch 0 (outcome_with reply)
settled_submitted first domain t batch w reply r unready l q a =
    let uncommitted = ap (λ (x : Reply). is_committed x.outcome) (reply_is first domain t.seen batch w reply r a) ∙ uncommitted first domain t.seen batch w r unready in
    settled_by first t batch reply reply.outcome uncommitted (repeated_is first domain t batch w reply r l q a) (refused_is first domain t batch w reply r unready q a)

pub settled_no_conflict : (o : ReplyOutcome) (reply : Reply) → IsNotConflict (outcome_by o reply)
settled_no_conflict (Committed rs) reply n e = cc
settled_no_conflict (Repeated rs) reply n e = cc
settled_no_conflict (Refused why) reply n e = cc
settled_no_conflict (Answered rs) reply n e = cc
