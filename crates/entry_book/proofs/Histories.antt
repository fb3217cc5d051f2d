-- How the list of all books grows, and that each of them is lawful.
use Rattle.std.proofs.Common.{◌≡◌, ℕ, zero, suc, ◌+◌, ◌-◌, ◌*◌, ◌<◌, ◌≤◌, Bool, true, false, List, [], ◌∷◌, ◌++◌, length, Option, Some, None, Ok, Err, refl, sym, ap, subst, ◌∙◌, ⊎_elim, IfOk, arith, length-append}
use Rattle.std.specs.Prelude.{slice_get, ◌↔◌, ◌^◌, replicate}
use Rattle.std.proofs.lemmas.List.{length-replicate}
use Rattle.std.specs.List.{AllByRecursion}
use Rattle.std.proofs.lemmas.Bool.{cases_Bool}
use Rattle.entry_book.specs.declared.limit.Limit.{Limit}
use Rattle.entry_book.specs.declared.reply.OpReply.{OpReply}
use Rattle.entry_book.specs.Rows.{Bytes}
use Rattle.entry_book.specs.Book.{Book, empty_book}
use Rattle.entry_book.specs.Writes.{after}
use Rattle.entry_book.specs.Runs.{RunEffect, RunResult, run}
use Rattle.entry_book.specs.Limits.{limit_passed, IsWithinLimits}
use Rattle.entry_book.specs.Batches.{Batch, IsMadeFor, is_query, op_fault, past_place}
use Rattle.entry_book.specs.History.{last_book, last_or, place_of, batch_writes, book_for, is_repeated, Verdict, refuses, answers, adds, repeats, adds_within, verdict_when, verdict_run, verdict, reply_with, books_with, reply_to, books_after, books_from, first_books, starting_at, is_committed, commits, CommitAll, IsFirst, LeadToBooks, IsHistory, PlainState, RepresentsFrom}
use Rattle.entry_book.specs.Lawful.{Lawful}
use Rattle.entry_book.proofs.Keeps.{run_keeps}
use Rattle.entry_book.proofs.LawfulRows.{wider}
use Rattle.entry_book.specs.Laws.{AreFaultless}
use Rattle.entry_book.proofs.Faults.{no_fault}
use Rattle.entry_book.proofs.OfVerdict.{of_verdict}
use Rattle.entry_book.proofs.PastPages.{past_asks}
use Rattle.entry_book.proofs.TokenRows.{writes_keep}
use Rattle.entry_book.proofs.Sets.{All-more}
use Rattle.entry_book.proofs.WithinLimits.{all_within_limits, empty_within, none_is_passed}

-- ---- one batch

pub last-snoc : (b : Book) (bs : List Book) (c : Book) → last_or b (bs ++ c ∷ []) ≡ c
last-snoc b [] c = refl
last-snoc b (d ∷ ds) c = last-snoc d ds c

adds_with : (books : List Book) (v : Verdict) → 0 < length books → is_committed (reply_with (place_of books) v).outcome ≡ true → ((b : Book) × (books_with books v ≡ books ++ b ∷ []) × (last_book (books_with books v) ≡ b)) × ((reply_with (place_of books) v).place ≡ length books)
adds_with books (refuses r) l h = cc
adds_with books (answers replies) l h = cc
adds_with books (adds replies b) l h = ((b, refl, last-snoc empty_book books b), omega arith)
adds_with books (repeats n replies) l h = cc

pub commit_adds : (batch : Batch) (books : List Book) → 0 < length books → commits batch books ≡ true → ((b : Book) × (books_after batch books ≡ books ++ b ∷ []) × (last_book (books_after batch books) ≡ b)) × ((reply_to batch books).place ≡ length books)
commit_adds batch books l h = adds_with books (verdict batch (place_of books) (book_for (past_place batch.ops) books)) l h

-- a batch that isn't committed leaves the books; its place is the last one's number, or that of the commit that it repeats
leaves_with : (books : List Book) (v : Verdict) → is_committed (reply_with (place_of books) v).outcome ≡ false → (books_with books v ≡ books) × (is_repeated (reply_with (place_of books) v).outcome ≡ false → (reply_with (place_of books) v).place ≡ place_of books)
leaves_with books (refuses r) h = (refl, λ e. refl)
leaves_with books (answers replies) h = (refl, λ e. refl)
leaves_with books (adds replies b) h = cc
leaves_with books (repeats n replies) h = (refl, λ e. cc)

pub others_leave : (batch : Batch) (books : List Book) → commits batch books ≡ false → (books_after batch books ≡ books) × (is_repeated (reply_to batch books).outcome ≡ false → (reply_to batch books).place ≡ place_of books)
others_leave batch books h = leaves_with books (verdict batch (place_of books) (book_for (past_place batch.ops) books)) h

only_ask : (n : ℕ) (query : Bool) (batch : Batch) (b : Book) (r : RunResult) → query ≡ true → is_committed (reply_with n (verdict_when query batch n b r)).outcome ≡ false
only_ask n query batch b (Err s) h = refl
only_ask n true batch b (Ok t) h = refl
only_ask n false batch b (Ok t) h = cc

pub queries_only_ask : (batch : Batch) (books : List Book) → is_query batch.ops ≡ true → commits batch books ≡ false
queries_only_ask batch books h = of_verdict (λ v. is_committed (reply_with (place_of books) v).outcome ≡ false) batch (place_of books) (λ r. refl) (λ n rs. refl) (book_for (past_place batch.ops) books) (λ b e k. only_ask (place_of books) (is_query batch.ops) batch b (run batch.domain batch.ops b) h)

-- the outcome of a batch if no operation refuses it
pub verdict_answers : (query : Bool) (batch : Batch) (n : ℕ) (b : Book) (r : RunResult) (t : RunEffect) → query ≡ true → r ≡ Ok t → verdict_when query batch n b r ≡ answers t.replies
verdict_answers query batch n b r t q e = ap (λ x. verdict_when x batch n b r) q ∙ ap (verdict_when true batch n b) e

pub verdict_changes : (query : Bool) (batch : Batch) (n : ℕ) (b : Book) (r : RunResult) (t : RunEffect) (o : Option Limit) → query ≡ false → r ≡ Ok t → limit_passed n (after (batch_writes batch (n + 1) t) b) ≡ o → verdict_when query batch n b r ≡ adds_within o t.replies (after (batch_writes batch (n + 1) t) b)
verdict_changes query batch n b r t o q e l = ap (λ x. verdict_when x batch n b r) q ∙ (ap (verdict_when false batch n b) e ∙ ap (λ x. adds_within x t.replies (after (batch_writes batch (n + 1) t) b)) l)

-- the outcome of a query leaves the books
pub asks_with : (P : List Book → Type 0) (books : List Book) (query : Bool) (batch : Batch) (n : ℕ) (b : Book) (r : RunResult) → query ≡ true → P books → P (books_with books (verdict_when query batch n b r))
asks_with P books query batch n b (Err s) q h = h
asks_with P books true batch n b (Ok t) q h = h
asks_with P books false batch n b (Ok t) q h = cc

-- ---- one more batch

books_from-snoc : (books : List Book) (batches : List Batch) (batch : Batch) → books_from books (batches ++ batch ∷ []) ≡ books_after batch (books_from books batches)
books_from-snoc books [] batch = refl
books_from-snoc books (x ∷ xs) batch = books_from-snoc (books_after x books) xs batch

pub one_more : (first : List Book) (batches : List Batch) (batch : Batch) → books_from first (batches ++ batch ∷ []) ≡ books_after batch (books_from first batches)
one_more = books_from-snoc

commit_snoc : (books : List Book) (batches : List Batch) (batch : Batch) → CommitAll books batches → commits batch (books_from books batches) ≡ true → CommitAll books (batches ++ batch ∷ [])
commit_snoc books [] batch h k = (k, tt)
commit_snoc books (x ∷ xs) batch h k = (h.0, commit_snoc (books_after x books) xs batch h.1 k)

from_commit_snoc : (books : List Book) (batches : List Batch) (batch : Batch) → CommitAll books (batches ++ batch ∷ []) → CommitAll books batches × (commits batch (books_from books batches) ≡ true)
from_commit_snoc books [] batch h = (tt, h.0)
from_commit_snoc books (x ∷ xs) batch h = let r = from_commit_snoc (books_after x books) xs batch h.1 in ((h.0, r.0), r.1)

pub one_more_commits : (first : List Book) (batches : List Batch) (batch : Batch) → CommitAll first (batches ++ batch ∷ []) ↔ (CommitAll first batches × (commits batch (books_from first batches) ≡ true))
one_more_commits first batches batch = (from_commit_snoc first batches batch, λ h. commit_snoc first batches batch h.0 h.1)

count_from : (books : List Book) (batches : List Batch) → 0 < length books → CommitAll books batches → length (books_from books batches) ≡ length books + length batches
count_from books [] l h = omega arith
count_from books (x ∷ xs) l h =
    let a = commit_adds x books l h.0 in
    let n : length (books_after x books) ≡ length books + 1 = ap length a.0.1 ∙ length-append books (a.0.0 ∷ []) in
    let k = count_from (books_after x books) xs (omega arith) h.1 in
    omega arith

pub count_of_books : (first : List Book) (batches : List Batch) → 0 < length first → CommitAll first batches → length (books_from first batches) ≡ length batches + length first
count_of_books first batches s h = let k = count_from first batches s h in omega arith

-- ---- histories

pub history_extends : (first : List Book) (own_domain : Bytes) (batch : Batch) (books : List Book) → IsHistory first own_domain books → IsMadeFor own_domain batch → IsHistory first own_domain (books_after batch books)
history_extends first own_domain batch books h m =
    let leads : LeadToBooks first own_domain h.0 books = h.1 in
    ⊎_elim
    (λ t. (
      h.0 ++ batch ∷ [],
      record {
        is_first = leads.is_first;
        made = All-more (IsMadeFor own_domain) h.0 batch leads.made m;
        committed = commit_snoc first h.0 batch leads.committed (subst (λ l. commits batch l ≡ true) leads.books_are t);
        books_are = ap (books_after batch) leads.books_are ∙ sym (one_more first h.0 batch);
      },
    ))
    (λ t. subst (IsHistory first own_domain) (sym (others_leave batch books t).0) h)
    (cases_Bool (commits batch books))

-- ---- a history is bounded

-- within the limits, the place is below 2^48
pub place_within : (n : ℕ) (b : Book) → limit_passed n b ≡ None → n < 2 ^ 48
place_within n b h = ((none_is_passed n b).0 h).0

few_with : (books : List Book) (c : Book) (replies : List OpReply) (o : Option Limit) → limit_passed (place_of books) c ≡ o → length books ≤ 2 ^ 48 + 1 → length (books_with books (adds_within o replies c)) ≤ 2 ^ 48 + 1
few_with books c replies (Some limit) h l = l
few_with books c replies None h l = let k = place_within (place_of books) c h in let n = length-append books (c ∷ []) in omega arith

few_when : (query : Bool) (batch : Batch) (books : List Book) (b : Book) (r : RunResult) → length books ≤ 2 ^ 48 + 1 → length (books_with books (verdict_when query batch (place_of books) b r)) ≤ 2 ^ 48 + 1
few_when query batch books b (Err s) l = l
few_when true batch books b (Ok t) l = l
few_when false batch books b (Ok t) l = let c = after (batch_writes batch (place_of books + 1) t) b in few_with books c t.replies (limit_passed (place_of books) c) refl l

few_after : (books : List Book) (batch : Batch) → length books ≤ 2 ^ 48 + 1 → length (books_after batch books) ≤ 2 ^ 48 + 1
few_after books x l = of_verdict (λ v. length (books_with books v) ≤ 2 ^ 48 + 1) x (place_of books) (λ r. l) (λ n rs. l) (book_for (past_place x.ops) books) (λ b e k. few_when (is_query x.ops) x books b (run x.domain x.ops b) l)

few_from : (books : List Book) (batches : List Batch) → length books ≤ 2 ^ 48 + 1 → length (books_from books batches) ≤ 2 ^ 48 + 1
few_from books [] l = l
few_from books (x ∷ xs) l = few_from (books_after x books) xs (few_after books x l)

pub history_bounded : (first : List Book) (own_domain : Bytes) (books : List Book) → IsHistory first own_domain books → length books ≤ 2 ^ 48 + 1
history_bounded first own_domain books h =
    let leads : LeadToBooks first own_domain h.0 books = h.1 in
    let begins : IsFirst own_domain first = leads.is_first in
    let few = few_from first h.0 begins.few in
    let same = ap length leads.books_are in
    omega arith

-- ---- every book is lawful

-- the books from number n on
abbrev LawfulFrom : Bytes → ℕ → List Book → Type 0
LawfulFrom own_domain n [] = Unit {0}
LawfulFrom own_domain n (b ∷ bs) = Lawful own_domain (64 * n) b × LawfulFrom own_domain (n + 1) bs

lawful_more : (own_domain : Bytes) (n m : ℕ) (bs : List Book) (b : Book) → n + length bs ≡ m → LawfulFrom own_domain n bs → Lawful own_domain (64 * m) b → LawfulFrom own_domain n (bs ++ b ∷ [])
lawful_more own_domain n m [] b e h l = let q : m ≡ n = omega arith in (subst (λ k. Lawful own_domain (64 * k) b) q l, tt)
lawful_more own_domain n m (c ∷ cs) b e h l = (h.0, lawful_more own_domain (n + 1) m cs b (omega arith) h.1 l)

lawful_last : (own_domain : Bytes) (n m : ℕ) (b : Book) (bs : List Book) → n + length bs ≡ m → Lawful own_domain (64 * n) b → LawfulFrom own_domain (n + 1) bs → Lawful own_domain (64 * m) (last_or b bs)
lawful_last own_domain n m b [] e l h = let q : n ≡ m = omega arith in subst (λ k. Lawful own_domain (64 * k) b) q l
lawful_last own_domain n m b (c ∷ cs) e l h = lawful_last own_domain (n + 1) m c cs (omega arith) h.0 h.1

lawful_at : (own_domain : Bytes) (n : ℕ) (bs : List Book) (k : ℕ) (b : Book) → LawfulFrom own_domain n bs → slice_get bs k ≡ Some b → Lawful own_domain (64 * (n + k)) b
lawful_at own_domain n [] k b h e = cc
lawful_at own_domain n (c ∷ cs) zero b h e = let q : c ≡ b = cc in let r : n ≡ n + 0 = omega arith in subst (λ k. Lawful own_domain (64 * k) b) r (subst (Lawful own_domain (64 * n)) q h.0)
lawful_at own_domain n (c ∷ cs) (suc k) b h e = let q : n + 1 + k ≡ n + suc k = omega arith in subst (λ k. Lawful own_domain (64 * k) b) q (lawful_at own_domain (n + 1) cs k b h.1 e)

pub empty_lawful : (own_domain : Bytes) → Lawful own_domain (64 * 0) empty_book
empty_lawful own_domain = record {
  ascending = record { entries = tt; agents = tt; bundles = tt; tokens = tt };
  apart = λ e f w. absurd w;
  bundled = λ e w. absurd w;
  not_own = λ h. h.1;
  proper = λ e w. absurd w;
  proper_agents = λ a w. absurd w;
  proper_bundles = λ d w. absurd w;
  no_fault = λ e w. absurd w;
  no_agent_fault = λ a w. absurd w;
  no_bundle_fault = λ d w. absurd w;
  revisions = λ e w. absurd w;
  sequences = λ d w. absurd w;
  proper_tokens = λ k w. absurd w;
  places = λ k w. absurd w;
}

-- a list of lawful books that isn't empty
record Good (own_domain : Bytes) (books : List Book) : Type 0 where
  some : 0 < length books
  lawful : LawfulFrom own_domain 0 books

kept_lawful : (own_domain : Bytes) (m n : ℕ) (batch : Batch) (b : Book) (r : RunResult) → IsMadeFor own_domain batch → 0 < n → m ≤ 64 * n → IfOk r (λ t. Lawful own_domain m (after t.writes b)) → IfOk r (λ t. Lawful own_domain (64 * n) (after (batch_writes batch n t) b))
kept_lawful own_domain m n batch b (Ok t) d s l h = writes_keep own_domain (64 * n) n batch t b d s (omega arith) (wider (64 * n) l h)
kept_lawful own_domain m n batch b (Err r) d s l h = tt

-- a batch turns lawful book n into a book that is lawful as book n + 1
pub batch_keeps : (own_domain : Bytes) (batch : Batch) (n : ℕ) (b : Book) → IsMadeFor own_domain batch → Lawful own_domain (64 * n) b → IfOk (run batch.domain batch.ops b) (λ t. Lawful own_domain (64 * (n + 1)) (after (batch_writes batch (n + 1) t) b))
batch_keeps own_domain batch n b m l =
    let fine : AreFaultless batch.domain batch.ops = no_fault batch.domain batch.ops batch.token m.no_fault in
    let few = fine.few in
    let d : own_domain ≡ batch.domain = sym m.domain_is in
    let faultless : AllByRecursion (λ op. op_fault own_domain op ≡ None) batch.ops = subst (λ t. AllByRecursion (λ op. op_fault t op ≡ None) batch.ops) m.domain_is fine.none in
    let k = run_keeps own_domain (64 * n) batch.ops b m.proper faultless l in
    kept_lawful own_domain (64 * n + length batch.ops) (n + 1) batch b (run batch.domain batch.ops b) m (omega arith) (omega arith)
    (subst (λ t. IfOk (run t batch.ops b) (λ r. Lawful own_domain (64 * n + length batch.ops) (after r.writes b))) d k)

good_with : (own_domain : Bytes) (books : List Book) (c : Book) (replies : List OpReply) (o : Option Limit) → Good own_domain books → Lawful own_domain (64 * length books) c → Good own_domain (books_with books (adds_within o replies c))
good_with own_domain books c replies (Some limit) g h = g
good_with own_domain books c replies None g h = record {
  some = let n = length-append books (c ∷ []) in omega arith;
  lawful = lawful_more own_domain 0 (length books) books c (omega arith) g.lawful h;
}

good_when : (own_domain : Bytes) (query : Bool) (batch : Batch) (n : ℕ) (books : List Book) (b : Book) (r : RunResult) → Good own_domain books → IfOk r (λ t. Lawful own_domain (64 * length books) (after (batch_writes batch (n + 1) t) b)) → Good own_domain (books_with books (verdict_when query batch n b r))
good_when own_domain query batch n books b (Err r) g h = g
good_when own_domain true batch n books b (Ok t) g h = g
good_when own_domain false batch n books b (Ok t) g h = let c = after (batch_writes batch (n + 1) t) b in good_with own_domain books c t.replies (limit_passed n c) g h

last_lawful : (own_domain : Bytes) (books : List Book) → Good own_domain books → Lawful own_domain (64 * (length books - 1)) (last_book books)
last_lawful own_domain [] g = absurd (let k = g.some in omega arith)
last_lawful own_domain (b ∷ bs) g = lawful_last own_domain 0 (length (b ∷ bs) - 1) b bs (omega arith) g.lawful.0 g.lawful.1

pub some_is : (b c : Book) → Some b ≡ Some c → b ≡ c
some_is b c e = cc

good_run : (own_domain : Bytes) (batch : Batch) (books : List Book) (b : Book) → IsMadeFor own_domain batch → Good own_domain books → b ≡ last_book books → Good own_domain (books_with books (verdict_run batch (place_of books) b))
good_run own_domain batch books b m g e =
    let s = g.some in
    let q : length books - 1 + 1 ≡ length books = omega arith in
    good_when own_domain (is_query batch.ops) batch (place_of books) books b (run batch.domain batch.ops b) g
    (subst (λ n. IfOk (run batch.domain batch.ops b) (λ t. Lawful own_domain (64 * n) (after (batch_writes batch (length books - 1 + 1) t) b))) q (batch_keeps own_domain batch (length books - 1) b m (subst (Lawful own_domain (64 * (length books - 1))) (sym e) (last_lawful own_domain books g))))

good_read : (own_domain : Bytes) (batch : Batch) (books : List Book) (b : Book) (o : Option ℕ) → past_place batch.ops ≡ o → IsMadeFor own_domain batch → Good own_domain books → book_for o books ≡ Some b → Good own_domain (books_with books (verdict_run batch (place_of books) b))
good_read own_domain batch books b None p m g e = good_run own_domain batch books b m g (sym (some_is (last_book books) b e))
good_read own_domain batch books b (Some n) p m g e = asks_with (Good own_domain) books (is_query batch.ops) batch (place_of books) b (run batch.domain batch.ops b) (past_asks own_domain batch n m p) g

good_after : (own_domain : Bytes) (batch : Batch) (books : List Book) → IsMadeFor own_domain batch → Good own_domain books → Good own_domain (books_after batch books)
good_after own_domain batch books m g = of_verdict (λ v. Good own_domain (books_with books v)) batch (place_of books) (λ r. g) (λ n rs. g) (book_for (past_place batch.ops) books) (λ b e k. good_read own_domain batch books b (past_place batch.ops) refl m g e)

good_from : (own_domain : Bytes) (books : List Book) (batches : List Batch) → AllByRecursion (IsMadeFor own_domain) batches → Good own_domain books → Good own_domain (books_from books batches)
good_from own_domain books [] m g = g
good_from own_domain books (x ∷ xs) m g = good_from own_domain (books_after x books) xs m.1 (good_after own_domain x books m.0 g)

-- the books of a list from number n on, each lawful at its number
lawful_by_number : (own_domain : Bytes) (n : ℕ) (bs : List Book) → ((k : ℕ) (b : Book) → slice_get bs k ≡ Some b → Lawful own_domain (64 * (n + k)) b) → LawfulFrom own_domain n bs
lawful_by_number own_domain n [] h = tt
lawful_by_number own_domain n (b ∷ bs) h = (
  let q : n + 0 ≡ n = omega arith in subst (λ m. Lawful own_domain (64 * m) b) q (h zero b refl),
  lawful_by_number own_domain (n + 1) bs (λ k c e. let q : n + suc k ≡ n + 1 + k = omega arith in subst (λ m. Lawful own_domain (64 * m) c) q (h (suc k) c e)),
)

good_first : (own_domain : Bytes) (first : List Book) → IsFirst own_domain first → Good own_domain first
good_first own_domain first begins = record {
  some = begins.some;
  lawful = lawful_by_number own_domain 0 first (λ k b e. let q : k ≡ 0 + k = omega arith in subst (λ m. Lawful own_domain (64 * m) b) q (begins.lawful k b e));
}

good_history : (first : List Book) (own_domain : Bytes) (batches : List Batch) (books : List Book) → LeadToBooks first own_domain batches books → Good own_domain books
good_history first own_domain batches books leads = subst (Good own_domain) (sym leads.books_are) (good_from own_domain first batches leads.made (good_first own_domain first leads.is_first))

pub lawful_history : (first : List Book) (own_domain : Bytes) (books : List Book) → IsHistory first own_domain books → (n : ℕ) (b : Book) → slice_get books n ≡ Some b → Lawful own_domain (64 * n) b
lawful_history first own_domain books h n b e =
    let g : Good own_domain books = good_history first own_domain h.0 books h.1 in
    let q : 0 + n ≡ n = omega arith in
    subst (λ k. Lawful own_domain (64 * k) b) q (lawful_at own_domain 0 books n b g.lawful e)

pub all_lawful : (first : List Book) (state : PlainState) (books : List Book) → RepresentsFrom first state books → (n : ℕ) (b : Book) → slice_get books n ≡ Some b → Lawful state.domain (64 * n) b
all_lawful first state books s n b e = lawful_history first state.domain books s.history n b e

-- a history has a first book
pub history_some : (first : List Book) (own_domain : Bytes) (books : List Book) → IsHistory first own_domain books → 0 < length books
history_some first own_domain books h = let g : Good own_domain books = good_history first own_domain h.0 books h.1 in g.some

-- ---- what a history may begin with

-- each book of a list that begins with empty books and ends with b has the property of its number
starts_with : (P : ℕ → Book → Type 0) (k q : ℕ) (b : Book) → ((n : ℕ) → P n empty_book) → P (k + q) b → (n : ℕ) (c : Book) → slice_get (starting_at q b) n ≡ Some c → P (k + n) c
starts_with P k zero b empties last zero c e = let s : b ≡ c = cc in subst (P (k + 0)) s last
starts_with P k zero b empties last (suc n) c e = cc
starts_with P k (suc q) b empties last zero c e = let s : empty_book ≡ c = cc in subst (P (k + 0)) s (empties (k + 0))
starts_with P k (suc q) b empties last (suc n) c e =
    let here : k + suc q ≡ k + 1 + q = omega arith in
    let there : k + 1 + n ≡ k + suc n = omega arith in
    subst (λ m. P m c) there (starts_with P (k + 1) q b empties (subst (λ m. P m b) here last) n c e)

pub start_is_first : (own_domain : Bytes) (q : ℕ) (b : Book) → q ≤ 2 ^ 48 → Lawful own_domain (64 * q) b → IsWithinLimits b → IsFirst own_domain (starting_at q b)
start_is_first own_domain q b few lawful within =
    let many : length (starting_at q b) ≡ q + 1 = length-append (replicate q empty_book) (b ∷ []) ∙ ap (λ n. n + 1) (length-replicate q empty_book) in
    record {
      some = omega arith;
      few = omega arith;
      lawful = λ n c e. let s : 0 + n ≡ n = omega arith in subst (λ m. Lawful own_domain (64 * m) c) s (starts_with (λ m. Lawful own_domain (64 * m)) 0 q b (λ m. wider (64 * m) (omega arith) (empty_lawful own_domain)) (let z : q ≡ 0 + q = omega arith in subst (λ m. Lawful own_domain (64 * m) b) z lawful) n c e);
      within = starts_with (λ m. IsWithinLimits) 0 q b (λ m. empty_within) within;
    }

pub empty_is_first : (own_domain : Bytes) → IsFirst own_domain first_books
empty_is_first own_domain = start_is_first own_domain 0 empty_book (omega arith) (empty_lawful own_domain) empty_within

pub history_is_first : (first : List Book) (own_domain : Bytes) (books : List Book) → IsHistory first own_domain books → IsFirst own_domain books
history_is_first first own_domain books h = record {
  some = history_some first own_domain books h;
  few = history_bounded first own_domain books h;
  lawful = lawful_history first own_domain books h;
  within = all_within_limits first own_domain books h;
}
