-- Journals: where their items lead, in relation to the list of all books.
use Rattle.std.proofs.Common.{◌≡◌, ℕ, ◌+◌, ◌-◌, ◌<◌, List, [], ◌∷◌, ◌++◌, length, take, refl, sym, ap, subst, ◌∙◌, arith}
use Rattle.std.specs.Prelude.{map}
use Rattle.std.proofs.lemmas.List.{append_assoc, map-append, take-append-drop}
use Rattle.entry_book.specs.declared.reply.Reply.{Reply}
use Rattle.entry_book.specs.Rows.{Bytes}
use Rattle.entry_book.specs.Book.{Book}
use Rattle.entry_book.specs.History.{place_of as place_in, adds, reply_with, books_with, books_after, books_from, first_books, last_book}
use Rattle.entry_book.specs.Limits.{IsWithinLimits}
use Rattle.entry_book.proofs.Histories.{history_bounded}
use Rattle.version_book.specs.CommittedRows.{VersionState, book_of, numbered, row_of}
use Rattle.version_book.specs.History.{CommitsOn, Follows, IsLast, version_with, replies_on}
use Rattle.version_book.proofs.Batches.{books_join, replies_follow}
use Rattle.version_book.proofs.Histories.{books_follow, domain_is_unchanged, limits_follow, newest_read, verdict_last}
use Rattle.batch_work.specs.Windows.{Window, WindowRepresents, book_in, pushed}
use Rattle.batch_work.proofs.Windows.{window_begins, window_extends, window_last}
use Rattle.commit_head.specs.declared.item.Item.{Item}
use Rattle.commit_head.specs.Heads.{IsPreparedFor, HasJournal, Head, IsJournal, Prepared, last_items, newest_of}
use Rattle.commit_head.specs.Journals.{Joins, Leads, batches_of, committed_after, empty_version, first_version, rows_numbered}
use Rattle.commit_head.specs.Laws.{ItemsFollow, JoinsOnBooks, JournalBegins, JournalBounded, EmptyIsFirstVersion, EmptyPlace, JournalExtends, JournalIsLawful, JournalLast, JournalStarts, LeadsFurther, LeadsInParts, LeadsToOne}

pub commits : (item : Item) (s : VersionState) → Joins item s → CommitsOn item.batch s
commits item s j = record { made = j.made; replies = item.replies; added = j.added }

pub leads_follow : (items : List Item) (s t : VersionState) → Leads s items t → Follows s (batches_of items) t
leads_follow [] s t l = l
leads_follow (item ∷ items) s t l = (commits item s l.0, leads_follow items (version_with item.batch s) t l.1)

pub leads_count : (items : List Item) (s t : VersionState) → Leads s items t → length items + s.number ≡ t.number
leads_count [] s t l = let k : s.number ≡ t.number = ap (λ s. s.number) l in omega arith
leads_count (item ∷ items) s t l = let k = leads_count items (version_with item.batch s) t l.1 in omega arith

pub items_follow : ItemsFollow
items_follow items older newer l = record { follows = leads_follow items older newer l; count = leads_count items older newer l }

pub leads_more : LeadsFurther
leads_more [] item s t l j = (subst (Joins item) (sym l) j, ap (version_with item.batch) l)
leads_more (i ∷ is) item s t l j = (l.0, leads_more is item (version_with i.batch s) t l.1 j)

pub leads_in_parts : LeadsInParts
leads_in_parts [] second older newer l = (older, refl, l)
leads_in_parts (item ∷ items) second older newer l = let rest = leads_in_parts items second (version_with item.batch older) newer l.1 in (rest.0, (l.0, rest.1), rest.2)

pub leads_to_one : LeadsToOne
leads_to_one [] older newer other l k = sym l ∙ k
leads_to_one (item ∷ items) older newer other l k = leads_to_one items (version_with item.batch older) newer other l.1 k.1

-- ---- the list of all books

pub empty_is_first_version : EmptyIsFirstVersion
empty_is_first_version own_domain = refl

pub empty_place : EmptyPlace
empty_place items = omega arith

rows_of_numbered : {X : Type 0} (n : ℕ) (xs : List X) → map row_of (map (numbered n) xs) ≡ xs
rows_of_numbered n [] = refl
rows_of_numbered n (x ∷ xs) = ap (λ l. x ∷ l) (rows_of_numbered n xs)

book_numbered : (n : ℕ) (b : Book) → book_of (rows_numbered n b) ≡ b
book_numbered n b =
    let entries = rows_of_numbered n b.entries in
    let agents = rows_of_numbered n b.agents in
    let bundles = rows_of_numbered n b.bundles in
    let tokens = rows_of_numbered n b.tokens in
    λ i. record { entries = entries i; agents = agents i; bundles = bundles i; tokens = tokens i }

pub first_last : (own_domain : Bytes) (first : List Book) → IsLast (first_version own_domain first) first
first_last own_domain first = record { book = sym (book_numbered (place_in first) (last_book first)); place = refl }

-- after an item, the list of books has the book of the next version
books_more : (item : Item) (s : VersionState) (books : List Book) → IsLast s books → Joins item s → books_after item.batch books ≡ books ++ book_in (version_with item.batch s) ∷ []
books_more item s books k j = ap (books_with books) (verdict_last item.batch s books k.book k.place (newest_read item.batch s (commits item s j)) ∙ j.added)

batches_more : (items : List Item) (item : Item) → batches_of (items ++ item ∷ []) ≡ batches_of items ++ item.batch ∷ []
batches_more items item = map-append (λ i. i.batch) items (item ∷ [])

last_shown : (first : List Book) (items : List Item) (h : Head) → IsJournal first items h → IsLast (newest_of h) (books_from first (batches_of items))
last_shown first items h k = window_last h.window (books_from first (batches_of items)) k.shown

pub journal_last : JournalLast
journal_last = last_shown

all_books : (first : List Book) (items : List Item) (item : Item) (h : Head) → IsJournal first items h → Joins item (newest_of h) → books_from first (batches_of (items ++ item ∷ [])) ≡ books_from first (batches_of items) ++ book_in (version_with item.batch (newest_of h)) ∷ []
all_books first items item h k j =
    ap (books_from first) (batches_more items item)
    ∙ (books_join (batches_of items) (item.batch ∷ []) first
    ∙ books_more item (newest_of h) (books_from first (batches_of items)) (last_shown first items h k) j)

pub joins_on_books : JoinsOnBooks
joins_on_books first items item h k j =
    let s = newest_of h in
    let books = books_from first (batches_of items) in
    let last : IsLast s books = last_shown first items h k in
    record {
      reply = ap (reply_with (place_in books)) (verdict_last item.batch s books last.book last.place (newest_read item.batch s (commits item s j)) ∙ j.added) ∙ ap (λ n. reply_with n (adds item.replies (book_of (version_with item.batch s).rows))) last.place;
      books = books_more item s books last j ∙ sym (all_books first items item h k j);
    }

pub journal_extends : JournalExtends
journal_extends first items item old new k j a =
    let next : VersionState = version_with item.batch (newest_of old) in
    let newest : new.window.newest ≡ next = ap (λ w. w.newest) a.window in
    record {
      leads = subst (λ s. Leads (first_version s.domain first) (items ++ item ∷ []) s) (sym newest) (leads_more items item (first_version old.window.newest.domain first) old.window.newest k.leads j);
      ending = (k.ending.0, ap (λ l. l ++ item ∷ []) k.ending.1 ∙ (append_assoc k.ending.0 old.kept (item ∷ []) ∙ ap (λ l. k.ending.0 ++ l) (sym a.kept)));
      shown = subst (λ w. WindowRepresents w (books_from first (batches_of (items ++ item ∷ [])))) (sym a.window) (subst (WindowRepresents (pushed next old.window)) (sym (all_books first items item old k j)) (window_extends old.window next (books_from first (batches_of items)) k.shown (record { number = refl; domain = refl })));
    }

pub journal_begins : JournalBegins
journal_begins own_domain h w e =
    let newest : h.window.newest ≡ empty_version own_domain = ap (λ w. w.newest) w in
    record {
      leads = subst (λ s. Leads (empty_version s.domain) [] s) (sym newest) refl;
      ending = ([], sym e);
      shown = subst (λ w. WindowRepresents w first_books) (sym w) (window_begins (empty_version own_domain) refl);
    }

pub has_begun : (own_domain : Bytes) (h : Head) → h.window ≡ record { older = []; newest = empty_version own_domain } → h.kept ≡ [] → HasJournal h
has_begun own_domain h w e = ([], journal_begins own_domain h w e)

pub journal_starts : JournalStarts
journal_starts first h newest shown e = record { leads = sym newest; ending = ([], sym e); shown = shown }

-- ---- limits

pub within : (h : Head) → HasJournal h → IsWithinLimits (book_of h.window.newest.rows)
within h k =
    let start = empty_version h.window.newest.domain in
    let none : IsWithinLimits (book_of start.rows) = record { entries = omega arith; agents = omega arith; bundles = omega arith; tokens = omega arith } in
    limits_follow (batches_of k.0) start h.window.newest none (leads_follow k.0 start h.window.newest k.1.leads)

-- ---- lawful journals

replied : (items : List Item) (s t : VersionState) → Leads s items t → replies_on (batches_of items) s ≡ committed_after s.number items
replied [] s t l = refl
replied (item ∷ items) s t l =
    let first : Reply = record { place = s.number + 1; outcome = (reply_with s.number (adds item.replies (book_of (version_with item.batch s).rows))).outcome } in
    ap (λ v. reply_with s.number v ∷ replies_on (batches_of items) (version_with item.batch s)) (l.0).added ∙ ap (λ l. first ∷ l) (replied items (version_with item.batch s) t l.1)

pub journal_is_lawful : JournalIsLawful
journal_is_lawful first own_domain items s begins l once =
    let start = first_version own_domain first in
    let follows = leads_follow items start s l in
    let last = first_last own_domain first in
    record {
      is_first = begins;
      made = (domain_is_unchanged (batches_of items) start s follows).1;
      committed = (books_follow (batches_of items) start s first begins.some last.book last.place follows).0;
      replies = replies_follow (batches_of items) start s first begins.some last follows ∙ replied items start s l;
      once = once;
    }

-- ---- the number of commits

pub low : JournalBounded
low first items h begins k =
    let own_domain = h.window.newest.domain in
    let start = first_version own_domain first in
    let follows = leads_follow items start h.window.newest k.leads in
    let last = first_last own_domain first in
    let committed = (books_follow (batches_of items) start h.window.newest first begins.some last.book last.place follows).0 in
    let made = (domain_is_unchanged (batches_of items) start h.window.newest follows).1 in
    let bounded = history_bounded first own_domain (books_from first (batches_of items)) (batches_of items, record { is_first = begins; made = made; committed = committed; books_are = refl }) in
    let count = k.shown.count in
    omega arith

-- ---- the journal after a finish and after a checkpoint

pub finished : (old : Head) (p : Prepared) (window : Window) (kept : List Item) (room : ℕ) → HasJournal old → IsPreparedFor (newest_of old) p → window ≡ pushed p.version old.window → kept ≡ old.kept ++ p.item ∷ [] → HasJournal (record { window = window; kept = kept; room = room })
finished old p window kept room k g w e =
    let new : Head = record { window = window; kept = kept; room = room } in
    let appended : window ≡ pushed (version_with p.item.batch (newest_of old)) old.window = w ∙ ap (λ s. pushed s old.window) g.version in
    (k.0 ++ p.item ∷ [], journal_extends first_books k.0 p.item old new k.1 g.joins (record { window = appended; kept = e }))

pub dropped : (old : Head) (kept : List Item) (room : ℕ) → HasJournal old → kept ≡ last_items old.kept → HasJournal (record { window = old.window; kept = kept; room = room })
dropped old kept room k e =
    let n = length old.kept - 64 in
    let front : old.kept ≡ take n old.kept ++ kept = sym (take-append-drop n old.kept) ∙ ap (λ l. take n old.kept ++ l) (sym e) in
    let journal : IsJournal first_books k.0 old = k.1 in (
      k.0,
      record {
        leads = journal.leads;
        ending = (journal.ending.0 ++ take n old.kept, journal.ending.1 ∙ (ap (λ l. journal.ending.0 ++ l) front ∙ sym (append_assoc journal.ending.0 (take n old.kept) kept)));
        shown = journal.shown;
      },
    )
