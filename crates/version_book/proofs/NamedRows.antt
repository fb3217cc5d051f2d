-- What does each mark read from a book, and how do the rows of a version represent its book?
use Rattle.std.proofs.Common.{◌≡◌, ℕ, Bool, true, false, cond, List, [], ◌∷◌, ◌++◌, Option, Some, None, ap, ◌∙◌, refl, option_map}
use Rattle.std.specs.Prelude.{map, filter, option_to_list, bytes_eq}
use Rattle.std.proofs.lemmas.List.{map-append}
use Rattle.entry_book.proofs.Keys.{rows_at}
use Rattle.entry_book.specs.declared.agent.Agent.{Agent}
use Rattle.entry_book.specs.declared.bundle.Bundle.{Bundle}
use Rattle.entry_book.specs.declared.kept.KeptBatch.{KeptBatch}
use Rattle.entry_book.specs.Rows.{Bytes, Entry, entry_key, agent_key, bundle_key}
use Rattle.entry_book.specs.Tokens.{token_key}
use Rattle.entry_book.specs.Order.{is_before, with_row}
use Rattle.entry_book.specs.Book.{Book, entry_at, group_of, children_of, users_of, expired_before}
use Rattle.entry_book.specs.Writes.{RowWrite, wrote_entry, wrote_agent, wrote_bundle, wrote_token, after, after_write}
use Rattle.version_book.specs.declared.committed_row.CommittedRow.{CommittedRow}
use Rattle.version_book.specs.Marks.{names_entry, names_agent, names_bundle, names_token}
use Rattle.version_book.specs.CommittedRows.{CommittedRows, row_of, numbered, of_row, book_of, rows_after_write}
use Rattle.version_book.specs.Laws.{entries_alone, ReadsEntry, ReadsGroup, ReadsChildren, ReadsUsers, ReadsExpiring, ReadsAll, ReadsAgent, ReadsBundle, ReadsToken, BookAfter, BookReads}

-- ---- what each mark reads

none : {X : Type 0} (xs : List X) → filter (λ x. false) xs ≡ []
none [] = refl
none (x ∷ xs) = none xs

every : {X : Type 0} (xs : List X) → filter (λ x. true) xs ≡ xs
every [] = refl
every (x ∷ xs) = ap (λ l. x ∷ l) (every xs)

abbrev book : List Entry → List Agent → List Bundle → List KeptBatch → Book
book es us ds ks = record { entries = es; agents = us; bundles = ds; tokens = ks }

-- books with the same rows
same_books : {es fs : List Entry} {us vs : List Agent} {ds cs : List Bundle} {ks ls : List KeptBatch} → es ≡ fs → us ≡ vs → ds ≡ cs → ks ≡ ls → book es us ds ks ≡ book fs vs cs ls
same_books p q r s = λ i. book (p i) (q i) (r i) (s i)

-- a mark that names only entries
of_entries : (es fs : List Entry) (b : Book) → es ≡ fs → book es (filter (λ a. false) b.agents) (filter (λ d. false) b.bundles) (filter (λ k. false) b.tokens) ≡ entries_alone fs
of_entries es fs b e = same_books e (none b.agents) (none b.bundles) (none b.tokens)

pub reads_entry : ReadsEntry
reads_entry id b a = of_entries (filter (λ e. bytes_eq e.id id) b.entries) (option_to_list (entry_at id b)) b (rows_at entry_key id b.entries a.entries)

pub reads_group : ReadsGroup
reads_group parent identity b = of_entries (group_of parent identity b) (group_of parent identity b) b refl

pub reads_children : ReadsChildren
reads_children parent b = of_entries (children_of parent b) (children_of parent b) b refl

pub reads_users : ReadsUsers
reads_users domain b = of_entries (users_of domain b) (users_of domain b) b refl

pub reads_expiring : ReadsExpiring
reads_expiring moment b = of_entries (expired_before moment b) (expired_before moment b) b refl

pub reads_all : ReadsAll
reads_all b = of_entries (filter (λ e. true) b.entries) b.entries b (every b.entries)

pub reads_agent : ReadsAgent
reads_agent id b a = same_books (none b.entries) (rows_at agent_key id b.agents a.agents) (none b.bundles) (none b.tokens)

pub reads_bundle : ReadsBundle
reads_bundle domain b a = same_books (none b.entries) (none b.agents) (rows_at bundle_key domain b.bundles a.bundles) (none b.tokens)

pub reads_token : ReadsToken
reads_token token b a = same_books (none b.entries) (none b.agents) (none b.bundles) (rows_at token_key token b.tokens a.tokens)

-- ---- rows with numbers

pub filter-map : {X Y : Type 0} (f : X → Y) (p : Y → Bool) (xs : List X) → filter p (map f xs) ≡ map f (filter (λ x. p (f x)) xs)
filter-map f p [] = refl
filter-map f p (x ∷ xs) = elim (p (f x)) as (λ t. cond t (f x ∷ filter p (map f xs)) (filter p (map f xs)) ≡ map f (cond t (x ∷ filter (λ x. p (f x)) xs) (filter (λ x. p (f x)) xs))) [ true ↦ ap (λ l. f x ∷ l) (filter-map f p xs) | false ↦ filter-map f p xs ]

-- writing a row with its number writes the row
pub map-with_row : {X Y : Type 0} (f : X → Y) (key : Y → Bytes) (k : Bytes) (n : Option X) (rows : List X) → map f (with_row (λ x. key (f x)) k n rows) ≡ with_row key k (option_map f n) (map f rows)
unfolding with_row
map-with_row f key k n rows = rw (map-append, map-append, filter-map f (λ y. is_before (key y) k) rows, filter-map f (λ y. is_before k (key y)) rows) (one n)
  where
    one : (n : Option _) → map f (filter (λ x. is_before (key (f x)) k) rows) ++ (map f (option_to_list n) ++ map f (filter (λ x. is_before k (key (f x))) rows)) ≡ map f (filter (λ x. is_before (key (f x)) k) rows) ++ (option_to_list (option_map f n) ++ map f (filter (λ x. is_before k (key (f x))) rows))
    one None = refl
    one (Some x) = refl

row_again : {X : Type 0} (n : ℕ) (o : Option X) → option_map row_of (option_map (numbered n) o) ≡ o
row_again n None = refl
row_again n (Some x) = refl

rows-with_row : {X : Type 0} (key : X → Bytes) (n : ℕ) (k : Bytes) (new : Option X) (rows : List (CommittedRow X)) → map row_of (with_row (of_row key) k (option_map (numbered n) new) rows) ≡ with_row key k new (map row_of rows)
rows-with_row key n k new rows = map-with_row row_of key k (option_map (numbered n) new) rows ∙ ap (λ o. with_row key k o (map row_of rows)) (row_again n new)

pub book_after_write : (n : ℕ) (w : RowWrite) (rows : CommittedRows) → book_of (rows_after_write n w rows) ≡ after_write w (book_of rows)
book_after_write n (wrote_entry c) rows = ap (λ es. record (book_of rows) { entries = es }) (rows-with_row entry_key n c.key c.new rows.entries)
book_after_write n (wrote_agent c) rows = ap (λ us. record (book_of rows) { agents = us }) (rows-with_row agent_key n c.key c.new rows.agents)
book_after_write n (wrote_bundle c) rows = ap (λ ds. record (book_of rows) { bundles = ds }) (rows-with_row bundle_key n c.key c.new rows.bundles)
book_after_write n (wrote_token c) rows = ap (λ ks. record (book_of rows) { tokens = ks }) (rows-with_row token_key n c.key c.new rows.tokens)

pub book_after : BookAfter
book_after n [] rows = refl
book_after n (w ∷ ws) rows = book_after n ws (rows_after_write n w rows) ∙ ap (after ws) (book_after_write n w rows)

pub book_reads : BookReads
book_reads m rows = same_books (filter-map row_of (names_entry m) rows.entries) (filter-map row_of (names_agent m) rows.agents) (filter-map row_of (names_bundle m) rows.bundles) (filter-map row_of (names_token m) rows.tokens)
