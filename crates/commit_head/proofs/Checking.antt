-- What the writes of later items, and the rows of two versions, imply for a batch's marks.
use Rattle.std.proofs.Common.{◌≡◌, ℕ, ◌+◌, ◌-◌, ◌≤◌, Bool, false, ◌||◌, List, [], ◌∷◌, ◌++◌, length, length-append, length-drop, drop, take, Ok, Err, IfOk, refl, sym, ap, subst, ◌∙◌, ⊎_elim, arith}
use Rattle.std.specs.List.{AllByRecursion, list_any}
use Rattle.std.proofs.lemmas.List.{take_all}
use Rattle.entry_book.specs.Batches.{Batch}
use Rattle.entry_book.specs.Book.{Book, AscendingBook}
use Rattle.entry_book.specs.Runs.{RunResult, run}
use Rattle.version_book.specs.declared.mark.MarkKind.{MarkKind}
use Rattle.version_book.specs.CommittedRows.{VersionState, book_of}
use Rattle.version_book.specs.History.{IsEarlier, any_hits, version_with, writes_at, writes_in}
use Rattle.version_book.specs.Marks.{Agree, hits}
use Rattle.version_book.proofs.Unchanged.{unhit_marks}
use Rattle.version_book.proofs.Places.{hits_at_any_place, places_put}
use Rattle.commit_head.specs.declared.item.Item.{Item}
use Rattle.commit_head.specs.Journals.{Joins, Leads, Agrees, batches_of}
use Rattle.commit_head.proofs.Journals.{leads_count, leads_follow}

-- ---- the items since a version

drop_front : {X : Type 0} (front xs : List X) → drop (length front) (front ++ xs) ≡ xs
drop_front [] xs = refl
drop_front (x ∷ front) xs = drop_front front xs

none_before : {X : Type 0} (front xs : List X) → length (front ++ xs) ≤ length xs → front ≡ []
none_before [] xs h = refl
none_before (x ∷ front) xs h = let n = length-append (x ∷ front) xs in absurd (omega arith)

-- as many of the last retained items as there are items
last_of : (items kept : List Item) → Agrees items kept → length items ≤ length kept → drop (length kept - length items) kept ≡ items
last_of items kept a h = ⊎_elim
    (λ e. let n = length-append e.0 kept in let front : e.0 ≡ [] = none_before e.0 kept (let q = ap length e.1 in omega arith) in
    let same : items ≡ kept = e.1 ∙ ap (λ front. front ++ kept) front in
    let q : length kept - length items ≡ 0 = let l = ap length same in omega arith in
    ap (λ d. drop d kept) q ∙ sym same)
    (λ e. let n = length-append e.0 items in
    let q : length kept - length items ≡ length e.0 = let l = ap length e.1 in omega arith in
    ap (λ d. drop d kept) q ∙ (ap (drop (length e.0)) e.1 ∙ drop_front e.0 items))
    a

pub items_since : (items kept : List Item) (older newer : VersionState) (commits : ℕ) → Leads older items newer → Agrees items kept → commits + older.number ≡ newer.number → commits ≤ length kept → take (length kept - (length kept - commits)) (drop (length kept - commits) kept) ≡ items
items_since items kept older newer commits l a e h =
    let k = leads_count items older newer l in
    let same : commits ≡ length items = omega arith in
    let d = length-drop (length kept - commits) kept in
    take_all (length kept - (length kept - commits)) (drop (length kept - commits) kept) (omega arith)
    ∙ (ap (λ n. drop (length kept - n) kept) same ∙ last_of items kept a (omega arith))

-- ---- hits by writes

any_placed : (batch : Batch) (n : ℕ) (b : Book) (r : RunResult) (m : MarkKind) → run batch.domain batch.ops b ≡ r → list_any (λ w. hits w m) (writes_in batch 0 r) ≡ list_any (λ w. hits w m) (writes_in batch n r)
any_placed batch n b (Ok t) m e =
    let p = places_put batch b 0 n in
    sym (hits_at_any_place n (writes_in batch 0 (Ok t)) m) ∙ ap (list_any (λ w. hits w m)) (of_ok _ (run batch.domain batch.ops b) t e p)
  where
    of_ok : (P : _ → Type 0) (r : RunResult) (t : _) → r ≡ Ok t → IfOk r P → P t
    of_ok P r t e h = subst (λ r. IfOk r P) e h
any_placed batch n b (Err s) m e = refl

item_hits : (item : Item) (s : VersionState) (m : MarkKind) → Joins item s → list_any (λ w. hits w m) item.changes ≡ list_any (λ w. hits w m) (writes_at item.batch s)
item_hits item s m j = ap (list_any (λ w. hits w m)) j.writes ∙ any_placed item.batch (s.number + 1) (book_of s.rows) (run item.batch.domain item.batch.ops (book_of s.rows)) m refl

pub items_hit : (items : List Item) (older newer : VersionState) (m : MarkKind) → Leads older items newer → list_any (λ item. list_any (λ w. hits w m) item.changes) items ≡ any_hits m older (batches_of items)
items_hit [] older newer m l = refl
items_hit (item ∷ items) older newer m l = λ i. item_hits item older m l.0 i || items_hit items (version_with item.batch older) newer m l.1 i

pub marks_hit : (marks : List MarkKind) (items : List Item) (older newer : VersionState) → Leads older items newer → list_any (λ m. list_any (λ item. list_any (λ w. hits w m) item.changes) items) marks ≡ list_any (λ m. any_hits m older (batches_of items)) marks
marks_hit [] items older newer l = refl
marks_hit (m ∷ ms) items older newer l = λ i. items_hit items older newer m l i || marks_hit ms items older newer l i

-- ---- the results of the two checks

pub hit_since : (marks : List MarkKind) (since items : List Item) (older newer : VersionState) (result : Bool) → Leads older items newer → since ≡ items → result ≡ list_any (λ m. list_any (λ item. list_any (λ w. hits w m) item.changes) since) marks → list_any (λ m. any_hits m older (batches_of items)) marks ≡ result
hit_since marks since items older newer result l e r = sym (marks_hit marks items older newer l) ∙ (ap (λ is. list_any (λ m. list_any (λ item. list_any (λ w. hits w m) item.changes) is) marks) (sym e) ∙ sym r)

pub unhit_since : (marks : List MarkKind) (items : List Item) (older newer : VersionState) → AscendingBook (book_of older.rows) → Leads older items newer → list_any (λ m. any_hits m older (batches_of items)) marks ≡ false → AllByRecursion (Agree (book_of older.rows) (book_of newer.rows)) marks
unhit_since marks items older newer a l h = unhit_marks marks (batches_of items) older newer a (leads_follow items older newer l) h

pub earlier : (items : List Item) (older newer : VersionState) → Leads older items newer → IsEarlier older newer
earlier items older newer l = (batches_of items, leads_follow items older newer l)
