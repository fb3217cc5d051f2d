-- What an auditor stores after the next record.
use Rattle.std.proofs.Common.{◌≡◌, ℕ, suc, Bool, true, false, List, [], ◌∷◌, ◌++◌, map, length, Option, None, Some, refl, sym, ap, ◌∙◌, subst, arith}
use Rattle.std.proofs.lemmas.List.Folds.{list_any-append}
use Rattle.std.specs.List.{list_any}
use Rattle.std.specs.Prelude.{◌||◌, ◌==◌, nat_lt, max, if◌then◌else◌}
use Rattle.entry_book.specs.Book.{Book}
use Rattle.entry_book.specs.Batches.{Batch}
use Rattle.entry_book.specs.History.{RepresentsBooks, books_after, books_from, books_of, first_books}
use Rattle.line_reading.specs.Records.{AuditRecord}
use Rattle.call_audit.specs.Audits.{batches_of_records, has_call, is_late, is_past}
use Rattle.call_audit.specs.Represents.{AuditState, RepresentsRecords}

pub batches_of-append : (before : List AuditRecord) (r : AuditRecord) → batches_of_records (before ++ r ∷ []) ≡ batches_of_records before ++ r.batch ∷ []
batches_of-append [] r = refl
batches_of-append (x ∷ xs) r = ap (λ l. x.batch ∷ l) (batches_of-append xs r)

books_from-append : (books : List Book) (batches : List Batch) (batch : Batch) → books_from books (batches ++ batch ∷ []) ≡ books_after batch (books_from books batches)
books_from-append books [] batch = refl
books_from-append books (b ∷ bs) batch = books_from-append (books_after b books) bs batch

pub books-next : (before : List AuditRecord) (r : AuditRecord) → books_of (batches_of_records (before ++ r ∷ [])) ≡ books_after r.batch (books_of (batches_of_records before))
books-next before r = ap books_of (batches_of-append before r) ∙ books_from-append first_books (batches_of_records before) r.batch

pub calls-next : (before : List AuditRecord) (r : AuditRecord) → map (λ r. r.call) (before ++ r ∷ []) ≡ map (λ r. r.call) before ++ r.call ∷ []
calls-next [] r = refl
calls-next (x ∷ xs) r = ap (λ l. x.call ∷ l) (calls-next xs r)

pub calls-known : (n : ℕ) (records : List AuditRecord) → list_any (λ k. n == k) (map (λ r. r.call) records) ≡ has_call n records
calls-known n [] = refl
calls-known n (x ∷ xs) = ap (λ b. (n == x.call) || b) (calls-known n xs)

pub calls-count : (records : List AuditRecord) → length (map (λ r. r.call) records) ≡ length records
calls-count [] = refl
calls-count (x ∷ xs) = ap suc (calls-count xs)

lt_max : (n a b : ℕ) → nat_lt n (max a b) ≡ (nat_lt n a || nat_lt n b)
lt_max n a b = grind arith

past_max : (o : Option ℕ) (a b : ℕ) → is_past o (max a b) ≡ (is_past o a || is_past o b)
past_max None a b = refl
past_max (Some n) a b = lt_max n a b

or-false : (a : Bool) → (a || false) ≡ a
or-false true = refl
or-false false = refl

pub late-next : (latest : ℕ) (before : List AuditRecord) (x r : AuditRecord) → is_past r.replied latest ≡ is_late r before → is_past r.replied (max latest x.invoked) ≡ is_late r (before ++ x ∷ [])
late-next latest before x r e =
    past_max r.replied latest x.invoked
    ∙ (ap (λ b. b || is_past r.replied x.invoked) e
    ∙ (ap (λ b. is_late r before || b) (sym (or-false (is_past r.replied x.invoked)))
    ∙ sym (list_any-append (λ e. is_past r.replied e.invoked) before (x ∷ []))))

-- the state after a record represents one more record
pub keeps-next : (old new : AuditState) (before : List AuditRecord) (r : AuditRecord) → RepresentsRecords old before → RepresentsBooks new.book (books_after r.batch (books_of (batches_of_records before))) → new.calls ≡ old.calls ++ r.call ∷ [] → new.latest ≡ max old.latest r.invoked → RepresentsRecords new (before ++ r ∷ [])
keeps-next old new before r k represents calls latest = record {
  books = subst (λ books. RepresentsBooks new.book books) (sym (books-next before r)) represents;
  calls = calls ∙ (ap (λ l. l ++ r.call ∷ []) k.calls ∙ sym (calls-next before r));
  latest = λ e. ap (λ n. is_past e.replied n) latest ∙ late-next old.latest before r e (k.latest e);
}

pub knows : (n : ℕ) (calls : List ℕ) (records : List AuditRecord) → calls ≡ map (λ r. r.call) records → list_any (λ k. n == k) calls ≡ has_call n records
knows n calls records e = ap (λ l. list_any (λ k. n == k) l) e ∙ calls-known n records

pub added : (n : ℕ) (calls : List ℕ) → list_any (λ k. n == k) calls ≡ false → (if list_any (λ k. n == k) calls then calls else calls ++ n ∷ []) ≡ calls ++ n ∷ []
added n calls e = ap (λ b. if b then calls else calls ++ n ∷ []) e
