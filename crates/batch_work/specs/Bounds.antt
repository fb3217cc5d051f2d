-- The maximum number of reads of a batch. The theorems are clauses of functions of the module `laws`.
use Rattle.std.specs.Prelude.{◌≡◌, ◌≤◌, ◌^◌, ◌*◌, ℕ, ◌+◌, Bool, true, false, List, [], ◌∷◌, ◌++◌, filter, map, flat_map, length, Option, Some, None, IfSome, Ok, option_to_list}
use Rattle.entry_book.specs.declared.kept.KeptBatch.{KeptBatch}
use Rattle.entry_book.specs.declared.op.Op.{Op}
use Rattle.entry_book.specs.declared.op.Op.TheVariants.{Create, Update, SetBundle}
use Rattle.entry_book.specs.Rows.{Bytes}
use Rattle.entry_book.specs.Book.{Book, token_at}
use Rattle.entry_book.specs.Writes.{after}
use Rattle.entry_book.specs.Batches.{Batch, IsMadeFor}
use Rattle.entry_book.specs.Lawful.{Lawful}
use Rattle.entry_book.specs.Runs.{RunEffect, run}
use Rattle.version_book.specs.declared.mark.MarkKind.TheVariants as mark
use Rattle.batch_work.specs.Reads.{text_set, marks_of, marks_of_ops, case_on, case_at, footprint_in}

-- the identity of the entry that an operation puts: a create and an update put one
abbrev pub identity_put : Op → List Bytes
identity_put (Create e) = e.identity ∷ []
identity_put (Update e expected) = e.identity ∷ []
identity_put op = []

-- the identities that these operations put
abbrev pub identities_put : List Op → List Bytes
identities_put ops = flat_map identity_put ops

-- the identities of the book's entries
abbrev pub identities_of : Book → List Bytes
identities_of b = map (λ e. e.identity) b.entries

-- the number of distinct identities among the book's entries and those that these operations put
abbrev pub count_of_identities : List Op → Book → ℕ
count_of_identities ops b = length (text_set (identities_of b ++ identities_put ops))

-- whether the operation sets a bundle
abbrev pub sets_bundle : Op → Bool
sets_bundle (SetBundle d text) = true
sets_bundle op = false

-- the number of these operations that set a bundle
abbrev pub count_of_sets : List Op → ℕ
count_of_sets ops = length (filter sets_bundle ops)

-- ---- the order of the reads

-- the reads of operations are those of the first ones, followed by those of the others on the book that the first ones left
abbrev pub ReadsInOrder : Type 0
ReadsInOrder = (own_domain : Bytes) (before : List Op) (op : Op) (later : List Op) (b : Book) (t : RunEffect) → run own_domain before b ≡ Ok t → marks_of_ops own_domain (before ++ op ∷ later) b ≡ marks_of_ops own_domain before b ++ marks_of_ops own_domain (op ∷ later) (after t.writes b)

-- a token is read before the first operation; if it isn't in use, the reads of the operations follow
abbrev pub TokenReadFirst : Type 0
TokenReadFirst = (batch : Batch) (b : Book) (k : Bytes) → batch.token ≡ Some k → token_at k b ≡ None → footprint_in batch (case_on batch b) ≡ mark.Token k ∷ marks_of_ops batch.domain batch.ops b

-- if it is in use, no other read is made
abbrev pub KeptReadOnly : Type 0
KeptReadOnly = (batch : Batch) (b : Book) (k : Bytes) (kept : KeptBatch) → batch.token ≡ Some k → token_at k b ≡ Some kept → footprint_in batch (case_on batch b) ≡ mark.Token k ∷ []

-- ---- the number of reads

-- the maximum number of reads of one operation of a batch, after these operations before it
abbrev pub most_reads : Batch → List Op → Book → ℕ
most_reads batch before b = 3 + count_of_identities batch.ops b + 1024 + count_of_sets before

-- for each operation of a batch, on the book that the operations before it left of a lawful book with at most 1,024 bundles
abbrev pub OpReadsBounded : Type 0
OpReadsBounded = (own_domain : Bytes) (most : ℕ) (batch : Batch) (b : Book) (before : List Op) (op : Op) (later : List Op) (t : RunEffect) → IsMadeFor own_domain batch → Lawful own_domain most b → length b.bundles ≤ 1024 → batch.ops ≡ before ++ op ∷ later → run batch.domain before b ≡ Ok t → length (marks_of batch.domain op (after t.writes b)) ≤ most_reads batch before b

-- for the whole batch: this maximum for each operation, after all of them, and one more read if the batch has a token
abbrev pub BatchReadsBounded : Type 0
BatchReadsBounded = (own_domain : Bytes) (most : ℕ) (batch : Batch) (b : Book) → IsMadeFor own_domain batch → Lawful own_domain most b → length b.bundles ≤ 1024 → length (footprint_in batch (case_on batch b)) ≤ length (option_to_list batch.token) + length batch.ops * most_reads batch batch.ops b

-- a lawful book within the limits on entries and bundles
pub record IsBounded (own_domain : Bytes) (b : Book) : Type 0 where
  pub most : ℕ
  pub lawful : Lawful own_domain most b
  pub entries : length b.entries ≤ 16384
  pub bundles : length b.bundles ≤ 1024

-- on such a book, a batch makes at most 2^21 reads
abbrev pub ReadsAreFew : Type 0
ReadsAreFew = (own_domain : Bytes) (batch : Batch) (b : Book) → IsMadeFor own_domain batch → IsBounded own_domain b → length (footprint_in batch (case_on batch b)) ≤ 2 ^ 21

-- the same holds at any place, and if the book of the batch's page is missing
abbrev pub ReadsAreFewAnywhere : Type 0
ReadsAreFewAnywhere = (own_domain : Bytes) (batch : Batch) (place : ℕ) (b : Option Book) → IsMadeFor own_domain batch → IfSome b (IsBounded own_domain) → length (footprint_in batch (case_at batch place b)) ≤ 2 ^ 21
