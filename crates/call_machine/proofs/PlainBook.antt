-- What the plain book decides on a commit, as the machine uses it.
use Rattle.std.proofs.Common.{◌≡◌, ◌+◌, ◌<◌, List, length, false, true, ◌∙◌, arith}
use Rattle.entry_book.specs.declared.limit.Limit.{Limit}
use Rattle.entry_book.specs.declared.reply.ReplyOutcome.TheVariants.{Refused}
use Rattle.entry_book.specs.declared.reply.Refusal.TheVariants.{Full}
use Rattle.entry_book.specs.Book.{Book}
use Rattle.entry_book.specs.Batches.{Batch}
use Rattle.entry_book.specs.History.{CommitAll, books_of, commits, first_books, reply_to}
use Rattle.entry_book.proofs.Histories.{commit_adds, count_of_books}
use Rattle.batch_work.specs.Reads.{awaits_commit}
use Rattle.batch_work.proofs.Batches.{others_dont_commit}

pub never_commits : (batch : Batch) (books : List Book) → awaits_commit batch books ≡ false → commits batch books ≡ false
never_commits batch books e = (others_dont_commit batch books e).0

pub never_full : (batch : Batch) (books : List Book) → awaits_commit batch books ≡ false → (limit : Limit) → (reply_to batch books).outcome ≡ Refused (Full limit) → ⊥
never_full batch books e = (others_dont_commit batch books e).1

pub commit_place : (batch : Batch) (journal : List Batch) → CommitAll first_books journal → commits batch (books_of journal) ≡ true → (reply_to batch (books_of journal)).place ≡ length journal + 1
commit_place batch journal h e =
    let n = count_of_books first_books journal (omega arith) h in
    let l : 0 < length (books_of journal) = omega arith in
    (commit_adds batch (books_of journal) l e).1 ∙ n
