use Rattle.version_book.proofs.laws.batches.Goals as goal
use Rattle.version_book.proofs.Batches.{books_join, commits_join, replies_follow}

pub returns-clause-books : goal.returns-clause-books
returns-clause-books c = books_join

pub returns-clause-commits : goal.returns-clause-commits
returns-clause-commits c = commits_join

pub returns-clause-replies : goal.returns-clause-replies
returns-clause-replies c = replies_follow
