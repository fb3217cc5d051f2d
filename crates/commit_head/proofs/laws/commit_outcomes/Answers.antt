use Rattle.commit_head.proofs.OnBooks.{commit_on_books, hit_since_empty, ready_on_empty, unchanged_since_empty}
use Rattle.commit_head.proofs.laws.commit_outcomes.Goals as goal

pub returns : goal.returns
returns c = record { commit = commit_on_books; empty = unchanged_since_empty; hit = hit_since_empty; ready = ready_on_empty }
