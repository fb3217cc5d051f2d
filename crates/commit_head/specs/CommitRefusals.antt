-- Why a ready work isn't committed, and the outcome of its commit. For this crate's own contracts.
use Rattle.std.specs.Prelude.{ℕ}
use Rattle.commit_head.specs.declared.commit.Commit.{Commit}
use Rattle.commit_head.specs.declared.commit.Commit.TheVariants as to
use Rattle.commit_head.specs.declared.commit.CommitRefusal.{CommitRefusal}
use Rattle.commit_head.specs.declared.commit.CommitRefusal.TheVariants.{Conflict, Full, NoMemory}

-- the outcome of a commit that is refused at this place
abbrev pub outcome_at : ℕ → CommitRefusal → Commit
outcome_at n Conflict = to.Conflict n
outcome_at n (Full limit) = to.Full limit n
outcome_at n NoMemory = to.NoMemory
