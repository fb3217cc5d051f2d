-- How large a book and its history may become. The limits are checked after all operations of a batch of changes.
use Rattle.std.specs.Prelude.{ℕ, ◌^◌, ◌≤◌, length, nat_lt, not, Option, None}
use Rattle.spiffe_name.specs.Failures.{refuse_if}
use Rattle.entry_book.specs.declared.limit.Limit.{Limit}
use Rattle.entry_book.specs.declared.limit.Limit.TheVariants.{History, Entries, Agents, Bundles, Tokens}
use Rattle.entry_book.specs.Book.{Book}

-- The first limit that is passed by a book with these numbers of entries, agents, bundles and tokens that follows the one
-- at this place. The place is the number of batches committed so far.
abbrev pub limit_over : ℕ → ℕ → ℕ → ℕ → ℕ → Option Limit
limit_over place entries agents bundles tokens =
    refuse_if (not (nat_lt place (2 ^ 48))) History (
    refuse_if (nat_lt 16384 entries) Entries (
    refuse_if (nat_lt 4096 agents) Agents (
    refuse_if (nat_lt 1024 bundles) Bundles (
    refuse_if (nat_lt 65536 tokens) Tokens
    None))))

-- the first limit that this book passes, if any
abbrev pub limit_passed : ℕ → Book → Option Limit
limit_passed place b = limit_over place (length b.entries) (length b.agents) (length b.bundles) (length b.tokens)

-- the limits of the four kinds of rows
pub record IsWithinLimits (b : Book) : Type 0 where
  pub entries : length b.entries ≤ 16384
  pub agents : length b.agents ≤ 4096
  pub bundles : length b.bundles ≤ 1024
  pub tokens : length b.tokens ≤ 65536
