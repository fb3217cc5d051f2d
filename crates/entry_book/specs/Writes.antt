-- How a book changes: by writes of single rows.
use Rattle.std.specs.Prelude.{◌≡◌, ⊤, List, [], ◌∷◌, filter, Option, option_to_list, IfSome, bytes_eq}
use Rattle.entry_book.specs.declared.agent.Agent.{Agent}
use Rattle.entry_book.specs.declared.bundle.Bundle.{Bundle}
use Rattle.entry_book.specs.declared.kept.KeptBatch.{KeptBatch}
use Rattle.entry_book.specs.Rows.{Bytes, Entry, entry_key, agent_key, bundle_key}
use Rattle.entry_book.specs.Tokens.{token_key}
use Rattle.entry_book.specs.Order.{with_row}
use Rattle.entry_book.specs.Book.{Book}

-- The change of one row: the row at a key as it was found, and as it is written. Either may be absent.
pub record RowChange (X : Type 0) : Type 0 where
  pub key : Bytes
  pub old : Option X
  pub new : Option X

-- The write of one row, of any kind.
pub data RowWrite : Type 0 where
  wrote_entry : RowChange Entry → RowWrite
  wrote_agent : RowChange Agent → RowWrite
  wrote_bundle : RowChange Bundle → RowWrite
  wrote_token : RowChange KeptBatch → RowWrite

-- the book after one write
abbrev pub after_write : RowWrite → Book → Book
after_write (wrote_entry c) b = record b { entries = with_row entry_key c.key c.new b.entries }
after_write (wrote_agent c) b = record b { agents = with_row agent_key c.key c.new b.agents }
after_write (wrote_bundle c) b = record b { bundles = with_row bundle_key c.key c.new b.bundles }
after_write (wrote_token c) b = record b { tokens = with_row token_key c.key c.new b.tokens }

-- the book after these writes, one after another
abbrev pub after : List RowWrite → Book → Book
after [] b = b
after (w ∷ ws) b = after ws (after_write w b)

-- ---- a write finds the row that it names as old, or no row if it names none, and the new row has its key

-- The change finds its row among these rows.
pub record FitsRows {X : Type 0} (row_key : X → Bytes) (c : RowChange X) (rows : List X) : Type 0 where
  pub found : filter (λ x. bytes_eq (row_key x) c.key) rows ≡ option_to_list c.old
  pub keyed : IfSome c.new (λ x. row_key x ≡ c.key)

-- the write finds its row in the book
abbrev pub FitsBook : RowWrite → Book → Type 0
FitsBook (wrote_entry c) b = FitsRows entry_key c b.entries
FitsBook (wrote_agent c) b = FitsRows agent_key c b.agents
FitsBook (wrote_bundle c) b = FitsRows bundle_key c b.bundles
FitsBook (wrote_token c) b = FitsRows token_key c b.tokens

-- each on the book that the earlier ones left
abbrev pub FitAll : List RowWrite → Book → Type 0
FitAll [] b = ⊤
FitAll (w ∷ ws) b = FitsBook w b × FitAll ws (after_write w b)
