-- What a book stores for a batch that was committed with a token. A stored batch is the record of the crate's own type
-- `KeptBatch`.
use Rattle.entry_book.specs.declared.kept.KeptBatch.{KeptBatch}
use Rattle.entry_book.specs.Rows.{Bytes}

-- the key of a stored batch
abbrev pub token_key : KeptBatch → Bytes
token_key k = k.token
