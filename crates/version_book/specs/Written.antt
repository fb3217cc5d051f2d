-- The writes of the crate's own type as writes of a book. The write of a token has no place yet: it is 0, because the number of
-- the book that the batch adds isn't known.
use Rattle.std.specs.Prelude.{◌≡◌, ℕ, List, map, None, Some, IfSome, option_map}
use Rattle.entry_book.specs.declared.kept.KeptBatch.{KeptBatch}
use Rattle.entry_book.specs.Rows.{entry_key, agent_key, bundle_key}
use Rattle.entry_book.specs.Tokens.{token_key}
use Rattle.entry_book.specs.Writes.{RowWrite as BookWrite, wrote_entry, wrote_agent, wrote_bundle, wrote_token}
use Rattle.version_book.specs.declared.changes.RowWrite.{RowWrite}
use Rattle.version_book.specs.declared.changes.RowWrite.TheVariants as write

-- the write of a token has no old row
abbrev pub write_of : RowWrite → BookWrite
write_of (write.Entry c) = wrote_entry (record { key = c.key; old = c.old; new = c.new })
write_of (write.Agent c) = wrote_agent (record { key = c.key; old = c.old; new = c.new })
write_of (write.Bundle c) = wrote_bundle (record { key = c.key; old = c.old; new = c.new })
write_of (write.Token c) = wrote_token (record { key = c.token; old = None; new = Some (record { token = c.token; ops = c.ops; place = 0; replies = c.replies }) })

-- the row that the write puts, if it puts one, has the key of the write
abbrev pub HasOwnKey : BookWrite → Type 0
HasOwnKey (wrote_entry c) = IfSome c.new (λ entry. entry_key entry ≡ c.key)
HasOwnKey (wrote_agent c) = IfSome c.new (λ agent. agent_key agent ≡ c.key)
HasOwnKey (wrote_bundle c) = IfSome c.new (λ bundle. bundle_key bundle ≡ c.key)
HasOwnKey (wrote_token c) = IfSome c.new (λ kept. token_key kept ≡ c.key)

-- ---- setting the number of the book that a batch adds as the place of its stored batch

-- the stored batch with this place
abbrev pub at_place : ℕ → KeptBatch → KeptBatch
at_place n k = record k { place = n }

-- the write; if it is that of a token, with this place
abbrev pub placed_write : ℕ → BookWrite → BookWrite
placed_write n (wrote_token c) = wrote_token (record c { new = option_map (at_place n) c.new })
placed_write n w = w

-- the writes, with this place in that of a token
abbrev pub placed : ℕ → List BookWrite → List BookWrite
placed n writes = map (placed_write n) writes
