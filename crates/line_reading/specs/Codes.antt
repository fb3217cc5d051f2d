-- The texts of codes and keys.
use Rattle.std.specs.Prelude.{ℕ, List, codes}
use Rattle.spiffe_name.specs.Codes.{id_code, selector_code}
use Rattle.entry_book.specs.Codes.{batch_code}
use Rattle.line_reading.specs.declared.fault.Key.{Key}
use Rattle.line_reading.specs.declared.fault.Key.TheVariants as key
use Rattle.line_reading.specs.declared.fault.Field.{Field}
use Rattle.line_reading.specs.declared.fault.Field.TheVariants as field
use Rattle.line_reading.specs.declared.fault.Code.{Code}
use Rattle.line_reading.specs.declared.fault.Code.TheVariants as code

abbrev pub key_name : Key → List ℕ
key_name key.Ops = codes "ops"
key_name key.After = codes "after"
key_name key.Token = codes "token"
key_name key.Tries = codes "tries"
key_name key.Event = codes "event"
key_name key.Call = codes "call"
key_name key.Batch = codes "batch"
key_name key.Invoked = codes "invoked"
key_name key.Replied = codes "replied"
key_name key.Reply = codes "reply"
key_name key.Op = codes "op"
key_name key.Id = codes "id"
key_name key.Parent = codes "parent"
key_name key.Identity = codes "identity"
key_name key.Selectors = codes "selectors"
key_name key.Hint = codes "hint"
key_name key.Domains = codes "domains"
key_name key.Expiry = codes "expiry"
key_name key.X509SvidTtl = codes "x509_svid_ttl"
key_name key.JwtSvidTtl = codes "jwt_svid_ttl"
key_name key.Revision = codes "revision"
key_name key.Agent = codes "agent"
key_name key.Domain = codes "domain"
key_name key.Before = codes "before"
key_name key.Text = codes "text"
key_name key.Mode = codes "mode"
key_name key.Size = codes "size"
key_name key.At = codes "at"
key_name key.From = codes "from"
key_name key.Match = codes "match"

abbrev pub field_text : Field → List ℕ
field_text (field.Known k) = key_name k
field_text (field.Unknown text) = text

abbrev pub code_text : Code → List ℕ
code_text code.LineTooLong = codes "L1"
code_text code.NotJson = codes "L2"
code_text code.Truncated = codes "L3"
code_text code.NotObject = codes "L4"
code_text code.Field = codes "L5"
code_text code.NotUuid = codes "U1"
code_text (code.Id r) = id_code r
code_text (code.Selector r) = selector_code r
code_text (code.Batch r) = batch_code r
