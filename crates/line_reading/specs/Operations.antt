-- Which operation an object parses to, or the first fault found in it. The lines of each reader are in the order of the format's
-- checks.
use Rattle.std.specs.Prelude.{ℕ, ◌+◌, List, [], ◌∷◌, Option, Some, None, Result, Ok, Err, bytes_eq, codes, unwrap_or, if◌then◌else◌}
use Rattle.serde_json.specs.Data.{Data, Items, no_items, item, Members}
use Rattle.serde_json.specs.Find.{as_object}
use Rattle.rand_chacha.specs.ChaCha.{ChaCha}
use Rattle.entry_book.specs.declared.entry.NewEntry.{NewEntry}
use Rattle.entry_book.specs.declared.mode.DropMode.TheVariants.{Restrict}
use Rattle.entry_book.specs.declared.op.Op.{Op}
use Rattle.entry_book.specs.declared.page.Filter.{Filter}
use Rattle.entry_book.specs.declared.page.MatchMode.{MatchMode}
use Rattle.entry_book.specs.declared.page.MatchMode.TheVariants.{Superset}
use Rattle.entry_book.specs.declared.page.SelectorMatch.{SelectorMatch}
use Rattle.spiffe_name.specs.Selector.{SelectorPair}
use Rattle.entry_book.specs.declared.op.Op.TheVariants.{Create, Update, Delete, Show, ShowAgent, ShowBundle, Children, Page, Authorised, Trust, Prune, SetAgent, DropAgent, SetBundle, DropBundle}
use Rattle.line_reading.specs.declared.fault.Code.TheVariants as code
use Rattle.line_reading.specs.declared.fault.Fault.{Fault}
use Rattle.line_reading.specs.declared.fault.Key.TheVariants as key
use Rattle.line_reading.specs.declared.ids.MissingId.{MissingId}
use Rattle.line_reading.specs.Fields.{◌>>=◌, at_key, with_ids, required, text_at, optional_text_at, optional_mode_at, number_at, optional_number_at, id_at, optional_id_at, domain_at, optional_domain_at, uuid_at, optional_uuid_at, new_uuid_at, selectors_at, optional_selectors_at, optional_match_at, optional_domains_at, no_others}

-- ---- entries

-- the entry of this id; by default its hint and its set of domains are empty, and its expiry and both lifetimes are 0
unfoldable pub entry_in : List ℕ → Data → Result NewEntry Fault
entry_in id d = do
  parent ← id_at key.Parent d
  identity ← id_at key.Identity d
  selectors ← selectors_at key.Selectors d
  hint ← optional_text_at key.Hint d
  domains ← optional_domains_at key.Domains d
  expiry ← optional_number_at key.Expiry d
  x509 ← optional_number_at key.X509SvidTtl d
  jwt ← optional_number_at key.JwtSvidTtl d
  Ok (record { id = id; parent = parent; identity = identity; selectors = selectors; hint = unwrap_or hint []; domains = unwrap_or domains []; expiry = unwrap_or expiry 0; x509_svid_ttl = unwrap_or x509 0; jwt_svid_ttl = unwrap_or jwt 0 })

-- the create, and the ids that are left; if the entry has no id, one is drawn, or the entry is refused
unfoldable pub create_in : MissingId → ChaCha → Data → Members → Result (Op × ChaCha) Fault
create_in missing ids d ms = do
  id ← new_uuid_at missing ids key.Id d
  entry ← entry_in id.0 d
  none ← no_others (key.Op ∷ key.Id ∷ key.Parent ∷ key.Identity ∷ key.Selectors ∷ key.Hint ∷ key.Domains ∷ key.Expiry ∷ key.X509SvidTtl ∷ key.JwtSvidTtl ∷ []) ms
  Ok (Create entry, id.1)

unfoldable pub update_in : Data → Members → Result Op Fault
update_in d ms = do
  id ← uuid_at key.Id d
  entry ← entry_in id d
  expected ← optional_number_at key.Revision d
  none ← no_others (key.Op ∷ key.Id ∷ key.Parent ∷ key.Identity ∷ key.Selectors ∷ key.Hint ∷ key.Domains ∷ key.Expiry ∷ key.X509SvidTtl ∷ key.JwtSvidTtl ∷ key.Revision ∷ []) ms
  Ok (Update entry expected)

unfoldable pub delete_in : Data → Members → Result Op Fault
delete_in d ms = do
  id ← uuid_at key.Id d
  expected ← optional_number_at key.Revision d
  none ← no_others (key.Op ∷ key.Id ∷ key.Revision ∷ []) ms
  Ok (Delete id expected)

unfoldable pub show_in : Data → Members → Result Op Fault
show_in d ms = do
  id ← uuid_at key.Id d
  none ← no_others (key.Op ∷ key.Id ∷ []) ms
  Ok (Show id)

unfoldable pub children_in : Data → Members → Result Op Fault
children_in d ms = do
  parent ← id_at key.Parent d
  none ← no_others (key.Op ∷ key.Parent ∷ []) ms
  Ok (Children parent)

-- a filter's condition on selectors: by default an entry's set contains the given ones; without selectors there is none, and a
-- mode is a fault
abbrev pub selector_match : Option (List SelectorPair) → Option MatchMode → Result (Option SelectorMatch) Fault
selector_match None None = Ok None
selector_match None (Some mode) = at_key code.Field key.Match
selector_match (Some selectors) mode = Ok (Some (record { selectors = selectors; mode = unwrap_or mode Superset }))

unfoldable pub filter_in : Data → Result Filter Fault
filter_in d = do
  parent ← optional_id_at key.Parent d
  identity ← optional_id_at key.Identity d
  domain ← optional_domain_at key.Domain d
  selectors ← optional_selectors_at key.Selectors d
  mode ← optional_match_at key.Match d
  question ← selector_match selectors mode
  Ok (record { parent = parent; identity = identity; domain = domain; selectors = question })

unfoldable pub page_in : Data → Members → Result Op Fault
page_in d ms = do
  size ← number_at key.Size d
  at ← optional_number_at key.At d
  from ← optional_uuid_at key.From d
  filter ← filter_in d
  none ← no_others (key.Op ∷ key.Size ∷ key.At ∷ key.From ∷ key.Parent ∷ key.Identity ∷ key.Domain ∷ key.Selectors ∷ key.Match ∷ []) ms
  Ok (Page (record { size = size; at = at; from = from; filter = filter }))

unfoldable pub prune_in : Data → Members → Result Op Fault
prune_in d ms = do
  moment ← number_at key.Before d
  none ← no_others (key.Op ∷ key.Before ∷ []) ms
  Ok (Prune moment)

-- ---- agents

-- the one key of an operation that only names an agent
unfoldable pub agent_in : Data → Members → Result (List ℕ) Fault
agent_in d ms = do
  agent ← id_at key.Agent d
  none ← no_others (key.Op ∷ key.Agent ∷ []) ms
  Ok agent

unfoldable pub show_agent_in : Data → Members → Result Op Fault
show_agent_in d ms = do
  agent ← agent_in d ms
  Ok (ShowAgent agent)

unfoldable pub authorised_in : Data → Members → Result Op Fault
authorised_in d ms = do
  agent ← agent_in d ms
  Ok (Authorised agent)

unfoldable pub trust_in : Data → Members → Result Op Fault
trust_in d ms = do
  agent ← agent_in d ms
  Ok (Trust agent)

unfoldable pub set_agent_in : Data → Members → Result Op Fault
set_agent_in d ms = do
  agent ← id_at key.Agent d
  selectors ← selectors_at key.Selectors d
  none ← no_others (key.Op ∷ key.Agent ∷ key.Selectors ∷ []) ms
  Ok (SetAgent (record { id = agent; selectors = selectors }))

unfoldable pub drop_agent_in : Data → Members → Result Op Fault
drop_agent_in d ms = do
  agent ← agent_in d ms
  Ok (DropAgent agent)

-- ---- bundles

unfoldable pub show_bundle_in : Data → Members → Result Op Fault
show_bundle_in d ms = do
  domain ← domain_at key.Domain d
  none ← no_others (key.Op ∷ key.Domain ∷ []) ms
  Ok (ShowBundle domain)

unfoldable pub set_bundle_in : Data → Members → Result Op Fault
set_bundle_in d ms = do
  domain ← domain_at key.Domain d
  text ← text_at key.Text d
  none ← no_others (key.Op ∷ key.Domain ∷ key.Text ∷ []) ms
  Ok (SetBundle domain text)

-- the mode is Restrict by default
unfoldable pub drop_bundle_in : Data → Members → Result Op Fault
drop_bundle_in d ms = do
  domain ← domain_at key.Domain d
  mode ← optional_mode_at key.Mode d
  none ← no_others (key.Op ∷ key.Domain ∷ key.Mode ∷ []) ms
  Ok (DropBundle domain (unwrap_or mode Restrict))

-- ---- operations by their names

-- an operation that draws no id
abbrev pub undrawn_in : List ℕ → Data → Members → Result Op Fault
undrawn_in name d ms =
    if bytes_eq name (codes "update") then update_in d ms else (
    if bytes_eq name (codes "delete") then delete_in d ms else (
    if bytes_eq name (codes "show") then show_in d ms else (
    if bytes_eq name (codes "show_agent") then show_agent_in d ms else (
    if bytes_eq name (codes "show_bundle") then show_bundle_in d ms else (
    if bytes_eq name (codes "children") then children_in d ms else (
    if bytes_eq name (codes "page") then page_in d ms else (
    if bytes_eq name (codes "authorised") then authorised_in d ms else (
    if bytes_eq name (codes "trust") then trust_in d ms else (
    if bytes_eq name (codes "prune") then prune_in d ms else (
    if bytes_eq name (codes "set_agent") then set_agent_in d ms else (
    if bytes_eq name (codes "drop_agent") then drop_agent_in d ms else (
    if bytes_eq name (codes "set_bundle") then set_bundle_in d ms else (
    if bytes_eq name (codes "drop_bundle") then drop_bundle_in d ms else
    at_key code.Field key.Op)))))))))))))

abbrev pub named_op : MissingId → ChaCha → List ℕ → Data → Members → Result (Op × ChaCha) Fault
named_op missing ids name d ms = if bytes_eq name (codes "create") then create_in missing ids d ms else with_ids ids (undrawn_in name d ms)

unfoldable pub op_in : MissingId → ChaCha → Data → Result (Op × ChaCha) Fault
op_in missing ids d = do
  ms ← required key.Ops (as_object d)
  name ← text_at key.Op d
  named_op missing ids name d ms

-- a fault in the operation of this index
abbrev pub at_op : {A : Type 0} → ℕ → Result A Fault → Result A Fault
at_op index (Ok x) = Ok x
at_op index (Err fault) = Err (record { code = fault.code; field = fault.field; op = Some index })

-- the operations of a list, of which the first has this index, and the ids that are left; each operation draws from the ids that
-- the one before it left
abbrev pub ops_in : ℕ → MissingId → ChaCha → Items → Result (List Op × ChaCha) Fault
ops_in index missing ids no_items = Ok ([], ids)
ops_in index missing ids (item d ds) = do
  op ← at_op index (op_in missing ids d)
  ops ← ops_in (index + 1) missing op.1 ds
  Ok (op.0 ∷ ops.0, ops.1)
