-- What has no fault, in direct words. Theorems of this crate say that the tables of faults find none exactly in these.
use Rattle.std.specs.Prelude.{◌≢◌, ⊤, ◌<◌, ◌≤◌, List, ◌∷◌, codes, length, IfSome}
use Rattle.spiffe_name.specs.Id.{Spells, server_text}
use Rattle.entry_book.specs.declared.agent.Agent.{Agent}
use Rattle.entry_book.specs.declared.entry.NewEntry.{NewEntry}
use Rattle.entry_book.specs.declared.op.Op.{Op}
use Rattle.entry_book.specs.declared.page.PageQuery.{PageQuery}
use Rattle.entry_book.specs.declared.op.Op.TheVariants.{Create, Update, Delete, Show, ShowAgent, ShowBundle, Children, Page, Authorised, Trust, Prune, SetAgent, DropAgent, SetBundle, DropBundle}
use Rattle.entry_book.specs.Rows.{Bytes}

-- an ID of the trust domain, with a path
abbrev pub IsIdOf : Bytes → Bytes → Type 0
IsIdOf own_domain id = (segment : Bytes) × (more : List Bytes) × Spells id own_domain (segment ∷ more)

-- an ID of the trust domain whose path continues after /spire/agent
abbrev pub IsAgentIdOf : Bytes → Bytes → Type 0
IsAgentIdOf own_domain id = (segment : Bytes) × (more : List Bytes) × Spells id own_domain (codes "spire" ∷ codes "agent" ∷ segment ∷ more)

-- An entry that a batch may create or update.
pub record FaultlessEntry (own_domain : Bytes) (e : NewEntry) : Type 0 where
  pub parent : IsIdOf own_domain e.parent
  pub identity : IsIdOf own_domain e.identity
  pub not_server : e.identity ≢ server_text own_domain
  pub some_selectors : 0 < length e.selectors
  pub selectors : length e.selectors ≤ 16
  pub domains : length e.domains ≤ 8
  pub hint : length e.hint ≤ 1024

-- An agent that a batch may set.
pub record FaultlessAgent (own_domain : Bytes) (a : Agent) : Type 0 where
  pub id : IsAgentIdOf own_domain a.id
  pub selectors : length a.selectors ≤ 64

-- A bundle that a batch may set: its domain and its text.
pub record FaultlessBundle (own_domain domain text : Bytes) : Type 0 where
  pub not_own : domain ≢ own_domain
  pub short : length text ≤ 65536

-- A query for a page that a batch may contain.
pub record FaultlessPage (own_domain : Bytes) (q : PageQuery) : Type 0 where
  pub parent : IfSome q.filter.parent (IsIdOf own_domain)
  pub identity : IfSome q.filter.identity (IsIdOf own_domain)
  pub selectors : IfSome q.filter.selectors (λ m. (0 < length m.selectors) × (length m.selectors ≤ 16))
  pub some_room : 0 < q.size
  pub size : q.size ≤ 500

-- an operation that a batch may contain
abbrev pub FaultlessOp : Bytes → Op → Type 0
FaultlessOp own_domain (Create e) = FaultlessEntry own_domain e
FaultlessOp own_domain (Update e expected) = FaultlessEntry own_domain e
FaultlessOp own_domain (Delete k expected) = ⊤
FaultlessOp own_domain (Show k) = ⊤
FaultlessOp own_domain (ShowAgent k) = IsAgentIdOf own_domain k
FaultlessOp own_domain (ShowBundle domain) = ⊤
FaultlessOp own_domain (Children p) = IsIdOf own_domain p
FaultlessOp own_domain (Page q) = FaultlessPage own_domain q
FaultlessOp own_domain (Authorised k) = IsAgentIdOf own_domain k
FaultlessOp own_domain (Trust k) = IsAgentIdOf own_domain k
FaultlessOp own_domain (Prune moment) = ⊤
FaultlessOp own_domain (SetAgent a) = FaultlessAgent own_domain a
FaultlessOp own_domain (DropAgent k) = IsAgentIdOf own_domain k
FaultlessOp own_domain (SetBundle domain text) = FaultlessBundle own_domain domain text
FaultlessOp own_domain (DropBundle domain mode) = domain ≢ own_domain
