-- When two lists of operations are the same: operation by operation, of the same kind and with the same parts. A theorem
-- says that they are then equal lists.
use Rattle.std.specs.Prelude.{Bool, true, false, ◌&&◌, List, bytes_eq, nat_eq}
use Rattle.std.specs.Option.{option_eq}
use Rattle.std.specs.Cmp.Lexicographic.{pointwise}
use Rattle.spiffe_name.specs.SelectorSet.{set_eq}
use Rattle.entry_book.specs.declared.agent.Agent.{Agent}
use Rattle.entry_book.specs.declared.entry.NewEntry.{NewEntry}
use Rattle.entry_book.specs.declared.mode.DropMode.{DropMode}
use Rattle.entry_book.specs.declared.mode.DropMode.TheVariants as drop
use Rattle.entry_book.specs.declared.op.Op.{Op}
use Rattle.entry_book.specs.declared.op.Op.TheVariants.{Create, Update, Delete, Show, ShowAgent, ShowBundle, Children, Page, Authorised, Trust, Prune, SetAgent, DropAgent, SetBundle, DropBundle}
use Rattle.entry_book.specs.declared.page.Filter.{Filter}
use Rattle.entry_book.specs.declared.page.MatchMode.{MatchMode}
use Rattle.entry_book.specs.declared.page.MatchMode.TheVariants as mode
use Rattle.entry_book.specs.declared.page.PageQuery.{PageQuery}
use Rattle.entry_book.specs.declared.page.SelectorMatch.{SelectorMatch}

abbrev pub entry_eq : NewEntry → NewEntry → Bool
entry_eq e f = bytes_eq e.id f.id && bytes_eq e.parent f.parent && bytes_eq e.identity f.identity && set_eq e.selectors f.selectors && bytes_eq e.hint f.hint && pointwise bytes_eq e.domains f.domains && nat_eq e.expiry f.expiry && nat_eq e.x509_svid_ttl f.x509_svid_ttl && nat_eq e.jwt_svid_ttl f.jwt_svid_ttl

abbrev pub agent_eq : Agent → Agent → Bool
agent_eq a b = bytes_eq a.id b.id && set_eq a.selectors b.selectors

abbrev pub drop_mode_eq : DropMode → DropMode → Bool
drop_mode_eq drop.Restrict drop.Restrict = true
drop_mode_eq drop.Delete drop.Delete = true
drop_mode_eq drop.Dissociate drop.Dissociate = true
drop_mode_eq m n = false

abbrev pub match_mode_eq : MatchMode → MatchMode → Bool
match_mode_eq mode.Exact mode.Exact = true
match_mode_eq mode.Any mode.Any = true
match_mode_eq mode.Superset mode.Superset = true
match_mode_eq mode.Subset mode.Subset = true
match_mode_eq m n = false

abbrev pub match_eq : SelectorMatch → SelectorMatch → Bool
match_eq m n = set_eq m.selectors n.selectors && match_mode_eq m.mode n.mode

abbrev pub filter_eq : Filter → Filter → Bool
filter_eq f g = option_eq bytes_eq f.parent g.parent && option_eq bytes_eq f.identity g.identity && option_eq bytes_eq f.domain g.domain && option_eq match_eq f.selectors g.selectors

abbrev pub page_eq : PageQuery → PageQuery → Bool
page_eq q r = nat_eq q.size r.size && option_eq nat_eq q.at r.at && option_eq bytes_eq q.from r.from && filter_eq q.filter r.filter

abbrev pub op_eq : Op → Op → Bool
op_eq (Create e) (Create f) = entry_eq e f
op_eq (Update e n) (Update f m) = entry_eq e f && option_eq nat_eq n m
op_eq (Delete k n) (Delete l m) = bytes_eq k l && option_eq nat_eq n m
op_eq (Show k) (Show l) = bytes_eq k l
op_eq (ShowAgent k) (ShowAgent l) = bytes_eq k l
op_eq (ShowBundle d) (ShowBundle c) = bytes_eq d c
op_eq (Children p) (Children q) = bytes_eq p q
op_eq (Page q) (Page r) = page_eq q r
op_eq (Authorised k) (Authorised l) = bytes_eq k l
op_eq (Trust k) (Trust l) = bytes_eq k l
op_eq (Prune t) (Prune u) = nat_eq t u
op_eq (SetAgent a) (SetAgent b) = agent_eq a b
op_eq (DropAgent k) (DropAgent l) = bytes_eq k l
op_eq (SetBundle d text) (SetBundle c words) = bytes_eq d c && bytes_eq text words
op_eq (DropBundle d m) (DropBundle c n) = bytes_eq d c && drop_mode_eq m n
op_eq op other = false

abbrev pub ops_eq : List Op → List Op → Bool
ops_eq = pointwise op_eq
