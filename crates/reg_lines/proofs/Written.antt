-- Values whose parts satisfy the type invariants.
use Rattle.std.proofs.Common.{ℕ, List, Option, None, Some, IsUtf8, refl}
use Rattle.std.specs.Prelude.{codes}
use Rattle.serde_json.specs.Data.{Data, string, Members, no_members, put}
use Rattle.json.proofs.Printed.Utf8.{IsUtf8-are_ascii}
use Rattle.entry_book.specs.Codes.{refusal_code, refusal_op}
use Rattle.entry_book.specs.declared.mode.DropMode.{DropMode}
use Rattle.entry_book.specs.declared.mode.DropMode.TheVariants.{Restrict, Delete, Dissociate}
use Rattle.entry_book.specs.declared.page.MatchMode.{MatchMode}
use Rattle.entry_book.specs.declared.page.MatchMode.TheVariants.{Exact, Any, Superset, Subset}
use Rattle.entry_book.specs.declared.page.PageQuery.{PageQuery}
use Rattle.entry_book.specs.declared.page.SelectorMatch.{SelectorMatch}
use Rattle.entry_book.specs.declared.reply.OpReply.{OpReply}
use Rattle.entry_book.specs.declared.reply.Refusal.{Refusal}
use Rattle.reg_lines.specs.RecordLines.{match_text, mode_text}
use Rattle.reg_lines.specs.RecordValues.{selectors_data, children_data, delete_data, drop_bundle_data, keyed_op_data, match_data, page_op_data, set_bundle_data}
use Rattle.reg_lines.specs.Spelled.{IsTyped, MembersAreTyped}
use Rattle.reg_lines.specs.Values.{detail, done_data, if_due, list_data, op_reply_data, option_data, refused_data, uuid_data, whole}
use Rattle.reg_lines.proofs.Typed.{typed-put}

-- an optional member
typed-due : {A : Type 0} (k : List ℕ) (f : A → Data) (o : Option A) (ms : Members) → IsTyped (option_data f o) → MembersAreTyped ms → MembersAreTyped (if_due k f o ms)
typed-due k f None ms t m = m
typed-due k f (Some x) ms t m = typed-put k (f x) ms t m

-- ---- operations

pub keyed-typed : (key : List ℕ) (d : Data) (word : List ℕ) → IsTyped d → IsUtf8 word → IsTyped (keyed_op_data key d word)
keyed-typed key d word t u = typed-put key d (put (codes "op") (string word) no_members) t (typed-put (codes "op") (string word) no_members u tt)

pub children-typed : (parent : List ℕ) → IsUtf8 parent → IsTyped (children_data parent)
children-typed parent t =
    let with_parent : Members = put (codes "parent") (string parent) no_members in
    typed-put (codes "op") (string (codes "children")) with_parent (IsUtf8-are_ascii _ refl) (typed-put (codes "parent") (string parent) no_members t tt)

pub delete-typed : (id : List ℕ) (expected : Option ℕ) → IsTyped (uuid_data id) → IsTyped (option_data whole expected) → IsTyped (delete_data id expected)
delete-typed id expected t e =
    let rest : Members = if_due (codes "revision") whole expected no_members in
    typed-put (codes "id") (uuid_data id) (put (codes "op") (string (codes "delete")) rest) t
    (typed-put (codes "op") (string (codes "delete")) rest (IsUtf8-are_ascii _ refl)
    (typed-due (codes "revision") whole expected no_members e tt))

match_mode-text : (mode : MatchMode) → IsUtf8 (match_text mode)
match_mode-text Exact = IsUtf8-are_ascii _ refl
match_mode-text Any = IsUtf8-are_ascii _ refl
match_mode-text Superset = IsUtf8-are_ascii _ refl
match_mode-text Subset = IsUtf8-are_ascii _ refl

match-typed : (condition : Option SelectorMatch) → IsTyped (option_data match_data condition)
match-typed None = tt
match-typed (Some condition) = match_mode-text condition.mode

pub page-typed : (q : PageQuery) → IsTyped (whole q.size) → IsTyped (option_data whole q.at) → IsTyped (option_data uuid_data q.from) → IsTyped (option_data string q.filter.parent) → IsTyped (option_data string q.filter.identity) → IsTyped (option_data string q.filter.domain) → IsTyped (option_data selectors_data q.filter.selectors) → IsTyped (page_op_data q)
page-typed q size at from parent identity domain selectors =
    let with_size : Members = put (codes "size") (whole q.size) no_members in
    let with_selectors : Members = if_due (codes "selectors") selectors_data q.filter.selectors with_size in
    let with_parent : Members = if_due (codes "parent") string q.filter.parent with_selectors in
    let with_op : Members = put (codes "op") (string (codes "page")) with_parent in
    let with_match : Members = if_due (codes "match") match_data q.filter.selectors with_op in
    let with_identity : Members = if_due (codes "identity") string q.filter.identity with_match in
    let with_from : Members = if_due (codes "from") uuid_data q.from with_identity in
    let with_domain : Members = if_due (codes "domain") string q.filter.domain with_from in
    typed-due (codes "at") whole q.at with_domain at
    (typed-due (codes "domain") string q.filter.domain with_from domain
    (typed-due (codes "from") uuid_data q.from with_identity from
    (typed-due (codes "identity") string q.filter.identity with_match identity
    (typed-due (codes "match") match_data q.filter.selectors with_op (match-typed q.filter.selectors)
    (typed-put (codes "op") (string (codes "page")) with_parent (IsUtf8-are_ascii _ refl)
    (typed-due (codes "parent") string q.filter.parent with_selectors parent
    (typed-due (codes "selectors") selectors_data q.filter.selectors with_size selectors
    (typed-put (codes "size") (whole q.size) no_members size tt))))))))

pub set_bundle-typed : (domain text : List ℕ) → IsUtf8 domain → IsUtf8 text → IsTyped (set_bundle_data domain text)
set_bundle-typed domain text d t =
    let with_text : Members = put (codes "text") (string text) no_members in
    typed-put (codes "domain") (string domain) (put (codes "op") (string (codes "set_bundle")) with_text) d
    (typed-put (codes "op") (string (codes "set_bundle")) with_text (IsUtf8-are_ascii _ refl)
    (typed-put (codes "text") (string text) no_members t tt))

drop_mode-text : (mode : DropMode) → IsUtf8 (mode_text mode)
drop_mode-text Restrict = IsUtf8-are_ascii _ refl
drop_mode-text Delete = IsUtf8-are_ascii _ refl
drop_mode-text Dissociate = IsUtf8-are_ascii _ refl

pub drop_bundle-typed : (domain : List ℕ) (mode : DropMode) → IsUtf8 domain → IsTyped (drop_bundle_data domain mode)
drop_bundle-typed domain mode d =
    let with_op : Members = put (codes "op") (string (codes "drop_bundle")) no_members in
    typed-put (codes "domain") (string domain) (put (codes "mode") (string (mode_text mode)) with_op) d
    (typed-put (codes "mode") (string (mode_text mode)) with_op (drop_mode-text mode)
    (typed-put (codes "op") (string (codes "drop_bundle")) no_members (IsUtf8-are_ascii _ refl) tt))

-- ---- replies

pub done-typed : (call place : ℕ) (replies : List OpReply) (word : List ℕ) → IsTyped (whole call) → IsTyped (whole place) → IsTyped (list_data op_reply_data replies) → IsUtf8 word → IsTyped (done_data call place replies word)
done-typed call place replies word c p r w =
    let with_word : Members = put (codes "result") (string word) no_members in
    let with_replies : Members = put (codes "replies") (list_data op_reply_data replies) with_word in
    typed-put (codes "call") (whole call) (put (codes "place") (whole place) with_replies) c
    (typed-put (codes "place") (whole place) with_replies p
    (typed-put (codes "replies") (list_data op_reply_data replies) with_word r
    (typed-put (codes "result") (string word) no_members w tt)))

pub refused-typed : (call place : ℕ) (refusal : Refusal) → IsTyped (whole call) → IsTyped (whole place) → IsUtf8 (refusal_code refusal) → IsTyped (option_data string (detail refusal)) → IsTyped (option_data whole (refusal_op refusal)) → IsTyped (refused_data call place refusal)
refused-typed call place refusal c p u d o =
    let with_word : Members = put (codes "result") (string (codes "refused")) no_members in
    let with_place : Members = put (codes "place") (whole place) with_word in
    let with_op : Members = if_due (codes "op") whole (refusal_op refusal) with_place in
    let with_detail : Members = if_due (codes "detail") string (detail refusal) with_op in
    typed-put (codes "call") (whole call) (put (codes "code") (string (refusal_code refusal)) with_detail) c
    (typed-put (codes "code") (string (refusal_code refusal)) with_detail u
    (typed-due (codes "detail") string (detail refusal) with_op d
    (typed-due (codes "op") whole (refusal_op refusal) with_place o
    (typed-put (codes "place") (whole place) with_word p
    (typed-put (codes "result") (string (codes "refused")) no_members (IsUtf8-are_ascii _ refl) tt)))))
