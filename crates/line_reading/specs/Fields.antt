-- The values at the keys of an object: a small reader for each kind of key, which gives the value or a fault. The lines of a
-- reader are in the order in which it looks for faults. A name in `_in` reads a value for a key, a name in `_at` the value at the
-- key, and a name with `optional` gives None if the key is absent or null.
use Rattle.std.specs.Prelude.{◌≡◌, ◌⊎◌, ℕ, List, [], ◌∷◌, Option, Some, None, Result, Ok, Err, ⊤, Bool, false, true, ◌&&◌, not, nat_lt, is_some, option_and_then, unwrap_or, bytes_eq, codes, if◌then◌else◌}
use Rattle.std.specs.List.{list_any}
use Rattle.serde_json.specs.Data.{Data, Items, no_items, item, Members, no_members, member}
use Rattle.serde_json.specs.Find.{get, as_null, as_number, as_str, as_array, as_u64}
use Rattle.uuid.specs.Text.{parsed}
use Rattle.spiffe_name.specs.declared.refusals.Failure.{Failure}
use Rattle.spiffe_name.specs.declared.refusals.Failure.TheVariants.{NoMemory, Refused}
use Rattle.spiffe_name.specs.Domain.{domain_refusal}
use Rattle.spiffe_name.specs.Id.{id_refusal}
use Rattle.spiffe_name.specs.Selector.{SelectorPair, pair_of, selector_refusal}
use Rattle.spiffe_name.specs.SelectorSet.{set_of}
use Rattle.entry_book.specs.Order.{is_before}
use Rattle.entry_book.specs.Rows.{domain_set}
use Rattle.entry_book.specs.declared.mode.DropMode.{DropMode}
use Rattle.entry_book.specs.declared.mode.DropMode.TheVariants.{Restrict, Delete, Dissociate}
use Rattle.entry_book.specs.declared.page.MatchMode.{MatchMode}
use Rattle.entry_book.specs.declared.page.MatchMode.TheVariants.{Exact, Any, Superset, Subset}
use Rattle.rand_chacha.specs.ChaCha.{ChaCha}
use Rattle.line_reading.specs.declared.fault.Code.{Code}
use Rattle.line_reading.specs.declared.fault.Code.TheVariants as code
use Rattle.line_reading.specs.declared.fault.Fault.{Fault}
use Rattle.line_reading.specs.declared.fault.Field.TheVariants.{Known, Unknown}
use Rattle.line_reading.specs.declared.fault.Key.{Key}
use Rattle.line_reading.specs.declared.ids.MissingId.{MissingId}
use Rattle.line_reading.specs.declared.ids.MissingId.TheVariants as missing
use Rattle.line_reading.specs.Codes.{key_name}
use Rattle.line_reading.specs.Ids.{given_or_drawn}

-- The error of a function agrees with the result of a reader, `spelled`: it is the same fault. Out of memory says nothing about
-- `spelled`.
abbrev pub Fails : {Y : Type 0} → Failure Fault → Result Y Fault → Type 0
Fails NoMemory spelled = ⊤
Fails (Refused fault) spelled = spelled ≡ Err fault

-- one reader after another; the first fault ends the sequence
infixl 10 ◌>>=◌
abbrev pub ◌>>=◌ : {A B : Type 0} → Result A Fault → (A → Result B Fault) → Result B Fault
(Ok x) >>= f = f x
(Err e) >>= f = Err e

-- a fault of the line as a whole
abbrev pub at_line : {A : Type 0} → Code → Result A Fault
at_line c = Err (record { code = c; field = None; op = None })

-- a fault at a key
abbrev pub at_key : {A : Type 0} → Code → Key → Result A Fault
at_key c key = Err (record { code = c; field = Some (Known key); op = None })

-- the value that must be at the key, or the fault `Field` at the key
abbrev pub required : {A : Type 0} → Key → Option A → Result A Fault
required key None = at_key code.Field key
required key (Some x) = Ok x

-- the value, or a fault with this code at the key, if there is a code
abbrev pub unless : {A : Type 0} → Option Code → Key → A → Result A Fault
unless None key x = Ok x
unless (Some c) key x = at_key c key

abbrev pub coded : {R : Type 0} → (R → Code) → Option R → Option Code
coded f None = None
coded f (Some r) = Some (f r)

-- the value at an optional key; null counts as absent
abbrev pub unless_null : Data → Option Data
unless_null d = if is_some (as_null d) then None else Some d

abbrev pub given_at : Key → Data → Option Data
given_at key d = option_and_then unless_null (get (key_name key) d)

abbrev pub optional : {A : Type 0} → (Data → Result A Fault) → Option Data → Result (Option A) Fault
optional read None = Ok None
optional read (Some d) = read d >>= (λ x. Ok (Some x))

-- ---- texts

unfoldable pub text_in : Key → Data → Result (List ℕ) Fault
text_in key d = required key (as_str d)

unfoldable pub text_at : Key → Data → Result (List ℕ) Fault
text_at key d = required key (option_and_then as_str (get (key_name key) d))

unfoldable pub optional_text_at : Key → Data → Result (Option (List ℕ)) Fault
optional_text_at key d = optional (text_in key) (given_at key d)

-- the words for what happens to the entries that name a dropped bundle
abbrev pub mode_of : List ℕ → Option DropMode
mode_of text =
    if bytes_eq text (codes "restrict") then Some Restrict else (
    if bytes_eq text (codes "delete") then Some Delete else (
    if bytes_eq text (codes "dissociate") then Some Dissociate else
    None))

unfoldable pub mode_in : Key → Data → Result DropMode Fault
mode_in key d = required key (option_and_then mode_of (as_str d))

unfoldable pub optional_mode_at : Key → Data → Result (Option DropMode) Fault
optional_mode_at key d = optional (mode_in key) (given_at key d)

-- the words for how the selectors of an entry are compared with those of a filter
abbrev pub match_of : List ℕ → Option MatchMode
match_of text =
    if bytes_eq text (codes "exact") then Some Exact else (
    if bytes_eq text (codes "any") then Some Any else (
    if bytes_eq text (codes "superset") then Some Superset else (
    if bytes_eq text (codes "subset") then Some Subset else
    None)))

unfoldable pub match_in : Key → Data → Result MatchMode Fault
match_in key d = required key (option_and_then match_of (as_str d))

unfoldable pub optional_match_at : Key → Data → Result (Option MatchMode) Fault
optional_match_at key d = optional (match_in key) (given_at key d)

-- ---- whole numbers

unfoldable pub number_in : Key → Data → Result ℕ Fault
number_in key d = required key (option_and_then as_u64 (as_number d))

unfoldable pub number_at : Key → Data → Result ℕ Fault
number_at key d = required key (option_and_then as_u64 (option_and_then as_number (get (key_name key) d)))

unfoldable pub optional_number_at : Key → Data → Result (Option ℕ) Fault
optional_number_at key d = optional (number_in key) (given_at key d)

-- how often a batch may be tried: 1 to 16 times
abbrev pub tries_of : ℕ → Option ℕ
tries_of n = if nat_lt 0 n && not (nat_lt 16 n) then Some n else None

-- the number of tries at an optional key: 1 if it is absent or null
unfoldable pub tries_at : Key → Data → Result ℕ Fault
tries_at key d = do
  number ← optional_number_at key d
  required key (tries_of (unwrap_or number 1))

-- ---- names

unfoldable pub id_at : Key → Data → Result (List ℕ) Fault
id_at key d = do
  text ← text_at key d
  unless (coded code.Id (id_refusal text)) key text

unfoldable pub id_in : Key → Data → Result (List ℕ) Fault
id_in key d = do
  text ← text_in key d
  unless (coded code.Id (id_refusal text)) key text

unfoldable pub optional_id_at : Key → Data → Result (Option (List ℕ)) Fault
optional_id_at key d = optional (id_in key) (given_at key d)

abbrev pub domain_or_fault : Key → List ℕ → Result (List ℕ) Fault
domain_or_fault key text = unless (coded code.Id (domain_refusal text)) key text

unfoldable pub domain_at : Key → Data → Result (List ℕ) Fault
domain_at key d = do
  text ← text_at key d
  domain_or_fault key text

abbrev pub uuid_of : Key → Option (List ℕ) → Result (List ℕ) Fault
uuid_of key None = at_key code.NotUuid key
uuid_of key (Some id) = Ok id

unfoldable pub uuid_in : Key → Data → Result (List ℕ) Fault
uuid_in key d = do
  text ← text_in key d
  uuid_of key (parsed text)

unfoldable pub uuid_at : Key → Data → Result (List ℕ) Fault
uuid_at key d = do
  text ← text_at key d
  uuid_of key (parsed text)

unfoldable pub optional_uuid_at : Key → Data → Result (Option (List ℕ)) Fault
optional_uuid_at key d = optional (uuid_in key) (given_at key d)

-- the id at an optional key, or else one that is drawn, and the ids that are left
unfoldable pub uuid_or_drawn_at : ChaCha → Key → Data → Result (List ℕ × ChaCha) Fault
uuid_or_drawn_at ids key d = do
  given ← optional (uuid_in key) (given_at key d)
  Ok (given_or_drawn given ids)

-- the result of a reader that draws no id, with all the ids
abbrev pub with_ids : {A : Type 0} → ChaCha → Result A Fault → Result (A × ChaCha) Fault
with_ids ids (Ok x) = Ok (x, ids)
with_ids ids (Err fault) = Err fault

-- the id at the key of a new entry, and the ids that are left; a missing id is drawn, or refused
abbrev pub new_uuid_at : MissingId → ChaCha → Key → Data → Result (List ℕ × ChaCha) Fault
new_uuid_at missing.Drawn ids key d = uuid_or_drawn_at ids key d
new_uuid_at missing.Refused ids key d = with_ids ids (uuid_at key d)

-- ---- lists, read item by item

unfoldable pub selector_in : Key → Data → Result SelectorPair Fault
selector_in key d = do
  text ← text_in key d
  unless (coded code.Selector (selector_refusal text)) key (pair_of text)

abbrev pub selectors_in : Key → Items → Result (List SelectorPair) Fault
selectors_in key no_items = Ok []
selectors_in key (item d ds) = do
  selector ← selector_in key d
  selectors ← selectors_in key ds
  Ok (selector ∷ selectors)

-- the set of the selectors in the list at the key
unfoldable pub selectors_at : Key → Data → Result (List SelectorPair) Fault
selectors_at key d = do
  items ← required key (option_and_then as_array (get (key_name key) d))
  selectors ← selectors_in key items
  Ok (set_of selectors)

-- the same for a value, and for an optional key
unfoldable pub selector_set_in : Key → Data → Result (List SelectorPair) Fault
selector_set_in key d = do
  items ← required key (as_array d)
  selectors ← selectors_in key items
  Ok (set_of selectors)

unfoldable pub optional_selectors_at : Key → Data → Result (Option (List SelectorPair)) Fault
optional_selectors_at key d = optional (selector_set_in key) (given_at key d)

unfoldable pub domain_in : Key → Data → Result (List ℕ) Fault
domain_in key d = do
  text ← text_in key d
  domain_or_fault key text

unfoldable pub optional_domain_at : Key → Data → Result (Option (List ℕ)) Fault
optional_domain_at key d = optional (domain_in key) (given_at key d)

abbrev pub domains_in : Key → Items → Result (List (List ℕ)) Fault
domains_in key no_items = Ok []
domains_in key (item d ds) = do
  domain ← domain_in key d
  domains ← domains_in key ds
  Ok (domain ∷ domains)

-- the set of the trust domains in the list
unfoldable pub domain_set_in : Key → Data → Result (List (List ℕ)) Fault
domain_set_in key d = do
  items ← required key (as_array d)
  domains ← domains_in key items
  Ok (domain_set domains)

-- None if the key is absent or null; an entry then has the empty set
unfoldable pub optional_domains_at : Key → Data → Result (Option (List (List ℕ))) Fault
optional_domains_at key d = optional (domain_set_in key) (given_at key d)

-- ---- no other keys

abbrev pub is_known_key : List Key → List ℕ → Bool
is_known_key keys name = list_any (λ key. bytes_eq (key_name key) name) keys

-- the lesser of two names, in the order of their bytes
abbrev pub lesser : List ℕ → Option (List ℕ) → List ℕ
lesser name None = name
lesser name (Some other) = if is_before other name then other else name

-- the least name that is not one of these keys, in the order of bytes
abbrev pub least_other : List Key → Members → Option (List ℕ)
least_other keys no_members = None
least_other keys (member name d ms) = if is_known_key keys name then least_other keys ms else Some (lesser name (least_other keys ms))

abbrev pub unless_other : Option (List ℕ) → Result ⊤ Fault
unless_other None = Ok tt
unless_other (Some name) = Err (record { code = code.Field; field = Some (Unknown name); op = None })

-- refuses an object with keys other than these; the fault names the least other key
abbrev pub no_others : List Key → Members → Result ⊤ Fault
no_others keys ms = unless_other (least_other keys ms)

-- ---- theorems on the key that is refused

abbrev pub HasKey : List ℕ → Members → Type 0
HasKey name no_members = ⊥
HasKey name (member other d ms) = (other ≡ name) ⊎ HasKey name ms

abbrev pub HasOther : List Key → Members → List ℕ → Type 0
HasOther keys ms name = HasKey name ms × (is_known_key keys name ≡ false)

-- the refused key is in the object and not one of these keys, and no other such key is before it in the order of bytes
abbrev pub IsLeastOther : Type 0
IsLeastOther = (keys : List Key) (ms : Members) (name : List ℕ) → least_other keys ms ≡ Some name
    → HasOther keys ms name × ((other : List ℕ) → HasOther keys ms other → is_before other name ≡ false)

-- if no key is refused, each key of the object is one of these
abbrev pub HasNoOther : Type 0
HasNoOther = (keys : List Key) (ms : Members) → least_other keys ms ≡ None
    → (name : List ℕ) → HasKey name ms → is_known_key keys name ≡ true
