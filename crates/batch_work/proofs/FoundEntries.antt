-- The walk after the entries of a read.
use Rattle.std.proofs.Common.{◌≡◌, ◌<◌, ◌≤◌, arith, true, false, ◌&&◌, List, [], ◌∷◌, ◌++◌, length, Some, refl}
use Rattle.std.specs.Prelude.{filter}
use Rattle.std.specs.List.{list_all}
use Rattle.entry_book.specs.declared.agent.Agent.{Agent}
use Rattle.entry_book.specs.Order.{is_before, with_row}
use Rattle.entry_book.specs.Rows.{Bytes, Entry, entry_key}
use Rattle.batch_work.specs.Reads.{is_one_of}
use Rattle.batch_work.specs.WalkStates.{WalkState, is_empty, met_when, with_text, with_found, walked}

-- one more entry, by its three sets
pub walked_next : (a : Agent) (e : Entry) (es : List Entry) (m w m' w' : List Bytes) (f f' : List Entry) → m' ≡ met_when (is_one_of e.identity m) e.identity m → w' ≡ met_when (is_one_of e.identity m) e.identity w → f' ≡ with_row entry_key e.id (Some e) f → walked es (record { agent = a; met = m'; pending = w'; found = f' }) ≡ walked (e ∷ es) (record { agent = a; met = m; pending = w; found = f })
walked_next a e es m w m' w' f f' p q r = rw (p, q, r) refl

-- ---- whether an identity is pending at the end

text_is_there : (x : Bytes) (xs : List Bytes) → is_empty (with_text x xs) ≡ false
unfolding with_row
text_is_there x xs = elim (filter (λ t. is_before t x) xs) as (λ l. is_empty (l ++ x ∷ filter (λ t. is_before x t) xs) ≡ false) [
  | [] ↦ refl
  | y ∷ ys ↦ refl
]

pub still_waits : (es : List Entry) (w : WalkState) → is_empty w.pending ≡ false → is_empty (walked es w).pending ≡ false
still_waits [] w h = h
still_waits (e ∷ es) w h = still_waits es (with_found e w) (elim (is_one_of e.identity w.met) as (λ t. is_empty (met_when t e.identity w.pending) ≡ false) [
  | true ↦ h
  | false ↦ text_is_there e.identity w.pending
])

-- if none is pending, none is after the entries exactly if the identities of all were met
pub ends_when : (es : List Entry) (w : WalkState) → is_empty w.pending ≡ true → is_empty (walked es w).pending ≡ list_all (λ (e : Entry). is_one_of e.identity w.met) es
ends_when [] w h = h
ends_when (e ∷ es) w h = elim (is_one_of e.identity w.met) as (λ t. is_one_of e.identity w.met ≡ t → is_empty (walked es (record w { met = met_when t e.identity w.met; pending = met_when t e.identity w.pending; found = with_row entry_key e.id (Some e) w.found })).pending ≡ (t && list_all (λ (e : Entry). is_one_of e.identity w.met) es)) [
  | true ↦ λ q. ends_when es (record w { found = with_row entry_key e.id (Some e) w.found }) h
  | false ↦ λ q. still_waits es (record w { met = with_text e.identity w.met; pending = with_text e.identity w.pending; found = with_row entry_key e.id (Some e) w.found }) (text_is_there e.identity w.pending)
] refl

pub empty_below : (xs : List Bytes) → length xs < 1 → is_empty xs ≡ true
empty_below [] h = refl
empty_below (x ∷ xs) h = absurd (omega arith)

pub filled_from : (xs : List Bytes) → 1 ≤ length xs → is_empty xs ≡ false
filled_from [] h = absurd (omega arith)
filled_from (x ∷ xs) h = refl
