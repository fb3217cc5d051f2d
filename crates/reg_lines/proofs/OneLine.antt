-- Compact text contains no line feed, nor does any printed line.
use Rattle.std.proofs.Common.{◌≡◌, ℕ, zero, suc, ◌+◌, ◌/◌, ◌%◌, ◌<◌, ℤ, pos, negsuc, Bool, true, false, cond, ◌||◌, ◌==◌, ltb, List, [], ◌∷◌, ◌++◌, decimal, inl, inr, refl, ap, ap₂, ◌∙◌, arith}
use Rattle.std.proofs.lemmas.Bool.{cases_eq, cases_lt, ne_eqb}
use Rattle.std.proofs.lemmas.List.Folds.{list_any-append}
use Rattle.std.specs.Fmt.{digits, digits_onto, digit_glyph, signed_decimal}
use Rattle.json.specs.Token as token
use Rattle.json.specs.Print.{escape, escape_byte, quoted, token_text}
use Rattle.json.proofs.Printed.Strings.{escape_byte_plain}
use Rattle.serde_json.specs.Data.{unsigned, negative, float, Data, null, boolean, number, string, array, object, Items, no_items, item, Members, no_members, member}
use Rattle.serde_json.specs.Written.{comma_if, compact_text, items_text, members_text}
use Rattle.line_devices.specs.Lines.{has_lf}
use Rattle.reg_lines.specs.EventValues.{event_data, event_refusal_data, order_data}
use Rattle.reg_lines.specs.OneLine.{ConflictsHaveNoLf, EventRefusalsHaveNoLf, EventsHaveNoLf, NumbersHaveNoLf, OrdersHaveNoLf, RecordsHaveNoLf, RefusalsHaveNoLf, RepliesHaveNoLf, SeatRefusalsHaveNoLf, TextsHaveNoLf}
use Rattle.reg_lines.specs.RecordValues.{record_data}
use Rattle.reg_lines.specs.SeatValues.{seat_refusal_data}
use Rattle.reg_lines.specs.Values.{conflict_data, refusal_data, reply_data}
use Rattle.reg_lines.proofs.Compact.{conflict_json-is, refusal_json-is, reply_json-is, text_json-is}
use Rattle.reg_lines.proofs.CompactEvents.{event_json-is, event_refusal_json-is, order_json-is}
use Rattle.reg_lines.proofs.CompactRecords.{record_json-is}
use Rattle.reg_lines.proofs.CompactSeats.{seat_refusal_json-is}

no_lf-append : (xs ys : List ℕ) → has_lf xs ≡ false → has_lf ys ≡ false → has_lf (xs ++ ys) ≡ false
no_lf-append xs ys e f = list_any-append (λ b. b == 10) xs ys ∙ ap₂ (λ a b. a || b) e f

no_lf-one : (x : ℕ) → (x ≡ 10 → ⊥) → has_lf (x ∷ []) ≡ false
no_lf-one x other = ap (λ b. b || false) (ne_eqb x 10 other)

-- ---- texts

neither : (a b : Bool) → (a || b) ≡ false → (a ≡ false) × (b ≡ false)
neither true b e = absurd (cc)
neither false b e = (refl, e)

-- whether the escape of some byte below n contains a line feed
abbrev lf_below : ℕ → Bool
lf_below zero = false
lf_below (suc n) = has_lf (escape_byte n) || lf_below n

each_below : (n : ℕ) → lf_below n ≡ false → (x : ℕ) → x < n → has_lf (escape_byte x) ≡ false
each_below zero e x h = absurd (omega arith)
each_below (suc n) e x h =
    let p = neither _ _ e in
    elim (cases_eq x n) [ inl same ↦ rw same p.0 | inr other ↦ each_below n p.1 x (omega arith) ]

-- the bytes that have an escape are below 93
none_below : lf_below 93 ≡ false
unfolding escape_byte
none_below = refl

no_lf-escape_byte : (x : ℕ) → has_lf (escape_byte x) ≡ false
no_lf-escape_byte x = elim (cases_lt x 93) [
  | inl low ↦ each_below 93 none_below x low
  | inr high ↦ ap has_lf (escape_byte_plain x (λ e. omega arith) (λ e. omega arith) (omega arith)) ∙ no_lf-one x (λ e. omega arith)
]

no_lf-escape : (s : List ℕ) → has_lf (escape s) ≡ false
no_lf-escape [] = refl
no_lf-escape (x ∷ xs) = no_lf-append (escape_byte x) (escape xs) (no_lf-escape_byte x) (no_lf-escape xs)

no_lf-quoted : (s : List ℕ) → has_lf (quoted s) ≡ false
no_lf-quoted s = no_lf-append (escape s) (34 ∷ []) (no_lf-escape s) refl

-- ---- numbers

-- each digit is above the line feed
above : (small : Bool) (d : ℕ) → 10 < cond small (48 + d) (87 + d)
above true d = omega arith
above false d = omega arith

no_lf-above : (x : ℕ) → 10 < x → has_lf (x ∷ []) ≡ false
no_lf-above x h = no_lf-one x (λ e. omega arith)

no_lf-either : (b : Bool) (xs ys : List ℕ) → has_lf xs ≡ false → has_lf ys ≡ false → has_lf (cond b xs ys) ≡ false
no_lf-either true xs ys e f = e
no_lf-either false xs ys e f = f

no_lf-digits : (k n : ℕ) (after : List ℕ) → has_lf after ≡ false → has_lf (digits_onto k 10 false n after) ≡ false
no_lf-digits zero n after e = e
no_lf-digits (suc k) n after e =
    let d : ℕ = digit_glyph false (n % 10) in
    let more : has_lf (d ∷ after) ≡ false = no_lf-append (d ∷ []) after (no_lf-above d (above (ltb (n % 10) 10) (n % 10))) e in
    no_lf-either (n / 10 == 0) (d ∷ after) (digits_onto k 10 false (n / 10) (d ∷ after)) more (no_lf-digits k (n / 10) (d ∷ after) more)

no_lf-decimal : (n : ℕ) → has_lf (decimal n) ≡ false
unfolding digits
no_lf-decimal n = no_lf-digits 64 n [] refl

no_lf-signed : (z : ℤ) → has_lf (signed_decimal z) ≡ false
no_lf-signed (pos n) = no_lf-decimal n
no_lf-signed (negsuc n) = no_lf-append (45 ∷ []) (decimal (suc n)) refl (no_lf-decimal (suc n))

-- ---- values

-- a record, so that the prover can infer the text from it
record NoLf (text : List ℕ) : Type 0 where
  none : has_lf text ≡ false

behind : (xs ys : List ℕ) → NoLf xs → NoLf ys → NoLf (xs ++ ys)
behind xs ys h k = record { none = no_lf-append xs ys h.none k.none }

after : (x : ℕ) (xs : List ℕ) → has_lf (x ∷ []) ≡ false → NoLf xs → NoLf (x ∷ xs)
after x xs e h = behind (x ∷ []) xs (record { none = e }) h

a_comma : (later : Bool) → NoLf (comma_if later)
a_comma true = record { none = refl }
a_comma false = record { none = refl }

a_text : (s : List ℕ) → NoLf (quoted s)
a_text s = record { none = no_lf-quoted s }

a_boolean : (b : Bool) → NoLf (token_text (token.boolean b))
a_boolean true = record { none = refl }
a_boolean false = record { none = refl }

mutual
  value : (d : Data) → NoLf (compact_text d)
  value null = record { none = refl }
  value (boolean b) = a_boolean b
  value (number (unsigned n)) = record { none = no_lf-decimal n }
  value (number (negative z)) = record { none = no_lf-signed z }
  value (number (float x)) = record { none = refl }
  value (string s) = a_text s
  value (array ds) = after 91 _ refl (items false ds)
  value (object ms) = after 123 _ refl (members false ms)

  items : (later : Bool) (ds : Items) → NoLf (items_text later ds)
  items later no_items = record { none = refl }
  items later (item d ds) = behind _ _ (a_comma later) (behind _ _ (value d) (items true ds))

  members : (later : Bool) (ms : Members) → NoLf (members_text later ms)
  members later no_members = record { none = refl }
  members later (member k d ms) =
      behind _ _ (a_comma later)
      (behind _ _ (a_text k) (after 58 _ refl (behind _ _ (value d) (members true ms))))

compact : (text : List ℕ) (d : Data) → text ≡ compact_text d → has_lf text ≡ false
compact text d e = ap has_lf e ∙ (value d).none

-- ---- the printed values

pub number-no_lf : NumbersHaveNoLf
number-no_lf n = no_lf-decimal n

pub text-no_lf : TextsHaveNoLf
text-no_lf s = compact _ (string s) (text_json-is s)

pub reply-no_lf : RepliesHaveNoLf
reply-no_lf call reply = compact _ (reply_data call reply) (reply_json-is call reply)

pub conflict-no_lf : ConflictsHaveNoLf
conflict-no_lf call place = compact _ (conflict_data call place) (conflict_json-is call place)

pub refusal-no_lf : RefusalsHaveNoLf
refusal-no_lf r = compact _ (refusal_data r) (refusal_json-is r)

pub event-no_lf : EventsHaveNoLf
event-no_lf done = compact _ (event_data done) (event_json-is done)

pub event_refusal-no_lf : EventRefusalsHaveNoLf
event_refusal-no_lf line r = compact _ (event_refusal_data line r) (event_refusal_json-is line r)

pub order-no_lf : OrdersHaveNoLf
order-no_lf calls = compact _ (order_data calls) (order_json-is calls)

pub record-no_lf : RecordsHaveNoLf
record-no_lf batch call invoked replied reply = compact _ (record_data batch call invoked replied reply) (record_json-is batch call invoked replied reply)

pub seat_refusal-no_lf : SeatRefusalsHaveNoLf
seat_refusal-no_lf line r = compact _ (seat_refusal_data line r) (seat_refusal_json-is line r)
