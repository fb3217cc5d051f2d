-- The bytes that are kept of a line determine what it parses to.
use Rattle.std.proofs.Common.{◌≡◌, ◌+◌, ◌-◌, ◌<◌, ◌≤◌, ◌⊎◌, zero, suc, ℕ, Bool, true, false, ◌==◌, ◌&&◌, cond, List, [], ◌∷◌, length, take, refl, sym, ap, ◌∙◌, inl, inr, arith}
use Rattle.std.proofs.lemmas.Bool.{false≢true}
use Rattle.std.proofs.lemmas.Bool.Decides.{nat_tests}
use Rattle.std.proofs.lemmas.List.{take_all, take-append-le, take-append-drop, length-append, length-take-le}
use Rattle.std.proofs.lemmas.List.Folds.{list_any-append, list_any_at}
use Rattle.std.specs.Prelude.{⊤, Result, Ok, nat_lt, ◌||◌, drop}
use Rattle.std.specs.Io.BufRead.{ends_with_byte, strip_last}
use Rattle.serde_json.specs.Data.{Data, Members}
use Rattle.serde_json.specs.Find.{as_object}
use Rattle.line_reading.specs.declared.fault.Code.TheVariants as code
use Rattle.line_reading.specs.declared.fault.Fault.{Fault}
use Rattle.line_reading.specs.Fields.{◌>>=◌, at_line}
use Rattle.line_reading.specs.Events.{event_in, spelled_event}
use Rattle.line_reading.specs.Kept.{KeptSpells, KeptSpellsEvent, KeptSpellsRecord}
use Rattle.line_devices.specs.Lines.{has_lf, stored_part, kept_bytes, IsLine}
use Rattle.line_reading.specs.Records.{record_in, spelled_record}
use Rattle.line_reading.specs.Requests.{framed, line_limit, object_in, of_line, request_in, spelled, value_in}

lt_true : (a b : ℕ) → a < b → nat_lt a b ≡ true
lt_true a b l = grind (arith, nat_tests)

positive : (n : ℕ) → nat_lt 0 n ≡ true → 0 < n
positive n e = grind (arith, nat_tests)

both : (a b : Bool) → (a && b) ≡ true → (a ≡ true) × (b ≡ true)
both true b e = (refl, e)
both false b e = absurd (false≢true e)

no_more : (a b : Bool) → (a || b) ≡ false → a ≡ false
no_more true b e = absurd (false≢true (sym e))
no_more false b e = refl

ends_none : (bytes : List ℕ) (ends : Bool) → ends_with_byte 10 bytes ≡ ends → has_lf bytes ≡ false → ends ≡ false
ends_none bytes true e none =
    let p = both _ _ e in
    let l = positive (length bytes) p.0 in
    absurd (false≢true (sym none ∙ list_any_at (λ b. b == 10) bytes (length bytes - 1) 0 (omega (arith, l)) p.1))
ends_none bytes false e none = refl

cut_longer : (ends : Bool) (bytes : List ℕ) → length bytes ≤ length (cond ends (take (length bytes - 1) bytes) bytes) + 1
cut_longer true bytes =
    let e = length-take-le (length bytes - 1) bytes (omega arith) in
    omega (arith, e)
cut_longer false bytes = omega arith

limit_is : kept_bytes ≡ line_limit + 1
unfolding kept_bytes line_limit
limit_is = refl

-- a line with more bytes before its LF than the limit is too long
framed-long : (line : List ℕ) → line_limit < length (strip_last 10 line) → framed line ≡ at_line code.LineTooLong
unfolding framed
framed-long line l = ap (λ b. cond b (at_line code.LineTooLong) (cond (ends_with_byte 10 line) (Ok tt) (at_line code.Truncated))) (lt_true line_limit (length (strip_last 10 line)) l)

-- so are more bytes than the limit without an LF
framed-cut : (bytes : List ℕ) → has_lf bytes ≡ false → line_limit < length bytes → framed bytes ≡ at_line code.LineTooLong
framed-cut bytes none l =
    let e : strip_last 10 bytes ≡ bytes = ap (λ b. cond b (take (length bytes - 1) bytes) bytes) (ends_none bytes (ends_with_byte 10 bytes) refl none) in
    let n : length (strip_last 10 bytes) ≡ length bytes = ap length e in
    framed-long bytes (omega (arith, n, l))

of_line-long : {A : Type 0} (reader : Data → Members → Result A Fault) (line : List ℕ) → framed line ≡ at_line code.LineTooLong → of_line reader line ≡ at_line code.LineTooLong
of_line-long {A} reader line e =
    let next : ⊤ → Result A Fault = λ none. value_in line >>= (λ d. object_in (as_object d) >>= reader d) in
    ap (λ r. r >>= next) e

take_none : (n : ℕ) (front : List ℕ) → has_lf front ≡ false → has_lf (take n front) ≡ false
take_none n front none =
    no_more _ (has_lf (drop n front)) (sym (list_any-append (λ b. b == 10) (take n front) (drop n front)) ∙ (ap has_lf (take-append-drop n front) ∙ none))

-- the first n bytes of a longer line have no LF
cut_none : (n : ℕ) (line : List ℕ) → IsLine line → n < length line → has_lf (take n line) ≡ false
cut_none n line (inl w) l =
    let e : length line ≡ length w.0 + 1 = ap length w.2 ∙ length-append w.0 (10 ∷ []) in
    ap has_lf (ap (take n) w.2 ∙ take-append-le n w.0 (10 ∷ []) (omega (arith, e, l))) ∙ take_none n w.0 w.1
cut_none n line (inr r) l = take_none n line r.0

split_at : (a b : ℕ) → (a ≤ b) ⊎ (b < a)
split_at zero b = inl (omega arith)
split_at (suc a) zero = inr (omega arith)
split_at (suc a) (suc b) = elim (split_at a b) [ inl l ↦ inl (omega (arith, l)) | inr l ↦ inr (omega (arith, l)) ]

module _ {A : Type 0} (reader : Data → Members → Result A Fault) (line : List ℕ) (is_line : IsLine line) where
  cut_reads : (n : ℕ) → n ≡ line_limit + 1 → n < length line → of_line reader (take n line) ≡ of_line reader line
  cut_reads n is l =
      let e = length-take-le n line (omega (arith, l)) in
      let longer = cut_longer (ends_with_byte 10 line) line in
      of_line-long reader (take n line) (framed-cut (take n line) (cut_none n line is_line l) (omega (arith, e, is)))
      ∙ sym (of_line-long reader line (framed-long line (omega (arith, longer, is, l))))

  kept_reads : of_line reader (stored_part line) ≡ of_line reader line
  kept_reads = elim (split_at (length line) kept_bytes) [ inl l ↦ ap (of_line reader) (take_all kept_bytes line l) | inr l ↦ cut_reads kept_bytes limit_is l ]

pub kept_spells : KeptSpells
unfolding spelled
kept_spells domain ids line a = kept_reads (request_in domain ids) line a

pub kept_spells_event : KeptSpellsEvent
unfolding spelled_event
kept_spells_event domain ids line a = kept_reads (event_in domain ids) line a

pub kept_spells_record : KeptSpellsRecord
unfolding spelled_record
kept_spells_record domain line a = kept_reads (record_in domain) line a
