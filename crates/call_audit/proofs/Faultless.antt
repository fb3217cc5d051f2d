-- The records of a history have no fault, and the verdict on lines that parse to them is yes.
use Rattle.std.proofs.Common.{◌≡◌, ◌<◌, ◌≤◌, ℕ, suc, Bool, true, false, List, [], ◌∷◌, ◌++◌, take, length, Option, None, Some, Ok, refl, sym, ap, ap₂, ◌∙◌, subst, arith, append_assoc, lt-ltb, le-ltb}
use Rattle.std.proofs.lemmas.Bool.Decides.{Decides-eqb}
use Rattle.std.proofs.lemmas.Slice.Eq.{bytes_eq-Decides}
use Rattle.std.specs.List.{list_any}
use Rattle.std.specs.Prelude.{◌&&◌, ◌==◌, not, slice_get, option_and_then}
use Rattle.std.specs.Str.{bytes_eq}
use Rattle.serde_json.specs.Data.{Data}
use Rattle.serde_json.specs.Find.{as_str}
use Rattle.serde_json.specs.Written.{compact_text, has_float}
use Rattle.entry_book.specs.History.{books_of, reply_to}
use Rattle.line_reading.specs.Records.{AuditRecord, spelled_record}
use Rattle.reg_lines.specs.Replies.{reply_json}
use Rattle.call_audit.specs.declared.verdict.AuditVerdict.TheVariants.{Yes}
use Rattle.call_audit.specs.Audits.{AreFaultlessRecords, batches_of_records, cause_of, is_ended, is_past, is_text_of, is_word_of_commit, judged, judged_spelled, judged_when}
use Rattle.call_audit.specs.Follows.{AreHistory, HasEnded, HistoryIsFaultless, IsReplyTo}
use Rattle.call_audit.specs.Verdicts.{HistoryIsYes, Spell, verdict_by, verdict_from}
use Rattle.call_audit.proofs.Judging.{cause_none}
use Rattle.call_audit.proofs.Yes.{append_none}

-- ---- a record after others

here_at : {X : Type 0} (before : List X) (x : X) (rest : List X) → slice_get (before ++ x ∷ rest) (length before) ≡ Some x
here_at [] x rest = refl
here_at (y ∷ ys) x rest = here_at ys x rest

before_at : {X : Type 0} (before rest : List X) → take (length before) (before ++ rest) ≡ before
before_at [] rest = refl
before_at (y ∷ ys) rest = ap (λ l. y ∷ l) (before_at ys rest)

-- a test that fails at each index of a list holds for no item
none_in : {X : Type 0} (p : X → Bool) (before rest : List X) → ((i : ℕ) (x : X) → i < length before → slice_get (before ++ rest) i ≡ Some x → p x ≡ false) → list_any p before ≡ false
none_in p [] rest h = refl
none_in p (y ∷ ys) rest h = rw (h 0 y (omega arith) refl) (none_in p ys rest (λ i x l e. h (suc i) x (omega arith) e))

unless_true : (b : Bool) → (b ≡ true → ⊥) → b ≡ false
unless_true true n = absurd (n refl)
unless_true false n = refl

-- ---- the meaning of each test

not_past : (o : Option ℕ) (invoked : ℕ) → ((n : ℕ) → o ≡ Some n → invoked ≤ n) → is_past o invoked ≡ false
not_past None invoked h = refl
not_past (Some n) invoked h = le-ltb n invoked (h n refl)

stamped_when : (r : AuditRecord) (replied : Option ℕ) → HasEnded r replied → is_ended replied r.invoked r.reply ≡ true
stamped_when r None h = ap (λ f. is_word_of_commit (option_and_then as_str f)) h
stamped_when r (Some n) h = lt-ltb r.invoked n h

is_same : (xs ys : List ℕ) → xs ≡ ys → bytes_eq xs ys ≡ true
is_same xs ys e = (bytes_eq-Decides xs ys).1 e

text_is : (d : Data) (text : List ℕ) → has_float d ≡ false → compact_text d ≡ text → is_text_of d text ≡ true
text_is d text f e = ap₂ (λ a b. not a && b) f (is_same (compact_text d) text e)

-- ---- none has a fault

module _ (records : List AuditRecord) (h : AreHistory records) where
  clear : (before : List AuditRecord) (r : AuditRecord) (rest : List AuditRecord) → records ≡ before ++ r ∷ rest → cause_of before r ≡ None
  clear before r rest e =
      let here : slice_get records (length before) ≡ Some r = ap (λ l. slice_get l (length before)) e ∙ here_at before r rest in
      let front : take (length before) records ≡ before = ap (λ l. take (length before) l) e ∙ before_at before (r ∷ rest) in
      let at : (i : ℕ) (x : AuditRecord) → slice_get (before ++ r ∷ rest) i ≡ Some x → slice_get records i ≡ Some x = λ i x f. ap (λ l. slice_get l i) e ∙ f in
      let reply : IsReplyTo r before = subst (λ l. IsReplyTo r l) front (h.legal (length before) r here) in
      cause_none before r
      (none_in (λ x. r.call == x.call) before (r ∷ rest) (λ i x l f. unless_true (r.call == x.call) (λ y.
      let same : i ≡ length before = h.once i (length before) x r (at i x f) here (sym ((Decides-eqb r.call x.call).0 y)) in
      omega arith)))
      (stamped_when r r.replied (h.ended (length before) r here))
      (none_in (λ x. is_past r.replied x.invoked) before (r ∷ rest) (λ i x l f. not_past r.replied x.invoked (λ n replied. h.strict i (length before) x r n l (at i x f) here replied)))
      (text_is r.reply (reply_json r.call (reply_to r.batch (books_of (batches_of_records before)))) reply.whole reply.text)

  faultless_from : (before rest : List AuditRecord) → records ≡ before ++ rest → AreFaultlessRecords before rest
  faultless_from before [] e = tt
  faultless_from before (r ∷ rest) e = (clear before r rest e, faultless_from (before ++ r ∷ []) rest (e ∙ sym (append_assoc before (r ∷ []) rest)))

pub history_is_faultless : HistoryIsFaultless
history_is_faultless records h = faultless_from records h [] records refl

-- ---- the verdict

judged-record : (domain : List ℕ) (before : List AuditRecord) (line : List ℕ) (r : AuditRecord) → spelled_record domain line ≡ Ok r → cause_of before r ≡ None → judged domain before line ≡ Ok r
unfolding judged
judged-record domain before line r s c = ap (judged_spelled before) s ∙ ap (judged_when before r) c

verdict-yes : (domain : List ℕ) (before : List AuditRecord) (lines : List (List ℕ)) (records : List AuditRecord) → Spell domain lines records → AreFaultlessRecords before records → verdict_from domain before lines ≡ Yes (length (before ++ records))
verdict-yes domain before [] [] s f = ap (λ l. Yes (length l)) (sym (append_none before))
verdict-yes domain before [] (r ∷ rs) s f = absurd s
verdict-yes domain before (line ∷ lines) [] s f = absurd s
verdict-yes domain before (line ∷ lines) (r ∷ rs) s f =
    ap (λ j. verdict_by j (length before) (λ x. verdict_from domain (before ++ x ∷ []) lines)) (judged-record domain before line r s.0 f.0)
    ∙ verdict-yes domain (before ++ r ∷ []) lines rs s.1 f.1
    ∙ ap (λ l. Yes (length l)) (append_assoc before (r ∷ []) rs)

pub history_is_yes : HistoryIsYes
history_is_yes domain lines records s h = verdict-yes domain [] lines records s (history_is_faultless records h)
