-- Records without a fault are a history.
use Rattle.std.proofs.Common.{◌≡◌, ◌<◌, ◌≤◌, ℕ, zero, suc, Bool, true, false, List, [], ◌∷◌, ◌++◌, take, Option, None, Some, refl, sym, ap, ◌∙◌, subst, arith, ⊎_elim, append_assoc}
use Rattle.std.proofs.lemmas.Bool.{cases_lt, ltb-true, ltb-false}
use Rattle.std.proofs.lemmas.Bool.Decides.{Decides-eqb}
use Rattle.std.proofs.lemmas.Slice.Eq.{bytes_eq-Decides}
use Rattle.std.specs.List.{list_any}
use Rattle.std.specs.Prelude.{◌&&◌, ◌||◌, ◌==◌, not, slice_get, codes, option_and_then}
use Rattle.std.specs.Str.{bytes_eq}
use Rattle.serde_json.specs.Data.{Data, null, boolean, number, string, array, object}
use Rattle.serde_json.specs.Find.{as_str, get}
use Rattle.serde_json.specs.Written.{compact_text, has_float}
use Rattle.entry_book.specs.History.{books_of, reply_to}
use Rattle.line_reading.specs.Records.{AuditRecord}
use Rattle.reg_lines.specs.Replies.{reply_json}
use Rattle.call_audit.specs.Audits.{AreFaultlessRecords, batches_of_records, cause_of, has_call, is_ended, is_reply_right, is_late, is_past, is_stamped, is_text_of, is_word_of_commit}
use Rattle.call_audit.proofs.Judging.{first_of, is_first}
use Rattle.call_audit.specs.Follows.{FaultlessAreHistory, HasEnded, IsReplyTo}

-- ---- one record

-- none of the causes applies
pub record Passes (before : List AuditRecord) (r : AuditRecord) : Type 0 where
  pub new : has_call r.call before ≡ false
  pub stamped : is_stamped r ≡ true
  pub timely : is_late r before ≡ false
  pub given : is_reply_right r before ≡ true

record Four (a b c d : Bool) : Type 0 where
  one : a ≡ false
  two : b ≡ true
  three : c ≡ false
  four : d ≡ true

no_cause : (a b c d : Bool) → first_of a b c d ≡ None → Four a b c d
no_cause true b c d e = absurd (cc)
no_cause false false c d e = absurd (cc)
no_cause false true true d e = absurd (cc)
no_cause false true false false e = absurd (cc)
no_cause false true false true e = record { one = refl; two = refl; three = refl; four = refl }

pub passes : (before : List AuditRecord) (r : AuditRecord) → cause_of before r ≡ None → Passes before r
passes before r e =
    let f = no_cause (has_call r.call before) (is_stamped r) (is_late r before) (is_reply_right r before) (sym (is_first before r) ∙ e) in
    record { new = f.one; stamped = f.two; timely = f.three; given = f.four }

-- ---- the records before it

at_of : {X : Type 0} (x y : X) → Some x ≡ Some y → x ≡ y
at_of x y e = cc

append_none : (before : List AuditRecord) → before ++ [] ≡ before
append_none [] = refl
append_none (x ∷ xs) = ap (λ l. x ∷ l) (append_none xs)

faultless_at : (before rs : List AuditRecord) (i : ℕ) (r : AuditRecord) → AreFaultlessRecords before rs → slice_get rs i ≡ Some r → cause_of (before ++ take i rs) r ≡ None
faultless_at before [] i r h e = cc
faultless_at before (x ∷ xs) zero r h e = ap (λ l. cause_of l r) (append_none before) ∙ (ap (λ y. cause_of before y) (sym (at_of x r e)) ∙ h.0)
faultless_at before (x ∷ xs) (suc i) r h e =
    ap (λ l. cause_of l r) (sym (append_assoc before (x ∷ []) (take i xs))) ∙ faultless_at (before ++ x ∷ []) xs i r h.1 e

or_left : (a b : Bool) → (a || b) ≡ false → a ≡ false
or_left true b e = e
or_left false b e = refl

or_right : (a b : Bool) → (a || b) ≡ false → b ≡ false
or_right true b e = cc
or_right false b e = e

none_at : {X : Type 0} (p : X → Bool) (xs : List X) (i j : ℕ) (x : X) → slice_get xs i ≡ Some x → i < j → list_any p (take j xs) ≡ false → p x ≡ false
none_at p [] i j x e h n = cc
none_at p (y ∷ ys) i zero x e h n = absurd (omega arith)
none_at p (y ∷ ys) zero (suc j) x e h n = ap p (sym (at_of y x e)) ∙ or_left (p y) (list_any p (take j ys)) n
none_at p (y ∷ ys) (suc i) (suc j) x e h n = none_at p ys i j x e (omega arith) (or_right (p y) (list_any p (take j ys)) n)

-- ---- the meaning of each test

is_itself : (n : ℕ) → (n == n) ≡ true
is_itself n = (Decides-eqb n n).1 refl

of_word : (d : Data) → is_word_of_commit (as_str d) ≡ true → d ≡ string (codes "committed")
of_word null e = cc
of_word (boolean b) e = cc
of_word (number n) e = cc
of_word (string s) e = ap string ((bytes_eq-Decides s (codes "committed")).0 e)
of_word (array ds) e = cc
of_word (object ms) e = cc

of_commit : (found : Option Data) → is_word_of_commit (option_and_then as_str found) ≡ true → found ≡ Some (string (codes "committed"))
of_commit None e = cc
of_commit (Some d) e = ap Some (of_word d e)

ended_when : (r : AuditRecord) (replied : Option ℕ) → is_ended replied r.invoked r.reply ≡ true → HasEnded r replied
ended_when r None e = of_commit (get (codes "result") r.reply) e
ended_when r (Some n) e = ltb-true r.invoked n e

both : (a b : Bool) → (not a && b) ≡ true → (a ≡ false) × (b ≡ true)
both true b e = cc
both false b e = (refl, e)

text_of : (d : Data) (text : List ℕ) → is_text_of d text ≡ true → (has_float d ≡ false) × (compact_text d ≡ text)
text_of d text e =
    let b = both (has_float d) (bytes_eq (compact_text d) text) e in
    (b.0, (bytes_eq-Decides (compact_text d) text).0 b.1)

-- ---- the four properties of a history

module _ (records : List AuditRecord) (all : AreFaultlessRecords [] records) where
  passing : (i : ℕ) (r : AuditRecord) → slice_get records i ≡ Some r → Passes (take i records) r
  passing i r e = passes (take i records) r (faultless_at [] records i r all e)

  not_again : (i j : ℕ) (a b : AuditRecord) → slice_get records i ≡ Some a → slice_get records j ≡ Some b → a.call ≡ b.call → i < j → ⊥
  not_again i j a b e f same h =
      let n = none_at (λ r. b.call == r.call) records i j a e h (passing j b f).new in
      let y : (b.call == a.call) ≡ true = subst (λ n. (b.call == n) ≡ true) (sym same) (is_itself b.call) in
      (let w : true ≡ false = sym y ∙ n in cc)

  once : (i j : ℕ) (a b : AuditRecord) → slice_get records i ≡ Some a → slice_get records j ≡ Some b → a.call ≡ b.call → i ≡ j
  once i j a b e f same =
      ⊎_elim
      (λ h. absurd (not_again i j a b e f same h))
      (λ h. ⊎_elim
      (λ k. absurd (not_again j i b a f e (sym same) k))
      (λ k. (let x : i ≤ j = k in omega arith))
      (cases_lt j i))
      (cases_lt i j)

  strict : (i j : ℕ) (a b : AuditRecord) (n : ℕ) → i < j → slice_get records i ≡ Some a → slice_get records j ≡ Some b → b.replied ≡ Some n → a.invoked ≤ n
  strict i j a b n h e f replied =
      let p = none_at (λ r. is_past b.replied r.invoked) records i j a e h (passing j b f).timely in
      let q : is_past (Some n) a.invoked ≡ false = subst (λ o. is_past o a.invoked ≡ false) replied p in
      ltb-false n a.invoked q

  ended : (i : ℕ) (r : AuditRecord) → slice_get records i ≡ Some r → HasEnded r r.replied
  ended i r e = ended_when r r.replied (passing i r e).stamped

  legal : (i : ℕ) (r : AuditRecord) → slice_get records i ≡ Some r → IsReplyTo r (take i records)
  legal i r e =
      let t = text_of r.reply (reply_json r.call (reply_to r.batch (books_of (batches_of_records (take i records))))) (passing i r e).given in
      record { whole = t.0; text = t.1 }

pub faultless_are_history : FaultlessAreHistory
faultless_are_history records all = record { once = once records all; ended = ended records all; strict = strict records all; legal = legal records all }
