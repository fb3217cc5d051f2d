-- The calls that have begun, in the order of their turns: each has the stage that the plain book gives it at that point.
use Rattle.std.proofs.Common.{Bool, true, false, ◌≡◌, ◌<◌, List, [], ◌∷◌, ◌++◌, length, refl, sym, ap, subst, ◌∙◌, inl, inr, ⊎_elim, arith, append_assoc}
use Rattle.std.specs.Prelude.{⊤}
use Rattle.std.proofs.lemmas.List.{append-nil}
use Rattle.entry_book.specs.Order.{Within}
use Rattle.entry_book.specs.Batches.{Batch}
use Rattle.entry_book.specs.History.{books_of, reply_to, commits}
use Rattle.entry_book.proofs.Sets.{All-within, All-from_within, within_left, within_right, from_within_append}
use Rattle.call_machine.specs.Calls.{CallStage, waiting, running, ready, answered, committed, conflict, Call}
use Rattle.call_machine.specs.Kept.{AscendingTurns}

-- a call that has begun, and met no conflict, is in the line
abbrev pub is_begun : CallStage → Bool
is_begun waiting = false
is_begun (running base made) = true
is_begun (ready base) = true
is_begun (answered r) = true
is_begun (committed r) = true
is_begun (conflict n) = false

-- ---- the journal of such a line

abbrev pub entered : CallStage → Batch → List Batch
entered waiting batch = []
entered (running base made) batch = []
entered (ready base) batch = []
entered (answered r) batch = []
entered (committed r) batch = batch ∷ []
entered (conflict n) batch = []

abbrev pub journal_in : List Call → List Batch
journal_in [] = []
journal_in (c ∷ cs) = entered c.stage c.batch ++ journal_in cs

pub journal-append : (xs ys : List Call) → journal_in (xs ++ ys) ≡ journal_in xs ++ journal_in ys
journal-append [] ys = refl
journal-append (c ∷ cs) ys = ap (λ l. entered c.stage c.batch ++ l) (journal-append cs ys) ∙ sym (append_assoc (entered c.stage c.batch) (journal_in cs) (journal_in ys))

-- ---- each call agrees with the journal before it

abbrev pub StageFits : CallStage → Batch → List Batch → Type 0
StageFits waiting batch journal = ⊥
StageFits (running base made) batch journal = base ≡ length journal
StageFits (ready base) batch journal = base ≡ length journal
StageFits (answered r) batch journal = (reply_to batch (books_of journal) ≡ r) × (commits batch (books_of journal) ≡ false)
StageFits (committed r) batch journal = (reply_to batch (books_of journal) ≡ r) × (commits batch (books_of journal) ≡ true)
StageFits (conflict n) batch journal = ⊥

abbrev pub Fits : List Batch → List Call → Type 0
Fits journal [] = ⊤
Fits journal (c ∷ cs) = StageFits c.stage c.batch journal × Fits (journal ++ entered c.stage c.batch) cs

pub fits_append : (journal : List Batch) (xs ys : List Call) → Fits journal xs → Fits (journal ++ journal_in xs) ys → Fits journal (xs ++ ys)
fits_append journal [] ys f g = subst (λ j. Fits j ys) (append-nil journal) g
fits_append journal (c ∷ cs) ys f g = (f.0, fits_append (journal ++ entered c.stage c.batch) cs ys f.1 (subst (λ j. Fits j ys) (sym (append_assoc journal (entered c.stage c.batch) (journal_in cs))) g))

pub fits_front : (journal : List Batch) (xs ys : List Call) → Fits journal (xs ++ ys) → Fits journal xs
fits_front journal [] ys f = tt
fits_front journal (c ∷ cs) ys f = (f.0, fits_front (journal ++ entered c.stage c.batch) cs ys f.1)

pub fits_rest : (journal : List Batch) (xs ys : List Call) → Fits journal (xs ++ ys) → Fits (journal ++ journal_in xs) ys
fits_rest journal [] ys f = subst (λ j. Fits j ys) (sym (append-nil journal)) f
fits_rest journal (c ∷ cs) ys f = subst (λ j. Fits j ys) (append_assoc journal (entered c.stage c.batch) (journal_in cs)) (fits_rest (journal ++ entered c.stage c.batch) cs ys f.1)

-- a call is replaced by one with the same journal entry
pub fits_replaced : (xs ys : List Call) (c d : Call) → Fits [] (xs ++ c ∷ ys) → entered d.stage d.batch ≡ entered c.stage c.batch → StageFits d.stage d.batch (journal_in xs) → Fits [] (xs ++ d ∷ ys)
fits_replaced xs ys c d f e g =
    let rest : StageFits c.stage c.batch (journal_in xs) × Fits (journal_in xs ++ entered c.stage c.batch) ys = fits_rest [] xs (c ∷ ys) f in
    fits_append [] xs (d ∷ ys) (fits_front [] xs (c ∷ ys) f) (g, subst (λ e. Fits (journal_in xs ++ e) ys) (sym e) rest.1)

pub journal_replaced : (xs ys : List Call) (c d : Call) → entered d.stage d.batch ≡ entered c.stage c.batch → journal_in (xs ++ d ∷ ys) ≡ journal_in (xs ++ c ∷ ys)
journal_replaced xs ys c d e = journal-append xs (d ∷ ys) ∙ (ap (λ e. journal_in xs ++ (e ++ journal_in ys)) e ∙ sym (journal-append xs (c ∷ ys)))

-- the same line without a call that has no journal entry
pub fits_without : (xs ys : List Call) (c : Call) → Fits [] (xs ++ c ∷ ys) → entered c.stage c.batch ≡ [] → Fits [] (xs ++ ys)
fits_without xs ys c f ec =
    let rest : StageFits c.stage c.batch (journal_in xs) × Fits (journal_in xs ++ entered c.stage c.batch) ys = fits_rest [] xs (c ∷ ys) f in
    fits_append [] xs ys (fits_front [] xs (c ∷ ys) f) (subst (λ j. Fits j ys) (append-nil (journal_in xs)) (subst (λ e. Fits (journal_in xs ++ e) ys) ec rest.1))

pub journal_without : (xs ys : List Call) (c : Call) → entered c.stage c.batch ≡ [] → journal_in (xs ++ ys) ≡ journal_in (xs ++ c ∷ ys)
journal_without xs ys c ec = journal-append xs ys ∙ (ap (λ e. journal_in xs ++ (e ++ journal_in ys)) (sym ec) ∙ sym (journal-append xs (c ∷ ys)))

pub fits_snoc : (line : List Call) (c : Call) → Fits [] line → StageFits c.stage c.batch (journal_in line) → Fits [] (line ++ c ∷ [])
fits_snoc line c f g = fits_append [] line (c ∷ []) f (g, tt)

-- a call of the line agrees with the journal before it
pub fits_at : (xs ys : List Call) (c : Call) → Fits [] (xs ++ c ∷ ys) → StageFits c.stage c.batch (journal_in xs)
fits_at xs ys c f = (fits_rest [] xs (c ∷ ys) f).0

-- ---- ascending turns

pub turns_front : (xs ys : List Call) → AscendingTurns (xs ++ ys) → AscendingTurns xs
turns_front [] ys a = tt
turns_front (c ∷ cs) ys a = (All-from_within (λ d. c.turn < d.turn) cs (λ d w. All-within (λ d. c.turn < d.turn) (cs ++ ys) d a.0 (within_left cs ys d w)), turns_front cs ys a.1)

pub turns_rest : (xs ys : List Call) → AscendingTurns (xs ++ ys) → AscendingTurns ys
turns_rest [] ys a = a
turns_rest (c ∷ cs) ys a = turns_rest cs ys a.1

pub turns_apart : (xs ys : List Call) → AscendingTurns (xs ++ ys) → (x y : Call) → Within xs x → Within ys y → x.turn < y.turn
turns_apart [] ys a x y w v = absurd w
turns_apart (c ∷ cs) ys a x y w v = ⊎_elim
    (λ e. subst (λ t. t.turn < y.turn) e (All-within (λ d. c.turn < d.turn) (cs ++ ys) y a.0 (within_right cs ys y v)))
    (λ k. turns_apart cs ys a.1 x y k v)
    w

pub turns_append : (xs ys : List Call) → AscendingTurns xs → AscendingTurns ys → ((x y : Call) → Within xs x → Within ys y → x.turn < y.turn) → AscendingTurns (xs ++ ys)
turns_append [] ys a b h = b
turns_append (c ∷ cs) ys a b h = (
  All-from_within (λ d. c.turn < d.turn) (cs ++ ys) (λ d w. ⊎_elim (λ v. All-within (λ d. c.turn < d.turn) cs d a.0 v) (λ v. h c d (inl refl) v) (from_within_append cs ys d w)),
  turns_append cs ys a.1 b (λ x y w v. h x y (inr w) v),
)

-- a call is not among those before it
pub not_in_front : (xs ys : List Call) (c : Call) → AscendingTurns (xs ++ c ∷ ys) → Within xs c → ⊥
not_in_front xs ys c a w = let h = turns_apart xs (c ∷ ys) a c c w (inl refl) in omega arith

pub not_in_rest : (xs ys : List Call) (c : Call) → AscendingTurns (xs ++ c ∷ ys) → Within ys c → ⊥
not_in_rest xs ys c a w = let b : AscendingTurns (c ∷ ys) = turns_rest xs (c ∷ ys) a in let h = All-within (λ d. c.turn < d.turn) ys c b.0 w in omega arith

pub turns_replaced : (xs ys : List Call) (c d : Call) → AscendingTurns (xs ++ c ∷ ys) → d.turn ≡ c.turn → AscendingTurns (xs ++ d ∷ ys)
turns_replaced xs ys c d a e =
    let b : AscendingTurns (c ∷ ys) = turns_rest xs (c ∷ ys) a in
    turns_append xs (d ∷ ys) (turns_front xs (c ∷ ys) a)
    (All-from_within (λ x. d.turn < x.turn) ys (λ x w. subst (λ t. t < x.turn) (sym e) (All-within (λ x. c.turn < x.turn) ys x b.0 w)), b.1)
    (λ x y w v. ⊎_elim
    (λ i. subst (λ t. x.turn < t.turn) i (subst (λ t. x.turn < t) (sym e) (turns_apart xs (c ∷ ys) a x c w (inl refl))))
    (λ k. turns_apart xs (c ∷ ys) a x y w (inr k))
    v)

pub turns_without : (xs ys : List Call) (c : Call) → AscendingTurns (xs ++ c ∷ ys) → AscendingTurns (xs ++ ys)
turns_without xs ys c a =
    let b : AscendingTurns (c ∷ ys) = turns_rest xs (c ∷ ys) a in
    turns_append xs ys (turns_front xs (c ∷ ys) a) b.1 (λ x y w v. turns_apart xs (c ∷ ys) a x y w (inr v))

pub turns_snoc : (line : List Call) (c : Call) → AscendingTurns line → ((x : Call) → Within line x → x.turn < c.turn) → AscendingTurns (line ++ c ∷ [])
turns_snoc line c a h = turns_append line (c ∷ []) a (tt, tt) (λ x y w v. ⊎_elim (λ i. subst (λ t. x.turn < t.turn) i (h x w)) (λ k. absurd k) v)

-- ascending lines with the same members are equal
pub same_line : (xs ys : List Call) → AscendingTurns xs → AscendingTurns ys → ((x : Call) → Within xs x → Within ys x) → ((x : Call) → Within ys x → Within xs x) → xs ≡ ys
same_line [] [] a b f g = refl
same_line [] (y ∷ ys) a b f g = absurd (g y (inl refl))
same_line (x ∷ xs) [] a b f g = absurd (f x (inl refl))
same_line (x ∷ xs) (y ∷ ys) a b f g =
    let below : (z : Call) → Within ys z → y.turn < z.turn = λ z w. All-within (λ z. y.turn < z.turn) ys z b.0 w in
    let above : (z : Call) → Within xs z → x.turn < z.turn = λ z w. All-within (λ z. x.turn < z.turn) xs z a.0 w in
    let head : x ≡ y = ⊎_elim (λ e. sym e) (λ v. ⊎_elim (λ e. e) (λ w. let p = above y w in let q = below x v in absurd (omega arith)) (g y (inl refl))) (f x (inl refl)) in
    let tail : xs ≡ ys = same_line xs ys a.1 b.1
    (λ z w. ⊎_elim (λ e. let p = above z w in let q : z ≡ x = sym e ∙ sym head in let r = ap (λ (t : Call). t.turn) q in absurd (omega arith)) (λ v. v) (f z (inr w)))
    (λ z w. ⊎_elim (λ e. let p = below z w in let q : z ≡ y = sym e ∙ head in let r = ap (λ (t : Call). t.turn) q in absurd (omega arith)) (λ v. v) (g z (inr w))) in
    cc
