-- Lemmas about a run in progress.
use Rattle.std.proofs.Common.{◌≡◌, ◌+◌, ◌≤◌, ◌<◌, ℕ, List, [], ◌∷◌, ◌++◌, take, drop, length, Option, None, Some, false, refl, sym, ap, ◌∙◌, append_assoc, append-nil, arith, subst, length-append, inl}
use Rattle.std.specs.Prelude.{⊤, IfSome}
use Rattle.std.specs.Io.KnownBytes.{Appends, Consumes, IsAtEnd}
use Rattle.std.proofs.lemmas.List.{take_at, take_all, take-take, take-append-drop}
use Rattle.line_devices.specs.Lines.{has_lf, lines_of, AreLines, IsLine, TakesLine}
use Rattle.line_devices.specs.Stream.{OutputState, AppendsPrefix, Puts, stopped, whole, cut}
use Rattle.line_devices.specs.Runs.{IsRun, first_lines, StepsKept, AppendsRun, AppendsRunPrefix, TakesLines}
use Rattle.line_devices.proofs.LinesLaw.{AreLines-lines_of}
use Rattle.line_devices.proofs.Puts.{Puts-nil, Puts-then, Puts-same}

-- one more line
IsRun-push : {State : Type 0} (step : State → List ℕ → State → List ℕ → Type 0) (first mid last : State) (lines : List (List ℕ)) (line text reply : List ℕ) → IsRun step first lines mid text → step mid line last reply → IsRun step first (lines ++ line ∷ []) last (text ++ reply)
IsRun-push {State} step first mid last [] line text reply r s =
    let P : State → Type 0 = λ m. step m line last reply in
    (last, reply, [], subst P r.0 s, ap (λ t. t ++ reply) r.1 ∙ sym (append-nil reply), (refl, refl))
IsRun-push step first mid last (l ∷ lines) line text reply r s =
    (r.0, r.1, r.2 ++ reply, r.3, ap (λ t. t ++ reply) r.4 ∙ append_assoc r.1 r.2 reply, IsRun-push step r.0 mid last lines line r.2 reply r.5 s)

-- Of the lines that were left at first, `count` lines are answered. The text of their replies is put.
pub record IsOnTheWay {State : Type 0} (step : State → List ℕ → State → List ℕ → Type 0) (first : State) (all left : List ℕ) (start now : OutputState) (count : ℕ) (last : State) : Type 0 where
  pub done : List (List ℕ)
  pub text : List ℕ
  pub lines : lines_of all ≡ done ++ lines_of left
  pub counted : length done ≡ count
  pub run : IsRun step first done last text
  pub put : Puts start now text

-- the same for known bytes
abbrev pub RunsFrom : {State : Type 0} → (State → List ℕ → State → List ℕ → Type 0) → State → Option (List ℕ) → Option (List ℕ) → OutputState → OutputState → ℕ → State → Type 0
RunsFrom step first None left start now count last = ⊤
RunsFrom step first (Some xs) None start now count last = ⊥
RunsFrom step first (Some xs) (Some ys) start now count last = IsOnTheWay step first xs ys start now count last

pub RunsFrom-start : {State : Type 0} (step : State → List ℕ → State → List ℕ → Type 0) (first : State) (all : Option (List ℕ)) (start : OutputState) → RunsFrom step first all all start start 0 first
RunsFrom-start step first None start = tt
RunsFrom-start step first (Some xs) start = record { done = []; text = []; lines = refl; counted = refl; run = (refl, refl); put = Puts-nil start }

-- the output was flushed
pub RunsFrom-flush : {State : Type 0} (step : State → List ℕ → State → List ℕ → Type 0) (first : State) (all left : Option (List ℕ)) (start now then : OutputState) (count : ℕ) (last : State) → RunsFrom step first all left start now count last → Puts now then [] → RunsFrom step first all left start then count last
RunsFrom-flush step first None left start now then count last w p = tt
RunsFrom-flush step first (Some xs) None start now then count last w p = absurd w
RunsFrom-flush step first (Some xs) (Some ys) start now then count last w p =
    record { done = w.done; text = w.text; lines = w.lines; counted = w.counted; run = w.run; put = Puts-same _ _ _ _ (append-nil w.text) (Puts-then _ _ _ _ _ w.put p) }

one_more : (done : List (List ℕ)) (line : List ℕ) (count : ℕ) → length done ≡ count → length (done ++ line ∷ []) ≡ count + 1
one_more done line count e = length-append done (line ∷ []) ∙ ap (λ n. n + 1) e

first_of : (line : List ℕ) (lines : List (List ℕ)) → AreLines (line ∷ lines) → IsLine line
first_of line [] a = a
first_of line (l ∷ lines) a = inl a.0

-- the first line of bytes is a line
line_first : (bytes line : List ℕ) (lines : List (List ℕ)) → lines_of bytes ≡ line ∷ lines → IsLine line
line_first bytes line lines e = first_of line lines (subst AreLines e (AreLines-lines_of bytes))

-- a line was read and answered
pub RunsFrom-more : {State : Type 0} (step : State → List ℕ → State → List ℕ → Type 0) (first : State) (all left rest : Option (List ℕ)) (start now then : OutputState) (count : ℕ) (last next : State) (line reply : List ℕ) → RunsFrom step first all left start now count last → TakesLine left rest line → StepsKept step last line next reply → Puts now then reply → RunsFrom step first all rest start then (count + 1) next
RunsFrom-more step first None left rest start now then count last next line reply w t s p = tt
RunsFrom-more step first (Some xs) None rest start now then count last next line reply w t s p = absurd w
RunsFrom-more step first (Some xs) (Some ys) None start now then count last next line reply w t s p = absurd t
RunsFrom-more step first (Some xs) (Some ys) (Some zs) start now then count last next line reply w t s p =
    record {
      done = w.done ++ t.0 ∷ [];
      text = w.text ++ reply;
      lines = w.lines ∙ (ap (λ ls. w.done ++ ls) t.1 ∙ sym (append_assoc w.done (t.0 ∷ []) (lines_of zs)));
      counted = one_more w.done t.0 count w.counted;
      run = IsRun-push step first last next w.done t.0 w.text reply w.run (s t.0 (line_first ys t.0 (lines_of zs) t.1) t.2);
      put = Puts-then _ _ _ _ _ w.put p;
    }

above_zero : (n : ℕ) → 0 < n → n ≡ 0 → ⊥
above_zero n h e = omega arith

-- what was put has reached the sink, or a prefix of it has
pub prefix_put : (a b : OutputState) (text : List ℕ) → a.failures ≡ 0 → a.held ≡ [] → Puts a b text → AppendsPrefix a.written b.written text
prefix_put a b text f h (stopped p q) = absurd (above_zero _ p f)
prefix_put a b text f h (whole p q sent s e) = (sent, b.held, ap (λ l. l ++ text) (sym h) ∙ e, s)
prefix_put a b text f h (cut p q s) = (s.0, s.1, ap (λ l. l ++ text) (sym h) ∙ s.2, s.3)

pub all_put : (a b : OutputState) (text : List ℕ) → a.failures ≡ 0 → a.held ≡ [] → b.failures ≡ 0 → b.held ≡ [] → Puts a b text → Appends a.written b.written text
all_put a b text f h g k (stopped p q) = absurd (above_zero _ p f)
all_put a b text f h g k (whole p q sent s e) =
    let P : List ℕ → Type 0 = λ t. Appends a.written b.written t in
    subst P (sym (append-nil sent) ∙ (ap (λ l. sent ++ l) (sym k) ∙ (sym e ∙ ap (λ l. l ++ text) h))) s
all_put a b text f h g k (cut p q s) = absurd (omega arith)

pub lines_done : (xs ys : List ℕ) (done : List (List ℕ)) (count : ℕ) → lines_of xs ≡ done ++ lines_of ys → length done ≡ count → done ≡ first_lines count xs
lines_done xs ys done count e n = sym (ap (take count) e ∙ take_at done (lines_of ys) count n)

taken : (xs ys : List ℕ) (done : List (List ℕ)) (count : ℕ) → lines_of xs ≡ done ++ lines_of ys → length done ≡ count → lines_of xs ≡ take count (lines_of xs) ++ lines_of ys
taken xs ys done count e n = e ∙ ap (λ ls. ls ++ lines_of ys) (sym (ap (take count) e ∙ take_at done (lines_of ys) count n))

-- a read failed: the replies to the lines so far are out, if nothing is buffered
pub AppendsRun-so_far : {State : Type 0} (step : State → List ℕ → State → List ℕ → Type 0) (first : State) (all left rest : Option (List ℕ)) (start now : OutputState) (count : ℕ) (last : State) → start.failures ≡ 0 → start.held ≡ [] → now.failures ≡ 0 → now.held ≡ [] → ((lost : List ℕ) × (has_lf lost ≡ false) × Consumes left rest lost) → RunsFrom step first all left start now count last → IfSome all (λ bytes. (k : ℕ) × TakesLines k bytes rest × AppendsRun step first (first_lines k bytes) start.written now.written)
AppendsRun-so_far step first None left rest start now count last f h g k c w = tt
AppendsRun-so_far step first (Some xs) None rest start now count last f h g k c w = absurd w
AppendsRun-so_far step first (Some xs) (Some ys) rest start now count last f h g k c w =
    let P : List (List ℕ) → Type 0 = λ ls. IsRun step first ls last w.text in
    (count, (ys, c.0, taken xs ys w.done count w.lines w.counted, c.1, c.2), (last, w.text, subst P (lines_done xs ys w.done count w.lines w.counted) w.run, all_put _ _ _ f h g k w.put))

pub lines_end : (xs ys : List ℕ) (done : List (List ℕ)) (count most : ℕ) → lines_of xs ≡ done ++ lines_of ys → length done ≡ count → ys ≡ [] → count ≤ most → done ≡ first_lines most xs
lines_end xs ys done count most e n none l =
    let all : lines_of xs ≡ done = e ∙ (ap (λ b. done ++ lines_of b) none ∙ append-nil done) in
    sym (ap (take most) all ∙ take_all most done (omega (arith, n, l)))

-- at the input's end, the replies to all lines are out
pub AppendsRun-at_end : {State : Type 0} (step : State → List ℕ → State → List ℕ → Type 0) (first : State) (all left : Option (List ℕ)) (start now : OutputState) (count most : ℕ) (last : State) → start.failures ≡ 0 → start.held ≡ [] → now.failures ≡ 0 → now.held ≡ [] → IsAtEnd left → count ≤ most → RunsFrom step first all left start now count last → IfSome all (λ bytes. AppendsRun step first (first_lines most bytes) start.written now.written)
AppendsRun-at_end step first None left start now count most last f h g k e l w = tt
AppendsRun-at_end step first (Some xs) None start now count most last f h g k e l w = absurd w
AppendsRun-at_end step first (Some xs) (Some ys) start now count most last f h g k e l w =
    let P : List (List ℕ) → Type 0 = λ ls. IsRun step first ls last w.text in
    (last, w.text, subst P (lines_end xs ys w.done count most w.lines w.counted e l) w.run, all_put _ _ _ f h g k w.put)

-- after the last line that is answered, the replies to all are out
pub AppendsRun-at_most : {State : Type 0} (step : State → List ℕ → State → List ℕ → Type 0) (first : State) (all left : Option (List ℕ)) (start now : OutputState) (count most : ℕ) (last : State) → start.failures ≡ 0 → start.held ≡ [] → now.failures ≡ 0 → now.held ≡ [] → count ≡ most → RunsFrom step first all left start now count last → IfSome all (λ bytes. AppendsRun step first (first_lines most bytes) start.written now.written)
AppendsRun-at_most step first None left start now count most last f h g k e w = tt
AppendsRun-at_most step first (Some xs) None start now count most last f h g k e w = absurd w
AppendsRun-at_most step first (Some xs) (Some ys) start now count most last f h g k e w =
    let P : List (List ℕ) → Type 0 = λ ls. IsRun step first ls last w.text in
    (last, w.text, subst P (lines_done xs ys w.done most w.lines (w.counted ∙ e)) w.run, all_put _ _ _ f h g k w.put)

-- if each line may get a reply in each state, a run of the first lines can be continued to the last
pub IsRun-on : {State : Type 0} (step : State → List ℕ → State → List ℕ → Type 0) → ((s : State) (l : List ℕ) → (next : State) × (reply : List ℕ) × step s l next reply) → (first : State) (lines : List (List ℕ)) → (last : State) × (text : List ℕ) × IsRun step first lines last text
IsRun-on step answers first [] = (first, [], (refl, refl))
IsRun-on step answers first (l ∷ lines) =
    let a = answers first l in
    let r = IsRun-on step answers a.0 lines in
    (r.0, a.1 ++ r.1, (a.0, a.1, r.1, a.2, refl, r.2))

pub IsRun-append : {State : Type 0} (step : State → List ℕ → State → List ℕ → Type 0) (first mid last : State) (lines more : List (List ℕ)) (text rest : List ℕ) → IsRun step first lines mid text → IsRun step mid more last rest → IsRun step first (lines ++ more) last (text ++ rest)
IsRun-append {State} step first mid last [] more text rest r s =
    let P : State → Type 0 = λ m. IsRun step m more last rest in
    let Q : List ℕ → Type 0 = λ t. IsRun step first more last (t ++ rest) in
    subst Q (sym r.1) (subst P r.0 s)
IsRun-append step first mid last (l ∷ lines) more text rest r s =
    (r.0, r.1, r.2 ++ rest, r.3, ap (λ t. t ++ rest) r.4 ∙ append_assoc r.1 r.2 rest, IsRun-append step r.0 mid last lines more r.2 rest r.5 s)

pub lines_more : (xs : List ℕ) (count most : ℕ) → count ≤ most → first_lines count xs ++ drop count (first_lines most xs) ≡ first_lines most xs
lines_more xs count most l =
    ap (λ ls. ls ++ drop count (take most (lines_of xs))) (sym (take-take count most (lines_of xs) l)) ∙ take-append-drop count (take most (lines_of xs))

pub prefix_longer : (a b : Option (List ℕ)) (t u : List ℕ) → AppendsPrefix a b t → AppendsPrefix a b (t ++ u)
prefix_longer a b t u f = (f.0, f.1 ++ u, ap (λ w. w ++ u) f.2 ∙ append_assoc f.0 f.1 u, f.3)

-- In every case, the sink has a prefix of the replies to all lines.
pub AppendsRunPrefix-of : {State : Type 0} (step : State → List ℕ → State → List ℕ → Type 0) → ((s : State) (l : List ℕ) → (next : State) × (reply : List ℕ) × step s l next reply) → (first : State) (all left : Option (List ℕ)) (start now : OutputState) (count most : ℕ) (last : State) → start.failures ≡ 0 → start.held ≡ [] → count ≤ most → RunsFrom step first all left start now count last → IfSome all (λ bytes. AppendsRunPrefix step first (first_lines most bytes) start.written now.written)
AppendsRunPrefix-of step answers first None left start now count most last f h l w = tt
AppendsRunPrefix-of step answers first (Some xs) None start now count most last f h l w = absurd w
AppendsRunPrefix-of step answers first (Some xs) (Some ys) start now count most last f h l w =
    let more = IsRun-on step answers last (drop count (first_lines most xs)) in
    let P : List (List ℕ) → Type 0 = λ ls. IsRun step first ls last w.text in
    let Q : List (List ℕ) → Type 0 = λ ls. IsRun step first ls more.0 (w.text ++ more.1) in
    let so_far = subst P (lines_done xs ys w.done count w.lines w.counted) w.run in
    (more.0, w.text ++ more.1, subst Q (lines_more xs count most l) (IsRun-append step first last more.0 _ _ w.text more.1 so_far more.2), prefix_longer _ _ _ _ (prefix_put _ _ _ f h w.put))
