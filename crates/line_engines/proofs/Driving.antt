-- A run of lines in progress, for any line handler.
use Rattle.std.proofs.Common.{◌≡◌, ◌+◌, ◌≤◌, ◌<◌, ℕ, Bool, true, false, ◌⊎◌, inl, inr, ⊎_elim, List, [], ◌∷◌, ◌++◌, drop, take, length, Option, None, Some, Result, Ok, Err, refl, sym, ap, ◌∙◌, append-nil, arith, subst}
use Rattle.std.specs.Prelude.{MatchBool, OnErr, OnOk, IfErr, IfSome}
use Rattle.std.specs.Io.KnownBytes.{Consumes, IsAtEnd}
use Rattle.line_devices.specs.Lines.{has_lf, lines_of, most_lines, TakesLine}
use Rattle.line_devices.specs.Runs.{AppendsRun, IsRun, StepsKept, first_lines}
use Rattle.line_devices.specs.Stream.{InputState, IsOut, OutputState, Puts}
use Rattle.line_devices.proofs.Puts.{Puts-then, Puts-same}
use Rattle.line_devices.proofs.RunLemmas.{IsOnTheWay, RunsFrom, RunsFrom-start, RunsFrom-flush, RunsFrom-more, IsRun-on, IsRun-append, AppendsRun-so_far, all_put, prefix_put, prefix_longer, lines_done, lines_end, lines_more}
use Rattle.line_engines.specs.Driver.{AnswersKept, AppendsClosed, AppendsClosedPrefix, Closes, ClosesAs, AnswersBeforeEnd, IsClosedRun, LeavesLines, MayClose, RunsOver, StepsUntilEnd, TakesNoMore, TakesSoFar, TakesUntilEnd}
use Rattle.line_engines.specs.DriverPrivate.{FailsToClose}
use Rattle.line_engines.specs.declared.fault.RunFault.{RunFault}
use Rattle.line_engines.specs.declared.fault.RunFault.TheVariants as fault

-- a run that goes on answers the line
step_on : {State : Type 0} (ends : State → Bool) (answers : State → List ℕ → State → List ℕ → Type 0) (now next : State) (line reply : List ℕ) → ends now ≡ false → answers now line next reply → StepsUntilEnd ends answers now line next reply
step_on ends answers now next line reply e a =
    let P : Bool → Type 0 = λ b. MatchBool b ((next ≡ now) × (reply ≡ [])) (answers now line next reply) in
    subst P (sym e) a

-- a run that has ended leaves the line
step_past : {State : Type 0} (ends : State → Bool) (answers : State → List ℕ → State → List ℕ → Type 0) (now next : State) (line reply : List ℕ) → ends now ≡ true → next ≡ now → reply ≡ [] → StepsUntilEnd ends answers now line next reply
step_past ends answers now next line reply e n r =
    let P : Bool → Type 0 = λ b. MatchBool b ((next ≡ now) × (reply ≡ [])) (answers now line next reply) in
    subst P (sym e) (n, r)

some_step-by : {State : Type 0} (ends : State → Bool) (answers : State → List ℕ → State → List ℕ → Type 0) → ((s : State) (l : List ℕ) → (next : State) × (reply : List ℕ) × answers s l next reply) → (s : State) (l : List ℕ) (b : Bool) → ends s ≡ b → (next : State) × (reply : List ℕ) × StepsUntilEnd ends answers s l next reply
some_step-by ends answers some s l true e = (s, [], step_past ends answers s s l [] e refl refl)
some_step-by ends answers some s l false e =
    let a = some s l in
    (a.0, a.1, step_on ends answers s a.0 l a.1 e a.2)

pub some_step : {State : Type 0} (ends : State → Bool) (answers : State → List ℕ → State → List ℕ → Type 0) → ((s : State) (l : List ℕ) → (next : State) × (reply : List ℕ) × answers s l next reply) → (s : State) (l : List ℕ) → (next : State) × (reply : List ℕ) × StepsUntilEnd ends answers s l next reply
some_step ends answers some s l = some_step-by ends answers some s l (ends s) refl

IsRun-past : {State : Type 0} (ends : State → Bool) (answers : State → List ℕ → State → List ℕ → Type 0) (last : State) (lines : List (List ℕ)) → ends last ≡ true → IsRun (StepsUntilEnd ends answers) last lines last []
IsRun-past ends answers last [] e = (refl, refl)
IsRun-past ends answers last (l ∷ lines) e = (last, [], [], step_past ends answers last last l [] e refl refl, refl, IsRun-past ends answers last lines e)

-- ---- a run whose lines are answered in states in which it hasn't ended

IsRun-going : {State : Type 0} (ends : State → Bool) (answers : State → List ℕ → State → List ℕ → Type 0) (first last : State) (lines : List (List ℕ)) (text : List ℕ) → IsRun (AnswersBeforeEnd ends answers) first lines last text → IsRun (StepsUntilEnd ends answers) first lines last text
IsRun-going ends answers first last [] text r = r
IsRun-going ends answers first last (l ∷ lines) text r =
    (r.0, r.1, r.2, step_on ends answers first r.0 l r.1 r.3.0 r.3.1, r.4, IsRun-going ends answers r.0 last lines r.2 r.5)

RunsFrom-going : {State : Type 0} (ends : State → Bool) (answers : State → List ℕ → State → List ℕ → Type 0) (first : State) (all left : Option (List ℕ)) (start now : OutputState) (count : ℕ) (last : State) → RunsFrom (AnswersBeforeEnd ends answers) first all left start now count last → RunsFrom (StepsUntilEnd ends answers) first all left start now count last
RunsFrom-going ends answers first None left start now count last w = tt
RunsFrom-going ends answers first (Some xs) None start now count last w = absurd w
RunsFrom-going ends answers first (Some xs) (Some ys) start now count last w =
    record { done = w.done; text = w.text; lines = w.lines; counted = w.counted; run = IsRun-going ends answers first last w.done w.text w.run; put = w.put }

-- the run is in a state in which it goes on, and which the stored value represents
pub record IsDriven {State : Type 0} (ends : State → Bool) (answers : State → List ℕ → State → List ℕ → Type 0) (represents : State → Type 0) (first : State) (all left : Option (List ℕ)) (start now : OutputState) (count : ℕ) : Type 0 where
  pub state : State
  pub represented : represents state
  pub continues : ends state ≡ false
  pub way : RunsFrom (AnswersBeforeEnd ends answers) first all left start now count state

pub way_of : {State : Type 0} (ends : State → Bool) (answers : State → List ℕ → State → List ℕ → Type 0) (represents : State → Type 0) (first : State) (all left : Option (List ℕ)) (start now : OutputState) (count : ℕ) (w : IsDriven ends answers represents first all left start now count) → RunsFrom (StepsUntilEnd ends answers) first all left start now count w.state
way_of ends answers represents first all left start now count w = RunsFrom-going ends answers first all left start now count w.state w.way

-- all lines were answered, as far as a run answers them
pub record IsThrough {State : Type 0} (step : State → List ℕ → State → List ℕ → Type 0) (represents : State → Type 0) (first : State) (all : Option (List ℕ)) (start now : OutputState) : Type 0 where
  pub state : State
  pub represented : represents state
  pub put : IfSome all (λ bytes. (text : List ℕ) × IsRun step first (first_lines most_lines bytes) state text × Puts start now text)

pub IsDriven-start : {State : Type 0} (ends : State → Bool) (answers : State → List ℕ → State → List ℕ → Type 0) (represents : State → Type 0) (first : State) (all : Option (List ℕ)) (start : OutputState) → represents first → ends first ≡ false → IsDriven ends answers represents first all all start start 0
IsDriven-start ends answers represents first all start s e = record { state = first; represented = s; continues = e; way = RunsFrom-start (AnswersBeforeEnd ends answers) first all start }

pub IsDriven-flush : {State : Type 0} (ends : State → Bool) (answers : State → List ℕ → State → List ℕ → Type 0) (represents : State → Type 0) (first : State) (all left : Option (List ℕ)) (start now then : OutputState) (count : ℕ) → IsDriven ends answers represents first all left start now count → Puts now then [] → IsDriven ends answers represents first all left start then count
IsDriven-flush ends answers represents first all left start now then count w p = record { state = w.state; represented = w.represented; continues = w.continues; way = RunsFrom-flush _ _ _ _ _ _ _ _ _ w.way p }

step_kept : {State : Type 0} (ends : State → Bool) (answers : State → List ℕ → State → List ℕ → Type 0) (now next : State) (bytes reply : List ℕ) → ends now ≡ false → StepsKept answers now bytes next reply → StepsKept (AnswersBeforeEnd ends answers) now bytes next reply
step_kept ends answers now next bytes reply e s line is k = (e, s line is k)

pub IsDriven-more : {State : Type 0} (ends : State → Bool) (answers : State → List ℕ → State → List ℕ → Type 0) (represented represents : State → Type 0) (first : State) (all left rest : Option (List ℕ)) (start now then : OutputState) (count : ℕ) (line : List ℕ) (w : IsDriven ends answers represented first all left start now count) → TakesLine left rest line → AnswersKept answers ends represents w.state line now then true → IsDriven ends answers represents first all rest start then (count + 1)
IsDriven-more ends answers represented represents first all left rest start now then count line w t a =
    record {
      state = a.0;
      represented = a.4;
      continues = a.5;
      way = RunsFrom-more _ _ _ _ _ _ _ _ _ _ _ _ _ w.way t (step_kept ends answers w.state a.0 line a.1 w.continues a.2) a.3;
    }

-- the run has ended, and leaves the lines that follow
put-past : {State : Type 0} (ends : State → Bool) (answers : State → List ℕ → State → List ℕ → Type 0) (first : State) (all left : Option (List ℕ)) (start now : OutputState) (count most : ℕ) (last : State) → ends last ≡ true → count ≤ most → RunsFrom (StepsUntilEnd ends answers) first all left start now count last → IfSome all (λ bytes. (text : List ℕ) × IsRun (StepsUntilEnd ends answers) first (first_lines most bytes) last text × Puts start now text)
put-past ends answers first None left start now count most last e l w = tt
put-past ends answers first (Some xs) None start now count most last e l w = absurd w
put-past {State} ends answers first (Some xs) (Some ys) start now count most last e l w =
    let P : List (List ℕ) → Type 0 = λ ls. IsRun (StepsUntilEnd ends answers) first ls last w.text in
    let Q : List (List ℕ) → Type 0 = λ ls. IsRun (StepsUntilEnd ends answers) first ls last (w.text ++ []) in
    let R : List ℕ → Type 0 = λ t. IsRun (StepsUntilEnd ends answers) first (first_lines most xs) last t in
    let so_far = subst P (lines_done xs ys w.done count w.lines w.counted) w.run in
    let more = IsRun-past ends answers last (drop count (first_lines most xs)) e in
    (w.text, subst R (append-nil w.text) (subst Q (lines_more xs count most l) (IsRun-append (StepsUntilEnd ends answers) first last last _ _ w.text [] so_far more)), w.put)

put-end : {State : Type 0} (step : State → List ℕ → State → List ℕ → Type 0) (first : State) (all left : Option (List ℕ)) (start now : OutputState) (count most : ℕ) (last : State) → IsAtEnd left → count ≤ most → RunsFrom step first all left start now count last → IfSome all (λ bytes. (text : List ℕ) × IsRun step first (first_lines most bytes) last text × Puts start now text)
put-end step first None left start now count most last e l w = tt
put-end step first (Some xs) None start now count most last e l w = absurd w
put-end step first (Some xs) (Some ys) start now count most last e l w =
    let P : List (List ℕ) → Type 0 = λ ls. IsRun step first ls last w.text in
    (w.text, subst P (lines_end xs ys w.done count most w.lines w.counted e l) w.run, w.put)

put-most : {State : Type 0} (step : State → List ℕ → State → List ℕ → Type 0) (first : State) (all left : Option (List ℕ)) (start now : OutputState) (count most : ℕ) (last : State) → count ≡ most → RunsFrom step first all left start now count last → IfSome all (λ bytes. (text : List ℕ) × IsRun step first (first_lines most bytes) last text × Puts start now text)
put-most step first None left start now count most last e w = tt
put-most step first (Some xs) None start now count most last e w = absurd w
put-most step first (Some xs) (Some ys) start now count most last e w =
    let P : List (List ℕ) → Type 0 = λ ls. IsRun step first ls last w.text in
    (w.text, subst P (lines_done xs ys w.done most w.lines (w.counted ∙ e)) w.run, w.put)

pub IsThrough-ended : {State : Type 0} (ends : State → Bool) (answers : State → List ℕ → State → List ℕ → Type 0) (represented represents : State → Type 0) (first : State) (all left rest : Option (List ℕ)) (start now then : OutputState) (count : ℕ) (line : List ℕ) (w : IsDriven ends answers represented first all left start now count) → TakesLine left rest line → count + 1 ≤ most_lines → AnswersKept answers ends represents w.state line now then false → IsThrough (StepsUntilEnd ends answers) represents first all start then
IsThrough-ended ends answers represented represents first all left rest start now then count line w t l a =
    let way = RunsFrom-more _ _ _ _ _ _ _ _ _ _ _ _ _ w.way t (step_kept ends answers w.state a.0 line a.1 w.continues a.2) a.3 in
    record { state = a.0; represented = a.4; put = put-past ends answers first all rest start then (count + 1) most_lines a.0 a.5 l (RunsFrom-going ends answers first all rest start then (count + 1) a.0 way) }

pub IsThrough-end : {State : Type 0} (ends : State → Bool) (answers : State → List ℕ → State → List ℕ → Type 0) (represents : State → Type 0) (first : State) (all left : Option (List ℕ)) (start now : OutputState) (count : ℕ) → IsDriven ends answers represents first all left start now count → IsAtEnd left → count ≤ most_lines → IsThrough (StepsUntilEnd ends answers) represents first all start now
IsThrough-end ends answers represents first all left start now count w e l =
    record { state = w.state; represented = w.represented; put = put-end (StepsUntilEnd ends answers) first all left start now count most_lines w.state e l (way_of ends answers represents first all left start now count w) }

pub IsThrough-most : {State : Type 0} (ends : State → Bool) (answers : State → List ℕ → State → List ℕ → Type 0) (represents : State → Type 0) (first : State) (all left : Option (List ℕ)) (start now : OutputState) (count : ℕ) → IsDriven ends answers represents first all left start now count → count ≡ most_lines → IsThrough (StepsUntilEnd ends answers) represents first all start now
IsThrough-most ends answers represents first all left start now count w e =
    record { state = w.state; represented = w.represented; put = put-most (StepsUntilEnd ends answers) first all left start now count most_lines w.state e (way_of ends answers represents first all left start now count w) }

-- ---- which lines are taken

input_output : fault.Input ≡ fault.Output → ⊥
input_output e = cc

input_memory : fault.Input ≡ fault.NoMemory → ⊥
input_memory e = cc

pub output_input : fault.Output ≡ fault.Input → ⊥
output_input e = cc

pub memory_input : fault.NoMemory ≡ fault.Input → ⊥
memory_input e = cc

output_memory : fault.Output ≡ fault.NoMemory → ⊥
output_memory e = cc

true_false : (b : Bool) → b ≡ true → b ≡ false → ⊥
true_false b t f = cc

lines_taken : (xs ys : List ℕ) (done : List (List ℕ)) (count : ℕ) → lines_of xs ≡ done ++ lines_of ys → length done ≡ count → lines_of xs ≡ take count (lines_of xs) ++ lines_of ys
lines_taken xs ys done count e n = e ∙ ap (λ ls. ls ++ lines_of ys) (lines_done xs ys done count e n)

takes_of : {State : Type 0} (ends : State → Bool) (answers : State → List ℕ → State → List ℕ → Type 0) (represents : State → Type 0) (first : State) (xs ys : List ℕ) (rest : Option (List ℕ)) (start now : OutputState) (count : ℕ) (last : State) → IsOnTheWay (AnswersBeforeEnd ends answers) first xs ys start now count last → represents last → (ends last ≡ true → rest ≡ Some ys) → (ends last ≡ false → first_lines count xs ≡ first_lines most_lines xs) → TakesUntilEnd ends answers represents first xs rest
takes_of ends answers represents first xs ys rest start now count last w s left all =
    let these = lines_done xs ys w.done count w.lines w.counted in
    let P : List (List ℕ) → Type 0 = λ ls. IsRun (AnswersBeforeEnd ends answers) first ls last w.text in
    let Q : Option (List ℕ) → Type 0 = λ r. LeavesLines count xs r in
    record {
      count = count;
      counted = ap length (sym these) ∙ w.counted;
      last = last;
      text = w.text;
      run = subst P these w.run;
      represented = s;
      ended = λ e. subst Q (sym (left e)) (lines_taken xs ys w.done count w.lines w.counted);
      all = all;
    }

takes_ended : {State : Type 0} (ends : State → Bool) (answers : State → List ℕ → State → List ℕ → Type 0) (represents : State → Type 0) (first : State) (all left : Option (List ℕ)) (start now : OutputState) (count : ℕ) (last : State) → ends last ≡ true → represents last → RunsFrom (AnswersBeforeEnd ends answers) first all left start now count last → IfSome all (λ bytes. TakesUntilEnd ends answers represents first bytes left)
takes_ended ends answers represents first None left start now count last e s w = tt
takes_ended ends answers represents first (Some xs) None start now count last e s w = absurd w
takes_ended ends answers represents first (Some xs) (Some ys) start now count last e s w =
    takes_of ends answers represents first xs ys (Some ys) start now count last w s (λ _. refl) (λ f. absurd (true_false (ends last) e f))

takes_all : {State : Type 0} (ends : State → Bool) (answers : State → List ℕ → State → List ℕ → Type 0) (represents : State → Type 0) (first : State) (all left rest : Option (List ℕ)) (start now : OutputState) (count : ℕ) (last : State) → ends last ≡ false → represents last → RunsFrom (AnswersBeforeEnd ends answers) first all left start now count last → IsAtEnd left ⊎ (count ≡ most_lines) → count ≤ most_lines → IfSome all (λ bytes. TakesUntilEnd ends answers represents first bytes rest)
takes_all ends answers represents first None left rest start now count last e s w at l = tt
takes_all ends answers represents first (Some xs) None rest start now count last e s w at l = absurd w
takes_all ends answers represents first (Some xs) (Some ys) rest start now count last e s w at l =
    takes_of ends answers represents first xs ys rest start now count last w s (λ t. absurd (true_false (ends last) t e)) (λ f.
    ⊎_elim
    (λ none. sym (lines_done xs ys w.done count w.lines w.counted) ∙ lines_end xs ys w.done count most_lines w.lines w.counted none l)
    (λ all. ap (λ n. first_lines n xs) all)
    at)

takes_so_far : {State : Type 0} (ends : State → Bool) (answers : State → List ℕ → State → List ℕ → Type 0) (first : State) (all left rest : Option (List ℕ)) (start now : OutputState) (count : ℕ) (last : State) → ends last ≡ false → RunsFrom (AnswersBeforeEnd ends answers) first all left start now count last → ((lost : List ℕ) × (has_lf lost ≡ false) × Consumes left rest lost) → IfSome all (λ bytes. TakesSoFar ends answers first bytes rest)
takes_so_far ends answers first None left rest start now count last e w c = tt
takes_so_far ends answers first (Some xs) None rest start now count last e w c = absurd w
takes_so_far ends answers first (Some xs) (Some ys) rest start now count last e w c =
    let these = lines_done xs ys w.done count w.lines w.counted in
    let P : List (List ℕ) → Type 0 = λ ls. IsRun (AnswersBeforeEnd ends answers) first ls last w.text in
    record {
      count = count;
      counted = ap length (sym these) ∙ w.counted;
      last = last;
      text = w.text;
      run = subst P these w.run;
      continues = e;
      taken = (ys, c.0, lines_taken xs ys w.done count w.lines w.counted, c.1, c.2);
    }

no_input : {State V : Type 0} (ends : State → Bool) (answers : State → List ℕ → State → List ℕ → Type 0) (represents : State → Type 0) (first : State) (input rest : InputState) (e : RunFault) → (e ≡ fault.Input → ⊥) → TakesNoMore {State = State} {T = V} ends answers represents first input rest (Err e)
no_input ends answers represents first input rest e other = record { done = tt; failed = λ i. absurd (other i) }

-- a run that stopped otherwise than by a failed read
pub TakesNoMore-stopped : {State V : Type 0} (ends : State → Bool) (answers : State → List ℕ → State → List ℕ → Type 0) (represents : State → Type 0) (first : State) (input rest : InputState) (result : Result V RunFault) (e : RunFault) → result ≡ Err e → (e ≡ fault.Input → ⊥) → TakesNoMore ends answers represents first input rest result
TakesNoMore-stopped ends answers represents first input rest (Ok x) e is other = absurd (cc)
TakesNoMore-stopped ends answers represents first input rest (Err f) e is other = no_input ends answers represents first input rest f (λ i. let same : e ≡ fault.Input = cc in other same)

pub TakesNoMore-input : {State V : Type 0} (ends : State → Bool) (answers : State → List ℕ → State → List ℕ → Type 0) (represented represents : State → Type 0) (first : State) (input rest : InputState) (left : Option (List ℕ)) (start now : OutputState) (count : ℕ) → IsDriven ends answers represented first input.left left start now count → ((lost : List ℕ) × (has_lf lost ≡ false) × Consumes left rest.left lost) → TakesNoMore {State = State} {T = V} ends answers represents first input rest (Err fault.Input)
TakesNoMore-input ends answers represented represents first input rest left start now count w lost =
    record { done = tt; failed = λ _. takes_so_far ends answers first input.left left rest.left start now count w.state w.continues w.way lost }

-- a run whose last text was put, or failed for lack of memory, or whose output failed
finished : {State V : Type 0} (ends : State → Bool) (answers : State → List ℕ → State → List ℕ → Type 0) (represents : State → Type 0) (may_lack_memory : Type 0) (mid out : OutputState) (first : State) (input rest : InputState) (result : Result V RunFault) → IfErr result (λ e. ((e ≡ fault.Output) × (0 < out.failures)) ⊎ ((e ≡ fault.NoMemory) × FailsToClose may_lack_memory mid out)) → IfSome input.left (λ bytes. TakesUntilEnd ends answers represents first bytes rest.left) → TakesNoMore ends answers represents first input rest result
finished ends answers represents may_lack_memory mid out first input rest (Ok x) err t = record { done = t; failed = tt }
finished ends answers represents may_lack_memory mid out first input rest (Err e) err t = no_input ends answers represents first input rest e (λ i. ⊎_elim (λ o. input_output (sym i ∙ o.0)) (λ m. input_memory (sym i ∙ m.0)) err)

pub TakesNoMore-ended : {State V : Type 0} (ends : State → Bool) (answers : State → List ℕ → State → List ℕ → Type 0) (represented mid_represents represents : State → Type 0) (may_lack_memory : Type 0) (first : State) (input rest : InputState) (left : Option (List ℕ)) (start now then out : OutputState) (count : ℕ) (line : List ℕ) (result : Result V RunFault) (w : IsDriven ends answers represented first input.left left start now count) → TakesLine left rest.left line → AnswersKept answers ends mid_represents w.state line now then false → ((now : State) → mid_represents now → represents now) → IfErr result (λ e. ((e ≡ fault.Output) × (0 < out.failures)) ⊎ ((e ≡ fault.NoMemory) × FailsToClose may_lack_memory then out)) → TakesNoMore ends answers represents first input rest result
TakesNoMore-ended ends answers represented mid_represents represents may_lack_memory first input rest left start now then out count line result w t a on err =
    let way = RunsFrom-more _ _ _ _ _ _ _ _ _ _ _ _ _ w.way t (step_kept ends answers w.state a.0 line a.1 w.continues a.2) a.3 in
    finished ends answers represents may_lack_memory then out first input rest result err (takes_ended ends answers represents first input.left rest.left start then (count + 1) a.0 a.5 (on a.0 a.4) way)

pub TakesNoMore-all : {State V : Type 0} (ends : State → Bool) (answers : State → List ℕ → State → List ℕ → Type 0) (represented represents : State → Type 0) (may_lack_memory : Type 0) (first : State) (input rest : InputState) (left : Option (List ℕ)) (start now out : OutputState) (count : ℕ) (result : Result V RunFault) → IsDriven ends answers represented first input.left left start now count → IsAtEnd left ⊎ (count ≡ most_lines) → count ≤ most_lines → ((now : State) → represented now → represents now) → IfErr result (λ e. ((e ≡ fault.Output) × (0 < out.failures)) ⊎ ((e ≡ fault.NoMemory) × FailsToClose may_lack_memory now out)) → TakesNoMore ends answers represents first input rest result
TakesNoMore-all ends answers represented represents may_lack_memory first input rest left start now out count result w at l on err =
    finished ends answers represents may_lack_memory now out first input rest result err (takes_all ends answers represents first input.left left rest.left start now count w.state w.continues (on w.state w.represented) w.way at l)

pub Closes-flushed : {State : Type 0} (closes : State → List ℕ → Type 0) (now : State) (a b c : OutputState) → Closes closes now a b → Puts b c [] → Closes closes now a c
Closes-flushed closes now a b c k p = (k.0, k.1, Puts-same _ _ _ _ (append-nil k.0) (Puts-then _ _ _ _ _ k.2 p))

-- at any point of the run, what was written is a prefix
pub AppendsClosedPrefix-of : {State : Type 0} (step : State → List ℕ → State → List ℕ → Type 0) (closes : State → List ℕ → Type 0) → ((s : State) (l : List ℕ) → (next : State) × (reply : List ℕ) × step s l next reply) → (first : State) (all left : Option (List ℕ)) (start now : OutputState) (count most : ℕ) (last : State) → start.failures ≡ 0 → start.held ≡ [] → count ≤ most → RunsFrom step first all left start now count last → IfSome all (λ bytes. AppendsClosedPrefix step (MayClose closes) first (first_lines most bytes) start.written now.written)
AppendsClosedPrefix-of step closes some first None left start now count most last f h l w = tt
AppendsClosedPrefix-of step closes some first (Some xs) None start now count most last f h l w = absurd w
AppendsClosedPrefix-of step closes some first (Some xs) (Some ys) start now count most last f h l w =
    let more = IsRun-on step some last (drop count (first_lines most xs)) in
    let P : List (List ℕ) → Type 0 = λ ls. IsRun step first ls last w.text in
    let Q : List (List ℕ) → Type 0 = λ ls. IsRun step first ls more.0 (w.text ++ more.1) in
    let so_far = subst P (lines_done xs ys w.done count w.lines w.counted) w.run in
    let run = subst Q (lines_more xs count most l) (IsRun-append step first last more.0 _ _ w.text more.1 so_far more.2) in
    ((w.text ++ more.1) ++ [], (more.0, w.text ++ more.1, [], run, inr refl, refl), prefix_longer _ _ _ _ (prefix_longer _ _ _ _ (prefix_put _ _ _ f h w.put)))

closed_prefix : {State : Type 0} (step : State → List ℕ → State → List ℕ → Type 0) (closes : State → List ℕ → Type 0) (first last : State) (all : Option (List ℕ)) (start mid now : OutputState) (most : ℕ) → start.failures ≡ 0 → start.held ≡ [] → IfSome all (λ bytes. (text : List ℕ) × IsRun step first (first_lines most bytes) last text × Puts start mid text) → Closes closes last mid now ⊎ Puts mid now [] → IfSome all (λ bytes. AppendsClosedPrefix step (MayClose closes) first (first_lines most bytes) start.written now.written)
closed_prefix step closes first last None start mid now most f h p k = tt
closed_prefix step closes first last (Some xs) start mid now most f h p k =
    ⊎_elim
    (λ k. (p.0 ++ k.0, (last, p.0, k.0, p.1, inl k.1, refl), prefix_put _ _ _ f h (Puts-then _ _ _ _ _ p.2 k.2)))
    (λ n. (p.0 ++ [], (last, p.0, [], p.1, inr refl, refl), prefix_put _ _ _ f h (Puts-then _ _ _ _ _ p.2 n)))
    k

-- all replies are out, and nothing after them
replies_out : {State : Type 0} (step : State → List ℕ → State → List ℕ → Type 0) (first last : State) (all : Option (List ℕ)) (start mid now : OutputState) (most : ℕ) → start.failures ≡ 0 → start.held ≡ [] → now.failures ≡ 0 → now.held ≡ [] → IfSome all (λ bytes. (text : List ℕ) × IsRun step first (first_lines most bytes) last text × Puts start mid text) → Puts mid now [] → IfSome all (λ bytes. AppendsRun step first (first_lines most bytes) start.written now.written)
replies_out step first last None start mid now most f h g i p n = tt
replies_out step first last (Some xs) start mid now most f h g i p n =
    (last, p.0, p.1, all_put _ _ _ f h g i (Puts-same _ _ _ _ (append-nil p.0) (Puts-then _ _ _ _ _ p.2 n)))

closed_text : {State : Type 0} (step : State → List ℕ → State → List ℕ → Type 0) (closes : State → List ℕ → Type 0) (first last : State) (all : Option (List ℕ)) (start mid now : OutputState) (most : ℕ) → start.failures ≡ 0 → start.held ≡ [] → now.failures ≡ 0 → now.held ≡ [] → IfSome all (λ bytes. (text : List ℕ) × IsRun step first (first_lines most bytes) last text × Puts start mid text) → Closes closes last mid now → IfSome all (λ bytes. AppendsClosed step closes first (first_lines most bytes) start.written now.written)
closed_text step closes first last None start mid now most f h g i p k = tt
closed_text step closes first last (Some xs) start mid now most f h g i p k =
    (p.0 ++ k.0, (last, p.0, k.0, p.1, k.1, refl), all_put _ _ _ f h g i (Puts-then _ _ _ _ _ p.2 k.2))

-- the ends of a run

pub RunsOver-no_memory : {State : Type 0} (step : State → List ℕ → State → List ℕ → Type 0) (closes : State → List ℕ → Type 0) (may_lack_memory : Type 0) {V : Type 0} (result : Result V RunFault) → ((s : State) (l : List ℕ) → (next : State) × (reply : List ℕ) × step s l next reply) → (first : State) (input : InputState) (output : OutputState) → output.failures ≡ 0 → output.held ≡ [] → result ≡ Err fault.NoMemory → RunsOver step closes may_lack_memory first input input output output result
RunsOver-no_memory step closes may_lack_memory (Ok x) some first input output f h e = absurd (cc)
RunsOver-no_memory step closes may_lack_memory (Err e) some first input output f h is =
    let is_memory : e ≡ fault.NoMemory = cc in
    record {
      text = tt;
      done = tt;
      input_failed = λ i. absurd (input_memory (sym i ∙ is_memory));
      output_failed = λ o. absurd (output_memory (sym o ∙ is_memory));
      so_far = λ i. absurd (input_memory (sym i ∙ is_memory));
      no_memory = λ _. inl (refl, refl);
      front = AppendsClosedPrefix-of step closes some first input.left input.left output output 0 most_lines first f h (omega arith) (RunsFrom-start step first input.left output);
    }

pub RunsOver-output : {State : Type 0} (step : State → List ℕ → State → List ℕ → Type 0) (closes : State → List ℕ → Type 0) (may_lack_memory : Type 0) {V : Type 0} → ((s : State) (l : List ℕ) → (next : State) × (reply : List ℕ) × step s l next reply) → (first : State) (input rest : InputState) (output out : OutputState) (count : ℕ) (last : State) → output.failures ≡ 0 → output.held ≡ [] → 0 < out.failures → count ≤ most_lines → RunsFrom step first input.left rest.left output out count last → RunsOver {State = State} {T = V} step closes may_lack_memory first input rest output out (Err fault.Output)
RunsOver-output step closes may_lack_memory some first input rest output out count last f h failed l w =
    record {
      text = tt;
      done = tt;
      input_failed = λ i. absurd (input_output (sym i));
      output_failed = λ _. failed;
      so_far = λ i. absurd (input_output (sym i));
      no_memory = λ m. absurd (output_memory m);
      front = AppendsClosedPrefix-of step closes some first input.left rest.left output out count most_lines last f h l w;
    }

pub RunsOver-input : {State : Type 0} (step : State → List ℕ → State → List ℕ → Type 0) (closes : State → List ℕ → Type 0) (may_lack_memory : Type 0) {V : Type 0} → ((s : State) (l : List ℕ) → (next : State) × (reply : List ℕ) × step s l next reply) → (first : State) (input rest : InputState) (left : Option (List ℕ)) (output out : OutputState) (count : ℕ) (last : State) → output.failures ≡ 0 → output.held ≡ [] → 0 < rest.failures → out.failures ≡ 0 → IsOut out → ((lost : List ℕ) × (has_lf lost ≡ false) × Consumes left rest.left lost) → count ≤ most_lines → RunsFrom step first input.left left output out count last → RunsOver {State = State} {T = V} step closes may_lack_memory first input rest output out (Err fault.Input)
RunsOver-input step closes may_lack_memory some first input rest left output out count last f h failed g o lost l w =
    record {
      text = tt;
      done = tt;
      input_failed = λ _. failed;
      output_failed = λ e. absurd (input_output e);
      so_far = λ _. (g, o, AppendsRun-so_far _ _ _ _ _ _ _ _ _ f h g o.0 lost w);
      no_memory = λ m. absurd (input_memory m);
      front = AppendsClosedPrefix-of step closes some first input.left left output out count most_lines last f h l w;
    }

pub RunsOver-finished : {State : Type 0} (step : State → List ℕ → State → List ℕ → Type 0) (closes : State → List ℕ → Type 0) (may_lack_memory : Type 0) (represents : State → Type 0) {V : Type 0} (result : Result V RunFault) (first : State) (input rest : InputState) (output mid out : OutputState) → output.failures ≡ 0 → output.held ≡ [] → rest.failures ≡ 0 → IsThrough step represents first input.left output mid → ((now : State) → represents now → Closes closes now mid out ⊎ Puts mid out []) → ((now : State) → represents now → OnOk result (Closes closes now mid out)) → OnOk result ((out.failures ≡ 0) × IsOut out) → IfErr result (λ e. ((e ≡ fault.Output) × (0 < out.failures)) ⊎ ((e ≡ fault.NoMemory) × FailsToClose may_lack_memory mid out)) → RunsOver step closes may_lack_memory first input rest output out result
RunsOver-finished step closes may_lack_memory represents (Ok x) first input rest output mid out f h r w k kok ok err =
    record {
      text = closed_text step closes first w.state input.left output mid out most_lines f h ok.0 ok.1.0 w.put (kok w.state w.represented);
      done = (r, ok.0, ok.1);
      input_failed = tt;
      output_failed = tt;
      so_far = tt;
      no_memory = tt;
      front = closed_prefix step closes first w.state input.left output mid out most_lines f h w.put (k w.state w.represented);
    }
RunsOver-finished step closes may_lack_memory represents (Err e) first input rest output mid out f h r w k kok ok err =
    record {
      text = tt;
      done = tt;
      input_failed = λ i. ⊎_elim (λ o. absurd (input_output (sym i ∙ o.0))) (λ m. absurd (input_memory (sym i ∙ m.0))) err;
      output_failed = λ i. ⊎_elim (λ o. o.1) (λ m. absurd (output_memory (sym i ∙ m.0))) err;
      so_far = λ i. ⊎_elim (λ o. absurd (input_output (sym i ∙ o.0))) (λ m. absurd (input_memory (sym i ∙ m.0))) err;
      no_memory = λ i. ⊎_elim
          (λ o. absurd (output_memory (sym o.0 ∙ i)))
          (λ m. inr (m.1.may, r, m.1.not_failed, m.1.out, replies_out step first w.state input.left output mid out most_lines f h m.1.not_failed m.1.out.0 w.put m.1.none_put))
          err;
      front = closed_prefix step closes first w.state input.left output mid out most_lines f h w.put (k w.state w.represented);
    }

-- the same for an equal setting, for equal bytes, and for the verdict that was given

pub of_setting : {State Setting : Type 0} (ends : State → Bool) (answers : Setting → State → List ℕ → State → List ℕ → Type 0) (represents : State → Type 0) (a b : Setting) → a ≡ b → (now : State) (bytes : List ℕ) (old new : OutputState) (continues : Bool) → AnswersKept (answers a) ends represents now bytes old new continues → AnswersKept (answers b) ends represents now bytes old new continues
of_setting {Setting = Setting} ends answers represents a b e now bytes old new continues h =
    let P : Setting → Type 0 = λ s. AnswersKept (answers s) ends represents now bytes old new continues in
    subst P e h

pub of_bytes : {State : Type 0} (ends : State → Bool) (answers : State → List ℕ → State → List ℕ → Type 0) (represents : State → Type 0) (now : State) (a b : List ℕ) (old new : OutputState) (continues : Bool) → a ≡ b → AnswersKept answers ends represents now a old new continues → AnswersKept answers ends represents now b old new continues
of_bytes ends answers represents now a b old new continues e h =
    let P : List ℕ → Type 0 = λ l. AnswersKept answers ends represents now l old new continues in
    subst P e h

pub of_verdict : {State : Type 0} (ends : State → Bool) (answers : State → List ℕ → State → List ℕ → Type 0) (represents : State → Type 0) (now : State) (bytes : List ℕ) (old new : OutputState) (a b : Bool) → a ≡ b → AnswersKept answers ends represents now bytes old new a → AnswersKept answers ends represents now bytes old new b
of_verdict ends answers represents now bytes old new a b e h =
    let P : Bool → Type 0 = λ v. AnswersKept answers ends represents now bytes old new v in
    subst P e h

pub closes_of : {State Setting : Type 0} (closes : Setting → State → List ℕ → Type 0) (represents : State → Type 0) (a b : Setting) → a ≡ b → (mid out : OutputState) → ((now : State) → represents now → Closes (closes a) now mid out ⊎ Puts mid out []) → (now : State) → represents now → Closes (closes b) now mid out ⊎ Puts mid out []
closes_of {Setting = Setting} closes represents a b e mid out k now s =
    let P : Setting → Type 0 = λ x. Closes (closes x) now mid out ⊎ Puts mid out [] in
    subst P e (k now s)

pub closed_of : {State Setting V : Type 0} (closes : Setting → State → List ℕ → Type 0) (represents : State → Type 0) (a b : Setting) (result : Result V RunFault) → a ≡ b → (mid out : OutputState) → ((now : State) → represents now → OnOk result (Closes (closes a) now mid out)) → (now : State) → represents now → OnOk result (Closes (closes b) now mid out)
closed_of {Setting = Setting} closes represents a b result e mid out k now s =
    let P : Setting → Type 0 = λ x. OnOk result (Closes (closes x) now mid out) in
    subst P e (k now s)

-- after a last text that was put, or wasn't, and a flush
pub closed_or_none : {State A E : Type 0} (closes : State → List ℕ → Type 0) (now : State) (r : Result A E) (a b c : OutputState) → OnOk r (Closes closes now a b) → OnErr r (b ≡ a) → Puts b c [] → Closes closes now a c ⊎ Puts a c []
closed_or_none closes now (Ok x) a b c k s p = inl (Closes-flushed closes now a b c k p)
closed_or_none closes now (Err e) a b c k s p = inr (subst (λ o. Puts o c []) s p)

-- what represented the state before the last text represents it afterwards
pub closes_as : {State : Type 0} (closes : State → List ℕ → Type 0) (represented represents : State → Type 0) (mid out : OutputState) → ((now : State) → represented now → represents now) → ((now : State) → represented now → Closes closes now mid out ⊎ Puts mid out []) → (now : State) → represented now → Closes (ClosesAs closes represents) now mid out ⊎ Puts mid out []
closes_as closes represented represents mid out on k now s = ⊎_elim (λ c. inl (c.0, (c.1, on now s), c.2)) (λ p. inr p) (k now s)

closed_as_by : {State V : Type 0} (closes : State → List ℕ → Type 0) (represents : State → Type 0) (mid out : OutputState) (now : State) (result : Result V RunFault) → represents now → OnOk result (Closes closes now mid out) → OnOk result (Closes (ClosesAs closes represents) now mid out)
closed_as_by closes represents mid out now (Ok x) s c = (c.0, (c.1, s), c.2)
closed_as_by closes represents mid out now (Err e) s c = tt

pub closed_as : {State V : Type 0} (closes : State → List ℕ → Type 0) (represented represents : State → Type 0) (mid out : OutputState) (result : Result V RunFault) → ((now : State) → represented now → represents now) → ((now : State) → represented now → OnOk result (Closes closes now mid out)) → (now : State) → represented now → OnOk result (Closes (ClosesAs closes represents) now mid out)
closed_as closes represented represents mid out result on k now s = closed_as_by closes represents mid out now result (on now s) (k now s)

-- ---- a run with weaker conditions

closed_weaker : {State : Type 0} (step : State → List ℕ → State → List ℕ → Type 0) (more less : State → List ℕ → Type 0) → ((now : State) (end : List ℕ) → more now end → less now end) → (first : State) (lines : List (List ℕ)) (text : List ℕ) → IsClosedRun step more first lines text → IsClosedRun step less first lines text
closed_weaker step more less w first lines text c = (c.0, c.1, c.2, c.3, w c.0 c.2 c.4, c.5)

may_close_weaker : {State : Type 0} (more less : State → List ℕ → Type 0) → ((now : State) (end : List ℕ) → more now end → less now end) → (now : State) (end : List ℕ) → MayClose more now end → MayClose less now end
may_close_weaker more less w now end m = ⊎_elim (λ k. inl (w now end k)) (λ n. inr n) m

text_weaker : {State V : Type 0} (step : State → List ℕ → State → List ℕ → Type 0) (more less : State → List ℕ → Type 0) → ((now : State) (end : List ℕ) → more now end → less now end) → (first : State) (result : Result V RunFault) (left a b : Option (List ℕ)) → OnOk result (IfSome left (λ bytes. AppendsClosed step more first (first_lines most_lines bytes) a b)) → OnOk result (IfSome left (λ bytes. AppendsClosed step less first (first_lines most_lines bytes) a b))
text_weaker step more less w first (Err e) left a b k = tt
text_weaker step more less w first (Ok x) None a b k = tt
text_weaker step more less w first (Ok x) (Some bytes) a b k = (k.0, closed_weaker step more less w first _ k.0 k.1, k.2)

prefix_weaker : {State : Type 0} (step : State → List ℕ → State → List ℕ → Type 0) (more less : State → List ℕ → Type 0) → ((now : State) (end : List ℕ) → more now end → less now end) → (first : State) (left a b : Option (List ℕ)) → IfSome left (λ bytes. AppendsClosedPrefix step (MayClose more) first (first_lines most_lines bytes) a b) → IfSome left (λ bytes. AppendsClosedPrefix step (MayClose less) first (first_lines most_lines bytes) a b)
prefix_weaker step more less w first None a b k = tt
prefix_weaker step more less w first (Some bytes) a b k = (k.0, closed_weaker step (MayClose more) (MayClose less) (may_close_weaker more less w) first _ k.0 k.1, k.2)

pub RunsOver-closes : {State V : Type 0} (step : State → List ℕ → State → List ℕ → Type 0) (more less : State → List ℕ → Type 0) (may_lack_memory : Type 0) (first : State) (input rest : InputState) (output out : OutputState) (result : Result V RunFault) → ((now : State) (end : List ℕ) → more now end → less now end) → RunsOver step more may_lack_memory first input rest output out result → RunsOver step less may_lack_memory first input rest output out result
RunsOver-closes step more less may_lack_memory first input rest output out result w r = record {
  text = text_weaker step more less w first result input.left output.written out.written r.text;
  done = r.done;
  input_failed = r.input_failed;
  output_failed = r.output_failed;
  so_far = r.so_far;
  no_memory = r.no_memory;
  front = prefix_weaker step more less w first input.left output.written out.written r.front;
}

-- ---- the same for another result

pub RunsOver-ok : {State V W : Type 0} (step : State → List ℕ → State → List ℕ → Type 0) (closes : State → List ℕ → Type 0) (may_lack_memory : Type 0) (first : State) (input rest : InputState) (output out : OutputState) (ran : Result V RunFault) (x : V) (y : W) → ran ≡ Ok x → RunsOver step closes may_lack_memory first input rest output out ran → RunsOver {T = W} step closes may_lack_memory first input rest output out (Ok y)
RunsOver-ok step closes may_lack_memory first input rest output out (Ok z) x y e r = record {
  text = r.text;
  done = r.done;
  input_failed = tt;
  output_failed = tt;
  so_far = tt;
  no_memory = tt;
  front = r.front;
}
RunsOver-ok step closes may_lack_memory first input rest output out (Err z) x y e r = absurd (cc)

pub RunsOver-err : {State V W : Type 0} (step : State → List ℕ → State → List ℕ → Type 0) (closes : State → List ℕ → Type 0) (may_lack_memory : Type 0) (first : State) (input rest : InputState) (output out : OutputState) (ran : Result V RunFault) (x : RunFault) → ran ≡ Err x → RunsOver step closes may_lack_memory first input rest output out ran → RunsOver {T = W} step closes may_lack_memory first input rest output out (Err x)
RunsOver-err step closes may_lack_memory first input rest output out (Ok z) x e r = absurd (cc)
RunsOver-err {W = W} step closes may_lack_memory first input rest output out (Err z) x e r =
    let same : z ≡ x = cc in
    let P : RunFault → Type 0 = λ f. RunsOver {T = W} step closes may_lack_memory first input rest output out (Err f) in
    subst P same (record {
      text = tt;
      done = tt;
      input_failed = r.input_failed;
      output_failed = r.output_failed;
      so_far = r.so_far;
      no_memory = r.no_memory;
      front = r.front;
    })
