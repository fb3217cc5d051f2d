-- Runs over the lines of an input.
use Rattle.std.specs.Prelude.{◌≡◌, ◌<◌, ◌⊎◌, ℕ, Bool, true, false, not, List, [], ◌++◌, length, take, Option, None, Some, Result, MatchBool, OnOk, IfErr, IfSome}
use Rattle.std.specs.Io.KnownBytes.{Appends}
use Rattle.line_devices.specs.Lines.{lines_of, most_lines}
use Rattle.line_devices.specs.Runs.{IsRun, AppendsRun, StepsKept, TakesLines, first_lines}
use Rattle.line_devices.specs.Stream.{AppendsPrefix, InputState, IsOut, OutputState, Puts}
use Rattle.line_engines.specs.declared.fault.RunFault.{RunFault}
use Rattle.line_engines.specs.declared.fault.RunFault.TheVariants as fault

-- One line of a run that may end before its lines do: after its end, lines get no reply and change nothing.
abbrev pub StepsUntilEnd : {State : Type 0} → (State → Bool) → (State → List ℕ → State → List ℕ → Type 0) → State → List ℕ → State → List ℕ → Type 0
StepsUntilEnd ends answers now line next reply = MatchBool (ends now) ((next ≡ now) × (reply ≡ [])) (answers now line next reply)

-- Every line of which these bytes are kept may get a reply, which was put. The new value represents the state after it, and the
-- run goes on unless it has ended.
abbrev pub AnswersKept : {State : Type 0} → (State → List ℕ → State → List ℕ → Type 0) → (State → Bool) → (State → Type 0) → State → List ℕ → OutputState → OutputState → Bool → Type 0
AnswersKept {State} answers ends represents now bytes old new continues = (next : State) × (reply : List ℕ) × StepsKept answers now bytes next reply × Puts old new reply × represents next × (ends next ≡ not continues)

-- the state is represented, after some number of lines
abbrev pub AfterSomeLines : {State : Type 0} → (ℕ → State → Type 0) → State → Type 0
AfterSomeLines represents now = (lines : ℕ) × represents lines now

-- a possible last text was put
abbrev pub Closes : {State : Type 0} → (State → List ℕ → Type 0) → State → OutputState → OutputState → Type 0
Closes closes now old new = (end : List ℕ) × closes now end × Puts old new end

-- a possible last text in this state, which the final value represents
abbrev pub ClosesAs : {State : Type 0} → (State → List ℕ → Type 0) → (State → Type 0) → State → List ℕ → Type 0
ClosesAs closes represents now end = closes now end × represents now

-- the last text, or nothing
abbrev pub MayClose : {State : Type 0} → (State → List ℕ → Type 0) → State → List ℕ → Type 0
MayClose closes now end = closes now end ⊎ (end ≡ [])

-- the replies to the lines, followed by the last text
abbrev pub IsClosedRun : {State : Type 0} → (State → List ℕ → State → List ℕ → Type 0) → (State → List ℕ → Type 0) → State → List (List ℕ) → List ℕ → Type 0
IsClosedRun {State} step closes first lines text = (last : State) × (replies : List ℕ) × (end : List ℕ) × IsRun step first lines last replies × closes last end × (text ≡ replies ++ end)

-- known bytes grow by such a text
abbrev pub AppendsClosed : {State : Type 0} → (State → List ℕ → State → List ℕ → Type 0) → (State → List ℕ → Type 0) → State → List (List ℕ) → Option (List ℕ) → Option (List ℕ) → Type 0
AppendsClosed step closes first lines old new = (text : List ℕ) × IsClosedRun step closes first lines text × Appends old new text

-- known bytes grow by a prefix of such a text
abbrev pub AppendsClosedPrefix : {State : Type 0} → (State → List ℕ → State → List ℕ → Type 0) → (State → List ℕ → Type 0) → State → List (List ℕ) → Option (List ℕ) → Option (List ℕ) → Type 0
AppendsClosedPrefix step closes first lines old new = (text : List ℕ) × IsClosedRun step closes first lines text × AppendsPrefix old new text

-- The result of a run over an input and an output. The states of the input before and after it are `input` and `rest`, those of
-- the output `output` and `out`.
pub record RunsOver {State : Type 0} {T : Type 0} (step : State → List ℕ → State → List ℕ → Type 0) (closes : State → List ℕ → Type 0) (may_lack_memory : Type 0) (first : State) (input rest : InputState) (output out : OutputState) (result : Result T RunFault) : Type 0 where
  -- on success, each line got its reply, in order, followed by the last text
  pub text : OnOk result (IfSome input.left (λ bytes. AppendsClosed step closes first (first_lines most_lines bytes) output.written out.written))
  -- and no device has failed, and everything is out
  pub done : OnOk result ((rest.failures ≡ 0) × (out.failures ≡ 0) × IsOut out)
  -- an error names a device only if that has failed
  pub input_failed : IfErr result (λ e. e ≡ fault.Input → 0 < rest.failures)
  pub output_failed : IfErr result (λ e. e ≡ fault.Output → 0 < out.failures)
  -- after a failed read, each reply so far is out
  pub so_far : IfErr result (λ e. e ≡ fault.Input → (out.failures ≡ 0) × IsOut out × IfSome input.left (λ bytes. (count : ℕ) × TakesLines count bytes rest.left × AppendsRun step first (first_lines count bytes) output.written out.written))
  -- memory runs out before the first line, or, if the engine allows it, for the last text: then each reply is out
  pub no_memory : IfErr result (λ e. e ≡ fault.NoMemory → ((rest ≡ input) × (out ≡ output)) ⊎ (may_lack_memory × (rest.failures ≡ 0) × (out.failures ≡ 0) × IsOut out × IfSome input.left (λ bytes. AppendsRun step first (first_lines most_lines bytes) output.written out.written)))
  -- in every case, a prefix of the replies and a possible last text was written
  pub front : IfSome input.left (λ bytes. AppendsClosedPrefix step (MayClose closes) first (first_lines most_lines bytes) output.written out.written)

-- ---- which lines are read

-- A line gets its reply in a state in which the run hasn't ended.
abbrev pub AnswersBeforeEnd : {State : Type 0} → (State → Bool) → (State → List ℕ → State → List ℕ → Type 0) → State → List ℕ → State → List ℕ → Type 0
AnswersBeforeEnd ends answers now line next reply = (ends now ≡ false) × answers now line next reply

-- the first `count` lines were read from the bytes, and all others are left
abbrev pub LeavesLines : ℕ → List ℕ → Option (List ℕ) → Type 0
LeavesLines count bytes None = ⊥
LeavesLines count bytes (Some rest) = lines_of bytes ≡ take count (lines_of bytes) ++ lines_of rest

-- The lines were answered up to the one at which the run ended, and those after it are left; or all were answered.
pub record TakesUntilEnd {State : Type 0} (ends : State → Bool) (answers : State → List ℕ → State → List ℕ → Type 0) (represents : State → Type 0) (first : State) (bytes : List ℕ) (left : Option (List ℕ)) : Type 0 where
  pub count : ℕ
  pub counted : length (first_lines count bytes) ≡ count
  pub last : State
  pub text : List ℕ
  pub run : IsRun (AnswersBeforeEnd ends answers) first (first_lines count bytes) last text
  pub represented : represents last
  pub ended : ends last ≡ true → LeavesLines count bytes left
  pub all : ends last ≡ false → first_lines count bytes ≡ first_lines most_lines bytes

-- Some number of lines were answered, the run hasn't ended, and no further line was read whole.
pub record TakesSoFar {State : Type 0} (ends : State → Bool) (answers : State → List ℕ → State → List ℕ → Type 0) (first : State) (bytes : List ℕ) (left : Option (List ℕ)) : Type 0 where
  pub count : ℕ
  pub counted : length (first_lines count bytes) ≡ count
  pub last : State
  pub text : List ℕ
  pub run : IsRun (AnswersBeforeEnd ends answers) first (first_lines count bytes) last text
  pub continues : ends last ≡ false
  pub taken : TakesLines count bytes left

-- No line is read after the one at which a run ends: neither if the run succeeds, nor before a failed read.
pub record TakesNoMore {State : Type 0} {T : Type 0} (ends : State → Bool) (answers : State → List ℕ → State → List ℕ → Type 0) (represents : State → Type 0) (first : State) (input rest : InputState) (result : Result T RunFault) : Type 0 where
  pub done : OnOk result (IfSome input.left (λ bytes. TakesUntilEnd ends answers represents first bytes rest.left))
  pub failed : IfErr result (λ e. e ≡ fault.Input → IfSome input.left (λ bytes. TakesSoFar ends answers first bytes rest.left))
