-- What a machine stores of its calls agrees with the accepted events.
use Rattle.std.proofs.Common.{◌≡◌, ◌≢◌, ℕ, ◌+◌, ◌≤◌, ◌⊎◌, suc, List, [], ◌∷◌, ◌++◌, length, take, Option, Some, None, refl, sym, ap, subst, ◌∙◌, inl, inr, ⊎_elim, arith, append_assoc, length-append}
use Rattle.std.specs.Prelude.{⊤, slice_get, map}
use Rattle.std.proofs.lemmas.List.{append-nil, take-append-le}
use Rattle.entry_book.specs.Order.{Within}
use Rattle.entry_book.specs.Batches.{Batch}
use Rattle.entry_book.specs.declared.limit.Limit.{Limit}
use Rattle.entry_book.specs.declared.reply.ReplyOutcome.TheVariants.{Refused}
use Rattle.entry_book.specs.declared.reply.Refusal.TheVariants.{Full as TooMuch}
use Rattle.entry_book.specs.declared.reply.Reply.{Reply}
use Rattle.call_events.specs.declared.event.Event.{Event}
use Rattle.call_events.specs.declared.event.Event.TheVariants.{Invoke, Begin, Step, Commit, Reply as ReplyEvent}
use Rattle.call_answers.specs.declared.answer.Decision.{Decision}
use Rattle.call_answers.specs.declared.answer.Decision.TheVariants.{Conflict, Committed, Full}
use Rattle.call_answers.specs.declared.answer.Done.{Done}
use Rattle.call_answers.specs.declared.answer.Done.TheVariants.{Invoked, Begun, Stepped, Decided, Answered}
use Rattle.entry_book.specs.declared.reply.CallAnswer.{CallAnswer}
use Rattle.batch_work.specs.declared.status.Status.{Status}
use Rattle.call_machine.specs.Schedules.{Happened, EventAt, HandedIn, BatchesOf, BeginsCountCommits, CountsCommits, commit_of, commits_in, CommitsAreValidated, IsDueConflict, IsValidatedCommit, ConflictsAreDue, Different}
use Rattle.call_machine.specs.Calls.{CallStage, waiting, running, ready, answered, committed, conflict, Call, MachineState, with_call, answer_of}
use Rattle.call_machine.specs.Laws.{SettledAt}
use Rattle.call_machine.specs.Kept.{number_of}
use Rattle.call_machine.proofs.Lists.{get_left, get_last, from_get_snoc, get_within}
use Rattle.call_machine.proofs.Rows.{from_with_call, within_new, within_other, same_call}

-- ---- one more event

pub at_more : (log : List Happened) (h : Happened) (n : ℕ) (e : Event) (d : Done) → EventAt log n e d → EventAt (log ++ h ∷ []) n e d
at_more log h n e d a = (a.0, a.1, get_left log (h ∷ []) a.0 _ a.2)

pub at_last : (log : List Happened) (h : Happened) (n : ℕ) → length log ≡ n → EventAt (log ++ h ∷ []) (n + 1) h.event h.done
at_last log h n e = (length log, ap (λ k. k + 1) (sym e), get_last log h)

pub handed_more : (log : List Happened) (h : Happened) (c : ℕ) (batch : Batch) → HandedIn log c batch → HandedIn (log ++ h ∷ []) c batch
handed_more log h c batch i = (i.0, i.1, at_more log h i.0 (Invoke c batch) i.1 i.2)

pub batches_more : (log : List Happened) (h : Happened) (cs : List ℕ) (bs : List Batch) → BatchesOf log cs bs → BatchesOf (log ++ h ∷ []) cs bs
batches_more log h [] [] b = tt
batches_more log h [] (x ∷ xs) b = absurd b
batches_more log h (c ∷ cs) [] b = absurd b
batches_more log h (c ∷ cs) (x ∷ xs) b = (handed_more log h c x b.0, batches_more log h cs xs b.1)

-- there are as many batches as calls
pub batches_count : (log : List Happened) (cs : List ℕ) (bs : List Batch) → BatchesOf log cs bs → length cs ≡ length bs
batches_count log [] [] b = refl
batches_count log [] (x ∷ xs) b = absurd b
batches_count log (c ∷ cs) [] b = absurd b
batches_count log (c ∷ cs) (x ∷ xs) b = ap suc (batches_count log cs xs b.1)

pub batches_snoc : (log : List Happened) (cs : List ℕ) (bs : List Batch) (c : ℕ) (b : Batch) → BatchesOf log cs bs → HandedIn log c b → BatchesOf log (cs ++ c ∷ []) (bs ++ b ∷ [])
batches_snoc log [] [] c b h i = (i, tt)
batches_snoc log [] (x ∷ xs) c b h i = absurd h
batches_snoc log (d ∷ ds) [] c b h i = absurd h
batches_snoc log (d ∷ ds) (x ∷ xs) c b h i = (h.0, batches_snoc log ds xs c b h.1 i)

pub commits-snoc : (log : List Happened) (h : Happened) → commits_in (log ++ h ∷ []) ≡ commits_in log ++ commit_of h.done
commits-snoc [] h = append-nil (commit_of h.done)
commits-snoc (g ∷ gs) h = ap (λ l. commit_of g.done ++ l) (commits-snoc gs h) ∙ sym (append_assoc (commit_of g.done) (commits_in gs) (commit_of h.done))

pub take_more : (log : List Happened) (h : Happened) (k : ℕ) → k ≤ length log → take k (log ++ h ∷ []) ≡ take k log
take_more log h k l = take-append-le k log (h ∷ []) l

pub take_whole : (log : List Happened) (h : Happened) → take (length log) (log ++ h ∷ []) ≡ log
take_whole [] h = refl
take_whole (g ∷ gs) h = ap (λ l. g ∷ l) (take_whole gs h)

-- ---- what is stored of a call was reported by an event

abbrev pub StageLogged : List Happened → CallStage → Call → Type 0
StageLogged log waiting c = ⊤
StageLogged log (running base made) c = (p : Status) × EventAt log c.turn (Begin c.number) (Begun c.number base p)
StageLogged log (ready base) c = (p : Status) × EventAt log c.turn (Begin c.number) (Begun c.number base p)
StageLogged log (answered r) c = SettledAt log c.turn c.number r
StageLogged log (committed r) c = EventAt log c.turn (Commit c.number) (Decided c.number Committed r.place)
StageLogged log (conflict n) c = EventAt log c.turn (Commit c.number) (Decided c.number Conflict n)

abbrev pub ReplyLogged : List Happened → Option ℕ → Call → Type 0
ReplyLogged log None c = ⊤
ReplyLogged log (Some n) c = (t : CallAnswer) × (answer_of c.stage ≡ Some t) × EventAt log n (ReplyEvent c.number) (Answered c.number t)

pub record IsLogged (log : List Happened) (c : Call) : Type 0 where
  pub invoked : (d : Done) × EventAt log c.invoked (Invoke c.number c.batch) d
  pub stage : StageLogged log c.stage c
  pub replied : ReplyLogged log c.replied c

pub settled_more : (log : List Happened) (h : Happened) (n c : ℕ) (r : Reply) → SettledAt log n c r → SettledAt (log ++ h ∷ []) n c r
settled_more log h n c r t = ⊎_elim (λ b. inl (b.0, b.1, b.2, at_more log h n _ _ b.3)) (λ f. inr (f.0, f.1, at_more log h n _ _ f.2)) t

stage_more : (log : List Happened) (h : Happened) (g : CallStage) (c : Call) → StageLogged log g c → StageLogged (log ++ h ∷ []) g c
stage_more log h waiting c t = tt
stage_more log h (running base made) c t = (t.0, at_more log h c.turn _ _ t.1)
stage_more log h (ready base) c t = (t.0, at_more log h c.turn _ _ t.1)
stage_more log h (answered r) c t = settled_more log h c.turn c.number r t
stage_more log h (committed r) c t = at_more log h c.turn _ _ t
stage_more log h (conflict n) c t = at_more log h c.turn _ _ t

reply_more : (log : List Happened) (h : Happened) (r : Option ℕ) (c : Call) → ReplyLogged log r c → ReplyLogged (log ++ h ∷ []) r c
reply_more log h None c t = tt
reply_more log h (Some n) c t = (t.0, t.1, at_more log h n _ _ t.2)

pub logged_more : (log : List Happened) (h : Happened) (c : Call) → IsLogged log c → IsLogged (log ++ h ∷ []) c
logged_more log h c t = record {
  invoked = (t.invoked.0, at_more log h c.invoked _ _ t.invoked.1);
  stage = stage_more log h c.stage c t.stage;
  replied = reply_more log h c.replied c t.replied;
}

-- ---- what an event reported is stored

abbrev pub KeepsInvoke : List Call → ℕ → ℕ → Batch → Type 0
KeepsInvoke calls n c batch = (x : Call) × Within calls x × (x.number ≡ c) × (x.batch ≡ batch) × (x.invoked ≡ n)

abbrev pub KeepsCommit : List Call → ℕ → ℕ → ℕ → Type 0
KeepsCommit calls n c place = (x : Call) × Within calls x × (x.number ≡ c) × (x.turn ≡ n) × (r : Reply) × (x.stage ≡ committed r) × (r.place ≡ place)

abbrev pub KeepsFull : List Call → ℕ → ℕ → Type 0
KeepsFull calls n c = (x : Call) × Within calls x × (x.number ≡ c) × (x.turn ≡ n) × (r : Reply) × (x.stage ≡ answered r)

-- at this stage, a call that began as event n has this turn, unless a commit has replaced the turn
abbrev pub HasTurn : CallStage → ℕ → ℕ → Type 0
HasTurn waiting turn n = ⊥
HasTurn (running base made) turn n = turn ≡ n
HasTurn (ready base) turn n = turn ≡ n
HasTurn (answered r) turn n = ((limit : Limit) × (r.outcome ≡ Refused (TooMuch limit))) ⊎ (turn ≡ n)
HasTurn (committed r) turn n = ⊤
HasTurn (conflict place) turn n = ⊤

abbrev pub KeepsBegin : List Call → ℕ → ℕ → Type 0
KeepsBegin calls n c = (x : Call) × Within calls x × (x.number ≡ c) × HasTurn x.stage x.turn n

abbrev pub KeepsConflict : List Call → ℕ → ℕ → Type 0
KeepsConflict calls c place = (x : Call) × Within calls x × (x.number ≡ c) × (x.stage ≡ conflict place)

abbrev pub KeepsReply : List Call → ℕ → ℕ → Done → Type 0
KeepsReply calls n c d = (x : Call) × Within calls x × (x.number ≡ c) × (x.replied ≡ Some n) × (t : CallAnswer) × (answer_of x.stage ≡ Some t) × (d ≡ Answered c t)

abbrev pub KeepsDecision : List Call → ℕ → ℕ → Decision → ℕ → Type 0
KeepsDecision calls n c Committed place = KeepsCommit calls n c place
KeepsDecision calls n c Conflict place = KeepsConflict calls c place
KeepsDecision calls n c (Full l) place = KeepsFull calls n c

abbrev pub KeepsDone : List Call → ℕ → ℕ → Done → Type 0
KeepsDone calls n c (Invoked m) = ⊤
KeepsDone calls n c (Begun m base p) = ⊤
KeepsDone calls n c (Stepped m mark p) = ⊤
KeepsDone calls n c (Decided m decision place) = KeepsDecision calls n c decision place
KeepsDone calls n c (Answered m t) = ⊤

abbrev pub Keeps : List Call → ℕ → Event → Done → Type 0
Keeps calls n (Invoke c batch) d = KeepsInvoke calls n c batch
Keeps calls n (Begin c) d = KeepsBegin calls n c
Keeps calls n (Step c) d = ⊤
Keeps calls n (Commit c) d = KeepsDone calls n c d
Keeps calls n (ReplyEvent c) d = KeepsReply calls n c d

-- the later call keeps all that was stored of the earlier one
pub record Carries (r c : Call) : Type 0 where
  pub number : c.number ≡ r.number
  pub batch : c.batch ≡ r.batch
  pub invoked : c.invoked ≡ r.invoked
  pub replied : (n : ℕ) → r.replied ≡ Some n → (c.replied ≡ Some n) × (c.stage ≡ r.stage)
  pub committed : (q : Reply) → r.stage ≡ committed q → (c.stage ≡ committed q) × (c.turn ≡ r.turn)
  pub answered : (q : Reply) → r.stage ≡ answered q → (c.stage ≡ answered q) × (c.turn ≡ r.turn)
  pub conflict : (n : ℕ) → r.stage ≡ conflict n → c.stage ≡ conflict n
  pub begun : (n : ℕ) → HasTurn r.stage r.turn n → HasTurn c.stage c.turn n

pub carries_itself : (r : Call) → Carries r r
carries_itself r = record { number = refl; batch = refl; invoked = refl; replied = λ n e. (e, refl); committed = λ q e. (e, refl); answered = λ q e. (e, refl); conflict = λ n e. e; begun = λ n t. t }

abbrev pub AllCarried : List Call → List Call → Type 0
AllCarried calls later = (x : Call) → Within calls x → (y : Call) × Within later y × Carries x y

decision_more : (calls later : List Call) (n c : ℕ) (decision : Decision) (place : ℕ) → AllCarried calls later → KeepsDecision calls n c decision place → KeepsDecision later n c decision place
decision_more calls later n c Committed place a k =
    let y = a k.0 k.1 in
    let s = y.2.committed k.4 k.5 in
    (y.0, y.1, y.2.number ∙ k.2, s.1 ∙ k.3, k.4, s.0, k.6)
decision_more calls later n c Conflict place a k =
    let y = a k.0 k.1 in
    (y.0, y.1, y.2.number ∙ k.2, y.2.conflict place k.3)
decision_more calls later n c (Full l) place a k =
    let y = a k.0 k.1 in
    let s = y.2.answered k.4 k.5 in
    (y.0, y.1, y.2.number ∙ k.2, s.1 ∙ k.3, k.4, s.0)

done_more : (calls later : List Call) (n c : ℕ) (d : Done) → AllCarried calls later → KeepsDone calls n c d → KeepsDone later n c d
done_more calls later n c (Invoked m) a k = tt
done_more calls later n c (Begun m base p) a k = tt
done_more calls later n c (Stepped m mark p) a k = tt
done_more calls later n c (Decided m decision place) a k = decision_more calls later n c decision place a k
done_more calls later n c (Answered m t) a k = tt

keeps_more : (calls later : List Call) (n : ℕ) (e : Event) (d : Done) → AllCarried calls later → Keeps calls n e d → Keeps later n e d
keeps_more calls later n (Invoke c batch) d a k =
    let y = a k.0 k.1 in
    (y.0, y.1, y.2.number ∙ k.2, y.2.batch ∙ k.3, y.2.invoked ∙ k.4)
keeps_more calls later n (Begin c) d a k =
    let y = a k.0 k.1 in
    (y.0, y.1, y.2.number ∙ k.2, y.2.begun n k.3)
keeps_more calls later n (Step c) d a k = tt
keeps_more calls later n (Commit c) d a k = done_more calls later n c d a k
keeps_more calls later n (ReplyEvent c) d a k =
    let y = a k.0 k.1 in
    let s = y.2.replied n k.3 in
    (y.0, y.1, y.2.number ∙ k.2, s.0, k.4, ap answer_of s.1 ∙ k.5, k.6)

-- ---- all together

pub record Tied (log : List Happened) (s : MachineState) : Type 0 where
  pub count : length log ≡ s.count
  pub logged : (c : Call) → Within s.calls c → IsLogged log c
  pub kept : (k : ℕ) (h : Happened) → slice_get log k ≡ Some h → Keeps s.calls (k + 1) h.event h.done
  pub journal : BatchesOf log (commits_in log) s.journal
  pub begins : BeginsCountCommits log
  pub validated : CommitsAreValidated log
  pub due : ConflictsAreDue log

-- What a new event must satisfy after those before it: a begin counts the committed batches, what a committed batch read is unchanged,
-- and a conflict is due.
pub record IsRightNow (log : List Happened) (e : Event) (d : Done) : Type 0 where
  pub begins : (c : ℕ) → e ≡ Begin c → CountsCommits log c d
  pub validated : (c place : ℕ) → e ≡ Commit c → d ≡ Decided c Committed place → IsValidatedCommit log c place
  pub due : (c place : ℕ) → e ≡ Commit c → d ≡ Decided c Conflict place → IsDueConflict log c place

pub begins_more : (log : List Happened) (e : Event) (d : Done) → BeginsCountCommits log → IsRightNow log e d → BeginsCountCommits (log ++ record { event = e; done = d } ∷ [])
begins_more log e d f g k c done q = ⊎_elim
    (λ o. let l = get_within log k _ o in subst (λ t. CountsCommits t c done) (sym (take_more log _ k (omega arith))) (f k c done o))
    (λ o.
    let logged = subst (CountsCommits log c) (ap (λ (h : Happened). h.done) o.1) (g.begins c (ap (λ (h : Happened). h.event) o.1)) in
    subst (λ t. CountsCommits t c done) (sym (ap (λ n. take n (log ++ record { event = e; done = d } ∷ [])) o.0 ∙ take_whole log _)) logged)
    (from_get_snoc log (record { event = e; done = d }) k _ q)

pub validated_more : (log : List Happened) (e : Event) (d : Done) → CommitsAreValidated log → IsRightNow log e d → CommitsAreValidated (log ++ record { event = e; done = d } ∷ [])
validated_more log e d f g k c place q = ⊎_elim
    (λ o. let l = get_within log k _ o in subst (λ t. IsValidatedCommit t c place) (sym (take_more log _ k (omega arith))) (f k c place o))
    (λ o. subst (λ t. IsValidatedCommit t c place) (sym (ap (λ n. take n (log ++ record { event = e; done = d } ∷ [])) o.0 ∙ take_whole log _)) (g.validated c place (ap (λ (h : Happened). h.event) o.1) (ap (λ (h : Happened). h.done) o.1)))
    (from_get_snoc log (record { event = e; done = d }) k _ q)

pub due_more : (log : List Happened) (e : Event) (d : Done) → ConflictsAreDue log → IsRightNow log e d → ConflictsAreDue (log ++ record { event = e; done = d } ∷ [])
due_more log e d f g k c place q = ⊎_elim
    (λ o. let l = get_within log k _ o in subst (λ t. IsDueConflict t c place) (sym (take_more log _ k (omega arith))) (f k c place o))
    (λ o. subst (λ t. IsDueConflict t c place) (sym (ap (λ n. take n (log ++ record { event = e; done = d } ∷ [])) o.0 ∙ take_whole log _)) (g.due c place (ap (λ (h : Happened). h.event) o.1) (ap (λ (h : Happened). h.done) o.1)))
    (from_get_snoc log (record { event = e; done = d }) k _ q)

pub kept_more : (log : List Happened) (calls later : List Call) (count : ℕ) (e : Event) (d : Done) → length log ≡ count → ((k : ℕ) (h : Happened) → slice_get log k ≡ Some h → Keeps calls (k + 1) h.event h.done) → AllCarried calls later → Keeps later (count + 1) e d → (k : ℕ) (h : Happened) → slice_get (log ++ record { event = e; done = d } ∷ []) k ≡ Some h → Keeps later (k + 1) h.event h.done
kept_more log calls later count e d l f a now k h q = ⊎_elim
    (λ o. keeps_more calls later (k + 1) h.event h.done a (f k h o))
    (λ o. subst (λ (g : Happened). Keeps later (k + 1) g.event g.done) o.1 (subst (λ n. Keeps later (n + 1) e d) (sym (o.0 ∙ l)) now))
    (from_get_snoc log (record { event = e; done = d }) k h q)

-- a call is replaced by its next state
pub tied_moved : (log : List Happened) (s t : MachineState) (r c : Call) (e : Event) (d : Done) (entry : List Batch) → Tied log s → Different (map number_of s.calls) → Within s.calls r → Carries r c → t.count ≡ s.count + 1 → t.calls ≡ with_call c s.calls → t.journal ≡ s.journal ++ entry → IsLogged (log ++ record { event = e; done = d } ∷ []) c → Keeps t.calls (s.count + 1) e d → BatchesOf (log ++ record { event = e; done = d } ∷ []) (commits_in log ++ commit_of d) (s.journal ++ entry) → IsRightNow log e d → Tied (log ++ record { event = e; done = d } ∷ []) t
tied_moved log s t r c e d entry h n w y tc tl tj logged keeps batches now =
    let carried : AllCarried s.calls (with_call c s.calls) = λ x v. ⊎_elim
    (λ q. (c, within_new c s.calls r w (sym y.number), subst (λ z. Carries z c) (same_call s.calls r x n w v (sym y.number ∙ sym q)) y))
    (λ q. (x, within_other c s.calls x v q, carries_itself x))
    (same_or_not x.number c.number) in
    record {
      count = length-append log (record { event = e; done = d } ∷ []) ∙ (ap (λ k. k + 1) h.count ∙ sym tc);
      logged = λ x v. ⊎_elim (λ q. subst (IsLogged (log ++ record { event = e; done = d } ∷ [])) (sym q) logged) (λ q. logged_more log _ x (h.logged x q.0)) (from_with_call c s.calls x n (subst (λ l. Within l x) tl v));
      kept = kept_more log s.calls t.calls s.count e d h.count h.kept (subst (AllCarried s.calls) (sym tl) carried) keeps;
      journal = subst (BatchesOf (log ++ record { event = e; done = d } ∷ []) (commits_in (log ++ record { event = e; done = d } ∷ []))) (sym tj) (subst (λ l. BatchesOf (log ++ record { event = e; done = d } ∷ []) l (s.journal ++ entry)) (sym (commits-snoc log (record { event = e; done = d }))) batches);
      begins = begins_more log e d h.begins now;
      validated = validated_more log e d h.validated now;
      due = due_more log e d h.due now;
    }
  where
    same_or_not : (a b : ℕ) → (a ≡ b) ⊎ (a ≢ b)
    same_or_not a b = grind arith
