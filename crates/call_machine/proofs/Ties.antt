-- Each accepted event preserves the agreement between a machine's calls and the accepted events.
use Rattle.std.proofs.Common.{◌≡◌, ℕ, ◌+◌, true, false, cond, List, [], ◌∷◌, ◌++◌, length, take, Option, Some, None, refl, sym, ap, subst, ◌∙◌, inl, inr, ⊎_elim, length-append}
use Rattle.std.specs.Prelude.{nat_lt}
use Rattle.std.proofs.lemmas.List.{append-nil}
use Rattle.entry_book.specs.declared.reply.ReplyOutcome.TheVariants.{Refused}
use Rattle.entry_book.specs.declared.reply.Refusal.TheVariants.{Full as TooMuch}
use Rattle.entry_book.specs.declared.reply.Reply.{Reply}
use Rattle.entry_book.specs.Rows.{Bytes}
use Rattle.entry_book.specs.Order.{Within}
use Rattle.entry_book.specs.Batches.{Batch}
use Rattle.entry_book.specs.Book.{Book}
use Rattle.entry_book.specs.History.{books_of, reply_to}
use Rattle.entry_book.proofs.Sets.{within_left, within_right, from_within_append}
use Rattle.batch_work.specs.Reads.{footprint_of, awaits_commit}
use Rattle.call_events.specs.declared.event.Event.{Event}
use Rattle.call_events.specs.declared.event.Event.TheVariants.{Invoke, Begin, Step, Commit, Reply as ReplyEvent}
use Rattle.call_answers.specs.declared.answer.Decision.{Decision}
use Rattle.call_answers.specs.declared.answer.Decision.TheVariants.{Conflict, Committed, Full}
use Rattle.call_answers.specs.declared.answer.Done.{Done}
use Rattle.call_answers.specs.declared.answer.Done.TheVariants.{Invoked, Begun, Stepped, Decided, Answered}
use Rattle.entry_book.specs.declared.reply.CallAnswer.{CallAnswer}
use Rattle.entry_book.specs.declared.reply.CallAnswer.TheVariants.{Conflict as Conflicted, Replied}
use Rattle.batch_work.specs.declared.status.Status.{Status}
use Rattle.call_machine.specs.Schedules.{Happened, EventAt, HandedIn, BatchesOf, commit_of, commits_in, IsDueConflict, IsValidatedCommit}
use Rattle.call_machine.specs.Calls.{CallStage, waiting, running, ready, answered, committed, conflict, Call, MachineState, first_machine, with_call, answer_of, stage_settled, stage_on, status_at}
use Rattle.call_machine.specs.Machine.{Invokes, Begins, Steps, CommitsNow, IsFull, Conflicts, Commits, Replies, Accepts}
use Rattle.call_machine.proofs.Rows.{call_within, within_new}
use Rattle.call_machine.proofs.Sound.{Sound, Stamped}
use Rattle.call_machine.proofs.Events.{not_replied}
use Rattle.call_machine.proofs.Logs.{at_more, at_last, batches_more, batches_snoc, commits-snoc, handed_more, StageLogged, ReplyLogged, IsLogged, settled_more, logged_more, HasTurn, Keeps, Carries, carries_itself, Tied, IsRightNow, batches_count, begins_more, due_more, kept_more, tied_moved, validated_more}
use Rattle.call_machine.proofs.PlainBook.{commit_place, never_full}
use Rattle.call_machine.proofs.Journal.{sound_journal}

none_entered : (log : List Happened) (h : Happened) (cs : List ℕ) (bs : List Batch) → BatchesOf log cs bs → BatchesOf (log ++ h ∷ []) (cs ++ []) (bs ++ [])
none_entered log h cs bs b = subst (λ l. BatchesOf (log ++ h ∷ []) l (bs ++ [])) (sym (append-nil cs)) (subst (BatchesOf (log ++ h ∷ []) cs) (sym (append-nil bs)) (batches_more log h cs bs b))

none_logged : (log : List Happened) (o : Option ℕ) (c : Call) → ((n : ℕ) → o ≡ Some n → ⊥) → ReplyLogged log o c
none_logged log None c f = tt
none_logged log (Some n) c f = absurd (f n refl)

logged_on : (log : List Happened) (batch : Batch) (books : List Book) (base made : ℕ) (c : Call) (p : Status) → EventAt log c.turn (Begin c.number) (Begun c.number base p) → StageLogged log (stage_on batch books base made) c
logged_on log batch books base made c p a = elim (nat_lt made (length (footprint_of batch books))) as (λ b. StageLogged log (cond b (running base made) (stage_settled (awaits_commit batch books) base (reply_to batch books))) c) [
  | true ↦ (p, a)
  | false ↦ elim (awaits_commit batch books) as (λ b. awaits_commit batch books ≡ b → StageLogged log (stage_settled b base (reply_to batch books)) c) [
    | true ↦ λ w. (p, a)
    | false ↦ λ w. inl (base, p, never_full batch books w, a)
  ] refl
]

turn_on : (batch : Batch) (books : List Book) (base made turn : ℕ) → HasTurn (stage_on batch books base made) turn turn
turn_on batch books base made turn = elim (nat_lt made (length (footprint_of batch books))) as (λ b. HasTurn (cond b (running base made) (stage_settled (awaits_commit batch books) base (reply_to batch books))) turn turn) [
  | true ↦ refl
  | false ↦ elim (awaits_commit batch books) as (λ b. HasTurn (stage_settled b base (reply_to batch books)) turn turn) [ true ↦ refl | false ↦ inr refl ]
]

-- a call without an answer keeps all that was stored of it at its next stage
carries_on : (count : ℕ) (r : Call) (stage : CallStage) (turn : ℕ) → Stamped count r → answer_of r.stage ≡ None → ((n : ℕ) → HasTurn r.stage r.turn n → HasTurn stage turn n) → Carries r (record r { stage = stage; turn = turn })
carries_on count r stage turn k e begun = record {
  number = refl;
  batch = refl;
  invoked = refl;
  replied = λ n q. absurd (not_replied count r k e n q);
  committed = λ q i. let z : answer_of r.stage ≡ Some (Replied q) = ap answer_of i in absurd (no_reply e z);
  answered = λ q i. let z : answer_of r.stage ≡ Some (Replied q) = ap answer_of i in absurd (no_reply e z);
  conflict = λ n i. let z : answer_of r.stage ≡ Some (Conflicted n) = ap answer_of i in absurd (no_reply e z);
  begun = begun;
}
  where
    no_reply : {o : Option CallAnswer} {t : CallAnswer} → o ≡ None → o ≡ Some t → ⊥
    no_reply e z = cc

invokes : (log : List Happened) (s : MachineState) (n : ℕ) (batch : Batch) (d : Done) (t : MachineState) → Tied log s → Invokes s n batch d t → Tied (log ++ record { event = Invoke n batch; done = d } ∷ []) t
invokes log s n batch d t h i =
    let c : Call = record { number = n; batch = batch; stage = waiting; invoked = s.count + 1; turn = 0; replied = None } in
    let e : Event = Invoke n batch in
    let f : Happened = record { event = e; done = Invoked n } in
    let now : IsRightNow log e (Invoked n) = record { begins = λ c q. cc; validated = λ c place q. cc; due = λ c place q. cc } in
    let tied : Tied (log ++ f ∷ []) (record s { count = s.count + 1; calls = s.calls ++ c ∷ [] }) = record {
      count = length-append log (f ∷ []) ∙ ap (λ k. k + 1) h.count;
      logged = λ x v. ⊎_elim
          (λ w. logged_more log f x (h.logged x w))
          (λ w. ⊎_elim (λ q. subst (IsLogged (log ++ f ∷ [])) q (record { invoked = (Invoked n, at_last log f s.count h.count); stage = tt; replied = tt })) (λ v. absurd v) w)
          (from_within_append s.calls (c ∷ []) x v);
      kept = kept_more log s.calls (s.calls ++ c ∷ []) s.count e (Invoked n) h.count h.kept (λ x v. (x, within_left s.calls (c ∷ []) x v, carries_itself x)) (c, within_right s.calls (c ∷ []) c (inl refl), refl, refl, refl);
      journal = subst (λ l. BatchesOf (log ++ f ∷ []) l s.journal) (sym (commits-snoc log f ∙ append-nil (commits_in log))) (batches_more log f (commits_in log) s.journal h.journal);
      begins = begins_more log e (Invoked n) h.begins now;
      validated = validated_more log e (Invoked n) h.validated now;
      due = due_more log e (Invoked n) h.due now;
    } in
    subst (λ d. Tied (log ++ record { event = e; done = d } ∷ []) t) (sym i.answer) (subst (Tied (log ++ f ∷ [])) (sym i.after) tied)

begins : (log : List Happened) (s : MachineState) (n : ℕ) (d : Done) (t : MachineState) → Sound s → Tied log s → Begins s n d t → Tied (log ++ record { event = Begin n; done = d } ∷ []) t
begins log s n d t g h i =
    let w = call_within n s.calls i.call i.found in
    let k = g.stamped i.call w.0 in
    let o = h.logged i.call w.0 in
    let none : answer_of i.call.stage ≡ None = ap answer_of i.in_turn in
    let c : Call = record i.call { stage = i.stage; turn = s.count + 1 } in
    let done : Done = Begun n (length s.journal) (status_at i.stage) in
    let tl : t.calls ≡ with_call c s.calls = ap (λ (s : MachineState). s.calls) i.after in
    let count : length s.journal ≡ length (commits_in log) = sym (batches_count log (commits_in log) s.journal h.journal) in
    let f : Happened = record { event = Begin n; done = done } in
    let a : EventAt (log ++ f ∷ []) (s.count + 1) (Begin i.call.number) (Begun i.call.number (length s.journal) (status_at i.stage)) = subst (λ m. EventAt (log ++ f ∷ []) (s.count + 1) (Begin m) (Begun m (length s.journal) (status_at i.stage))) (sym w.1) (at_last log f s.count h.count) in
    subst (λ d. Tied (log ++ record { event = Begin n; done = d } ∷ []) t) (sym i.answer)
    (tied_moved log s t i.call c (Begin n) done [] h g.numbers w.0 (carries_on s.count i.call i.stage (s.count + 1) k none (λ m b. absurd (subst (λ z. HasTurn z i.call.turn m) i.in_turn b)))
    (ap (λ (s : MachineState). s.count) i.after) (ap (λ (s : MachineState). s.calls) i.after) (ap (λ (s : MachineState). s.journal) i.after ∙ sym (append-nil s.journal))
    (record {
      invoked = (o.invoked.0, at_more log f i.call.invoked _ _ o.invoked.1);
      stage = subst (λ z. StageLogged (log ++ f ∷ []) z c) (sym i.stage_is) (logged_on (log ++ f ∷ []) i.call.batch (books_of (take (length s.journal) s.journal)) (length s.journal) 0 c (status_at i.stage) a);
      replied = none_logged (log ++ f ∷ []) i.call.replied c (not_replied s.count i.call k none);
    })
    (c, subst (λ l. Within l c) (sym tl) (within_new c s.calls i.call w.0 refl), w.1, subst (λ z. HasTurn z (s.count + 1) (s.count + 1)) (sym i.stage_is) (turn_on i.call.batch (books_of (take (length s.journal) s.journal)) (length s.journal) 0 (s.count + 1)))
    (none_entered log f (commits_in log) s.journal h.journal)
    (record {
      begins = λ c q. (status_at i.stage, let same : n ≡ c = cc in λ x. Begun (same x) (count x) (status_at i.stage));
      validated = λ c place q. cc;
      due = λ c place q. cc;
    }))

steps : (log : List Happened) (s : MachineState) (n : ℕ) (d : Done) (t : MachineState) → Sound s → Tied log s → Steps s n d t → Tied (log ++ record { event = Step n; done = d } ∷ []) t
steps log s n d t g h i =
    let w = call_within n s.calls i.call i.found in
    let k = g.stamped i.call w.0 in
    let o = h.logged i.call w.0 in
    let none : answer_of i.call.stage ≡ None = ap answer_of i.in_turn in
    let c : Call = record i.call { stage = i.stage } in
    let done : Done = Stepped n i.mark (status_at i.stage) in
    let f : Happened = record { event = Step n; done = done } in
    let b : StageLogged log (running i.base i.made) i.call = subst (λ z. StageLogged log z i.call) i.in_turn o.stage in
    subst (λ d. Tied (log ++ record { event = Step n; done = d } ∷ []) t) (sym i.answer)
    (tied_moved log s t i.call c (Step n) done [] h g.numbers w.0 (carries_on s.count i.call i.stage i.call.turn k none (λ m b.
    let same : i.call.turn ≡ m = subst (λ z. HasTurn z i.call.turn m) i.in_turn b in
    subst (HasTurn i.stage i.call.turn) same (subst (λ z. HasTurn z i.call.turn i.call.turn) (sym i.stage_is) (turn_on i.call.batch (books_of (take i.base s.journal)) i.base (i.made + 1) i.call.turn))))
    (ap (λ (s : MachineState). s.count) i.after) (ap (λ (s : MachineState). s.calls) i.after) (ap (λ (s : MachineState). s.journal) i.after ∙ sym (append-nil s.journal))
    (record {
      invoked = (o.invoked.0, at_more log f i.call.invoked _ _ o.invoked.1);
      stage = subst (λ z. StageLogged (log ++ f ∷ []) z c) (sym i.stage_is) (logged_on (log ++ f ∷ []) i.call.batch (books_of (take i.base s.journal)) i.base (i.made + 1) c b.0 (at_more log f i.call.turn _ _ b.1));
      replied = none_logged (log ++ f ∷ []) i.call.replied c (not_replied s.count i.call k none);
    })
    tt (none_entered log f (commits_in log) s.journal h.journal) (record { begins = λ c q. cc; validated = λ c place q. cc; due = λ c place q. cc }))

-- the common parts of the three decisions on a commit
decides : (log : List Happened) (s : MachineState) (n : ℕ) (t : MachineState) (r : Call) (base : ℕ) (stage : CallStage) (decision : Decision) (place : ℕ) (entry : List Batch) → Sound s → Tied log s → Within s.calls r → r.number ≡ n → r.stage ≡ ready base → t.count ≡ s.count + 1 → t.calls ≡ with_call (record r { stage = stage; turn = s.count + 1 }) s.calls → t.journal ≡ s.journal ++ entry → ((m : ℕ) → HasTurn stage (s.count + 1) m) → (EventAt (log ++ record { event = Commit n; done = Decided n decision place } ∷ []) (s.count + 1) (Commit n) (Decided n decision place) → StageLogged (log ++ record { event = Commit n; done = Decided n decision place } ∷ []) stage (record r { stage = stage; turn = s.count + 1 })) → Keeps t.calls (s.count + 1) (Commit n) (Decided n decision place) → BatchesOf (log ++ record { event = Commit n; done = Decided n decision place } ∷ []) (commits_in log ++ commit_of (Decided n decision place)) (s.journal ++ entry) → IsRightNow log (Commit n) (Decided n decision place) → Tied (log ++ record { event = Commit n; done = Decided n decision place } ∷ []) t
decides log s n t r base stage decision place entry g h w e q tc tl tj turn logged keeps batches now =
    let k = g.stamped r w in
    let o = h.logged r w in
    let none : answer_of r.stage ≡ None = ap answer_of q in
    let c : Call = record r { stage = stage; turn = s.count + 1 } in
    let f : Happened = record { event = Commit n; done = Decided n decision place } in
    tied_moved log s t r c (Commit n) (Decided n decision place) entry h g.numbers w (carries_on s.count r stage (s.count + 1) k none (λ m b. turn m)) tc tl tj
    (record {
      invoked = (o.invoked.0, at_more log f r.invoked _ _ o.invoked.1);
      stage = logged (at_last log f s.count h.count);
      replied = none_logged (log ++ f ∷ []) r.replied c (not_replied s.count r k none);
    })
    keeps batches now

commits_now : (log : List Happened) (s : MachineState) (n : ℕ) (d : Done) (t : MachineState) (r : Call) (base : ℕ) → Sound s → Tied log s → Within s.calls r → r.number ≡ n → r.stage ≡ ready base → CommitsNow s r base d t → Tied (log ++ record { event = Commit n; done = d } ∷ []) t
commits_now log s n d t r base g h w e q i =
    let place = length s.journal + 1 in
    let reply = reply_to r.batch (books_of s.journal) in
    let p : reply.place ≡ place = commit_place r.batch s.journal (sound_journal s g) i.commits in
    let c : Call = record r { stage = committed reply; turn = s.count + 1 } in
    let f : Happened = record { event = Commit n; done = Decided n Committed place } in
    let a : d ≡ Decided n Committed place = i.answer ∙ ap (λ m. Decided m Committed place) e in
    let o = h.logged r w in
    let handed : HandedIn log n r.batch = (r.invoked, o.invoked.0, subst (λ m. EventAt log r.invoked (Invoke m r.batch) o.invoked.0) e o.invoked.1) in
    let b : StageLogged log (ready base) r = subst (λ z. StageLogged log z r) q o.stage in
    let validated : IsValidatedCommit log n place = record {
      journal = s.journal;
      journal_is = h.journal;
      batch = r.batch;
      handed_in = handed;
      base = base;
      began = (r.turn, b.0, subst (λ m. EventAt log r.turn (Begin m) (Begun m base b.0)) e b.1);
      place_is = refl;
      validated = i.validated;
    } in
    let tl : t.calls ≡ with_call c s.calls = ap (λ (s : MachineState). s.calls) i.after in
    subst (λ d. Tied (log ++ record { event = Commit n; done = d } ∷ []) t) (sym a)
    (decides log s n t r base (committed reply) Committed place (r.batch ∷ []) g h w e q
    (ap (λ (s : MachineState). s.count) i.after) tl (ap (λ (s : MachineState). s.journal) i.after) (λ m. tt)
    (λ at. subst (λ m. EventAt (log ++ f ∷ []) (s.count + 1) (Commit r.number) (Decided r.number Committed m)) (sym p) (subst (λ m. EventAt (log ++ f ∷ []) (s.count + 1) (Commit m) (Decided m Committed place)) (sym e) at))
    (c, subst (λ l. Within l c) (sym tl) (within_new c s.calls r w refl), e, refl, reply, refl, p)
    (batches_snoc (log ++ f ∷ []) (commits_in log) s.journal n r.batch (batches_more log f (commits_in log) s.journal h.journal) (handed_more log f n r.batch handed))
    (record {
      begins = λ c q. cc;
      validated = λ c m x y. let u : n ≡ c = cc in let v : place ≡ m = cc in subst (IsValidatedCommit log c) v (subst (λ k. IsValidatedCommit log k place) u validated);
      due = λ c place x y. cc;
    }))

is_full : (log : List Happened) (s : MachineState) (n : ℕ) (d : Done) (t : MachineState) (r : Call) (base : ℕ) → Sound s → Tied log s → Within s.calls r → r.number ≡ n → r.stage ≡ ready base → IsFull s r d t → Tied (log ++ record { event = Commit n; done = d } ∷ []) t
is_full log s n d t r base g h w e q i =
    let place = length s.journal in
    let a : d ≡ Decided n (Full i.limit) place = i.answer ∙ ap (λ m. Decided m (Full i.limit) place) e in
    let reply = reply_to r.batch (books_of s.journal) in
    let f : Happened = record { event = Commit n; done = Decided n (Full i.limit) place } in
    let c : Call = record r { stage = answered reply; turn = s.count + 1 } in
    let tl : t.calls ≡ with_call c s.calls = ap (λ (s : MachineState). s.calls) i.after in
    let p : reply.place ≡ place = ap (λ (x : Reply). x.place) i.full in
    let outcome : reply.outcome ≡ Refused (TooMuch i.limit) = ap (λ (x : Reply). x.outcome) i.full in
    subst (λ d. Tied (log ++ record { event = Commit n; done = d } ∷ []) t) (sym a)
    (decides log s n t r base (answered (reply_to r.batch (books_of s.journal))) (Full i.limit) place [] g h w e q
    (ap (λ (s : MachineState). s.count) i.after) tl (ap (λ (s : MachineState). s.journal) i.after ∙ sym (append-nil s.journal)) (λ m. inl (i.limit, outcome))
    (λ at. inr (i.limit, outcome, subst (λ m. EventAt (log ++ f ∷ []) (s.count + 1) (Commit r.number) (Decided r.number (Full i.limit) m)) (sym p) (subst (λ m. EventAt (log ++ f ∷ []) (s.count + 1) (Commit m) (Decided m (Full i.limit) place)) (sym e) at)))
    (c, subst (λ l. Within l c) (sym tl) (within_new c s.calls r w refl), e, refl, reply, refl)
    (none_entered log _ (commits_in log) s.journal h.journal)
    (record { begins = λ c q. cc; validated = λ c place x y. cc; due = λ c place x y. cc }))

conflicts : (log : List Happened) (s : MachineState) (n : ℕ) (d : Done) (t : MachineState) (r : Call) (base : ℕ) → Sound s → Tied log s → Within s.calls r → r.number ≡ n → r.stage ≡ ready base → Conflicts s r base d t → Tied (log ++ record { event = Commit n; done = d } ∷ []) t
conflicts log s n d t r base g h w e q i =
    let place = length s.journal in
    let a : d ≡ Decided n Conflict place = i.answer ∙ ap (λ m. Decided m Conflict place) e in
    let o = h.logged r w in
    let c : Call = record r { stage = conflict place; turn = s.count + 1 } in
    let tl : t.calls ≡ with_call c s.calls = ap (λ (s : MachineState). s.calls) i.after in
    let b : StageLogged log (ready base) r = subst (λ z. StageLogged log z r) q o.stage in
    let due : IsDueConflict log n place = record {
      journal = s.journal;
      journal_is = h.journal;
      batch = r.batch;
      handed_in = (r.invoked, o.invoked.0, subst (λ m. EventAt log r.invoked (Invoke m r.batch) o.invoked.0) e o.invoked.1);
      base = base;
      began = (r.turn, b.0, subst (λ m. EventAt log r.turn (Begin m) (Begun m base b.0)) e b.1);
      place_is = refl;
      due = i.due;
    } in
    subst (λ d. Tied (log ++ record { event = Commit n; done = d } ∷ []) t) (sym a)
    (decides log s n t r base (conflict place) Conflict place [] g h w e q
    (ap (λ (s : MachineState). s.count) i.after) tl (ap (λ (s : MachineState). s.journal) i.after ∙ sym (append-nil s.journal)) (λ m. tt)
    (λ at. subst (λ m. EventAt (log ++ record { event = Commit n; done = Decided n Conflict place } ∷ []) (s.count + 1) (Commit m) (Decided m Conflict place)) (sym e) at)
    (c, subst (λ l. Within l c) (sym tl) (within_new c s.calls r w refl), e, refl)
    (none_entered log _ (commits_in log) s.journal h.journal)
    (record {
      begins = λ c q. cc;
      validated = λ c p x y. cc;
      due = λ c p x y. let u : n ≡ c = cc in let v : place ≡ p = cc in subst (IsDueConflict log c) v (subst (λ m. IsDueConflict log m place) u due);
    }))

committing : (log : List Happened) (s : MachineState) (n : ℕ) (d : Done) (t : MachineState) → Sound s → Tied log s → Commits s n d t → Tied (log ++ record { event = Commit n; done = d } ∷ []) t
committing log s n d t g h i =
    let w = call_within n s.calls i.call i.found in
    ⊎_elim (λ c. commits_now log s n d t i.call i.base g h w.0 w.1 i.in_turn c)
    (λ r. ⊎_elim (λ f. is_full log s n d t i.call i.base g h w.0 w.1 i.in_turn f) (λ c. conflicts log s n d t i.call i.base g h w.0 w.1 i.in_turn c) r)
    i.decision

replies : (log : List Happened) (s : MachineState) (n : ℕ) (d : Done) (t : MachineState) → Sound s → Tied log s → Replies s n d t → Tied (log ++ record { event = ReplyEvent n; done = d } ∷ []) t
replies log s n d t g h i =
    let w = call_within n s.calls i.call i.found in
    let o = h.logged i.call w.0 in
    let c : Call = record i.call { replied = Some (s.count + 1) } in
    let done : Done = Answered n i.given in
    let f : Happened = record { event = ReplyEvent n; done = done } in
    let tl : t.calls ≡ with_call c s.calls = ap (λ (s : MachineState). s.calls) i.after in
    subst (λ d. Tied (log ++ record { event = ReplyEvent n; done = d } ∷ []) t) (sym i.answer)
    (tied_moved log s t i.call c (ReplyEvent n) done [] h g.numbers w.0
    (record { number = refl; batch = refl; invoked = refl; replied = λ m q. let once = i.once in cc; committed = λ q e. (e, refl); answered = λ q e. (e, refl); conflict = λ n e. e; begun = λ m b. b })
    (ap (λ (s : MachineState). s.count) i.after) tl (ap (λ (s : MachineState). s.journal) i.after ∙ sym (append-nil s.journal))
    (record {
      invoked = (o.invoked.0, at_more log f i.call.invoked _ _ o.invoked.1);
      stage = stage_same log f i.call.stage i.call (Some (s.count + 1)) o.stage;
      replied = (i.given, i.in_turn, subst (λ m. EventAt (log ++ f ∷ []) (s.count + 1) (ReplyEvent m) (Answered m i.given)) (sym w.1) (at_last log f s.count h.count));
    })
    (c, subst (λ l. Within l c) (sym tl) (within_new c s.calls i.call w.0 refl), w.1, refl, i.given, i.in_turn, refl)
    (none_entered log f (commits_in log) s.journal h.journal) (record { begins = λ c q. cc; validated = λ c place q. cc; due = λ c place q. cc }))
  where
    stage_same : (log : List Happened) (f : Happened) (z : CallStage) (r : Call) (m : Option ℕ) → StageLogged log z r → StageLogged (log ++ f ∷ []) z (record r { replied = m })
    stage_same log f waiting r m t = tt
    stage_same log f (running base made) r m t = (t.0, at_more log f r.turn _ _ t.1)
    stage_same log f (ready base) r m t = (t.0, at_more log f r.turn _ _ t.1)
    stage_same log f (answered q) r m t = settled_more log f r.turn r.number q t
    stage_same log f (committed q) r m t = at_more log f r.turn _ _ t
    stage_same log f (conflict n) r m t = at_more log f r.turn _ _ t

pub accepts_tied : (log : List Happened) (s : MachineState) (e : Event) (d : Done) (t : MachineState) → Sound s → Tied log s → Accepts s e d t → Tied (log ++ record { event = e; done = d } ∷ []) t
accepts_tied log s (Invoke n batch) d t g h a = invokes log s n batch d t h a
accepts_tied log s (Begin n) d t g h a = begins log s n d t g h a
accepts_tied log s (Step n) d t g h a = steps log s n d t g h a
accepts_tied log s (Commit n) d t g h a = committing log s n d t g h a
accepts_tied log s (ReplyEvent n) d t g h a = replies log s n d t g h a

pub first_tied : (own_domain : Bytes) → Tied [] (first_machine own_domain)
first_tied own_domain = record {
  count = refl;
  logged = λ c w. absurd w;
  kept = λ k h e. cc;
  journal = tt;
  begins = λ k c done e. cc;
  validated = λ k c place e. cc;
  due = λ k c place e. cc;
}
