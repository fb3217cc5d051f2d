-- The main theorem, for every list of events.
use Rattle.std.proofs.Common.{List, [], ◌∷◌, ◌++◌, Ok, Err, refl, sym, ap, ◌∙◌, ⊎_elim, subst, append_assoc, Option, Some, None, ℕ, ◌<◌, ◌≡◌, ◌↔◌, true}
use Rattle.std.proofs.lemmas.List.{append-nil}
use Rattle.entry_book.specs.Order.{Within}
use Rattle.entry_book.specs.Batches.{Batch}
use Rattle.call_events.specs.declared.event.Event.{Event}
use Rattle.call_events.specs.declared.event.Event.TheVariants.{Begin, Commit, Invoke, Reply as ReplyEvent}
use Rattle.call_answers.specs.declared.answer.Decision.TheVariants.{Committed, Full}
use Rattle.call_answers.specs.declared.answer.Done.{Done}
use Rattle.call_answers.specs.declared.answer.Done.TheVariants.{Answered, Begun, Decided}
use Rattle.entry_book.specs.declared.reply.CallAnswer.{CallAnswer}
use Rattle.call_machine.specs.Schedules.{EventAnswer, EventAt, Happened, accepted}
use Rattle.call_machine.specs.Calls.{CallStage, waiting, running, ready, answered, committed, conflict, Call, MachineState, first_machine, answer_of}
use Rattle.call_machine.specs.Known.{decided_of}
use Rattle.call_machine.specs.Machine.{Runs}
use Rattle.call_machine.specs.Laws.{CallsAreInOrder, CallsAreStamped, DecidedAt, FoundUnderNumber, HeadlineHolds, IsStamped, RepliesHeld, SettledAt}
use Rattle.call_machine.proofs.Line.{is_begun}
use Rattle.call_machine.proofs.Sound.{Sound}
use Rattle.call_machine.proofs.Events.{accepts_sound, first_sound}
use Rattle.call_machine.proofs.Logs.{HasTurn, Keeps, KeepsBegin, KeepsCommit, KeepsFull, KeepsInvoke, KeepsReply, ReplyLogged, StageLogged, Tied}
use Rattle.call_machine.proofs.Rows.{call_within, same_call}
use Rattle.call_machine.proofs.Ties.{accepts_tied, first_tied}
use Rattle.call_machine.proofs.Order.{headline, held}

pub record LogInvariant (log : List Happened) (s : MachineState) : Type 0 where
  pub sound : Sound s
  pub tied : Tied log s

pub runs_keep_invariant : (events : List Event) (answers : List EventAnswer) (log : List Happened) (s t : MachineState) → LogInvariant log s → Runs s events answers t → LogInvariant (log ++ accepted events answers) t
runs_keep_invariant [] [] log s t h r = subst (λ l. LogInvariant l t) (sym (append-nil log)) (subst (LogInvariant log) r h)
runs_keep_invariant [] (a ∷ answers) log s t h r = absurd r
runs_keep_invariant (e ∷ es) [] log s t h r = absurd r
runs_keep_invariant (e ∷ es) (Ok d ∷ answers) log s t h r =
    let i : Happened = record { event = e; done = d } in
    subst (λ l. LogInvariant l t) (append_assoc log (i ∷ []) (accepted es answers))
    (runs_keep_invariant es answers (log ++ i ∷ []) r.0 t (record { sound = accepts_sound s e d r.0 h.sound r.1; tied = accepts_tied log s e d r.0 h.sound h.tied r.1 }) r.2)
runs_keep_invariant (e ∷ es) (Err x ∷ answers) log s t h r = runs_keep_invariant es answers log r.0 t (subst (LogInvariant log) (sym r.1.1) h) r.2

pub headline_holds : HeadlineHolds
headline_holds own_domain events answers s order r o =
    let h = runs_keep_invariant events answers [] (first_machine own_domain) s (record { sound = first_sound own_domain; tied = first_tied own_domain }) r in
    headline (accepted events answers) s h.sound h.tied order o

pub replies_held : RepliesHeld
replies_held own_domain events answers s order r o =
    let h = runs_keep_invariant events answers [] (first_machine own_domain) s (record { sound = first_sound own_domain; tied = first_tied own_domain }) r in
    held (accepted events answers) s h.sound h.tied order o

-- ---- the numbers that a call reports, and those of the events

reply_logged : (log : List Happened) (call : Call) (n : ℕ) (o : Option ℕ) → o ≡ Some n → ReplyLogged log o call → (done : Done) × EventAt log n (ReplyEvent call.number) done
reply_logged log call n None e t = absurd (cc)
reply_logged log call n (Some m) e t = let q : m ≡ n = cc in (Answered call.number t.0, subst (λ k. EventAt log k (ReplyEvent call.number) (Answered call.number t.0)) q t.2)

decided_at : (log : List Happened) (c turn n : ℕ) (g : CallStage) (call : Call) → decided_of g turn ≡ Some n → call.turn ≡ turn → call.number ≡ c → StageLogged log g call → DecidedAt log n c g
decided_at log c turn n waiting call e t k s = cc
decided_at log c turn n (running base made) call e t k s = cc
decided_at log c turn n (ready base) call e t k s = cc
decided_at log c turn n (conflict place) call e t k s = cc
decided_at log c turn n (answered r) call e t k s = let q : turn ≡ n = cc in subst (λ m. SettledAt log m c r) (t ∙ q) (subst (λ d. SettledAt log call.turn d r) k s)
decided_at log c turn n (committed r) call e t k s = let q : turn ≡ n = cc in subst (λ m. EventAt log m (Commit c) (Decided c Committed r.place)) (t ∙ q) (subst (λ d. EventAt log call.turn (Commit d) (Decided d Committed r.place)) k s)

module _ (log : List Happened) (s : MachineState) (h : LogInvariant log s) (call : Call) (w : Within s.calls call) where
  -- what an event left in a call of the number is in this one
  kept_at : (n : ℕ) (e : Event) (d : Done) → EventAt log n e d → Keeps s.calls n e d
  kept_at n e d a = subst (λ m. Keeps s.calls m e d) (sym a.1) (h.tied.kept a.0 _ a.2)

  this : (x : Call) → Within s.calls x → x.number ≡ call.number → x ≡ call
  this x v e = same_call s.calls x call h.sound.numbers v w e

  invoke_stamped : (n : ℕ) (batch : Batch) → ((n ≡ call.invoked) × (batch ≡ call.batch)) ↔ ((done : Done) × EventAt log n (Invoke call.number batch) done)
  invoke_stamped n batch =
      let t = (h.tied.logged call w).invoked in (
        λ e. (t.0, subst (λ m. EventAt log m (Invoke call.number batch) t.0) (sym e.0) (subst (λ b. EventAt log call.invoked (Invoke call.number b) t.0) (sym e.1) t.1)),
        λ a.
            let k : KeepsInvoke s.calls n call.number batch = kept_at n (Invoke call.number batch) a.0 a.1 in
            let is = this k.0 k.1 k.2 in
            (sym k.4 ∙ ap (λ (c : Call). c.invoked) is, sym k.3 ∙ ap (λ (c : Call). c.batch) is),
      )

  reply_stamped : (n : ℕ) → (call.replied ≡ Some n) ↔ ((done : Done) × EventAt log n (ReplyEvent call.number) done)
  reply_stamped n = (
    λ e. reply_logged log call n call.replied e (h.tied.logged call w).replied,
    λ a.
        let k : KeepsReply s.calls n call.number a.0 = kept_at n (ReplyEvent call.number) a.0 a.1 in
        ap (λ (c : Call). c.replied) (sym (this k.0 k.1 k.2)) ∙ k.3,
  )

  logged_stamped : (n : ℕ) (done : Done) → EventAt log n (ReplyEvent call.number) done → (logged : CallAnswer) × (answer_of call.stage ≡ Some logged) × (done ≡ Answered call.number logged)
  logged_stamped n done a =
      let k : KeepsReply s.calls n call.number done = kept_at n (ReplyEvent call.number) done a in
      (k.4, ap (λ (c : Call). answer_of c.stage) (sym (this k.0 k.1 k.2)) ∙ k.5, k.6)

  turn_is : (g : CallStage) (n : ℕ) → call.stage ≡ g → DecidedAt log n call.number g → decided_of g call.turn ≡ Some n
  turn_is waiting n e d = absurd d
  turn_is (running base made) n e d = absurd d
  turn_is (ready base) n e d = absurd d
  turn_is (conflict place) n e d = absurd d
  turn_is (answered r) n e d = ⊎_elim
      (λ b.
      let k : KeepsBegin s.calls n call.number = kept_at n (Begin call.number) (Begun call.number b.0 b.1) b.3 in
      let turn : HasTurn (answered r) call.turn n = subst (λ z. HasTurn z call.turn n) e (subst (λ (c : Call). HasTurn c.stage c.turn n) (this k.0 k.1 k.2) k.3) in
      ⊎_elim (λ f. absurd (b.2 f.0 f.1)) (λ q. ap Some q) turn)
      (λ f.
      let k : KeepsFull s.calls n call.number = kept_at n (Commit call.number) (Decided call.number (Full f.0) r.place) f.2 in
      ap (λ (c : Call). Some c.turn) (sym (this k.0 k.1 k.2)) ∙ ap Some k.3)
      d
  turn_is (committed r) n e d =
      let k : KeepsCommit s.calls n call.number r.place = kept_at n (Commit call.number) (Decided call.number Committed r.place) d in
      ap (λ (c : Call). Some c.turn) (sym (this k.0 k.1 k.2)) ∙ ap Some k.3

  is_stamped : IsStamped log call
  is_stamped = record {
    invoked = invoke_stamped;
    decided = λ n. (λ e. decided_at log call.number call.turn n call.stage call e refl refl (h.tied.logged call w).stage, λ d. turn_is call.stage n refl d);
    replied = reply_stamped;
    logged = logged_stamped;
  }

pub calls_are_stamped : CallsAreStamped
calls_are_stamped own_domain events answers s c call r f =
    let h = runs_keep_invariant events answers [] (first_machine own_domain) s (record { sound = first_sound own_domain; tied = first_tied own_domain }) r in
    is_stamped (accepted events answers) s h call (call_within c s.calls call f).0

-- ---- the order of these numbers

pub found_under_number : FoundUnderNumber
found_under_number calls n call f = (call_within n calls call f).1

-- a decided call has begun and met no conflict, and its turn is the number of the event that decided it
decided_begun : (g : CallStage) (turn n : ℕ) → decided_of g turn ≡ Some n → (is_begun g ≡ true) × (turn ≡ n)
decided_begun waiting turn n e = absurd (cc)
decided_begun (running base made) turn n e = absurd (cc)
decided_begun (ready base) turn n e = absurd (cc)
decided_begun (conflict place) turn n e = absurd (cc)
decided_begun (answered r) turn n e = (refl, cc)
decided_begun (committed r) turn n e = (refl, cc)

pub calls_are_in_order : CallsAreInOrder
calls_are_in_order own_domain events answers s c call r f =
    let h = runs_keep_invariant events answers [] (first_machine own_domain) s (record { sound = first_sound own_domain; tied = first_tied own_domain }) r in
    let k = h.sound.stamped call (call_within c s.calls call f).0 in
    record {
      decided = λ n e. let d = decided_begun call.stage call.turn n e in subst (λ i. call.invoked < i) d.1 (k.begun d.0).0;
      replied = λ n m e q. let d = decided_begun call.stage call.turn n e in subst (λ i. i < m) d.1 ((k.over m q).2 d.0);
    }
