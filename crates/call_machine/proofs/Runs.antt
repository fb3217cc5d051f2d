-- A run with one more event, and when an event is refused.
use Rattle.std.proofs.Common.{◌≡◌, ◌+◌, ◌≤◌, true, false, [], ◌∷◌, length, Some, None, Ok, Err, refl, sym, ap, subst, ◌∙◌, ⊎_elim, arith}
use Rattle.std.specs.Prelude.{◌&&◌, is_none, is_some, nat_lt, if◌then◌else◌}
use Rattle.std.proofs.lemmas.Bool.{lt-ltb}
use Rattle.call_events.specs.declared.event.Event.{Event}
use Rattle.call_events.specs.declared.event.Event.TheVariants.{Invoke, Begin, Step, Commit, Reply as ReplyEvent}
use Rattle.call_events.specs.declared.event.EventRefusal.TheVariants.{CallTaken, NotNow, TooManyCalls}
use Rattle.call_events.specs.declared.event.RefusedEvent.{RefusedEvent}
use Rattle.call_answers.specs.declared.answer.Done.{Done}
use Rattle.call_machine.specs.Schedules.{EventAnswer}
use Rattle.call_machine.specs.Calls.{MachineState, call_at}
use Rattle.call_machine.specs.Laws.{AcceptedUnrefused, EventLeaves, RefusedWhereDue, RunsExtend}
use Rattle.call_machine.specs.Machine.{Applies, Accepts, is_over, is_ready, is_running, is_waiting, refusal_at}

pub runs_extend : RunsExtend
runs_extend [] [] s t u e a r p = (u, subst (λ x. Applies x e a u) (sym r) p, refl)
runs_extend [] (b ∷ bs) s t u e a r p = absurd r
runs_extend (d ∷ ds) [] s t u e a r p = absurd r
runs_extend (d ∷ ds) (b ∷ bs) s t u e a r p = (r.0, r.1, runs_extend ds bs r.0 t u e a r.2 p)

accepted_count : (s : MachineState) (e : Event) (d : Done) (t : MachineState) → Accepts s e d t → t.count ≡ s.count + 1
accepted_count s (Invoke n batch) d t a = ap (λ (s : MachineState). s.count) a.after
accepted_count s (Begin n) d t a = ap (λ (s : MachineState). s.count) a.after
accepted_count s (Step n) d t a = ap (λ (s : MachineState). s.count) a.after
accepted_count s (Commit n) d t a = ⊎_elim (λ c. ap (λ (s : MachineState). s.count) c.after) (λ r. ⊎_elim (λ f. ap (λ (s : MachineState). s.count) f.after) (λ c. ap (λ (s : MachineState). s.count) c.after) r) a.decision
accepted_count s (ReplyEvent n) d t a = ap (λ (s : MachineState). s.count) a.after

applied_count : (s : MachineState) (e : Event) (a : EventAnswer) (t : MachineState) → Applies s e a t → t.count ≤ s.count + 1
applied_count s e (Ok d) t p = let h = accepted_count s e d t p in omega arith
applied_count s e (Err r) t p = let h = ap (λ (s : MachineState). s.count) p.1 in omega arith

accepted_domain : (s : MachineState) (e : Event) (d : Done) (t : MachineState) → Accepts s e d t → t.domain ≡ s.domain
accepted_domain s (Invoke n batch) d t a = ap (λ (s : MachineState). s.domain) a.after
accepted_domain s (Begin n) d t a = ap (λ (s : MachineState). s.domain) a.after
accepted_domain s (Step n) d t a = ap (λ (s : MachineState). s.domain) a.after
accepted_domain s (Commit n) d t a = ⊎_elim (λ c. ap (λ (s : MachineState). s.domain) c.after) (λ r. ⊎_elim (λ f. ap (λ (s : MachineState). s.domain) f.after) (λ c. ap (λ (s : MachineState). s.domain) c.after) r) a.decision
accepted_domain s (ReplyEvent n) d t a = ap (λ (s : MachineState). s.domain) a.after

applied_domain : (s : MachineState) (e : Event) (a : EventAnswer) (t : MachineState) → Applies s e a t → t.domain ≡ s.domain
applied_domain s e (Ok d) t p = accepted_domain s e d t p
applied_domain s e (Err r) t p = ap (λ (s : MachineState). s.domain) p.1

pub event_leaves : EventLeaves
event_leaves s e a t p = record { domain = applied_domain s e a t p; count = applied_count s e a t p }

-- ---- which events are refused

pub accepted_unrefused : AcceptedUnrefused
accepted_unrefused s (Invoke n batch) d t a =
    let unknown : is_some (call_at n s.calls) ≡ false = ap is_some a.unknown in
    let room : nat_lt (length s.calls) 4096 ≡ true = lt-ltb (length s.calls) 4096 a.room in
    ap (λ b. if b then Some CallTaken else (if nat_lt (length s.calls) 4096 then None else Some TooManyCalls)) unknown ∙ ap (λ b. if b then None else Some TooManyCalls) room
accepted_unrefused s (Begin n) d t a = ap (λ o. refusal_at o (λ c. is_waiting c.stage)) a.found ∙ ap (λ g. if is_waiting g then None else Some NotNow) a.in_turn
accepted_unrefused s (Step n) d t a = ap (λ o. refusal_at o (λ c. is_running c.stage)) a.found ∙ ap (λ g. if is_running g then None else Some NotNow) a.in_turn
accepted_unrefused s (Commit n) d t a = ap (λ o. refusal_at o (λ c. is_ready c.stage)) a.found ∙ ap (λ g. if is_ready g then None else Some NotNow) a.in_turn
accepted_unrefused s (ReplyEvent n) d t a = ap (λ o. refusal_at o (λ c. is_none c.replied && is_over c.stage)) a.found ∙ (λ i. if is_none (a.once i) && is_some (a.in_turn i) then None else Some NotNow)

pub refused_where_due : RefusedWhereDue
refused_where_due s e (Ok d) t r p n = (
  λ q. let k = sym (accepted_unrefused s e d t p) ∙ q in absurd (cc),
  λ q. absurd (cc),
)
refused_where_due s e (Err x) t r p n = (
  λ q. ⊎_elim
      (λ d. let k = sym d ∙ q in let same : x.refusal ≡ r = cc in λ i. Err (record { refusal = same i; event = p.0.back i }))
      (λ d. let k = sym d.0 ∙ q in absurd (cc))
      p.0.due,
  λ q.
      let same : x ≡ record { refusal = r; event = e } = cc in
      ⊎_elim (λ d. d ∙ ap (λ (y : RefusedEvent). Some y.refusal) same) (λ d. absurd (n (sym (ap (λ (y : RefusedEvent). y.refusal) same) ∙ d.1))) p.0.due,
)
