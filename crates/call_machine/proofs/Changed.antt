-- A call is found, and replaced by its next state; what that means for the machine.
use Rattle.std.proofs.Common.{◌≡◌, ℕ, ◌+◌, ◌≤◌, ◌<◌, length, length-append, arith, Bool, false, List, [], ◌∷◌, ◌++◌, Option, Some, None, refl, sym, ap, subst, ◌∙◌, inl, inr, ⊎_elim}
use Rattle.std.specs.Prelude.{nat_eq, option_map, is_some, if◌then◌else◌}
use Rattle.std.specs.Map.{lookup, set_value}
use Rattle.entry_book.specs.Batches.{IsMadeFor}
use Rattle.commit_head.specs.Heads.{Head, IsUnchangedHead}
use Rattle.commit_head.specs.Journals.{batches_of}
use Rattle.call_answers.specs.declared.answer.Decision.{Decision}
use Rattle.call_answers.specs.declared.answer.Done.TheVariants.{Decided}
use Rattle.call_events.specs.declared.event.EventRefusal.{EventRefusal}
use Rattle.call_events.specs.declared.event.EventRefusal.TheVariants.{NotNow, UnknownCall}
use Rattle.call_machine.specs.declared.slot.Slot.{Slot}
use Rattle.call_machine.specs.Calls.{Call, CallStage, MachineState, call_at, moved, with_call}
use Rattle.call_machine.specs.Machine.{Commits, refusal_at}
use Rattle.call_machine.specs.Kept.{AllRest, ExtendsJournal, MachineInvariant, IsOverSlot, IsRefusalOr, SlotDecides, SlotRefuses, SlotRests, all_events, call_kept, calls_kept, head_domain, slot_events, stage_of_slot, state_of}
use Rattle.call_machine.proofs.Counts.{counted_set, events_more, few_set}
use Rattle.call_machine.proofs.Heads.{stayed}
use Rattle.call_machine.proofs.Slots.{all_rest_more, ended_rests, lookup_call, rest_set, rests_at, set_call, set_same}

-- ---- a call is found, or isn't

module _ {h : Head} {count : ℕ} {es : List (ℕ × Slot)} (n : ℕ) (holds : MachineInvariant h count es) where
  pub call_found : {slot : Slot} → lookup (nat_eq n) es ≡ Some slot → call_at n (calls_kept es) ≡ Some (call_kept n slot)
  call_found found = lookup_call n es ∙ ap (option_map (call_kept n)) found

  pub call_missing : lookup (nat_eq n) es ≡ None → call_at n (calls_kept es) ≡ None
  call_missing missing = lookup_call n es ∙ ap (option_map (call_kept n)) missing

  pub rests_found : {slot : Slot} → lookup (nat_eq n) es ≡ Some slot → SlotRests (head_domain h) h.kept slot
  rests_found {slot} found = rests_at (head_domain h) h.kept n es slot holds.rest found

-- the refusal that is due for an event of this call
module _ {h : Head} {count : ℕ} {es : List (ℕ × Slot)} {s : MachineState} (n : ℕ) (in_turn : Call → Bool) (holds : MachineInvariant h count es) (view : state_of h count es ≡ s) where
  due_at : (o : Option Call) → call_at n (calls_kept es) ≡ o → refusal_at (call_at n s.calls) in_turn ≡ refusal_at o in_turn
  due_at o e = ap (λ o. refusal_at o in_turn) (sym (ap (λ (s : MachineState). call_at n s.calls) view) ∙ e)

  pub refused_unknown : lookup (nat_eq n) es ≡ None → refusal_at (call_at n s.calls) in_turn ≡ Some UnknownCall
  refused_unknown missing = due_at None (call_missing n holds missing)

  pub refused_slot : {slot : Slot} {r : EventRefusal} → lookup (nat_eq n) es ≡ Some slot → SlotRefuses (in_turn (call_kept n slot)) r → IsRefusalOr (refusal_at (call_at n s.calls) in_turn) r
  refused_slot {slot} found refuses =
      let due = due_at (Some (call_kept n slot)) (call_found n holds found) in
      ⊎_elim
      (λ q. inl (due ∙ (ap (λ b. if b then None else Some NotNow) q.1 ∙ ap Some (sym q.0))))
      (λ q. inr (due ∙ ap (λ b. if b then None else Some NotNow) q.1, q.0))
      refuses

-- ---- the head stays

pub invariant_unchanged : {old new : Head} {count : ℕ} {es : List (ℕ × Slot)} → MachineInvariant old count es → IsUnchangedHead old new → MachineInvariant new count es
invariant_unchanged {old} {new} {count} {es} h s = record {
  whole = (stayed old new h.whole s).whole;
  rest = subst (λ l. AllRest (head_domain new) l es) (sym s.kept) (subst (λ w. AllRest w.newest.domain old.kept es) (sym s.window) h.rest);
  few = h.few;
  counted = h.counted;
}

pub state_unchanged_there : {old new : Head} (count : ℕ) (es : List (ℕ × Slot)) → IsUnchangedHead old new → state_of new count es ≡ state_of old count es
state_unchanged_there count es s = λ i. record { domain = (s.window i).newest.domain; journal = batches_of (s.kept i); count = count; calls = calls_kept es }

-- ---- the call that is found has another slot

module _ {h : Head} {count : ℕ} {es entries : List (ℕ × Slot)} {slot : Slot} (n : ℕ) (later : Slot) (holds : MachineInvariant h count es) (found : lookup (nat_eq n) es ≡ Some slot) (changed : entries ≡ set_value (nat_eq n) es later) where
  -- the slot is the same as before
  unchanged : later ≡ slot → entries ≡ es
  unchanged same = changed ∙ (ap (set_value (nat_eq n) es) same ∙ set_same n slot es found)

  pub holds_unchanged : later ≡ slot → MachineInvariant h count entries
  holds_unchanged same = subst (MachineInvariant h count) (sym (unchanged same)) holds

  pub state_unchanged : later ≡ slot → state_of h count entries ≡ state_of h count es
  state_unchanged same = ap (state_of h count) (unchanged same)

  -- with one more event
  calls_moved : (call : Call) → call_kept n later ≡ call → calls_kept entries ≡ with_call call (calls_kept es)
  calls_moved call is = ap calls_kept changed ∙ (set_call n later es ∙ ap (λ k. with_call k (calls_kept es)) is)

  pub state_moved : {call : Call} → call_kept n later ≡ call → state_of h (count + 1) entries ≡ moved call (state_of h count es)
  state_moved {call} is = ap (λ l. record (state_of h (count + 1) es) { calls = l }) (calls_moved call is)

  pub holds_set : SlotRests (head_domain h) h.kept later → slot_events slot + 1 ≤ slot_events later → MachineInvariant h (count + 1) entries
  holds_set rests more = record {
    whole = holds.whole;
    rest = subst (AllRest (head_domain h) h.kept) (sym changed) (rest_set (head_domain h) h.kept n later es holds.rest rests);
    few = subst (λ l. length l ≤ 4096) (sym changed) (few_set n later es holds.few);
    counted = subst (λ l. count + 1 ≤ all_events l) (sym changed) (counted_set count n es slot later found more holds.counted);
  }

  -- the same, if the journal has grown and the call is over
  pub holds_on : {new : Head} → ExtendsJournal h new → IsMadeFor (head_domain h) later.batch → IsOverSlot later.state → slot_events slot + 1 ≤ slot_events later → MachineInvariant new (count + 1) entries
  holds_on {new} on made over more =
      let all : AllRest (head_domain new) new.kept es = subst (λ own_domain. AllRest own_domain new.kept es) (sym on.domain) (subst (λ l. AllRest (head_domain h) l es) (sym on.kept) (all_rest_more (head_domain h) h.kept on.more es holds.rest)) in
      record {
        whole = on.whole;
        rest = subst (AllRest (head_domain new) new.kept) (sym changed) (rest_set (head_domain new) new.kept n later es all (ended_rests (head_domain new) new.kept later (subst (λ own_domain. IsMadeFor own_domain later.batch) (sym on.domain) made) over));
        few = subst (λ l. length l ≤ 4096) (sym changed) (few_set n later es holds.few);
        counted = subst (λ l. count + 1 ≤ all_events l) (sym changed) (counted_set count n es slot later found more holds.counted);
      }

  pub commits_kept : {new : Head} {decision : Decision} {place : ℕ} → SlotDecides h slot (count + 1) decision place later new → Commits (state_of h count es) n (Decided n decision place) (state_of new (count + 1) entries)
  commits_kept d =
      let calls : (g : CallStage) → stage_of_slot later ≡ g → calls_kept entries ≡ with_call (record (call_kept n slot) { stage = g; turn = count + 1 }) (calls_kept es) = λ g q.
      calls_moved (record (call_kept n slot) { stage = g; turn = count + 1 }) (λ i. record { number = n; batch = d.batch i; stage = q i; invoked = d.invoked i; turn = d.turn_is i; replied = d.replied i }) in
      record {
        call = call_kept n slot;
        found = call_found n holds found;
        base = d.base;
        in_turn = d.in_turn;
        decision = ⊎_elim
            (λ c. let m = calls _ c.stage_is in inl (record {
              validated = c.validated;
              commits = c.commits;
              answer = λ i. Decided n (c.decision_is i) (c.place_is i);
              after = λ i. record { domain = d.extends.domain i; journal = c.journal_is i; count = count + 1; calls = m i };
            }))
            (λ x. ⊎_elim
            (λ f. let m = calls _ f.stage_is in inr (inl (record {
              limit = f.limit;
              full = f.full;
              answer = λ i. Decided n (f.decision_is i) (f.place_is i);
              after = λ i. record { domain = d.extends.domain i; journal = f.journal_is i; count = count + 1; calls = m i };
            })))
            (λ k. let m = calls _ k.stage_is in inr (inr (record {
              due = k.due;
              answer = λ i. Decided n (k.decision_is i) (k.place_is i);
              after = λ i. record { domain = d.extends.domain i; journal = k.journal_is i; count = count + 1; calls = m i };
            })))
            x)
            d.decided;
      }

-- ---- a new call

is_some_map : (n : ℕ) (o : Option Slot) → is_some (option_map (call_kept n) o) ≡ is_some o
is_some_map n None = refl
is_some_map n (Some slot) = refl

pub known_call : (n : ℕ) (es : List (ℕ × Slot)) → is_some (call_at n (calls_kept es)) ≡ is_some (lookup (nat_eq n) es)
known_call n es = ap is_some (lookup_call n es) ∙ is_some_map n (lookup (nat_eq n) es)

pub none_found : {X : Type 0} (o : Option X) → is_some o ≡ false → o ≡ None
none_found None e = refl
none_found (Some x) e = cc

rest_more : (h : Head) (es : List (ℕ × Slot)) (n : ℕ) (slot : Slot) → AllRest (head_domain h) h.kept es → SlotRests (head_domain h) h.kept slot → AllRest (head_domain h) h.kept (es ++ (n, slot) ∷ [])
rest_more h [] n slot a r = (r, tt)
rest_more h (e ∷ es) n slot a r = (a.0, rest_more h es n slot a.1 r)

pub holds_more : (h : Head) (count n : ℕ) (es entries : List (ℕ × Slot)) (slot : Slot) → MachineInvariant h count es → entries ≡ es ++ (n, slot) ∷ [] → SlotRests (head_domain h) h.kept slot → length es < 4096 → 1 ≤ slot_events slot → MachineInvariant h (count + 1) entries
holds_more h count n es entries slot holds e rests few some = record {
  whole = holds.whole;
  rest = subst (AllRest (head_domain h) h.kept) (sym e) (rest_more h es n slot holds.rest rests);
  few = subst (λ l. length l ≤ 4096) (sym e) (let k = length-append es ((n, slot) ∷ []) in omega arith);
  counted = subst (λ l. count + 1 ≤ all_events l) (sym e) (let k = events_more n slot es in let c = holds.counted in omega arith);
}
