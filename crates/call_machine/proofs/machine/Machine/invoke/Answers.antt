use Rattle.std.proofs.Common.{◌≡◌, ℕ, ◌+◌, true, false, not, List, [], ◌∷◌, ◌++◌, length, Result, Ok, Err, OnOk, IsOk, Some, None, refl, sym, ap, subst, ◌∙◌, inl, inr, arith}
use Rattle.std.specs.Prelude.{nat_eq, nat_lt, is_some, if◌then◌else◌}
use Rattle.std.specs.Map.{lookup}
use Rattle.std.proofs.lemmas.Bool.{ltb-true}
use Rattle.std.proofs.lemmas.List.{length-map, map-append}
use Rattle.indexmap.proofs.CallerLemmas.{insert_entry-new}
use Rattle.entry_book.specs.Batches.{IsMadeFor}
use Rattle.call_events.specs.declared.event.EventRefusal.TheVariants.{CallTaken, TooManyCalls}
use Rattle.call_machine.specs.declared.slot.Slot.{Slot}
use Rattle.call_machine.specs.Calls.{MachineState, call_at}
use Rattle.call_machine.specs.Kept.{call_kept, calls_kept, head_domain, slot_events, state_of}
use Rattle.call_machine.proofs.Counts.{has_room}
use Rattle.call_machine.proofs.Changed.{call_missing, holds_more, known_call, none_found}
use Rattle.call_machine.proofs.Slots.{new_rests}
use Rattle.call_machine.proofs.machine.Machine.invoke.Goals as goal

pub overflow_add-invoked : goal.overflow_add-invoked
overflow_add-invoked c = let room = has_room c.self.invariant in omega arith

was_ok : {A E : Type 0} (r : Result A E) (P : Type 0) → IsOk r → OnOk r P → P
was_ok (Ok x) P k h = h
was_ok (Err e) P k h = cc

count_kept : (es : List (ℕ × Slot)) → length (calls_kept es) ≡ length es
count_kept es = length-map es (λ e. call_kept e.0 e.1)

pub returns-then-contains_key-clause-err : goal.returns-then-contains_key-clause-err
returns-then-contains_key-clause-err c =
    let es = c.self.inside.calls.entries in
    let n = c.args.number in
    let t : is_some (call_at n c.args.self.now.calls) ≡ true = sym (ap (λ (s : MachineState). is_some (call_at n s.calls)) c.self.view_is) ∙ (known_call n es ∙ (sym c.contains_key.ensures ∙ c.if-contains_key.true)) in
    (refl, inl (ap (λ b. if b then Some CallTaken else (if nat_lt (length c.args.self.now.calls) 4096 then None else Some TooManyCalls)) t))

pub returns-then-is_full-clause-err : goal.returns-then-is_full-clause-err
returns-then-is_full-clause-err c =
    let es = c.self.inside.calls.entries in
    let n = c.args.number in
    let t : is_some (call_at n c.args.self.now.calls) ≡ false = sym (ap (λ (s : MachineState). is_some (call_at n s.calls)) c.self.view_is) ∙ (known_call n es ∙ (sym c.contains_key.ensures ∙ c.if-contains_key.false)) in
    let l : length c.args.self.now.calls ≡ length es = sym (ap (λ (s : MachineState). length s.calls) c.self.view_is) ∙ count_kept es in
    let k : nat_lt (length c.args.self.now.calls) 4096 ≡ false = ap (λ n. nat_lt n 4096) l ∙ (c.is_full.ensures ∙ ap not c.if-is_full.true) in
    (refl, inl (ap (λ b. if b then Some CallTaken else (if nat_lt (length c.args.self.now.calls) 4096 then None else Some TooManyCalls)) t ∙ ap (λ b. if b then None else Some TooManyCalls) k))

pub invariant_of-self-2 : goal.invariant_of-self-2
invariant_of-self-2 c =
    let es = c.self.inside.calls.entries in
    let n = c.args.number in
    let h = c.self.inside.head in
    let absent : lookup (nat_eq n) es ≡ None = none_found (lookup (nat_eq n) es) (sym c.contains_key.ensures ∙ c.if-contains_key.false) in
    let slot = c.new-slot.result in
    let room = c.in-Ok.ensures.room in
    let ok : IsOk c.insert.result = c.insert.ensures.succeeds (omega (arith, room)) in
    let there : lookup (nat_eq n) c.with_room.new.calls.entries ≡ None = ap (lookup (nat_eq n)) c.with_room.ensures.entries ∙ absent in
    let entries : c.insert.new.self.entries ≡ es ++ (n, slot) ∷ [] = was_ok c.insert.result _ ok c.insert.ensures.entries ∙ (insert_entry-new nat_eq c.with_room.new.calls n slot there ∙ ap (λ l. l ++ (n, slot) ∷ []) c.with_room.ensures.entries) in
    let own_domain : head_domain h ≡ c.args.self.now.domain = ap (λ (s : MachineState). s.domain) c.self.view_is in
    let few = ltb-true (length es) 4096 (c.is_full.ensures ∙ ap not c.if-is_full.false) in
    let one = ap slot_events c.new-slot.ensures in
    holds_more h c.self.inside.count n es _ slot c.self.invariant entries (new_rests (head_domain h) h.kept slot c.args.batch (c.self.inside.count + 1) (subst (λ d. IsMadeFor d c.args.batch) (c.requires.domain ∙ sym own_domain) c.ops.ensures.made) c.new-slot.ensures) few (omega (arith, one))

pub returns-clause-ok : goal.returns-clause-ok
returns-clause-ok c =
    let es = c.self.inside.calls.entries in
    let n = c.args.number in
    let h = c.self.inside.head in
    let absent : lookup (nat_eq n) es ≡ None = none_found (lookup (nat_eq n) es) (sym c.contains_key.ensures ∙ c.if-contains_key.false) in
    let slot = c.new-slot.result in
    let room = c.in-Ok.ensures.room in
    let ok : IsOk c.insert.result = c.insert.ensures.succeeds (omega (arith, room)) in
    let there : lookup (nat_eq n) c.with_room.new.calls.entries ≡ None = ap (lookup (nat_eq n)) c.with_room.ensures.entries ∙ absent in
    let entries : c.insert.new.self.entries ≡ es ++ (n, slot) ∷ [] = was_ok c.insert.result _ ok c.insert.ensures.entries ∙ (insert_entry-new nat_eq c.with_room.new.calls n slot there ∙ ap (λ l. l ++ (n, slot) ∷ []) c.with_room.ensures.entries) in
    let m : length (calls_kept es) ≡ length es = count_kept es in
    let few = ltb-true (length es) 4096 (c.is_full.ensures ∙ ap not c.if-is_full.false) in
    rw (← c.self.view_is) (record {
      unknown = call_missing n c.self.invariant absent;
      room = omega (arith, m, few);
      answer = refl;
      after = ap (λ l. record (state_of h (c.self.inside.count + 1) es) { calls = l }) (ap calls_kept entries ∙ (map-append (λ e. call_kept e.0 e.1) es ((n, slot) ∷ []) ∙ ap (λ (s : Slot). calls_kept es ++ call_kept n s ∷ []) c.new-slot.ensures));
    })

pub returns-in_default-clause-err : goal.returns-in_default-clause-err
returns-in_default-clause-err c =
    let es = c.self.inside.calls.entries in
    let n = c.args.number in
    let t : is_some (call_at n c.args.self.now.calls) ≡ false = sym (ap (λ (s : MachineState). is_some (call_at n s.calls)) c.self.view_is) ∙ (known_call n es ∙ (sym c.contains_key.ensures ∙ c.if-contains_key.false)) in
    let l : length c.args.self.now.calls ≡ length es = sym (ap (λ (s : MachineState). length s.calls) c.self.view_is) ∙ count_kept es in
    let k : nat_lt (length c.args.self.now.calls) 4096 ≡ true = ap (λ n. nat_lt n 4096) l ∙ (c.is_full.ensures ∙ ap not c.if-is_full.false) in
    (refl, inr (ap (λ b. if b then Some CallTaken else (if nat_lt (length c.args.self.now.calls) 4096 then None else Some TooManyCalls)) t ∙ ap (λ b. if b then None else Some TooManyCalls) k, refl))
