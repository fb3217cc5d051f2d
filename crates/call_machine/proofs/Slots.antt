-- The stage of a call from the state of its work, and a map of calls with one of them changed.
use Rattle.std.proofs.Common.{◌≡◌, ℕ, ◌+◌, Bool, true, false, cond, ◌⊎◌, List, [], ◌∷◌, ◌++◌, length, take, Option, Some, None, refl, sym, ap, subst, ◌∙◌, ⊎_elim}
use Rattle.std.specs.Prelude.{nat_lt, nat_eq, option_map, is_some, slice_get, map, filter, ◌||◌}
use Rattle.std.specs.Map.{lookup, set_value}
use Rattle.std.proofs.lemmas.Bool.{eqb-true}
use Rattle.entry_book.specs.declared.reply.Reply.{Reply}
use Rattle.entry_book.specs.Rows.{Bytes}
use Rattle.entry_book.specs.Book.{Book}
use Rattle.entry_book.specs.Batches.{Batch, IsMadeFor}
use Rattle.entry_book.specs.History.{books_of, is_committed}
use Rattle.version_book.specs.declared.mark.MarkKind.{MarkKind}
use Rattle.batch_work.proofs.Batches.{answers_no_commit}
use Rattle.batch_work.specs.declared.status.Status.{Status}
use Rattle.batch_work.specs.declared.status.Status.TheVariants.{New, Running, Ready, Settled}
use Rattle.batch_work.specs.Reads.{footprint_of}
use Rattle.batch_work.specs.Working.{Base, Work, IsAnswer, IsNextRead, awaits_there, base_in, end_status, footprint_there, reply_there, status_from, status_of}
use Rattle.commit_head.specs.declared.item.Item.{Item}
use Rattle.commit_head.specs.Heads.{Head, head_place}
use Rattle.commit_head.specs.Journals.{batches_of}
use Rattle.entry_book.specs.declared.reply.CallAnswer.TheVariants.{Replied, Conflict}
use Rattle.call_machine.specs.declared.slot.Slot.{Slot}
use Rattle.call_machine.specs.declared.slot.SlotState.{SlotState}
use Rattle.call_machine.specs.declared.slot.SlotState.TheVariants.{Open, Over}
use Rattle.call_machine.specs.Calls.{CallStage, waiting, running, ready, answered, committed, conflict, answer_of, call_at, with_call, stage_on, stage_settled, stage_after, status_at}
use Rattle.call_machine.specs.Laws.{is_listed, is_listed_at, turn_of}
use Rattle.call_machine.specs.Kept.{AllRest, AnsweredWhenSettled, BaseIsInJournal, BeganWithin, IsOn, IsOverSlot, HasWholeJournal, RestsOn, SlotBegins, SlotRests, SlotSteps, StateRests, call_kept, calls_kept, head_domain, is_listed_entry, is_listed_state, journal_of, new_slot, stage_from, stage_kept, stage_of_slot, stage_over, stage_replied, turn_of_entry}
use Rattle.call_machine.proofs.Heads.{began_there, began_still, place_is}

-- ---- the stage of a work

-- on these books, if its base agrees with them
stage_is : (batch : Batch) (base : Base) (books : List Book) (n : ℕ) → IsOn batch base books → stage_from (Some base) batch n ≡ stage_on batch books base.newest.number n
stage_is batch base books n o = λ i. cond (nat_lt n (length (o.reads i))) (running base.newest.number n) (stage_settled (o.wait i) base.newest.number (o.reply i))

status_is_from : (o : Option Base) (batch : Batch) (n : ℕ) → status_from o batch n ≡ status_at (stage_from o batch n)
status_is_from None batch n = refl
status_is_from (Some base) batch n = elim (nat_lt n (length (footprint_there batch base))) as (λ b. cond b Running (end_status (awaits_there batch base)) ≡ status_at (cond b (running base.newest.number n) (stage_settled (awaits_there batch base) base.newest.number (reply_there batch base)))) [
  | true ↦ refl
  | false ↦ elim (awaits_there batch base) as (λ b. end_status b ≡ status_at (stage_settled b base.newest.number (reply_there batch base))) [ true ↦ refl | false ↦ refl ]
]

pub status_is : (w : Work) → status_of w ≡ status_at (stage_kept (Open w))
status_is w = status_is_from w.base w.batch w.steps

-- ---- its stage, by its status

new_from : (o : Option Base) (batch : Batch) (n : ℕ) → status_from o batch n ≡ New → o ≡ None
new_from None batch n = λ e. refl
new_from (Some base) batch n = elim (nat_lt n (length (footprint_there batch base))) as (λ b. cond b Running (end_status (awaits_there batch base)) ≡ New → Some base ≡ None) [
  | true ↦ λ e. cc
  | false ↦ elim (awaits_there batch base) as (λ b. end_status b ≡ New → Some base ≡ None) [ true ↦ λ e. cc | false ↦ λ e. cc ]
]

pub new_is : (w : Work) → status_of w ≡ New → w.base ≡ None
new_is w e = new_from w.base w.batch w.steps e

-- It has begun, and its reads are not all made.
pub record IsReading (w : Work) : Type 0 where
  pub base : Base
  pub base_is : w.base ≡ Some base
  pub stage : stage_kept (Open w) ≡ running base.newest.number w.steps

reading_from : (base : Base) (batch : Batch) (n : ℕ) → status_from (Some base) batch n ≡ Running → stage_from (Some base) batch n ≡ running base.newest.number n
reading_from base batch n = elim (nat_lt n (length (footprint_there batch base))) as (λ b. cond b Running (end_status (awaits_there batch base)) ≡ Running → cond b (running base.newest.number n) (stage_settled (awaits_there batch base) base.newest.number (reply_there batch base)) ≡ running base.newest.number n) [
  | true ↦ λ e. refl
  | false ↦ elim (awaits_there batch base) as (λ b. end_status b ≡ Running → stage_settled b base.newest.number (reply_there batch base) ≡ running base.newest.number n) [ true ↦ λ e. cc | false ↦ λ e. cc ]
]

reading_by : (o : Option Base) (batch : Batch) (n : ℕ) → status_from o batch n ≡ Running → (base : Base) × (o ≡ Some base) × (stage_from o batch n ≡ running base.newest.number n)
reading_by None batch n e = cc
reading_by (Some base) batch n e = (base, refl, reading_from base batch n e)

pub reading_is : (w : Work) → status_of w ≡ Running → IsReading w
reading_is w e = let r = reading_by w.base w.batch w.steps e in record { base = r.0; base_is = r.1; stage = r.2 }

-- It has begun, its reads are made, and it has changes to commit.
pub record IsAwaiting (w : Work) : Type 0 where
  pub base : Base
  pub base_is : w.base ≡ Some base
  pub awaits : awaits_there w.batch base ≡ true
  pub stage : stage_kept (Open w) ≡ ready base.newest.number

ready_from : (base : Base) (batch : Batch) (n : ℕ) → status_from (Some base) batch n ≡ Ready → (awaits_there batch base ≡ true) × (stage_from (Some base) batch n ≡ ready base.newest.number)
ready_from base batch n = elim (nat_lt n (length (footprint_there batch base))) as (λ b. cond b Running (end_status (awaits_there batch base)) ≡ Ready → (awaits_there batch base ≡ true) × (cond b (running base.newest.number n) (stage_settled (awaits_there batch base) base.newest.number (reply_there batch base)) ≡ ready base.newest.number)) [
  | true ↦ λ e. cc
  | false ↦ elim (awaits_there batch base) as (λ b. end_status b ≡ Ready → (b ≡ true) × (stage_settled b base.newest.number (reply_there batch base) ≡ ready base.newest.number)) [ true ↦ λ e. (refl, refl) | false ↦ λ e. cc ]
]

ready_by : (o : Option Base) (batch : Batch) (n : ℕ) → status_from o batch n ≡ Ready → (base : Base) × (o ≡ Some base) × (awaits_there batch base ≡ true) × (stage_from o batch n ≡ ready base.newest.number)
ready_by None batch n e = cc
ready_by (Some base) batch n e = let r = ready_from base batch n e in (base, refl, r.0, r.1)

pub ready_is : (w : Work) → status_of w ≡ Ready → IsAwaiting w
ready_is w e = let r = ready_by w.base w.batch w.steps e in record { base = r.0; base_is = r.1; awaits = r.2; stage = r.3 }

settled_from : (base : Base) (batch : Batch) (n : ℕ) → status_from (Some base) batch n ≡ Settled → (awaits_there batch base ≡ false) × (stage_from (Some base) batch n ≡ answered (reply_there batch base))
settled_from base batch n = elim (nat_lt n (length (footprint_there batch base))) as (λ b. cond b Running (end_status (awaits_there batch base)) ≡ Settled → (awaits_there batch base ≡ false) × (cond b (running base.newest.number n) (stage_settled (awaits_there batch base) base.newest.number (reply_there batch base)) ≡ answered (reply_there batch base))) [
  | true ↦ λ e. cc
  | false ↦ elim (awaits_there batch base) as (λ b. end_status b ≡ Settled → (b ≡ false) × (stage_settled b base.newest.number (reply_there batch base) ≡ answered (reply_there batch base))) [ true ↦ λ e. cc | false ↦ λ e. (refl, refl) ]
]

settled_by : (w : Work) (o : Option Base) (reply : Reply) → w.base ≡ o → status_from o w.batch w.steps ≡ Settled → IsAnswer w reply → (is_committed reply.outcome ≡ false) × (stage_from o w.batch w.steps ≡ answered reply)
settled_by w None reply q e a = cc
settled_by w (Some base) reply q e a =
    let s = settled_from base w.batch w.steps e in
    let is = answer_is w base reply q a in
    (ap (λ (r : Reply). is_committed r.outcome) is ∙ answers_no_commit w.batch base s.0, s.1 ∙ ap answered (sym is))
  where
    answer_is : (w : Work) (base : Base) (reply : Reply) → w.base ≡ Some base → IsAnswer w reply → reply ≡ reply_there w.batch base
    answer_is w base reply q a = rw q at a

-- the stage of a settled work is that of its reply, which is not a commit
pub settled_is : (w : Work) (reply : Reply) → status_of w ≡ Settled → IsAnswer w reply → (is_committed reply.outcome ≡ false) × (stage_kept (Open w) ≡ answered reply)
settled_is w reply e a = settled_by w w.base reply refl e a

-- one that isn't settled has no answer
unsettled_by : (o : Option Base) (batch : Batch) (n : ℕ) → (status_from o batch n ≡ Settled → ⊥) → answer_of (stage_from o batch n) ≡ None
unsettled_by None batch n = λ f. refl
unsettled_by (Some base) batch n = elim (nat_lt n (length (footprint_there batch base))) as (λ b. (cond b Running (end_status (awaits_there batch base)) ≡ Settled → ⊥) → answer_of (cond b (running base.newest.number n) (stage_settled (awaits_there batch base) base.newest.number (reply_there batch base))) ≡ None) [
  | true ↦ λ f. refl
  | false ↦ elim (awaits_there batch base) as (λ b. (end_status b ≡ Settled → ⊥) → answer_of (stage_settled b base.newest.number (reply_there batch base)) ≡ None) [ true ↦ λ f. refl | false ↦ λ f. absurd (f refl) ]
]

-- ---- a call that is open, and one that is over

pub status_kept : (s : SlotState) (w : Work) (r : Status) → s ≡ Open w → r ≡ status_of w → r ≡ status_at (stage_kept s)
status_kept s w r q e = e ∙ (status_is w ∙ ap (λ s. status_at (stage_kept s)) (sym q))

pub open_status : (s : SlotState) (w : Work) (r : Status) → s ≡ Open w → r ≡ status_at (stage_kept s) → status_of w ≡ r
open_status s w r q e = status_is w ∙ (ap (λ s. status_at (stage_kept s)) (sym q) ∙ sym e)

-- a settled work is dropped, and its reply is stored
pub gone_is : (w : Work) (reply : Reply) → status_of w ≡ Settled → IsAnswer w reply → stage_over (Replied reply) ≡ stage_kept (Open w)
gone_is w reply s a = let is = settled_is w reply s a in ap (λ b. stage_replied b reply) is.0 ∙ sym is.1

pub over_answered : (s : SlotState) → IsOverSlot s → AnsweredWhenSettled s
over_answered (Open w) i = absurd i
over_answered (Over a) i = tt

-- ---- which calls are listed

-- a call without an answer isn't listed
unanswered : (g : CallStage) (replied : Option ℕ) → answer_of g ≡ None → is_listed_at g replied ≡ false
unanswered waiting replied e = refl
unanswered (running base made) replied e = refl
unanswered (ready base) replied e = refl
unanswered (answered r) replied e = cc
unanswered (committed r) replied e = cc
unanswered (conflict n) replied e = refl

listed_reply : (b : Bool) (r : Reply) (replied : Option ℕ) → is_listed_at (stage_replied b r) replied ≡ (b || is_some replied)
listed_reply true r replied = refl
listed_reply false r replied = refl

-- a call is listed if it is committed, or has returned its reply
listed_is : (s : SlotState) (replied : Option ℕ) → AnsweredWhenSettled s → is_listed_at (stage_kept s) replied ≡ is_listed_state s replied
listed_is (Open w) replied f = unanswered (stage_kept (Open w)) replied (unsettled_by w.base w.batch w.steps f)
listed_is (Over (Replied r)) replied f = listed_reply (is_committed r.outcome) r replied
listed_is (Over (Conflict n)) replied f = refl

pub listed_turns : (own_domain : Bytes) (items : List Item) (es : List (ℕ × Slot)) → AllRest own_domain items es → map turn_of_entry (filter is_listed_entry es) ≡ map turn_of (filter is_listed (calls_kept es))
listed_turns own_domain items [] a = refl
listed_turns own_domain items (e ∷ es) a =
    let same : is_listed (call_kept e.0 e.1) ≡ is_listed_entry e = listed_is e.1.state e.1.replied a.0.answered in
    let rest = listed_turns own_domain items es a.1 in
    elim (is_listed_entry e) as (λ b. is_listed (call_kept e.0 e.1) ≡ b → map turn_of_entry (cond b (e ∷ filter is_listed_entry es) (filter is_listed_entry es)) ≡ map turn_of (cond (is_listed (call_kept e.0 e.1)) (call_kept e.0 e.1 ∷ filter is_listed (calls_kept es)) (filter is_listed (calls_kept es)))) [
      | true ↦ λ t. ap (λ l. turn_of_entry e ∷ l) rest ∙ sym (ap (λ b. map turn_of (cond b (call_kept e.0 e.1 ∷ filter is_listed (calls_kept es)) (filter is_listed (calls_kept es)))) t)
      | false ↦ λ t. rest ∙ sym (ap (λ b. map turn_of (cond b (call_kept e.0 e.1 ∷ filter is_listed (calls_kept es)) (filter is_listed (calls_kept es)))) t)
    ] same

-- ---- one call

pub call_moved : (n : ℕ) (old later : Slot) (turn : ℕ) → later.batch ≡ old.batch → later.invoked ≡ old.invoked → later.turn ≡ turn → later.replied ≡ old.replied → call_kept n later ≡ record (call_kept n old) { stage = stage_of_slot later; turn = turn }
call_moved n old later turn a b c d = λ i. record { number = n; batch = a i; stage = stage_of_slot later; invoked = b i; turn = c i; replied = d i }

-- a new call satisfies the invariant on any journal of its trust domain
pub new_rests : (own_domain : Bytes) (items : List Item) (slot : Slot) (batch : Batch) (invoked : ℕ) → IsMadeFor own_domain batch → slot ≡ new_slot batch invoked → SlotRests own_domain items slot
new_rests own_domain items slot batch invoked d e = subst (SlotRests own_domain items) (sym e) (record { made = d; state = (record { made = d; began = refl }, refl); answered = isnt })
  where
    isnt : New ≡ Settled → ⊥
    isnt e = cc

over_rests : (own_domain : Bytes) (items : List Item) (batch : Batch) (s : SlotState) → IsOverSlot s → StateRests own_domain items batch s
over_rests own_domain items batch (Open w) i = absurd i
over_rests own_domain items batch (Over a) i = tt

-- and so does one that is over
pub ended_rests : (own_domain : Bytes) (items : List Item) (slot : Slot) → IsMadeFor own_domain slot.batch → IsOverSlot slot.state → SlotRests own_domain items slot
ended_rests own_domain items slot d i = record { made = d; state = over_rests own_domain items slot.batch slot.state i; answered = over_answered slot.state i }

-- ---- a map of calls

pub lookup_call : (n : ℕ) (es : List (ℕ × Slot)) → call_at n (calls_kept es) ≡ option_map (call_kept n) (lookup (nat_eq n) es)
lookup_call n [] = refl
lookup_call n (e ∷ es) =
    elim (nat_eq n e.0) as (λ b. nat_eq n e.0 ≡ b → cond b (Some (call_kept e.0 e.1)) (call_at n (calls_kept es)) ≡ option_map (call_kept n) (cond b (Some e.1) (lookup (nat_eq n) es))) [
      | true ↦ λ t. ap (λ k. Some (call_kept k e.1)) (sym (eqb-true n e.0 t))
      | false ↦ λ t. lookup_call n es
    ] refl

pub set_call : (n : ℕ) (slot : Slot) (es : List (ℕ × Slot)) → calls_kept (set_value (nat_eq n) es slot) ≡ with_call (call_kept n slot) (calls_kept es)
set_call n slot [] = refl
set_call n slot (e ∷ es) =
    elim (nat_eq n e.0) as (λ b. nat_eq n e.0 ≡ b → calls_kept (cond b ((e.0, slot) ∷ es) (e ∷ set_value (nat_eq n) es slot)) ≡ cond b (call_kept n slot ∷ calls_kept es) (call_kept e.0 e.1 ∷ with_call (call_kept n slot) (calls_kept es))) [
      | true ↦ λ t. ap (λ k. call_kept k slot ∷ calls_kept es) (sym (eqb-true n e.0 t))
      | false ↦ λ t. ap (λ l. call_kept e.0 e.1 ∷ l) (set_call n slot es)
    ] refl

pub set_same : (n : ℕ) (slot : Slot) (es : List (ℕ × Slot)) → lookup (nat_eq n) es ≡ Some slot → set_value (nat_eq n) es slot ≡ es
set_same n slot [] = λ h. refl
set_same n slot (e ∷ es) =
    elim (nat_eq n e.0) as (λ b. cond b (Some e.1) (lookup (nat_eq n) es) ≡ Some slot → cond b ((e.0, slot) ∷ es) (e ∷ set_value (nat_eq n) es slot) ≡ e ∷ es) [
      | true ↦ λ h. let q : e.1 ≡ slot = cc in ap (λ r. (e.0, r) ∷ es) (sym q)
      | false ↦ λ h. ap (λ l. e ∷ l) (set_same n slot es h)
    ]

pub rest_set : (own_domain : Bytes) (items : List Item) (n : ℕ) (slot : Slot) (es : List (ℕ × Slot)) → AllRest own_domain items es → SlotRests own_domain items slot → AllRest own_domain items (set_value (nat_eq n) es slot)
rest_set own_domain items n slot [] a r = tt
rest_set own_domain items n slot (e ∷ es) a r =
    elim (nat_eq n e.0) as (λ b. AllRest own_domain items (cond b ((e.0, slot) ∷ es) (e ∷ set_value (nat_eq n) es slot))) [
      | true ↦ (r, a.1)
      | false ↦ (a.0, rest_set own_domain items n slot es a.1 r)
    ]

pub rests_at : (own_domain : Bytes) (items : List Item) (n : ℕ) (es : List (ℕ × Slot)) (slot : Slot) → AllRest own_domain items es → lookup (nat_eq n) es ≡ Some slot → SlotRests own_domain items slot
rests_at own_domain items n [] slot a = λ h. cc
rests_at own_domain items n (e ∷ es) slot a =
    elim (nat_eq n e.0) as (λ b. cond b (Some e.1) (lookup (nat_eq n) es) ≡ Some slot → SlotRests own_domain items slot) [
      | true ↦ λ h. let q : e.1 ≡ slot = cc in subst (SlotRests own_domain items) q a.0
      | false ↦ λ h. rests_at own_domain items n es slot a.1 h
    ]

began_more : (own_domain : Bytes) (items more : List Item) (batch : Batch) (n : ℕ) (o : Option Base) → BeganWithin own_domain items batch n o → BeganWithin own_domain (items ++ more) batch n o
began_more own_domain items more batch n None b = b
began_more own_domain items more batch n (Some base) b = began_still own_domain items more batch base b

state_more : (own_domain : Bytes) (items more : List Item) (batch : Batch) (s : SlotState) → StateRests own_domain items batch s → StateRests own_domain (items ++ more) batch s
state_more own_domain items more batch (Open w) r = (record { made = r.0.made; began = began_more own_domain items more w.batch w.steps w.base r.0.began }, r.1)
state_more own_domain items more batch (Over a) r = tt

rests_more : (own_domain : Bytes) (items more : List Item) (slot : Slot) → SlotRests own_domain items slot → SlotRests own_domain (items ++ more) slot
rests_more own_domain items more slot r = record { made = r.made; state = state_more own_domain items more slot.batch slot.state r.state; answered = r.answered }

pub all_rest_more : (own_domain : Bytes) (items more : List Item) (es : List (ℕ × Slot)) → AllRest own_domain items es → AllRest own_domain (items ++ more) es
all_rest_more own_domain items more [] a = tt
all_rest_more own_domain items more (e ∷ es) a = (rests_more own_domain items more e.1 a.0, all_rest_more own_domain items more es a.1)

-- ---- begin and step

pub open_rests : (own_domain : Bytes) (items : List Item) (batch : Batch) (s : SlotState) (w : Work) → StateRests own_domain items batch s → s ≡ Open w → RestsOn own_domain items w × (w.batch ≡ batch)
open_rests own_domain items batch s w r e = subst (StateRests own_domain items batch) e r

-- a work that was open, and may be over now
state_rests : (own_domain : Bytes) (items : List Item) (batch : Batch) (w : Work) (s : SlotState) → RestsOn own_domain items w → w.batch ≡ batch → (s ≡ Open w) ⊎ IsOverSlot s → StateRests own_domain items batch s
state_rests own_domain items batch w s rests same kept = ⊎_elim (λ e. subst (StateRests own_domain items batch) (sym e) (rests, same)) (λ i. over_rests own_domain items batch s i) kept

pub slot_begun : (h : Head) (old later : Slot) (w work : Work) (turn : ℕ) (status : Status) → HasWholeJournal h → SlotRests (head_domain h) h.kept old → old.state ≡ Open w → status_of w ≡ New → work ≡ record w { base = Some (base_in w.batch h.window) } → stage_of_slot later ≡ stage_kept (Open work) → AnsweredWhenSettled later.state → (later.state ≡ Open work) ⊎ IsOverSlot later.state → later.batch ≡ old.batch → later.invoked ≡ old.invoked → later.turn ≡ turn → later.replied ≡ old.replied → status ≡ status_at (stage_of_slot later) → SlotBegins h old turn status later
slot_begun h old later w work turn status whole rests is_open fresh made stage has kept b i t p reported =
    let there = open_rests (head_domain h) h.kept old.batch old.state w rests.state is_open in
    let no_base = new_is w fresh in
    let base = base_in w.batch h.window in
    let began = began_there h w.batch whole in
    let none : w.steps ≡ 0 = subst (λ o. BeganWithin (head_domain h) h.kept w.batch w.steps o) no_base there.0.began in
    let number : head_place h ≡ length (journal_of h) = place_is h whole in
    let on : stage_kept (Open work) ≡ stage_from (Some base) w.batch 0 = ap (λ w. stage_kept (Open w)) made ∙ ap (stage_from (Some base) w.batch) none in
    record {
      in_turn = ap stage_kept is_open ∙ ap (λ o. stage_from o w.batch w.steps) no_base;
      stage = stage ∙ (on ∙ (stage_is w.batch base (books_of (take (head_place h) (journal_of h))) 0 began.is_on ∙ λ j. stage_after (there.1 j) (journal_of h) (number j) 0));
      status_is = reported;
      batch = b;
      invoked = i;
      turn_is = t;
      replied = p;
      rests = record {
        made = subst (IsMadeFor (head_domain h)) (sym b) rests.made;
        state = state_rests (head_domain h) h.kept later.batch work later.state
            (subst (RestsOn (head_domain h) h.kept) (sym made) (record { made = there.0.made; began = began }))
            (ap (λ (w : Work). w.batch) made ∙ (there.1 ∙ sym b))
            kept;
        answered = has;
      };
    }

pub began_at : (own_domain : Bytes) (items : List Item) (w : Work) (base : Base) → RestsOn own_domain items w → w.base ≡ Some base → BaseIsInJournal own_domain items w.batch base
began_at own_domain items w base r e = subst (λ o. BeganWithin own_domain items w.batch w.steps o) e r.began

next_read : (w : Work) (base : Base) (mark : MarkKind) → w.base ≡ Some base → IsNextRead w mark → slice_get (footprint_there w.batch base) w.steps ≡ Some mark
next_read w base mark e r = rw e at r

pub slot_stepped : (own_domain : Bytes) (items : List Item) (old later : Slot) (w work : Work) (mark : MarkKind) (status : Status) → SlotRests own_domain items old → old.state ≡ Open w → status_of w ≡ Running → IsNextRead w mark → work ≡ record w { steps = w.steps + 1 } → stage_of_slot later ≡ stage_kept (Open work) → AnsweredWhenSettled later.state → (later.state ≡ Open work) ⊎ IsOverSlot later.state → later.batch ≡ old.batch → later.invoked ≡ old.invoked → later.turn ≡ old.turn → later.replied ≡ old.replied → status ≡ status_at (stage_of_slot later) → SlotSteps own_domain items old mark status later
slot_stepped own_domain items old later w work mark status rests is_open runs read made stage has kept b i t p reported =
    let there = open_rests own_domain items old.batch old.state w rests.state is_open in
    let reading = reading_is w runs in
    let base = reading.base in
    let books = books_of (take base.newest.number (batches_of items)) in
    let began = began_at own_domain items w base there.0 reading.base_is in
    let on : stage_kept (Open work) ≡ stage_from (Some base) w.batch (w.steps + 1) = ap (λ w. stage_kept (Open w)) made ∙ ap (λ o. stage_from o w.batch (w.steps + 1)) reading.base_is in
    record {
      base = base.newest.number;
      made = w.steps;
      in_turn = ap stage_kept is_open ∙ reading.stage;
      mark_is = ap (λ x. slice_get (footprint_of x books) w.steps) (sym there.1) ∙ (ap (λ l. slice_get l w.steps) (sym began.is_on.reads) ∙ next_read w base mark reading.base_is read);
      stage = stage ∙ (on ∙ (stage_is w.batch base books (w.steps + 1) began.is_on ∙ ap (λ x. stage_on x books base.newest.number (w.steps + 1)) there.1));
      status_is = reported;
      batch = b;
      invoked = i;
      turn = t;
      replied = p;
      rests = record {
        made = subst (IsMadeFor own_domain) (sym b) rests.made;
        state = state_rests own_domain items later.batch work later.state
            (subst (RestsOn own_domain items) (sym made) (record { made = there.0.made; began = subst (λ o. BeganWithin own_domain items w.batch (w.steps + 1) o) (sym reading.base_is) began }))
            (ap (λ (w : Work). w.batch) made ∙ (there.1 ∙ sym b))
            kept;
        answered = has;
      };
    }
