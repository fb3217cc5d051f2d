-- A machine has few calls and each has few events, so the number of accepted events is far below 2^64.
use Rattle.std.proofs.Common.{◌≡◌, ℕ, ◌+◌, ◌*◌, ◌≤◌, ◌<◌, ◌^◌, true, false, cond, List, [], ◌∷◌, ◌++◌, suc, length, take, drop, Option, Some, None, refl, sym, ap, subst, ⊎_elim, arith}
use Rattle.std.specs.Prelude.{nat_eq, nat_lt}
use Rattle.std.specs.Map.{lookup, set_value}
use Rattle.std.proofs.lemmas.Bool.{ltb-true}
use Rattle.std.proofs.lemmas.List.{take-append-drop}
use Rattle.entry_book.specs.Rows.{Bytes}
use Rattle.entry_book.specs.Book.{Book}
use Rattle.entry_book.specs.Batches.{Batch, IsMadeFor}
use Rattle.entry_book.proofs.Histories.{empty_is_first}
use Rattle.entry_book.specs.History.{books_of, first_books, is_committed, reply_to}
use Rattle.version_book.specs.declared.mark.MarkKind.{MarkKind}
use Rattle.version_book.specs.CommittedRows.{VersionState as Version}
use Rattle.batch_work.specs.declared.status.Status.{Status}
use Rattle.batch_work.specs.Reads.{awaits_commit, footprint_of}
use Rattle.batch_work.specs.Working.{Base, awaits_there, footprint_there, reply_there}
use Rattle.commit_head.specs.declared.item.Item.{Item}
use Rattle.commit_head.specs.Heads.{Head, newest_of}
use Rattle.commit_head.specs.Journals.{Leads, batches_of, empty_version as first_version}
use Rattle.commit_head.proofs.FewReads.{journal_reads_few}
use Rattle.commit_head.proofs.Journals.{leads_in_parts}
use Rattle.call_answers.specs.declared.answer.Decision.{Decision}
use Rattle.entry_book.specs.declared.reply.CallAnswer.TheVariants.{Replied, Conflict}
use Rattle.call_machine.specs.declared.slot.Slot.{Slot}
use Rattle.call_machine.specs.declared.slot.SlotState.{SlotState}
use Rattle.call_machine.specs.declared.slot.SlotState.TheVariants.{Open, Over}
use Rattle.call_machine.specs.Calls.{CallStage, running, stage_on, stage_settled}
use Rattle.call_machine.specs.Kept.{AllRest, BeganWithin, MachineInvariant, HasWholeJournal, SlotBegins, SlotDecides, SlotRests, SlotSteps, StateRests, all_events, head_domain, journal_of, reply_events, slot_events, stage_events, stage_from, stage_kept, stage_of_slot, stage_replied}
use Rattle.call_machine.proofs.Heads.{first_batches}
use Rattle.call_machine.proofs.Lists.{get_within}

-- ---- a batch makes few reads on each book of the journal

module _ (own_domain : Bytes) (items : List Item) (s : Version) (leads : Leads (first_version own_domain) items s) where
  few_at : (n : ℕ) (batch : Batch) → IsMadeFor own_domain batch → length (footprint_of batch (books_of (take n (batches_of items)))) ≤ 2 ^ 21
  few_at n batch made =
      let parts = leads_in_parts (take n items) (drop n items) (first_version own_domain) s (subst (λ l. Leads (first_version own_domain) l s) (sym (take-append-drop n items)) leads) in
      subst (λ l. length (footprint_of batch (books_of l)) ≤ 2 ^ 21) (sym (first_batches n items)) (journal_reads_few first_books own_domain (take n items) parts.0 batch (empty_is_first own_domain) parts.1 made)

  -- ---- so that a call has few events

  few_from : (batch : Batch) (o : Option Base) (n : ℕ) → IsMadeFor own_domain batch → BeganWithin own_domain items batch n o → stage_events (stage_from o batch n) ≤ 3 + 2 ^ 21
  few_from batch None n made began = omega arith
  few_from batch (Some base) n made began =
      let few = few_at base.newest.number batch made in
      let same = ap length began.is_on.reads in
      elim (nat_lt n (length (footprint_there batch base))) as (λ b. nat_lt n (length (footprint_there batch base)) ≡ b → stage_events (cond b (running base.newest.number n) (stage_settled (awaits_there batch base) base.newest.number (reply_there batch base))) ≤ 3 + 2 ^ 21) [
        | true ↦ λ t. let less = ltb-true n (length (footprint_there batch base)) t in omega arith
        | false ↦ λ t. elim (awaits_there batch base) as (λ b. stage_events (stage_settled b base.newest.number (reply_there batch base)) ≤ 3 + 2 ^ 21) [ true ↦ omega arith | false ↦ omega arith ]
      ] refl

  few_kept : (batch : Batch) (s : SlotState) → StateRests own_domain items batch s → stage_events (stage_kept s) ≤ 3 + 2 ^ 21
  few_kept batch (Open w) r = few_from w.batch w.base w.steps r.0.made r.0.began
  few_kept batch (Over (Replied q)) r = elim (is_committed q.outcome) as (λ b. stage_events (stage_replied b q) ≤ 3 + 2 ^ 21) [ true ↦ omega arith | false ↦ omega arith ]
  few_kept batch (Over (Conflict n)) r = omega arith

  few_slot : (slot : Slot) → SlotRests own_domain items slot → slot_events slot ≤ 2 ^ 22
  few_slot slot r = let k = few_kept slot.batch slot.state r.state in let q = one_reply slot.replied in omega arith
    where
      one_reply : (o : Option ℕ) → reply_events o ≤ 1
      one_reply None = omega arith
      one_reply (Some n) = omega arith

  few_all : (es : List (ℕ × Slot)) → AllRest own_domain items es → all_events es ≤ 2 ^ 22 * length es
  few_all [] a = omega arith
  few_all (e ∷ es) a = let k = few_slot e.1 a.0 in let q = few_all es a.1 in omega arith

-- one more event can be counted
pub has_room : {h : Head} {count : ℕ} {es : List (ℕ × Slot)} → MachineInvariant h count es → count + 1 < 2 ^ 64
has_room {h} {count} {es} holds =
    let k = few_all (head_domain h) h.kept (newest_of h) holds.whole.leads es holds.rest in
    let few = holds.few in
    let counted = holds.counted in
    omega arith

-- ---- one call has changed

pub few_set : (n : ℕ) (later : Slot) (es : List (ℕ × Slot)) → length es ≤ 4096 → length (set_value (nat_eq n) es later) ≤ 4096
few_set n later es few = subst (λ k. k ≤ 4096) (sym (length_set n later es)) few
  where
    length_set : (n : ℕ) (later : Slot) (es : List (ℕ × Slot)) → length (set_value (nat_eq n) es later) ≡ length es
    length_set n later [] = refl
    length_set n later (e ∷ es) = elim (nat_eq n e.0) as (λ b. length (cond b ((e.0, later) ∷ es) (e ∷ set_value (nat_eq n) es later)) ≡ length (e ∷ es)) [
      | true ↦ refl
      | false ↦ ap suc (length_set n later es)
    ]

events_set : (n : ℕ) (es : List (ℕ × Slot)) (slot later : Slot) → lookup (nat_eq n) es ≡ Some slot → all_events (set_value (nat_eq n) es later) + slot_events slot ≡ all_events es + slot_events later
events_set n [] slot later = λ h. cc
events_set n (e ∷ es) slot later =
    elim (nat_eq n e.0) as (λ b. cond b (Some e.1) (lookup (nat_eq n) es) ≡ Some slot → all_events (cond b ((e.0, later) ∷ es) (e ∷ set_value (nat_eq n) es later)) + slot_events slot ≡ all_events (e ∷ es) + slot_events later) [
      | true ↦ λ h. let q : e.1 ≡ slot = cc in let k = ap slot_events q in omega arith
      | false ↦ λ h. let k = events_set n es slot later h in omega arith
    ]

pub counted_set : (count n : ℕ) (es : List (ℕ × Slot)) (slot later : Slot) → lookup (nat_eq n) es ≡ Some slot → slot_events slot + 1 ≤ slot_events later → count ≤ all_events es → count + 1 ≤ all_events (set_value (nat_eq n) es later)
counted_set count n es slot later found more counted = let k = events_set n es slot later found in omega arith

pub events_more : (n : ℕ) (slot : Slot) (es : List (ℕ × Slot)) → all_events (es ++ (n, slot) ∷ []) ≡ all_events es + slot_events slot
events_more n slot [] = omega arith
events_more n slot (e ∷ es) = let k = events_more n slot es in omega arith

-- ---- each event of a call counts one

events_on : (batch : Batch) (books : List Book) (base made : ℕ) → made ≤ 2 ^ 21 → 2 + made ≤ stage_events (stage_on batch books base made)
events_on batch books base made few = elim (nat_lt made (length (footprint_of batch books))) as (λ b. 2 + made ≤ stage_events (cond b (running base made) (stage_settled (awaits_commit batch books) base (reply_to batch books)))) [
  | true ↦ omega arith
  | false ↦ elim (awaits_commit batch books) as (λ b. 2 + made ≤ stage_events (stage_settled b base (reply_to batch books))) [ true ↦ omega arith | false ↦ omega arith ]
]

-- the later stage allows one more event, and the reply is the same
more_by : (old later : Slot) (f g : CallStage) → stage_of_slot old ≡ f → stage_of_slot later ≡ g → later.replied ≡ old.replied → stage_events f + 1 ≤ stage_events g → slot_events old + 1 ≤ slot_events later
more_by old later f g e d r more =
    let a = ap stage_events e in
    let b = ap stage_events d in
    let c = ap reply_events r in
    omega arith

pub more_begun : (h : Head) (old later : Slot) (turn : ℕ) (status : Status) → SlotBegins h old turn status later → slot_events old + 1 ≤ slot_events later
more_begun h old later turn status b = more_by old later _ _ b.in_turn b.stage b.replied (events_on old.batch (books_of (take (length (journal_of h)) (journal_of h))) (length (journal_of h)) 0 (omega arith))

pub more_stepped : (h : Head) (old later : Slot) (mark : MarkKind) (status : Status) → HasWholeJournal h → IsMadeFor (head_domain h) old.batch → SlotSteps (head_domain h) h.kept old mark status later → slot_events old + 1 ≤ slot_events later
more_stepped h old later mark status whole made b =
    let few = few_at (head_domain h) h.kept (newest_of h) whole.leads b.base old.batch made in
    let less = get_within _ b.made mark b.mark_is in
    more_by old later _ _ b.in_turn b.stage b.replied (let k = events_on old.batch (books_of (take b.base (batches_of h.kept))) b.base (b.made + 1) (omega arith) in omega arith)

pub more_decided : (old_head head : Head) (old later : Slot) (turn place : ℕ) (decision : Decision) → SlotDecides old_head old turn decision place later head → slot_events old + 1 ≤ slot_events later
more_decided old_head head old later turn place decision b =
    ⊎_elim
    (λ c. more_by old later _ _ b.in_turn c.stage_is b.replied (omega arith))
    (λ r. ⊎_elim (λ f. more_by old later _ _ b.in_turn f.stage_is b.replied (omega arith)) (λ c. more_by old later _ _ b.in_turn c.stage_is b.replied (omega arith)) r)
    b.decided

pub more_replied : (old later : Slot) (n : ℕ) → old.replied ≡ None → later ≡ record old { replied = Some n } → slot_events old + 1 ≤ slot_events later
more_replied old later n none e =
    let a = ap slot_events e in
    let b = ap reply_events none in
    omega arith
