-- Each accepted event preserves the invariant of a machine's calls.
use Rattle.std.proofs.Common.{◌≡◌, ℕ, ◌+◌, true, false, cond, List, [], ◌++◌, length, take, Some, None, IsSome, refl, sym, ap, subst, ◌∙◌, ⊎_elim, arith}
use Rattle.std.specs.Prelude.{nat_lt, is_some}
use Rattle.std.proofs.lemmas.Bool.{cases_Bool, both_ways}
use Rattle.std.proofs.lemmas.List.{append-nil, take_all}
use Rattle.entry_book.specs.Rows.{Bytes}
use Rattle.entry_book.specs.Order.{Within}
use Rattle.entry_book.specs.Batches.{Batch}
use Rattle.entry_book.specs.declared.reply.Reply.{Reply}
use Rattle.entry_book.specs.declared.reply.ReplyOutcome.{ReplyOutcome}
use Rattle.entry_book.specs.History.{is_committed, books_of, reply_to}
use Rattle.batch_work.specs.Reads.{footprint_of, awaits_commit}
use Rattle.call_events.specs.declared.event.Event.{Event}
use Rattle.call_events.specs.declared.event.Event.TheVariants.{Invoke, Begin, Step, Commit, Reply as ReplyEvent}
use Rattle.call_answers.specs.declared.answer.Done.{Done}
use Rattle.call_machine.specs.Calls.{running, ready, answered, committed, conflict, Call, MachineState, first_machine, moved, answer_of, stage_settled, stage_on}
use Rattle.call_machine.specs.Machine.{Invokes, Begins, Steps, CommitsNow, IsFull, Conflicts, Commits, Replies, Accepts}
use Rattle.call_machine.proofs.Rows.{call_within, call_none}
use Rattle.call_machine.proofs.Line.{entered, StageFits, is_begun}
use Rattle.call_machine.proofs.Sound.{Stamped, Sound, kept_aside, joined, stayed, went_last, left, came}
use Rattle.call_machine.proofs.PlainBook.{never_commits}

-- ---- the stage of a call after a read

begun_on : (batch : Batch) (journal : List Batch) (base made : ℕ) → is_begun (stage_on batch (books_of journal) base made) ≡ true
begun_on batch journal base made = elim (nat_lt made (length (footprint_of batch (books_of journal)))) as (λ b. is_begun (cond b (running base made) (stage_settled (awaits_commit batch (books_of journal)) base (reply_to batch (books_of journal)))) ≡ true) [
  | true ↦ refl
  | false ↦ elim (awaits_commit batch (books_of journal)) as (λ b. is_begun (stage_settled b base (reply_to batch (books_of journal))) ≡ true) [ true ↦ refl | false ↦ refl ]
]

enters_nothing : (batch : Batch) (journal : List Batch) (base made : ℕ) → entered (stage_on batch (books_of journal) base made) batch ≡ []
enters_nothing batch journal base made = elim (nat_lt made (length (footprint_of batch (books_of journal)))) as (λ b. entered (cond b (running base made) (stage_settled (awaits_commit batch (books_of journal)) base (reply_to batch (books_of journal)))) batch ≡ []) [
  | true ↦ refl
  | false ↦ elim (awaits_commit batch (books_of journal)) as (λ b. entered (stage_settled b base (reply_to batch (books_of journal))) batch ≡ []) [ true ↦ refl | false ↦ refl ]
]

fits_on : (batch : Batch) (journal : List Batch) (base made : ℕ) → base ≡ length journal → StageFits (stage_on batch (books_of journal) base made) batch journal
fits_on batch journal base made e = elim (nat_lt made (length (footprint_of batch (books_of journal)))) as (λ b. StageFits (cond b (running base made) (stage_settled (awaits_commit batch (books_of journal)) base (reply_to batch (books_of journal)))) batch journal) [
  | true ↦ e
  | false ↦ elim (awaits_commit batch (books_of journal)) as (λ b. awaits_commit batch (books_of journal) ≡ b → StageFits (stage_settled b base (reply_to batch (books_of journal))) batch journal) [
    | true ↦ λ w. e
    | false ↦ λ w. (refl, never_commits batch (books_of journal) w)
  ] refl
]

-- a call without an answer has not replied
pub not_replied : (count : ℕ) (c : Call) → Stamped count c → answer_of c.stage ≡ None → (n : ℕ) → c.replied ≡ Some n → ⊥
not_replied count c s e n q = let h : IsSome (answer_of c.stage) = (s.over n q).1 in let k : is_some (answer_of c.stage) ≡ false = ap is_some e in absurd (both_ways (is_some (answer_of c.stage)) k h)

-- ---- event by event

invokes : (s : MachineState) (n : ℕ) (batch : Batch) (d : Done) (t : MachineState) → Sound s → Invokes s n batch d t → Sound t
invokes s n batch d t h i = subst Sound (sym i.after) (came s _ h (λ x w e. call_none n s.calls i.unknown x w e) refl (record {
  invoked = omega arith;
  begun = λ b. cc;
  over = λ m e. cc;
}))

begins : (s : MachineState) (n : ℕ) (d : Done) (t : MachineState) → Sound s → Begins s n d t → Sound t
begins s n d t h i =
    let w = call_within n s.calls i.call i.found in
    let k = h.stamped i.call w.0 in
    let q : i.stage ≡ stage_on i.call.batch (books_of s.journal) (length s.journal) 0 = i.stage_is ∙ ap (λ j. stage_on i.call.batch (books_of j) (length s.journal) 0) (take_all (length s.journal) s.journal (omega arith)) in
    let b : is_begun i.stage ≡ true = ap is_begun q ∙ begun_on i.call.batch s.journal (length s.journal) 0 in
    subst Sound (sym i.after) (joined s i.call (record i.call { stage = i.stage; turn = s.count + 1 }) h w.0 refl (ap is_begun i.in_turn) b
    (ap (λ g. entered g i.call.batch) q ∙ enters_nothing i.call.batch s.journal (length s.journal) 0) refl
    (subst (λ g. StageFits g i.call.batch s.journal) (sym q) (fits_on i.call.batch s.journal (length s.journal) 0 refl))
    (record {
      invoked = let a = k.invoked in omega arith;
      begun = λ _. let a = k.invoked in (omega arith, omega arith);
      over = λ m e. absurd (not_replied s.count i.call k (ap answer_of i.in_turn) m e);
    }))

steps : (s : MachineState) (n : ℕ) (d : Done) (t : MachineState) → Sound s → Steps s n d t → Sound t
steps s n d t h i =
    let w = call_within n s.calls i.call i.found in
    let k = h.stamped i.call w.0 in
    let j = take i.base s.journal in
    let b : is_begun i.stage ≡ true = ap is_begun i.stage_is ∙ begun_on i.call.batch j i.base (i.made + 1) in
    let old : is_begun i.call.stage ≡ true = ap is_begun i.in_turn in
    subst Sound (sym i.after) (stayed s i.call (record i.call { stage = i.stage }) h w.0 refl old b
    (ap (λ g. entered g i.call.batch) i.stage_is ∙ (enters_nothing i.call.batch j i.base (i.made + 1) ∙ sym (ap (λ g. entered g i.call.batch) i.in_turn))) refl
    (λ journal front f.
    let e : i.base ≡ length journal = subst (λ g. StageFits g i.call.batch journal) i.in_turn f in
    let same : j ≡ journal = ap (λ m. take m s.journal) e ∙ front in
    subst (λ g. StageFits g i.call.batch journal) (sym (i.stage_is ∙ ap (λ l. stage_on i.call.batch (books_of l) i.base (i.made + 1)) same)) (fits_on i.call.batch journal i.base (i.made + 1) e))
    (record {
      invoked = let a = k.invoked in omega arith;
      begun = λ _. let a = k.begun old in (a.0, let c = a.1 in omega arith);
      over = λ m e. absurd (not_replied s.count i.call k (ap answer_of i.in_turn) m e);
    }))

-- a reply that is not committed by its outcome is not a commit
refused_is : (r : Reply) (o : ReplyOutcome) → r.outcome ≡ o → is_committed o ≡ false → is_committed r.outcome ≡ false
refused_is r o e f = ap is_committed e ∙ f

commits_now : (s : MachineState) (call : Call) (base : ℕ) (d : Done) (t : MachineState) → Sound s → Within s.calls call → call.stage ≡ ready base → CommitsNow s call base d t → Sound t
commits_now s call base d t h w e i =
    let k = h.stamped call w in
    subst Sound (sym i.after) (went_last s call (record call { stage = committed (reply_to call.batch (books_of s.journal)); turn = s.count + 1 }) h w refl (ap is_begun e) refl
    (ap (λ g. entered g call.batch) e) refl (refl, i.commits)
    (record {
      invoked = let a = k.invoked in omega arith;
      begun = λ _. let a = k.invoked in (omega arith, omega arith);
      over = λ m q. absurd (not_replied s.count call k (ap answer_of e) m q);
    }))

is_full : (s : MachineState) (call : Call) (base : ℕ) (d : Done) (t : MachineState) → Sound s → Within s.calls call → call.stage ≡ ready base → IsFull s call d t → Sound t
is_full s call base d t h w e i =
    let k = h.stamped call w in
    let c : Call = record call { stage = answered (reply_to call.batch (books_of s.journal)); turn = s.count + 1 } in
    let g : Sound (record (moved c s) { journal = s.journal ++ [] }) = went_last s call c h w refl (ap is_begun e) refl
    (ap (λ g. entered g call.batch) e) refl (refl, ap (λ (r : Reply). is_committed r.outcome) i.full)
    (record {
      invoked = let a = k.invoked in omega arith;
      begun = λ _. let a = k.invoked in (omega arith, omega arith);
      over = λ m q. absurd (not_replied s.count call k (ap answer_of e) m q);
    }) in
    subst Sound (ap (λ j. record (moved c s) { journal = j }) (append-nil s.journal) ∙ sym i.after) g

conflicts : (s : MachineState) (call : Call) (base : ℕ) (d : Done) (t : MachineState) → Sound s → Within s.calls call → call.stage ≡ ready base → Conflicts s call base d t → Sound t
conflicts s call base d t h w e i =
    let k = h.stamped call w in
    subst Sound (sym i.after) (left s call (record call { stage = conflict (length s.journal); turn = s.count + 1 }) h w refl (ap is_begun e) refl (ap (λ g. entered g call.batch) e)
    (record {
      invoked = let a = k.invoked in omega arith;
      begun = λ b. cc;
      over = λ m q. absurd (not_replied s.count call k (ap answer_of e) m q);
    }))

committing : (s : MachineState) (n : ℕ) (d : Done) (t : MachineState) → Sound s → Commits s n d t → Sound t
committing s n d t h i =
    let w = call_within n s.calls i.call i.found in
    ⊎_elim (λ c. commits_now s i.call i.base d t h w.0 i.in_turn c)
    (λ r. ⊎_elim (λ f. is_full s i.call i.base d t h w.0 i.in_turn f) (λ c. conflicts s i.call i.base d t h w.0 i.in_turn c) r)
    i.decision

replies : (s : MachineState) (n : ℕ) (d : Done) (t : MachineState) → Sound s → Replies s n d t → Sound t
replies s n d t h i =
    let w = call_within n s.calls i.call i.found in
    let k = h.stamped i.call w.0 in
    let c : Call = record i.call { replied = Some (s.count + 1) } in
    let stamped : Stamped (s.count + 1) c = record {
      invoked = let a = k.invoked in omega arith;
      begun = λ b. let a = k.begun b in (a.0, let e = a.1 in omega arith);
      over = λ m q. let e : s.count + 1 ≡ m = cc in (omega arith, ap is_some i.in_turn, λ b. let a = (k.begun b).1 in omega arith);
    } in
    subst Sound (sym i.after) (⊎_elim
    (λ b. stayed s i.call c h w.0 refl b b refl refl (λ journal front f. f) stamped)
    (λ b. kept_aside s i.call c h w.0 refl b b stamped)
    (cases_Bool (is_begun i.call.stage)))

pub accepts_sound : (s : MachineState) (e : Event) (d : Done) (t : MachineState) → Sound s → Accepts s e d t → Sound t
accepts_sound s (Invoke n batch) d t h a = invokes s n batch d t h a
accepts_sound s (Begin n) d t h a = begins s n d t h a
accepts_sound s (Step n) d t h a = steps s n d t h a
accepts_sound s (Commit n) d t h a = committing s n d t h a
accepts_sound s (ReplyEvent n) d t h a = replies s n d t h a

pub first_sound : (own_domain : Bytes) → Sound (first_machine own_domain)
first_sound own_domain = record {
  line = [];
  members = λ c. (λ w. absurd w, λ w. absurd w.0);
  turns = tt;
  fits = tt;
  journal = refl;
  numbers = tt;
  stamped = λ c w. absurd w;
}
