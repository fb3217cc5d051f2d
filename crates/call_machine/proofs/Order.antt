-- The order that a machine returns.
use Rattle.std.proofs.Common.{◌≡◌, ◌↔◌, ℕ, ◌<◌, true, false, cond, List, [], ◌∷◌, ◌++◌, Option, Some, None, refl, sym, ap, subst, ◌∙◌, inl, inr, ⊎_elim, arith}
use Rattle.std.specs.Prelude.{map, filter, is_some}
use Rattle.std.proofs.lemmas.List.{append-nil}
use Rattle.std.proofs.lemmas.Bool.{both_ways}
use Rattle.entry_book.specs.Order.{Within}
use Rattle.entry_book.specs.Batches.{Batch}
use Rattle.entry_book.specs.declared.reply.Reply.{Reply}
use Rattle.entry_book.specs.History.{books_of, books_after, reply_to, commits, first_books}
use Rattle.call_events.specs.declared.event.Event.TheVariants.{Commit, Reply as ReplyEvent}
use Rattle.call_answers.specs.declared.answer.Decision.TheVariants.{Committed, Conflict}
use Rattle.call_answers.specs.declared.answer.Done.{Done}
use Rattle.call_answers.specs.declared.answer.Done.TheVariants.{Decided, Answered}
use Rattle.entry_book.specs.declared.reply.CallAnswer.TheVariants.{Conflict as Conflicted, Replied}
use Rattle.call_machine.specs.Schedules.{ConflictsAreOver, ConflictsWereMet, Happened, EventAt, IsListed, Different, IsSerial, IsReplyOf, RunsFrom, IsLegal, IsListedBefore, IsStrict, OneBatch, Headline}
use Rattle.call_machine.specs.Calls.{CallStage, waiting, running, ready, answered, committed, conflict, Call, MachineState, answer_of}
use Rattle.call_machine.specs.Laws.{is_listed_at, is_listed, number_of_turn, HoldReplies, IsOrder}
use Rattle.call_machine.specs.Kept.{AscendingTurns, number_of}
use Rattle.call_machine.proofs.Turns.{turns_are, numbers_are}
use Rattle.call_machine.proofs.Rows.{call_found, same_call, from_within_map}
use Rattle.call_machine.proofs.Line.{entered, StageFits, Fits, is_begun}
use Rattle.call_machine.proofs.Sound.{Sound}
use Rattle.call_machine.proofs.Logs.{KeepsConflict, KeepsReply, KeepsCommit, ReplyLogged, StageLogged, Tied}
use Rattle.entry_book.proofs.Histories.{others_leave, one_more}
use Rattle.entry_book.proofs.Sets.{All-within, All-from_within, within_filter, from_within_filter}

-- ---- lists in order

turns_filter : (xs : List Call) → AscendingTurns xs → AscendingTurns (filter is_listed xs)
turns_filter [] a = tt
turns_filter (x ∷ xs) a =
    let rest = turns_filter xs a.1 in
    elim (is_listed x) as (λ b. AscendingTurns (cond b (x ∷ filter is_listed xs) (filter is_listed xs))) [
      | true ↦ (All-from_within (λ y. x.turn < y.turn) (filter is_listed xs) (λ y w. All-within (λ y. x.turn < y.turn) xs y a.0 (from_within_filter is_listed xs y w).0), rest)
      | false ↦ rest
    ]

pub within_numbers : (xs : List Call) (x : Call) → Within xs x → Within (map number_of xs) x.number
within_numbers [] x w = absurd w
within_numbers (y ∷ ys) x w = ⊎_elim (λ e. inl (ap number_of e)) (λ v. inr (within_numbers ys x v)) w

listed_before : (xs : List Call) (x y : Call) → AscendingTurns xs → Within xs x → Within xs y → x.turn < y.turn → IsListedBefore (map number_of xs) x.number y.number
listed_before [] x y a w v l = absurd w
listed_before (z ∷ zs) x y a w v l = ⊎_elim
    (λ e. ⊎_elim
    (λ f. let q = ap (λ (c : Call). c.turn) (sym e ∙ f) in absurd (omega arith))
    (λ k. inl (ap number_of e, within_numbers zs y k))
    v)
    (λ h. ⊎_elim
    (λ f. let p = All-within (λ d. z.turn < d.turn) zs x a.0 h in let q = ap (λ (c : Call). c.turn) f in absurd (omega arith))
    (λ k. inr (listed_before zs x y a.1 h k l))
    v)
    w

different_rows : (xs : List Call) → AscendingTurns xs → ((x y : Call) → Within xs x → Within xs y → x.number ≡ y.number → x ≡ y) → Different (map number_of xs)
different_rows [] a f = tt
different_rows (x ∷ xs) a f = (
  All-from_within (λ n. x.number ≡ n → ⊥) (map number_of xs) (λ n w e.
      let r = from_within_map xs n w in
      let q : x ≡ r.0 = f x r.0 (inl refl) (inr r.1) (e ∙ sym r.2) in
      let p = All-within (λ d. x.turn < d.turn) xs r.0 a.0 r.1 in
      let t = ap (λ (c : Call). c.turn) q in
      omega arith),
  different_rows xs a.1 (λ y z w v e. f y z (inr w) (inr v) e),
)

-- ---- one call of the order

listed_begun : (g : CallStage) (o : Option ℕ) → is_listed_at g o ≡ true → is_begun g ≡ true
listed_begun waiting o e = cc
listed_begun (running base made) o e = refl
listed_begun (ready base) o e = refl
listed_begun (answered r) o e = refl
listed_begun (committed r) o e = refl
listed_begun (conflict n) o e = cc

extends : (g : CallStage) (o : Option ℕ) (batch : Batch) (journal : List Batch) → is_listed_at g o ≡ true → StageFits g batch journal → books_after batch (books_of journal) ≡ books_of (journal ++ entered g batch)
extends waiting o batch journal e f = absurd f
extends (running base made) o batch journal e f = cc
extends (ready base) o batch journal e f = cc
extends (answered r) o batch journal e f = (others_leave batch (books_of journal) f.1).0 ∙ sym (ap books_of (append-nil journal))
extends (committed r) o batch journal e f = sym (one_more first_books journal batch)
extends (conflict n) o batch journal e f = absurd f

passes_by : (g : CallStage) (o : Option ℕ) (batch : Batch) → is_listed_at g o ≡ false → entered g batch ≡ []
passes_by waiting o batch e = refl
passes_by (running base made) o batch e = refl
passes_by (ready base) o batch e = refl
passes_by (answered r) o batch e = refl
passes_by (committed r) o batch e = cc
passes_by (conflict n) o batch e = refl

given_is : (g : CallStage) (batch : Batch) (journal : List Batch) (out : Reply) → StageFits g batch journal → answer_of g ≡ Some (Replied out) → out ≡ reply_to batch (books_of journal)
given_is waiting batch journal out f e = absurd f
given_is (running base made) batch journal out f e = cc
given_is (ready base) batch journal out f e = cc
given_is (answered r) batch journal out f e = let q : r ≡ out = cc in sym (f.0 ∙ q)
given_is (committed r) batch journal out f e = let q : r ≡ out = cc in sym (f.0 ∙ q)
given_is (conflict n) batch journal out f e = absurd f

held_is : (g : CallStage) (o : Option ℕ) (batch : Batch) (journal : List Batch) → is_listed_at g o ≡ true → StageFits g batch journal → answer_of g ≡ Some (Replied (reply_to batch (books_of journal)))
held_is waiting o batch journal e f = absurd f
held_is (running base made) o batch journal e f = cc
held_is (ready base) o batch journal e f = cc
held_is (answered r) o batch journal e f = ap (λ z. Some (Replied z)) (sym f.0)
held_is (committed r) o batch journal e f = ap (λ z. Some (Replied z)) (sym f.0)
held_is (conflict n) o batch journal e f = absurd f

committed_is : (g : CallStage) (batch : Batch) (journal : List Batch) (r : Reply) → StageFits g batch journal → g ≡ committed r → (reply_to batch (books_of journal) ≡ r) × (commits batch (books_of journal) ≡ true)
committed_is g batch journal r f e = subst (λ z. StageFits z batch journal) e f

module _ (log : List Happened) (s : MachineState) (sound : Sound s) (tied : Tied log s) where
  -- what the log has is stored
  reply_kept : (n c : ℕ) (d : Done) → EventAt log n (ReplyEvent c) d → KeepsReply s.calls n c d
  reply_kept n c d a = subst (λ k. KeepsReply s.calls k c d) (sym a.1) (tied.kept a.0 _ a.2)

  commit_kept : (n c place : ℕ) → EventAt log n (Commit c) (Decided c Committed place) → KeepsCommit s.calls n c place
  commit_kept n c place a = subst (λ k. KeepsCommit s.calls k c place) (sym a.1) (tied.kept a.0 _ a.2)

  -- the plain book gives a call of the line its reply
  is_reply_of : (c : Call) (journal : List Batch) → Within s.calls c → StageFits c.stage c.batch journal → IsReplyOf log c.number (reply_to c.batch (books_of journal))
  is_reply_of c journal w f = record {
    given = λ out g.
        let k = reply_kept g.0 c.number (Answered c.number (Replied out)) g.1 in
        let x : k.0 ≡ c = same_call s.calls k.0 c sound.numbers k.1 w k.2 in
        let t : k.4 ≡ Replied out = (let e = k.6 in cc) in
        given_is c.stage c.batch journal out f (ap (λ (d : Call). answer_of d.stage) (sym x) ∙ (k.5 ∙ ap Some t));
    committed = λ place g.
        let k = commit_kept g.0 c.number place g.1 in
        let x : k.0 ≡ c = same_call s.calls k.0 c sound.numbers k.1 w k.2 in
        let e = committed_is c.stage c.batch journal k.4 f (ap (λ (d : Call). d.stage) (sym x) ∙ k.5) in
        (sym k.6 ∙ ap (λ (r : Reply). r.place) (sym e.0), e.1);
  }

  runs_from : (line : List Call) (journal : List Batch) → Fits journal line → ((c : Call) → Within line c → Within s.calls c) → RunsFrom log (books_of journal) (map number_of (filter is_listed line))
  runs_from [] journal f m = tt
  runs_from (c ∷ cs) journal f m =
      let w = m c (inl refl) in
      let t = (tied.logged c w).invoked in
      let rest = runs_from cs (journal ++ entered c.stage c.batch) f.1 (λ d v. m d (inr v)) in
      elim (is_listed c) as (λ b. is_listed c ≡ b → RunsFrom log (books_of journal) (map number_of (cond b (c ∷ filter is_listed cs) (filter is_listed cs)))) [
        | true ↦ λ e. (c.batch, (c.invoked, t.0, t.1), is_reply_of c journal w f.0, subst (λ b. RunsFrom log b (map number_of (filter is_listed cs))) (sym (extends c.stage c.replied c.batch journal e f.0)) rest)
        | false ↦ λ e. subst (λ j. RunsFrom log (books_of j) (map number_of (filter is_listed cs))) (ap (λ l. journal ++ l) (passes_by c.stage c.replied c.batch e) ∙ append-nil journal) rest
      ] refl

  -- the same for the replies that calls hold
  hold_from : (line : List Call) (journal : List Batch) → Fits journal line → ((c : Call) → Within line c → Within s.calls c) → HoldReplies s.calls (books_of journal) (map number_of (filter is_listed line))
  hold_from [] journal f m = tt
  hold_from (c ∷ cs) journal f m =
      let w = m c (inl refl) in
      let rest = hold_from cs (journal ++ entered c.stage c.batch) f.1 (λ d v. m d (inr v)) in
      elim (is_listed c) as (λ b. is_listed c ≡ b → HoldReplies s.calls (books_of journal) (map number_of (cond b (c ∷ filter is_listed cs) (filter is_listed cs)))) [
        | true ↦ λ e. (c, call_found s.calls c sound.numbers w, held_is c.stage c.replied c.batch journal e f.0, subst (λ b. HoldReplies s.calls b (map number_of (filter is_listed cs))) (sym (extends c.stage c.replied c.batch journal e f.0)) rest)
        | false ↦ λ e. subst (λ j. HoldReplies s.calls (books_of j) (map number_of (filter is_listed cs))) (ap (λ l. journal ++ l) (passes_by c.stage c.replied c.batch e) ∙ append-nil journal) rest
      ] refl

  -- ---- which calls are listed

  listed_logged : (g : CallStage) (o : Option ℕ) (c : Call) → is_listed_at g o ≡ true → answer_of c.stage ≡ answer_of g → StageLogged log g c → ReplyLogged log o c → IsListed log c.number
  listed_logged waiting o c e q t r = cc
  listed_logged (running base made) o c e q t r = cc
  listed_logged (ready base) o c e q t r = cc
  listed_logged (answered y) None c e q t r = cc
  listed_logged (answered y) (Some n) c e q t r = let u : r.0 ≡ Replied y = (let k = r.1 in cc) in inr (y, (n, subst (λ z. EventAt log n (ReplyEvent c.number) (Answered c.number z)) u r.2))
  listed_logged (committed y) o c e q t r = inl (y.place, (c.turn, t))
  listed_logged (conflict n) o c e q t r = cc

  logged_listed : (g : CallStage) (o : Option ℕ) (n : ℕ) (y : Reply) → answer_of g ≡ Some (Replied y) → o ≡ Some n → is_listed_at g o ≡ true
  logged_listed waiting o n y e q = cc
  logged_listed (running base made) o n y e q = cc
  logged_listed (ready base) o n y e q = cc
  logged_listed (answered r) o n y e q = ap is_some q
  logged_listed (committed r) o n y e q = refl
  logged_listed (conflict m) o n y e q = cc

  listed_row : (c : ℕ) → IsListed log c → (x : Call) × Within s.calls x × (x.number ≡ c) × (is_listed x ≡ true)
  listed_row c l = ⊎_elim
      (λ p.
      let k = commit_kept p.1.0 c p.0 p.1.1 in
      (k.0, k.1, k.2, ap (λ g. is_listed_at g k.0.replied) k.5))
      (λ p.
      let k = reply_kept p.1.0 c (Answered c (Replied p.0)) p.1.1 in
      let t : k.4 ≡ Replied p.0 = (let e = k.6 in cc) in
      (k.0, k.1, k.2, logged_listed k.0.stage k.0.replied p.1.0 p.0 (k.5 ∙ ap Some t) k.3))
      l

  -- ---- conflicts

  over : ConflictsAreOver log
  over n c place a l =
      let k : KeepsConflict s.calls c place = tied.kept a.0 _ a.2 in
      let x = listed_row c l in
      let same : k.0 ≡ x.0 = same_call s.calls k.0 x.0 sound.numbers k.1 x.1 (k.2 ∙ sym x.2) in
      let g : x.0.stage ≡ conflict place = ap (λ (d : Call). d.stage) (sym same) ∙ k.3 in
      both_ways (is_listed x.0) (ap (λ g. is_listed_at g x.0.replied) g) x.3

  conflict_logged : (g : CallStage) (c : Call) (place : ℕ) → answer_of g ≡ Some (Conflicted place) → StageLogged log g c → EventAt log c.turn (Commit c.number) (Decided c.number Conflict place)
  conflict_logged waiting c place e t = cc
  conflict_logged (running base made) c place e t = cc
  conflict_logged (ready base) c place e t = cc
  conflict_logged (answered r) c place e t = cc
  conflict_logged (committed r) c place e t = cc
  conflict_logged (conflict n) c place e t = let q : n ≡ place = cc in subst (λ p. EventAt log c.turn (Commit c.number) (Decided c.number Conflict p)) q t

  met : ConflictsWereMet log
  met n c place a =
      let k = reply_kept n c (Answered c (Conflicted place)) a in
      let t : k.4 ≡ Conflicted place = (let e = k.6 in cc) in
      let at = conflict_logged k.0.stage k.0 place (k.5 ∙ ap Some t) (tied.logged k.0 k.1).stage in
      (k.0.turn, subst (λ m. EventAt log k.0.turn (Commit m) (Decided m Conflict place)) k.2 at)

  module _ (order : List ℕ) (o : IsOrder s order) where
    by_turn : AscendingTurns (filter is_listed sound.line)
    by_turn = turns_filter sound.line sound.turns

    listed : (c : Call) → Within (filter is_listed sound.line) c ↔ (Within s.calls c × (is_listed c ≡ true))
    listed c = (
      λ w. let q = from_within_filter is_listed sound.line c w in (((sound.members c).0 q.0).0, q.1),
      λ q. within_filter is_listed sound.line c ((sound.members c).1 (q.0, listed_begun c.stage c.replied q.1)) q.1,
    )

    numbers : order ≡ map number_of (filter is_listed sound.line)
    numbers = o.numbers ∙ (ap (map number_of_turn) (turns_are s.calls (filter is_listed sound.line) o.turns sound.numbers by_turn listed o.listed o.by_turn) ∙ numbers_are (filter is_listed sound.line))

    pub serial : IsSerial log order
    serial = record {
      listed = λ c. (
        λ w.
            let r = from_within_map (filter is_listed sound.line) c (subst (λ l. Within l c) numbers w) in
            let q = (listed r.0).0 r.1 in
            let t = tied.logged r.0 q.0 in
            subst (IsListed log) r.2 (listed_logged r.0.stage r.0.replied r.0 q.1 refl t.stage t.replied),
        λ l.
            let r = listed_row c l in
            subst (λ l. Within l c) (sym numbers) (subst (Within (map number_of (filter is_listed sound.line))) r.2 (within_numbers (filter is_listed sound.line) r.0 ((listed r.0).1 (r.1, r.3)))),
      );
      once = subst Different (sym numbers) (different_rows (filter is_listed sound.line) by_turn (λ x y w v e. same_call s.calls x y sound.numbers ((listed x).0 w).0 ((listed y).0 v).0 e));
    }

    pub legal : IsLegal log order
    legal = subst (RunsFrom log first_books) (sym numbers) (runs_from sound.line [] sound.fits (λ c w. ((sound.members c).0 w).0))

    pub strict : IsStrict log order
    strict a b la lb e =
        let x = listed_row a la in
        let y = listed_row b lb in
        let k = reply_kept e.reply_number a e.reply_done e.reply in
        let same : k.0 ≡ x.0 = same_call s.calls k.0 x.0 sound.numbers k.1 x.1 (k.2 ∙ sym x.2) in
        let replied : x.0.replied ≡ Some e.reply_number = ap (λ (c : Call). c.replied) (sym same) ∙ k.3 in
        let i = tied.kept e.invoke.0 _ e.invoke.2 in
        let other : i.0 ≡ y.0 = same_call s.calls i.0 y.0 sound.numbers i.1 y.1 (i.2 ∙ sym y.2) in
        let invoked : y.0.invoked ≡ e.invoke_number = ap (λ (c : Call). c.invoked) (sym other) ∙ (i.4 ∙ sym e.invoke.1) in
        let ended = ((sound.stamped x.0 x.1).over e.reply_number replied).2 (listed_begun x.0.stage x.0.replied x.3) in
        let began = ((sound.stamped y.0 y.1).begun (listed_begun y.0.stage y.0.replied y.3)).0 in
        let earlier = e.earlier in
        let t : x.0.turn < y.0.turn = omega arith in
        let before = listed_before (filter is_listed sound.line) x.0 y.0 by_turn ((listed x.0).1 (x.1, x.3)) ((listed y.0).1 (y.1, y.3)) t in
        subst (λ l. IsListedBefore l a b) (sym numbers) (subst (λ n. IsListedBefore (map number_of (filter is_listed sound.line)) a n) y.2 (subst (λ n. IsListedBefore (map number_of (filter is_listed sound.line)) n y.0.number) x.2 before))

    pub one_batch : OneBatch log
    one_batch c a b x y =
        let k = tied.kept x.2.0 _ x.2.2 in
        let m = tied.kept y.2.0 _ y.2.2 in
        let same : k.0 ≡ m.0 = same_call s.calls k.0 m.0 sound.numbers k.1 m.1 (k.2 ∙ sym m.2) in
        sym k.3 ∙ (ap (λ (d : Call). d.batch) same ∙ m.3)

    pub held : HoldReplies s.calls first_books order
    held = subst (HoldReplies s.calls first_books) (sym numbers) (hold_from sound.line [] sound.fits (λ c w. ((sound.members c).0 w).0))

    pub headline : Headline log order
    headline = record { one_batch = one_batch; serial = serial; legal = legal; strict = strict; begins = tied.begins; validated = tied.validated; conflicts = tied.due; over = over; met = met }
