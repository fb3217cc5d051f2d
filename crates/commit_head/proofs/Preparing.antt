-- The outcome of a ready work on the newest version.
use Rattle.std.proofs.Common.{◌≡◌, ℕ, ◌+◌, ◌*◌, ◌≤◌, true, List, Option, Some, None, Ok, Err, IfOk, sym, ap, subst, ◌∙◌, arith}
use Rattle.std.specs.Prelude.{option_map}
use Rattle.std.specs.List.{AllByRecursion, list_any}
use Rattle.entry_book.specs.declared.limit.Limit.{Limit}
use Rattle.entry_book.specs.declared.reply.Refusal.TheVariants.{Full as TooMuch}
use Rattle.entry_book.specs.Book.{AscendingBook}
use Rattle.entry_book.specs.Writes.{RowWrite, after}
use Rattle.entry_book.specs.Runs.{RunEffect, RunResult, run}
use Rattle.entry_book.specs.Batches.{Batch, IsMadeFor}
use Rattle.entry_book.specs.Limits.{limit_passed, IsWithinLimits}
use Rattle.entry_book.specs.Lawful.{Lawful}
use Rattle.entry_book.specs.History.{batch_writes, verdict, adds, refuses}
use Rattle.version_book.specs.declared.mark.MarkKind.{MarkKind}
use Rattle.version_book.specs.Applying.{MayApply}
use Rattle.version_book.specs.Marks.{Agree}
use Rattle.version_book.specs.CommittedRows.{VersionState, book_of, next_state}
use Rattle.version_book.specs.History.{any_hits, version_with, writes_in, writes_of}
use Rattle.version_book.specs.Written.{placed}
use Rattle.version_book.proofs.NamedRows.{book_after}
use Rattle.version_book.proofs.Places.{places_put}
use Rattle.batch_work.specs.declared.status.Status.TheVariants.{Ready}
use Rattle.batch_work.specs.Reads.{case_on, footprint_in}
use Rattle.batch_work.specs.Windows.{book_in}
use Rattle.batch_work.specs.Working.{Base, Work, HasReplies, HasWrites, IsAccepted, IsAcceptedOn, footprint_there, marks_so_far, status_of}
use Rattle.batch_work.specs.Laws.{ResultsIn, HasRead}
use Rattle.batch_work.proofs.Batches.{commit_check}
use Rattle.batch_work.proofs.Ready.{ready_has_read}
use Rattle.commit_head.specs.declared.item.Item.{Item}
use Rattle.commit_head.specs.Heads.{IsPreparedFor, BeganBefore, IsDueOnVersions, ReadsAreUnchanged}
use Rattle.commit_head.specs.Journals.{Leads, Agrees, batches_of}
use Rattle.commit_head.proofs.Journals.{leads_count}

one_effect : (r : RunResult) (t u : RunEffect) → r ≡ Ok t → r ≡ Ok u → t ≡ u
one_effect (Ok x) t u e f = let p : x ≡ t = cc in let q : x ≡ u = cc in sym p ∙ q
one_effect (Err s) t u e f = cc

one_base : (b c : Base) → Some b ≡ Some c → b ≡ c
one_base b c e = cc

newest_base : (o : Option Base) (b : Base) (base : VersionState) → o ≡ Some b → option_map (λ b. b.newest) o ≡ Some base → base ≡ b.newest
newest_base o b base e f = some_same base b.newest (sym f ∙ ap (option_map (λ b. b.newest)) e)
  where
    some_same : (x y : VersionState) → Some x ≡ Some y → x ≡ y
    some_same x y e = cc

of_ok : (P : RunEffect → Type 0) (r : RunResult) (t : RunEffect) → r ≡ Ok t → IfOk r P → P t
of_ok P r t e h = subst (λ r. IfOk r P) e h

module _ (newest : VersionState) (kept : List Item) (w : Work) (made : IsMadeFor newest.domain w.batch) (ready : status_of w ≡ Ready) where
  read : HasRead w
  read = ready_has_read newest.domain w made ready

  abbrev base : VersionState
  base = read.base.newest

  abbrev next : ℕ
  next = newest.number + 1

  module _ (lawful : Lawful newest.domain (64 * newest.number) (book_of newest.rows)) (within : IsWithinLimits (book_of newest.rows)) (began : BeganBefore w.base newest kept) (changes : List RowWrite) (writes : HasWrites w changes) where
    began_there : BeganBefore (Some read.base) newest kept
    began_there = subst (λ b. BeganBefore b newest kept) read.base_is began

    accepted : IsAccepted w.batch (book_in base) writes.0 changes
    accepted = subst (λ b. IsAcceptedOn b w.batch writes.0 changes) read.base_is writes.1

    abbrev effect : RunEffect
    effect = accepted.effect

    module _ (start : VersionState) (start_is : option_map (λ b. b.newest) w.base ≡ Some start) (ascending : AscendingBook (book_of start.rows)) (marks : List MarkKind) (marks_are : marks ≡ marks_so_far w) (represents : (items : List Item) → Leads start items newest → Agrees items kept → AllByRecursion (Agree (book_of start.rows) (book_of newest.rows)) marks) where
      same : start ≡ base
      same = newest_base w.base read.base start read.base_is start_is

      all_marks : marks ≡ footprint_in w.batch (case_on w.batch (book_in base))
      all_marks = marks_are ∙ (read.all_read ∙ read.newest_read)

      agree : AllByRecursion (Agree (book_of base.rows) (book_of newest.rows)) (footprint_in w.batch (case_on w.batch (book_of base.rows)))
      agree =
          let items = began_there.0 in
          let leads : Leads start items newest = subst (λ s. Leads s items newest) (sym same) began_there.1 in
          let h = represents items leads began_there.2 in
          subst (λ ms. AllByRecursion (Agree (book_of base.rows) (book_of newest.rows)) ms) all_marks (subst (λ s. AllByRecursion (Agree (book_of s.rows) (book_of newest.rows)) marks) same h)

      comes : ResultsIn w.batch newest effect
      comes =
          let count = leads_count began_there.0 base newest began_there.1 in
          let time = read.in_time in
          let in_time : w.batch.after ≤ newest.number = omega arith in
          commit_check w.batch base newest effect made in_time lawful within (subst (λ s. AscendingBook (book_of s.rows)) same ascending) agree read.awaits accepted.ran

      writes_are : placed next changes ≡ batch_writes w.batch next effect
      writes_are = ap (placed next) accepted.writes_are ∙ of_ok (λ t. placed next (batch_writes w.batch 0 t) ≡ batch_writes w.batch next t) (run w.batch.domain w.batch.ops (book_of newest.rows)) effect comes.ran (places_put w.batch (book_of newest.rows) 0 next)

      pub may : MayApply (placed next changes) next newest
      may = subst (λ ws. MayApply ws next newest) (sym writes_are) comes.may

      module _ (version : VersionState) (made_so : version ≡ next_state (placed next changes) newest) where
        version_is : version ≡ next_state (batch_writes w.batch next effect) newest
        version_is = made_so ∙ ap (λ ws. next_state ws newest) writes_are

        book_is : book_of version.rows ≡ after (batch_writes w.batch next effect) (book_of newest.rows)
        book_is = ap (λ s. book_of s.rows) version_is ∙ book_after next (batch_writes w.batch next effect) newest.rows

        limit_is : (o : Option Limit) → o ≡ limit_passed newest.number (book_of version.rows) → limit_passed newest.number (after (batch_writes w.batch next effect) (book_of newest.rows)) ≡ o
        limit_is o e = ap (limit_passed newest.number) (sym book_is) ∙ sym e

        pub full : (limit : Limit) → Some limit ≡ limit_passed newest.number (book_of version.rows) → verdict w.batch newest.number (Some (book_of newest.rows)) ≡ refuses (TooMuch limit)
        full limit e = comes.is_full limit (limit_is (Some limit) e)

        pub fits : None ≡ limit_passed newest.number (book_of version.rows) → (item : Item) → item.batch ≡ w.batch → HasReplies w item.replies → item.changes ≡ changes → IsPreparedFor newest (record { item = item; version = version })
        fits e item b r c =
            let commit = comes.commits (limit_is None e) in
            let other : IsAccepted w.batch (book_in base) item.replies r.0 = subst (λ b. IsAcceptedOn b w.batch item.replies r.0) read.base_is r.1 in
            let replies : item.replies ≡ effect.replies = other.replies_are ∙ ap (λ t. t.replies) (one_effect (run w.batch.domain w.batch.ops (book_in base)) other.effect effect other.ran accepted.ran) in
            record {
              joins = record {
                made = subst (IsMadeFor newest.domain) (sym b) made;
                added = ap (λ x. verdict x newest.number (Some (book_of newest.rows))) b ∙ (commit.2 ∙ (λ i. adds (sym replies i) (book_of (version_with (sym b i) newest).rows)));
                writes = c ∙ (accepted.writes_are ∙ (sym (ap (writes_in w.batch 0) comes.ran) ∙ ap (λ x. writes_of x 0 (book_of newest.rows)) (sym b)));
              };
              version = version_is ∙ (sym commit.1 ∙ ap (λ x. version_with x newest) (sym b));
            }

-- a conflict is justified
pub due : (newest : VersionState) (kept : List Item) (w : Work) → IsMadeFor newest.domain w.batch → status_of w ≡ Ready → (start : VersionState) → option_map (λ b. b.newest) w.base ≡ Some start → (marks : List MarkKind) → marks ≡ marks_so_far w → ((items : List Item) → Leads start items newest → Agrees items kept → list_any (λ m. any_hits m start (batches_of items)) marks ≡ true) → IsDueOnVersions w.base w.batch newest kept
due newest kept w made ready start start_is marks marks_are hit =
    let read = ready_has_read newest.domain w made ready in
    let same : start ≡ read.base.newest = newest_base w.base read.base start read.base_is start_is in
    let all : marks ≡ footprint_there w.batch read.base = marks_are ∙ read.all_read in
    subst (λ b. IsDueOnVersions b w.batch newest kept) (sym read.base_is)
    (λ items l a. subst (λ ms. list_any (λ m. any_hits m read.base.newest (batches_of items)) ms ≡ true) all
    (subst (λ s. list_any (λ m. any_hits m s (batches_of items)) marks ≡ true) same (hit items (subst (λ s. Leads s items newest) (sym same) l) a)))

-- what a commit's work has read is unchanged
pub validated : (newest : VersionState) (kept : List Item) (w : Work) → IsMadeFor newest.domain w.batch → status_of w ≡ Ready → BeganBefore w.base newest kept → (start : VersionState) → option_map (λ b. b.newest) w.base ≡ Some start → (marks : List MarkKind) → marks ≡ marks_so_far w → ((items : List Item) → Leads start items newest → Agrees items kept → AllByRecursion (Agree (book_of start.rows) (book_of newest.rows)) marks) → ReadsAreUnchanged w.base w.batch (book_of newest.rows)
validated newest kept w made ready began start start_is marks marks_are agree =
    let read = ready_has_read newest.domain w made ready in
    let same : start ≡ read.base.newest = newest_base w.base read.base start read.base_is start_is in
    let all : marks ≡ footprint_there w.batch read.base = marks_are ∙ read.all_read in
    let there : BeganBefore (Some read.base) newest kept = subst (λ b. BeganBefore b newest kept) read.base_is began in
    let unchanged = agree there.0 (subst (λ s. Leads s there.0 newest) (sym same) there.1) there.2 in
    subst (λ b. ReadsAreUnchanged b w.batch (book_of newest.rows)) (sym read.base_is)
    (subst (AllByRecursion (Agree (book_of read.base.newest.rows) (book_of newest.rows))) all
    (subst (λ s. AllByRecursion (Agree (book_of s.rows) (book_of newest.rows)) marks) same unchanged))

-- the batch was made for the newest version's trust domain
pub made_there : (newest : VersionState) (batch : Batch) → batch.domain ≡ newest.domain → IsMadeFor batch.domain batch → IsMadeFor newest.domain batch
made_there newest batch e m = subst (λ d. IsMadeFor d batch) e m
