use Rattle.std.proofs.Common.{◌≡◌, refl, ap, subst, sym, ◌∙◌}
use Rattle.entry_book.specs.declared.reply.ReplyOutcome.TheVariants.{Committed}
use Rattle.entry_book.specs.History.{RepresentsFrom, refuses, answers, adds, repeats, verdict_of, books_after}
use Rattle.plain_book.specs.Keeps.{IsSound}
use Rattle.plain_book.proofs.Kept.{adds_next, books_when, reply_when}
use Rattle.plain_book.proofs.plain_book.PlainBook.run.Goals as goal

pub add-requires-clause-lawful : goal.add-requires-clause-lawful
add-requires-clause-lawful c =
    let e : adds c.in-Adds.replies c.in-Adds.book ≡ verdict_of c.args.batch.now c.args.self.now = rw c.in-Adds.is at c.in_ok-refusal.ensures.verdict_is in
    (adds_next c.args.self.now c.args.batch.now c.in-Adds.replies c.in-Adds.book c.requires.made_for c.verdict.ensures.made (subst IsSound c.self.view_is c.self.invariant) e).0

pub add-requires-clause-room : goal.add-requires-clause-room
add-requires-clause-room c =
    let e : adds c.in-Adds.replies c.in-Adds.book ≡ verdict_of c.args.batch.now c.args.self.now = rw c.in-Adds.is at c.in_ok-refusal.ensures.verdict_is in
    (adds_next c.args.self.now c.args.batch.now c.in-Adds.replies c.in-Adds.book c.requires.made_for c.verdict.ensures.made (subst IsSound c.self.view_is c.self.invariant) e).1

pub returns-in-Refuses-clause-reply : goal.returns-in-Refuses-clause-reply
returns-in-Refuses-clause-reply c = λ first books s.
    let e : refuses c.in-Refuses.refusal ≡ verdict_of c.args.batch.now c.args.self.now = rw c.in-Refuses.is at c.in_ok-refusal.ensures.verdict_is in
    reply_when first c.args.self.now books c.args.batch.now (refuses c.in-Refuses.refusal) c.self.inside.place (ap (λ state. state.place) c.self.view_is) e s

pub returns-in-Refuses-clause-books : goal.returns-in-Refuses-clause-books
returns-in-Refuses-clause-books c = λ first books s.
    let e : refuses c.in-Refuses.refusal ≡ verdict_of c.args.batch.now c.args.self.now = rw c.in-Refuses.is at c.in_ok-refusal.ensures.verdict_is in
    books_when first c.args.self.now books c.args.batch.now (refuses c.in-Refuses.refusal) e c.requires.made_for c.verdict.ensures.made s

pub returns-in-Answers-clause-reply : goal.returns-in-Answers-clause-reply
returns-in-Answers-clause-reply c = λ first books s.
    let e : answers c.in-Answers.replies ≡ verdict_of c.args.batch.now c.args.self.now = rw c.in-Answers.is at c.in_ok-refusal.ensures.verdict_is in
    reply_when first c.args.self.now books c.args.batch.now (answers c.in-Answers.replies) c.self.inside.place (ap (λ state. state.place) c.self.view_is) e s

pub returns-in-Answers-clause-books : goal.returns-in-Answers-clause-books
returns-in-Answers-clause-books c = λ first books s.
    let e : answers c.in-Answers.replies ≡ verdict_of c.args.batch.now c.args.self.now = rw c.in-Answers.is at c.in_ok-refusal.ensures.verdict_is in
    books_when first c.args.self.now books c.args.batch.now (answers c.in-Answers.replies) e c.requires.made_for c.verdict.ensures.made s

pub returns-in_ok-add-in-Adds-clause-reply : goal.returns-in_ok-add-in-Adds-clause-reply
returns-in_ok-add-in-Adds-clause-reply c = λ first books s.
    let e : adds c.in-Adds.replies c.in-Adds.book ≡ verdict_of c.args.batch.now c.args.self.now = rw c.in-Adds.is at c.in_ok-refusal.ensures.verdict_is in
    let next = ap (λ state. state.place) (c.self-in-Adds.view_is ∙ c.in_ok-add-in-Adds.ensures.ok) in
    ap (λ n. record { place = n; outcome = Committed c.in-Adds.replies }) next
    ∙ reply_when first c.args.self.now books c.args.batch.now (adds c.in-Adds.replies c.in-Adds.book) c.args.self.now.place refl e s

pub returns-in_ok-add-in-Adds-clause-books : goal.returns-in_ok-add-in-Adds-clause-books
returns-in_ok-add-in-Adds-clause-books c = λ first books s.
    let e : adds c.in-Adds.replies c.in-Adds.book ≡ verdict_of c.args.batch.now c.args.self.now = rw c.in-Adds.is at c.in_ok-refusal.ensures.verdict_is in
    subst (λ state. RepresentsFrom first state (books_after c.args.batch.now books)) (sym c.in_ok-add-in-Adds.ensures.ok)
    (books_when first c.args.self.now books c.args.batch.now (adds c.in-Adds.replies c.in-Adds.book) e c.requires.made_for c.verdict.ensures.made s)

pub returns-in-Repeats-clause-reply : goal.returns-in-Repeats-clause-reply
returns-in-Repeats-clause-reply c = λ first books s.
    let e : repeats c.in-Repeats.place c.in-Repeats.replies ≡ verdict_of c.args.batch.now c.args.self.now = rw c.in-Repeats.is at c.in_ok-refusal.ensures.verdict_is in
    reply_when first c.args.self.now books c.args.batch.now (repeats c.in-Repeats.place c.in-Repeats.replies) c.args.self.now.place refl e s

pub returns-in-Repeats-clause-books : goal.returns-in-Repeats-clause-books
returns-in-Repeats-clause-books c = λ first books s.
    let e : repeats c.in-Repeats.place c.in-Repeats.replies ≡ verdict_of c.args.batch.now c.args.self.now = rw c.in-Repeats.is at c.in_ok-refusal.ensures.verdict_is in
    books_when first c.args.self.now books c.args.batch.now (repeats c.in-Repeats.place c.in-Repeats.replies) e c.requires.made_for c.verdict.ensures.made s
