use Rattle.std.proofs.Common.{◌≡◌, true, false, arith, subst, sym, ap, ◌∙◌}
use Rattle.std.proofs.lemmas.Grind.{common_steps}
use Rattle.entry_book.specs.History.{books_of, first_books}
use Rattle.line_reading.specs.RecordViews.{recorded}
use Rattle.reg_lines.specs.Replies.{reply_json}
use Rattle.call_audit.specs.Audits.{batches_of_records, is_reply_right, is_past, is_text_of}
use Rattle.call_audit.specs.Represents.{RepresentsRecords}
use Rattle.call_audit.proofs.Judging.{cause_call, cause_none, cause_order, cause_reply, cause_stamps}
use Rattle.call_audit.proofs.Keeping.{added, keeps-next, knows}
use Rattle.call_audit.proofs.auditor.Auditor.audit_record.Goals as goal

pub returns-then-contains-clause-judged : goal.returns-then-contains-clause-judged
returns-then-contains-clause-judged c = λ records k.
    let own = c.self.inside in
    let claimed = recorded c.args.claimed.now in
    let old = subst (λ s. RepresentsRecords s records) (sym c.self.view_is) k in
    cause_call records claimed (sym (knows claimed.call own.calls.keys records old.calls) ∙ (sym c.contains.ensures ∙ c.if-contains.true))

pub returns-then-not-is_stamped-clause-judged : goal.returns-then-not-is_stamped-clause-judged
returns-then-not-is_stamped-clause-judged c = λ records k.
    let own = c.self.inside in
    let claimed = recorded c.args.claimed.now in
    let old = subst (λ s. RepresentsRecords s records) (sym c.self.view_is) k in
    let unstamped : c.is_stamped.result ≡ false = grind (arith, common_steps) in
    cause_stamps records claimed (sym (knows claimed.call own.calls.keys records old.calls) ∙ (sym c.contains.ensures ∙ c.if-contains.false)) (sym c.is_stamped.ensures ∙ unstamped)

pub returns-then-is_late-clause-judged : goal.returns-then-is_late-clause-judged
returns-then-is_late-clause-judged c = λ records k.
    let own = c.self.inside in
    let claimed = recorded c.args.claimed.now in
    let old = subst (λ s. RepresentsRecords s records) (sym c.self.view_is) k in
    let stamped : c.is_stamped.result ≡ true = grind (arith, common_steps) in
    let late : is_past claimed.replied own.latest ≡ true = ap (λ n. is_past claimed.replied n) (ap (λ s. s.latest) c.self.view_is) ∙ (sym c.is_late.ensures ∙ c.if-is_late.true) in
    cause_order records claimed
    (sym (knows claimed.call own.calls.keys records old.calls) ∙ (sym c.contains.ensures ∙ c.if-contains.false))
    (sym c.is_stamped.ensures ∙ stamped)
    (sym (old.latest claimed) ∙ late)

pub returns-then-not-branch-clause-judged : goal.returns-then-not-branch-clause-judged
returns-then-not-branch-clause-judged c = λ records k.
    let own = c.self.inside in
    let claimed = recorded c.args.claimed.now in
    let old = subst (λ s. RepresentsRecords s records) (sym c.self.view_is) k in
    let stamped : c.is_stamped.result ≡ true = grind (arith, common_steps) in
    let late : is_past claimed.replied own.latest ≡ false = ap (λ n. is_past claimed.replied n) (ap (λ s. s.latest) c.self.view_is) ∙ (sym c.is_late.ensures ∙ c.if-is_late.false) in
    let other : c.in_ok-is_reply.field-0 ≡ false = grind (arith, common_steps) in
    let given : c.in_ok-is_reply.field-0 ≡ is_reply_right claimed records = c.in_ok-is_reply.ensures ∙ ap (λ reply. is_text_of claimed.reply (reply_json claimed.call reply)) (c.in_ok-reply.ensures.reply first_books (books_of (batches_of_records records)) old.books) in
    cause_reply records claimed
    (sym (knows claimed.call own.calls.keys records old.calls) ∙ (sym c.contains.ensures ∙ c.if-contains.false))
    (sym c.is_stamped.ensures ∙ stamped)
    (sym (old.latest claimed) ∙ late)
    (sym given ∙ other)

pub returns-clause-judged : goal.returns-clause-judged
returns-clause-judged c = λ records k.
    let own = c.self.inside in
    let claimed = recorded c.args.claimed.now in
    let old = subst (λ s. RepresentsRecords s records) (sym c.self.view_is) k in
    let stamped : c.is_stamped.result ≡ true = grind (arith, common_steps) in
    let late : is_past claimed.replied own.latest ≡ false = ap (λ n. is_past claimed.replied n) (ap (λ s. s.latest) c.self.view_is) ∙ (sym c.is_late.ensures ∙ c.if-is_late.false) in
    let same : c.in_ok-is_reply.field-0 ≡ true = grind (arith, common_steps) in
    let given : c.in_ok-is_reply.field-0 ≡ is_reply_right claimed records = c.in_ok-is_reply.ensures ∙ ap (λ reply. is_text_of claimed.reply (reply_json claimed.call reply)) (c.in_ok-reply.ensures.reply first_books (books_of (batches_of_records records)) old.books) in
    let new = sym c.contains.ensures ∙ c.if-contains.false in (
      cause_none records claimed
          (sym (knows claimed.call own.calls.keys records old.calls) ∙ new)
          (sym c.is_stamped.ensures ∙ stamped)
          (sym (old.latest claimed) ∙ late)
          (sym given ∙ same),
      keeps-next _ _ records claimed old
          (c.in_ok-reply.ensures.books first_books (books_of (batches_of_records records)) old.books)
          (c.in_ok-insert.ensures.keys ∙ added claimed.call own.calls.keys new)
          c.max-self-inside.ensures,
    )
