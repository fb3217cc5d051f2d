use Rattle.std.proofs.Common.{◌≡◌, map, sym, ap, subst, ◌∙◌, IfOk}
use Rattle.entry_book.specs.Writes.{after}
use Rattle.version_book.specs.Marks.{seen}
use Rattle.version_book.specs.CommittedRows.{book_of}
use Rattle.entry_book.specs.Book.{AscendingBook}
use Rattle.version_book.proofs.Agreement.{ascending_reads, reads_after}
use Rattle.version_book.proofs.version.Version.read_after.Goals as goal

pub after_changes-requires : goal.after_changes-requires
after_changes-requires c =
    let rows = ap (λ v. v.rows) c.self.view_is in
    let book = subst (λ rows. AscendingBook (book_of rows)) rows c.self.invariant.0.ascending in
    record { order = subst AscendingBook (sym c.in_ok-reading.ensures) (ascending_reads c.args.mark.now (book_of c.args.self.now.rows) book) }

pub returns : goal.returns
returns c =
    let b = book_of c.args.self.now.rows in
    subst (λ r. IfOk c.after_changes.result (λ reading. reading ≡ r))
    (ap (after (map (seen c.args.mark.now) c.args.changes.now)) c.in_ok-reading.ensures ∙ sym (reads_after c.args.mark.now c.args.changes.now b))
    c.after_changes.ensures
