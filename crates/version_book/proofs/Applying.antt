-- The writes of a run meet the conditions for applying them to a version.
use Rattle.std.proofs.Common.{◌+◌, ◌*◌, sym, ap, subst, ◌∙◌, refl, IfOk}
use Rattle.entry_book.proofs.Histories.{batch_keeps}
use Rattle.entry_book.proofs.TokenRows.{batch_fits_book}
use Rattle.entry_book.specs.Book.{Book}
use Rattle.entry_book.specs.Writes.{FitAll, after}
use Rattle.entry_book.specs.Runs.{run}
use Rattle.entry_book.specs.History.{batch_writes}
use Rattle.entry_book.specs.Lawful.{Lawful}
use Rattle.version_book.specs.CommittedRows.{book_of}
use Rattle.version_book.specs.Laws.{RunMayApply}
use Rattle.version_book.proofs.Rooms.{room_in_run}

pub run_may_apply : RunMayApply
run_may_apply batch s t m l w k e =
    let b : Book = book_of s.rows in
    let n = s.number + 1 in
    record {
      next = refl;
      fits = subst (λ r. IfOk r (λ t. FitAll (batch_writes batch n t) b)) e (batch_fits_book batch n b l.ascending k);
      lawful = subst (λ r. IfOk r (λ t. Lawful s.domain (64 * n) (after (batch_writes batch n t) b))) e (batch_keeps s.domain batch s.number b m l);
      room = room_in_run s.domain (64 * s.number) batch n b t m l w (ap (λ own_domain. run own_domain batch.ops b) (sym m.domain_is) ∙ e);
    }
