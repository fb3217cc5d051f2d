-- The batches of a sound machine's journal commit one after another.
use Rattle.std.proofs.Common.{List, [], ◌∷◌, ◌++◌, sym, subst, append_assoc}
use Rattle.std.proofs.lemmas.List.{append-nil}
use Rattle.entry_book.specs.Batches.{Batch}
use Rattle.entry_book.specs.History.{CommitAll, first_books}
use Rattle.call_machine.specs.Calls.{CallStage, waiting, running, ready, answered, committed, conflict, Call, MachineState}
use Rattle.call_machine.proofs.Line.{entered, journal_in, StageFits, Fits}
use Rattle.call_machine.proofs.Sound.{Sound}
use Rattle.entry_book.proofs.Histories.{one_more_commits}

nothing_more : (journal : List Batch) → CommitAll first_books journal → CommitAll first_books (journal ++ [])
nothing_more journal h = subst (CommitAll first_books) (sym (append-nil journal)) h

entered_commits : (stage : CallStage) (batch : Batch) (journal : List Batch) → StageFits stage batch journal → CommitAll first_books journal → CommitAll first_books (journal ++ entered stage batch)
entered_commits waiting batch journal f h = absurd f
entered_commits (running base made) batch journal f h = nothing_more journal h
entered_commits (ready base) batch journal f h = nothing_more journal h
entered_commits (answered r) batch journal f h = nothing_more journal h
entered_commits (committed r) batch journal f h = (one_more_commits first_books journal batch).1 (h, f.1)
entered_commits (conflict n) batch journal f h = absurd f

line_commits : (line : List Call) (journal : List Batch) → Fits journal line → CommitAll first_books journal → CommitAll first_books (journal ++ journal_in line)
line_commits [] journal f h = nothing_more journal h
line_commits (c ∷ cs) journal f h = subst (CommitAll first_books) (append_assoc journal (entered c.stage c.batch) (journal_in cs)) (line_commits cs (journal ++ entered c.stage c.batch) f.1 (entered_commits c.stage c.batch journal f.0 h))

pub sound_journal : (s : MachineState) → Sound s → CommitAll first_books s.journal
sound_journal s h = subst (CommitAll first_books) (sym h.journal) (line_commits h.line [] h.fits tt)
