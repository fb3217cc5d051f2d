use Rattle.std.proofs.Common.{◌+◌, ◌*◌, ◌++◌, ◌∷◌, [], ap, subst, sym, ◌∙◌, ◌<◌}
use Rattle.std.specs.Prelude.{◌^◌}
use Rattle.entry_book.specs.History.{PlainState, last_of}
use Rattle.entry_book.specs.Lawful.{Lawful}
use Rattle.plain_book.specs.Keeps.{IsSound}
use Rattle.plain_book.proofs.KeptBooks.{sound_more}
use Rattle.plain_book.proofs.plain_book.PlainBook.add.Goals as goal

pub invariant_of-self-2 : goal.invariant_of-self-2
invariant_of-self-2 c =
    let state : PlainState = record { domain = c.self.inside.domain; older = c.self.inside.older.items; newest = c.self.inside.newest; place = c.self.inside.place } in
    let lawful = subst (λ s. Lawful s.domain (64 * (s.place + 1)) c.args.book) (sym c.self.view_is) c.requires.lawful in
    let room = subst (λ s. s.place < 2 ^ 48) (sym c.self.view_is) c.requires.room in
    let older = c.in_ok-push_older.ensures.ok ∙ ap (λ b. last_of 63 (c.self.inside.older.items ++ b ∷ [])) c.in_ok-found.ensures.cases in
    let newest = c.replace.ensures.after in
    subst (λ b. IsSound (record { domain = c.self.inside.domain; older = c.push_older.new.older.items; newest = b; place = c.self.inside.place + 1 })) (sym newest)
    (subst (λ l. IsSound (record { domain = c.self.inside.domain; older = l; newest = c.args.book; place = c.self.inside.place + 1 })) (sym older) (sound_more state c.args.book c.self.invariant lawful room))
