use Rattle.std.proofs.Common.{◌≡◌, ◌&&◌, ap, ◌∙◌, refl, filter}
use Rattle.entry_book.specs.Pages.{comes_after, passes, to_list}
use Rattle.entry_book.proofs.ToList.{to_list_is}
use Rattle.plain_book.specs.Blocks.{joined}
use Rattle.plain_book.proofs.book.Book.page.Goals as goal

pub returns : goal.returns
returns c =
    let rows : filter (λ e. passes c.args.query.now.filter e && comes_after c.args.query.now.from e) (joined c.blocks-2.result.now) ≡ to_list c.args.query.now c.args.self.now =
    to_list_is c.args.query.now (joined c.blocks-2.result.now) ∙ ap (λ rows. filter (comes_after c.args.query.now.from) (filter (passes c.args.query.now.filter) rows)) c.blocks-2.ensures ∙ ap (to_list c.args.query.now) c.self.view_is in
    rw (c.of.ensures, c.in_ok-found.ensures.next, c.in_ok-found.ensures.listed, rows) refl
