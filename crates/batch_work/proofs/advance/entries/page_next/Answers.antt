use Rattle.std.proofs.Common.{◌≡◌, ◌&&◌, ap, ◌∙◌, refl, filter}
use Rattle.entry_book.specs.Pages.{comes_after, passes, to_list}
use Rattle.entry_book.proofs.ToList.{to_list_is}
use Rattle.batch_work.proofs.advance.entries.page_next.Goals as goal

pub returns : goal.returns
returns c =
    let rows : filter (λ e. passes c.args.query.now.filter e && comes_after c.args.query.now.from e) c.entries.result.now ≡ to_list c.args.query.now c.args.reading.now =
    to_list_is c.args.query.now c.entries.result.now ∙ ap (λ rows. filter (comes_after c.args.query.now.from) (filter (passes c.args.query.now.filter) rows)) c.entries.ensures in
    rw (c.of.ensures, c.new.ensures, c.in_ok-listed.ensures.next, c.in_ok-listed.ensures.listed, rows) refl
