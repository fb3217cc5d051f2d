use Rattle.std.proofs.Common.{[], ◌∷◌, ◌++◌, map, sym, ap, ◌∙◌}
use Rattle.entry_book.specs.declared.reply.OpReply.TheVariants.{Dropped}
use Rattle.entry_book.specs.Rows.{entry_key}
use Rattle.entry_book.specs.Book.{users_of}
use Rattle.entry_book.specs.Writes.{after, after_write}
use Rattle.entry_book.specs.Ops.{bundle_removed, removed}
use Rattle.plain_book.proofs.Answered.{accepted}
use Rattle.entry_book.proofs.Changed.{after-append}
use Rattle.plain_book.proofs.ops.drop_bundle.delete_users.Goals as goal

pub returns : goal.returns
returns c =
    let book = c.args.book.now in
    let bundle = c.args.bundle.now in
    let users = users_of bundle.domain book in
    let found = c.in_ok-users.ensures ∙ ap (λ d. users_of d book) c.get-domain.ensures in
    accepted (Dropped c.of.result c.empty.result) (Dropped (map entry_key users) []) (map removed users ++ bundle_removed bundle ∷ []) book c.in_ok-after.after
    (ap (λ ids. Dropped ids c.empty.result) (c.of.ensures ∙ (c.in_ok-deleted.ensures ∙ ap (map entry_key) (c.as_slice-2.ensures.value ∙ found))) ∙ ap (Dropped (map entry_key users)) c.empty.ensures)
    (c.in_ok-after.ensures
    ∙ (ap (after_write (bundle_removed bundle)) (c.in_ok-rest.ensures ∙ ap (λ l. after (map removed l) book) (c.as_slice.ensures.value ∙ found))
    ∙ sym (after-append (map removed users) (bundle_removed bundle ∷ []) book)))
