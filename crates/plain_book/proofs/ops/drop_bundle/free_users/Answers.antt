use Rattle.std.proofs.Common.{[], ◌∷◌, ◌++◌, map, sym, ap, subst, ◌∙◌}
use Rattle.entry_book.specs.declared.reply.OpReply.TheVariants.{Dropped}
use Rattle.entry_book.specs.Rows.{entry_key}
use Rattle.entry_book.specs.Order.{Within}
use Rattle.entry_book.specs.Book.{names, users_of}
use Rattle.entry_book.specs.Writes.{after, after_write}
use Rattle.entry_book.specs.Ops.{bundle_removed, freed}
use Rattle.plain_book.proofs.Answered.{accepted}
use Rattle.entry_book.proofs.Changed.{after-append}
use Rattle.entry_book.proofs.Sets.{from_within_filter}
use Rattle.plain_book.proofs.ops.drop_bundle.free_users.Goals as goal

pub with_freed-requires : goal.with_freed-requires
with_freed-requires c =
    let book = c.args.book.now in
    let found = c.as_slice.ensures.value ∙ c.in_ok-users.ensures in
    record {
      room = λ entry w. c.requires.counts.revisions entry (from_within_filter (names c.get-domain.result.now) book.entries entry (subst (λ l. Within l entry) found w)).0;
    }

pub returns : goal.returns
returns c =
    let book = c.args.book.now in
    let bundle = c.args.bundle.now in
    let users = users_of bundle.domain book in
    let found = c.in_ok-users.ensures ∙ ap (λ d. users_of d book) c.get-domain.ensures in
    accepted (Dropped c.empty.result c.of.result) (Dropped [] (map entry_key users)) (map (freed bundle.domain) users ++ bundle_removed bundle ∷ []) book c.in_ok-after.after
    (ap (λ none. Dropped none c.of.result) c.empty.ensures ∙ ap (Dropped []) (c.of.ensures ∙ (c.in_ok-dissociated.ensures ∙ ap (map entry_key) (c.as_slice-2.ensures.value ∙ found))))
    (c.in_ok-after.ensures
    ∙ (ap (after_write (bundle_removed bundle)) (c.in_ok-freed.ensures ∙ (ap (λ d. after (map (freed d) c.as_slice.result.now) book) c.get-domain.ensures ∙ ap (λ l. after (map (freed bundle.domain) l) book) (c.as_slice.ensures.value ∙ found)))
    ∙ sym (after-append (map (freed bundle.domain) users) (bundle_removed bundle ∷ []) book)))
