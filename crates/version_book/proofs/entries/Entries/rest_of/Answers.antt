use Rattle.std.proofs.Common.{None, sym, ap, ◌∙◌}
use Rattle.std.specs.Prelude.{option_to_list}
use Rattle.std.specs.Option.{option_copied}
use Rattle.std.proofs.lemmas.Result.{IfOk-weaker}
use Rattle.entry_book.specs.Order.{with_row}
use Rattle.entry_book.specs.Rows.{entry_key}
use Rattle.version_book.specs.CommittedRows.{of_row}
use Rattle.version_book.proofs.Kept.{none_found, one_found}
use Rattle.version_book.proofs.entries.Entries.rest_of.Goals as goal

pub without-requires : goal.without-requires
without-requires c =
    let there = one_found c.args.id.now c.args.self c.in-Some.old.now (c.requires.found ∙ ap (λ o. option_to_list (option_copied o)) c.in-Some.is) in
    record { there = there.0 }

pub returns-in-Some : goal.returns-in-Some
returns-in-Some c =
    let there = one_found c.args.id.now c.args.self c.in-Some.old.now (c.requires.found ∙ ap (λ o. option_to_list (option_copied o)) c.in-Some.is) in
    IfOk-weaker c.without.result _ _ (λ rest e. e ∙ ap (λ id. with_row (of_row entry_key) id None c.args.self) there.1) c.without.ensures

pub returns-in-None : goal.returns-in-None
returns-in-None c = sym (none_found c.args.id.now c.args.self c.in_order.ensures (c.requires.found ∙ ap (λ o. option_to_list (option_copied o)) c.in-None.is))
