use Rattle.std.proofs.Common.{◌≡◌, true, false, sym, ap, ◌∙◌}
use Rattle.std.specs.List.{list_all}
use Rattle.entry_book.specs.Rows.{Entry}
use Rattle.batch_work.specs.declared.walk.WalkParts.{WalkParts}
use Rattle.batch_work.specs.Reads.{is_one_of}
use Rattle.batch_work.specs.WalkStates.{WalkState, is_empty}
use Rattle.batch_work.proofs.FoundEntries.{empty_below, ends_when, filled_from, still_waits}
use Rattle.batch_work.proofs.walk.Walk.ends_with.Goals as goal

pub returns-in-empty : goal.returns-in-empty
returns-in-empty c =
    let none : is_empty c.args.self.now.pending ≡ true = sym (ap is_empty (c.as_slice.ensures.value ∙ (ap (λ (p : WalkParts). p.pending.items) c.deref-parts.ensures ∙ ap (λ (w : WalkState). w.pending) c.self.view_is))) ∙ empty_below c.as_slice.result.now c.in-empty.len_below in
    c.are_met.ensures
    ∙ (ap (λ met. list_all (λ (e : Entry). is_one_of e.identity met) c.args.entries.now) (c.as_slice-in-empty.ensures.value ∙ (ap (λ (p : WalkParts). p.met.items) c.deref-parts.ensures ∙ ap (λ (w : WalkState). w.met) c.self.view_is))
    ∙ sym (ends_when c.args.entries.now c.args.self.now none))

pub returns-in-len1-up : goal.returns-in-len1-up
returns-in-len1-up c =
    let some : is_empty c.args.self.now.pending ≡ false = sym (ap is_empty (c.as_slice.ensures.value ∙ (ap (λ (p : WalkParts). p.pending.items) c.deref-parts.ensures ∙ ap (λ (w : WalkState). w.pending) c.self.view_is))) ∙ filled_from c.as_slice.result.now c.in-len1-up.len_at_least in
    sym (still_waits c.args.entries.now c.args.self.now some)
