use Rattle.std.proofs.Common.{rules, ◌≡◌, ℕ, List, length, drop, sym, ◌∙◌, ap}
use Rattle.std.proofs.lemmas.List.{take_at}
use Rattle.std.specs.Prelude.{slice_index}
use Rattle.line_log.specs.Damage.{IsOutside}
use Rattle.line_log.specs.declared.error.LogError.TheVariants.{NoMemory, Disk}
use Rattle.line_log.proofs.ReadLemmas.{of_error}
use Rattle.line_log.proofs.reading.read_block.Goals as goal

pub returns-clause-bytes : goal.returns-clause-bytes
returns-clause-bytes g c clean i low =
    let held = c.in_ok-read_at.ensures.read clean (search rules) in
    let new = c.read_at.new.buf in
    let block = c.in_ok-block.block in
    let long : length new ≡ block.len = search rules in
    held.each i (search rules) ∙ ap (λ (l : List ℕ). slice_index l i) (sym (take_at new (drop (length new) block.items) block.len long))

pub returns-in_err-block-clause-outside : goal.returns-in_err-block-clause-outside
returns-in_err-block-clause-outside g c = of_error c.from_residual.result IsOutside NoMemory c.from_residual.ensures.1 tt

pub returns-in_err-read_at-clause-outside : goal.returns-in_err-read_at-clause-outside
returns-in_err-read_at-clause-outside g c = of_error c.from_residual-in_err-read_at.result IsOutside (Disk (c.in_err-read_at.field-0.0)) c.from_residual-in_err-read_at.ensures.1 tt
