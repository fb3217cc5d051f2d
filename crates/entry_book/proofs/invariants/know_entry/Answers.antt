use Rattle.std.proofs.Common.{length, sym, ap, ◌∙◌, subst}
use Rattle.std.specs.List.{AllByRecursion}
use Rattle.spiffe_name.specs.Domain.{IsDomain}
use Rattle.entry_book.specs.Rows.{IsId}
use Rattle.spiffe_name.specs.SelectorSet.{IsSelectorSet}
use Rattle.entry_book.proofs.invariants.know_entry.Goals as goal

pub returns : goal.returns
returns c = record {
  id = ap length (sym c.as_bytes.ensures) ∙ c.byte_count.ensures;
  parent = subst IsId c.get.ensures c.as_str.ensures.id;
  identity = subst IsId c.get-2.ensures c.as_str-2.ensures.id;
  selectors = subst IsSelectorSet c.get-3.ensures c.as_slice.ensures.set;
  domains = c.as_slice-2.ensures.set;
  are_domains = subst (AllByRecursion IsDomain) c.as_slice-2.ensures.items c.know_domains.ensures;
}
