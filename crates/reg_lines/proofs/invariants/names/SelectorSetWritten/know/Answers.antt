use Rattle.std.proofs.Common.{subst}
use Rattle.std.specs.List.{AllByRecursion}
use Rattle.spiffe_name.specs.SelectorOrder.{selector_cmp_total}
use Rattle.spiffe_name.specs.SelectorSet.{set_of}
use Rattle.spiffe_name.proofs.SelectorSets.{from_set_of, in_set_of, set_of-sorted}
use Rattle.spiffe_name.proofs.Sets.{same_list}
use Rattle.reg_lines.specs.ReadBack.{IsSelector}
use Rattle.reg_lines.proofs.invariants.names.SelectorSetWritten.know.Goals as goal

pub returns-clause-written : goal.returns-clause-written
returns-clause-written c =
    let set = c.args.self.now in (
      subst (AllByRecursion IsSelector) c.as_slice.ensures.items c.know_all.ensures.written,
      same_list selector_cmp_total (set_of set) set (set_of-sorted set) c.as_slice.ensures.set (from_set_of set) (in_set_of set),
    )
