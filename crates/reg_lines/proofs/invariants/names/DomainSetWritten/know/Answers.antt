use Rattle.std.proofs.Common.{subst, sym}
use Rattle.std.specs.List.{AllByRecursion}
use Rattle.entry_book.proofs.DomainSets.{is_domain_set}
use Rattle.reg_lines.specs.ReadBack.{IsDomainText}
use Rattle.reg_lines.proofs.invariants.names.DomainSetWritten.know.Goals as goal

pub returns-clause-written : goal.returns-clause-written
returns-clause-written c =
    let set = c.args.self.now in (
      subst (AllByRecursion IsDomainText) c.as_slice.ensures.items c.know_all.ensures.written,
      sym (is_domain_set set set c.as_slice.ensures.set (λ domain. (λ h. h, λ h. h))),
    )
