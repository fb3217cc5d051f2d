use Rattle.reg_lines.proofs.printing.batches.OpPrintJson.print_to.Goals as goal

pub returns-in-ShowBundle : goal.returns-in-ShowBundle
returns-in-ShowBundle g c = rw c.in-ShowBundle.is c.print_keyed_op-in-ShowBundle.ensures
