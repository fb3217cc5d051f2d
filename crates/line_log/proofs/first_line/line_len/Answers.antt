use Rattle.line_log.proofs.FirstLemmas.{begun_none, broken_bytes}
use Rattle.line_log.proofs.first_line.line_len.Goals as goal

pub returns-in-Part-clause-none : goal.returns-in-Part-clause-none
returns-in-Part-clause-none c = begun_none c.args.bytes.now c.in-Part.ensures

pub returns-in-Broken-clause-none : goal.returns-in-Broken-clause-none
returns-in-Broken-clause-none c =
    let begins = c.in-Broken.ensures in
    broken_bytes c.args.bytes.now c.in-Broken.field-0 begins.0 begins.1 begins.2
