use Rattle.std.proofs.Common.{refl}
use Rattle.call_audit.specs.Texts.{verdict_json}
use Rattle.line_engines.specs.Answers.{as_line}
use Rattle.line_engines.proofs.audit_engine.AuditRunLineHandler.close.Goals as goal

pub returns-clause-closed : goal.returns-clause-closed
returns-clause-closed g c = λ lines now represents.
    (as_line (verdict_json c.in_ok-verdict.verdict), (c.in_ok-verdict.verdict, c.in_ok-verdict.ensures lines now represents, refl), c.print_line.ensures)
