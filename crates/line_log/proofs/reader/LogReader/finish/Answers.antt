use Rattle.std.proofs.Common.{◌+◌, ℕ, sym, ◌∙◌, ap, subst}
use Rattle.sha2.specs.Hashers.{Holds256}
use Rattle.sha2.specs.declared.Sha256.{Sha256}
use Rattle.line_log.specs.Lines.{text_of}
use Rattle.line_log.specs.Log.{IsAtRest}
use Rattle.line_log.proofs.ReadLemmas.{read_all}
use Rattle.line_log.proofs.reader.LogReader.finish.Goals as goal

pub returns-in-Ok-clause-opened : goal.returns-in-Ok-clause-opened
returns-in-Ok-clause-opened g c clean lines has =
    let file = g.D.Disk.seen c.args.self.disk in
    let left = g.D.Disk.seen c.trim-trimmed.new.self.disk in
    let at = c.trim-trimmed.ensures.at in
    record {
      synced = record {
        rest = subst (λ (n : ℕ). IsAtRest left n) (sym at) (c.in-Ok.ensures.rest clean);
        len = ap (λ (n : ℕ). n + 1) at ∙ sym c.in-Ok.ensures.len;
        durable = c.in-Ok.ensures.durable;
      };
      same = c.in-Ok.ensures.same clean ∙ read_all file c.args.self lines has (c.in-Ok.ensures.all clean);
      text = subst (λ (h : Sha256). Holds256 h (text_of lines)) (sym c.trim-trimmed.ensures.hasher) has.text;
    }
