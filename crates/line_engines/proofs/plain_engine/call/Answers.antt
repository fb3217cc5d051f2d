use Rattle.std.proofs.Common.{inl, inr, sym, subst}
use Rattle.entry_book.specs.History.{PlainState, RepresentsFrom}
use Rattle.entry_book.specs.declared.reply.Reply.{Reply}
use Rattle.reg_lines.specs.Replies.{reply_json}
use Rattle.line_devices.specs.Stream.{Puts}
use Rattle.line_engines.specs.Answers.{as_line}
use Rattle.line_engines.proofs.plain_engine.call.Goals as goal

pub returns-in-Err-clause-answered : goal.returns-in-Err-clause-answered
returns-in-Err-clause-answered g c = λ first books represents.
    inr (subst (λ (state : PlainState). RepresentsFrom first state books) (sym c.in-Err.ensures.err) represents, c.print_line-in-Err.ensures)

pub returns-in-Ok-clause-answered : goal.returns-in-Ok-clause-answered
returns-in-Ok-clause-answered g c = λ first books represents.
    inl (c.in-Ok.ensures.books first books represents, subst (λ (reply : Reply). Puts c.args.output.now c.print_line.new.output (as_line (reply_json c.args.call reply))) (c.in-Ok.ensures.reply first books represents) c.print_line.ensures)
