use Rattle.std.proofs.Common.{ap, ◌∙◌}
use Rattle.std.specs.Prelude.{filter, bytes_eq}
use Rattle.entry_book.specs.Order.{first}
use Rattle.entry_book.specs.Book.{agent_at}
use Rattle.plain_book.proofs.book.Book.agent.Goals as goal

pub returns : goal.returns
returns c =
    c.row.ensures
    ∙ (ap (λ k. first (filter (λ agent. bytes_eq agent.id k) c.self.inside.agents)) (c.as_bytes.ensures.value ∙ c.as_str.ensures.text)
    ∙ ap (agent_at c.args.id.now) c.self.view_is)
