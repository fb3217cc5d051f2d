use Rattle.shared_registry.proofs.Committing.{checkpointed}
use Rattle.shared_registry.proofs.writer_state.WriterState.commit.Goals as goal

pub decide-writer-requires-clause-tied : goal.decide-writer-requires-clause-tied
decide-writer-requires-clause-tied g c = checkpointed g.J.RegistryId.first g.J.RegistryId.domain c.self.inside.history _ _ c.self.invariant.0 c.checkpoint_if_full.ensures.window c.checkpoint_if_full.ensures.kept c.checkpoint_if_full.ensures.few

pub returns-clause-handed_out : goal.returns-clause-handed_out
returns-clause-handed_out g c n is = c.replace-replaced.ensures.handed_out (c.decide-writer.ensures.handed_out n is)
