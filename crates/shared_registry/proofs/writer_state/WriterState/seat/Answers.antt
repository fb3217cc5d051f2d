use Rattle.shared_registry.proofs.Steps.{admits}
use Rattle.shared_registry.proofs.writer_state.WriterState.seat.Goals as goal

pub reader-requires : goal.reader-requires
reader-requires g c = admits _ _ _
