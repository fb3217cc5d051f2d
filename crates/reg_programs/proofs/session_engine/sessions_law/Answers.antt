use Rattle.reg_programs.proofs.Growing.{sessions_grow}
use Rattle.reg_programs.proofs.session_engine.sessions_law.Goals as goal

pub returns : goal.returns
returns c = sessions_grow
