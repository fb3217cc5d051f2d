use Rattle.std.proofs.Common.{List, subst}
use Rattle.shared_registry.specs.Seated.{Seated}
use Rattle.reg_programs.specs.Served.{HaveSeenOneList}
use Rattle.reg_programs.proofs.server.serve_connections.Goals as goal

pub returns-clause-one_list : goal.returns-clause-one_list
returns-clause-one_list g c = subst (λ (seats : List Seated). HaveSeenOneList seats) c.as_slice.ensures.value c.all_agree.ensures
