use Rattle.commit_head.proofs.Begun.{began_extends, began_here, began_inside, began_kept, began_unchanged}
use Rattle.commit_head.proofs.laws.begun.Goals as goal

pub returns : goal.returns
returns c = record { here = began_here; inside = began_inside; remains = began_kept; extends = began_extends; is_unchanged = began_unchanged }
