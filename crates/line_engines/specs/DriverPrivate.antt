-- How a run fails to write its last text. For this crate's own contracts.
use Rattle.std.specs.Prelude.{◌≡◌, []}
use Rattle.line_devices.specs.Stream.{IsOut, OutputState, Puts}

-- memory ran out for the last text, as the engine allows: none of it was put, and everything that was put before is out
pub record FailsToClose (may_lack_memory : Type 0) (old new : OutputState) : Type 0 where
  pub may : may_lack_memory
  pub none_put : Puts old new []
  pub not_failed : new.failures ≡ 0
  pub out : IsOut new
