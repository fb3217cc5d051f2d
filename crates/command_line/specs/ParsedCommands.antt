-- What a command line requests.
use Rattle.std.specs.Prelude.{List, ℕ, Option}
use Rattle.command_line.specs.declared.program.Program.{Program}
use Rattle.command_line.specs.declared.settings.ServerPlan.{ServerPlan}
use Rattle.command_line.specs.declared.settings.Topic.{Topic}

-- The requested program with its values, the model of settings in contracts.
pub record ParsedCommand : Type 0 where
  pub program : Program
  -- the text of the server's own trust domain, where the program has a book
  pub domain : Option (List ℕ)
  -- the seed of the ids that the server generates, 32 bytes
  pub seed : List ℕ
  -- for a server, its address, its number of workers, and its number of connections if it has a last one
  pub server : Option ServerPlan
  -- for an explanation, the code, and the key if one is named
  pub topic : Option Topic
