-- What settings keep, and what is wrong with the words of a program. For this crate's own contracts.
use Rattle.std.specs.Prelude.{◌<◌, Option, None, Some, IsSome, ⊤, codes, true, ◌≡◌, List, ℕ}
use Rattle.command_line.specs.declared.program.Program.{Program}
use Rattle.command_line.specs.declared.program.Program.TheVariants.{Explain, Serve}
use Rattle.command_line.specs.declared.settings.ServerPlan.{ServerPlan}
use Rattle.command_line.specs.declared.settings.Topic.{Topic}
use Rattle.clap.specs.Words.{Row, Text}
use Rattle.command_line.specs.declared.fault.LineFault.{LineFault}
use Rattle.command_line.specs.declared.fault.LineFault.TheVariants.{Address, Code, Domain, NoMemory, Number}
use Rattle.command_line.specs.CommandLine.{server_word, topic_code, domain_refusal_in, has_book, ParsesAddress, IsNoAddress, IsNoCode, AreNoNumbers}

-- a program with a book has a domain
abbrev pub HasDomain : Program → Option (List ℕ) → Type 0
HasDomain program domain = has_book program ≡ true → IsSome domain

-- there is a plan exactly if a server is requested, and the plan has a worker
abbrev pub HasServer : Program → Option ServerPlan → Type 0
HasServer Serve (Some plan) = 0 < plan.workers
HasServer Serve None = ⊥
HasServer program (Some plan) = ⊥
HasServer program None = ⊤

-- an explanation has a topic
abbrev pub HasTopic : Program → Option Topic → Type 0
HasTopic program topic = program ≡ Explain → IsSome topic

-- the domain of the requested program has this fault
abbrev pub IsDomainFault : Option (Text × List Row) → Program → LineFault → Type 0
IsDomainFault met program (Domain refusal) = domain_refusal_in program met ≡ Some refusal
IsDomainFault met program NoMemory = ⊤
IsDomainFault met program fault = ⊥

-- the options of a requested server have this fault
abbrev pub IsServerFault : Option (Text × List Row) → Program → LineFault → Type 0
IsServerFault met program Address = (program ≡ Serve) × IsNoAddress (server_word (codes "listen") met)
IsServerFault met program Number = (program ≡ Serve) × ParsesAddress (server_word (codes "listen") met) × AreNoNumbers met
IsServerFault met program fault = ⊥

-- the words of a requested explanation have this fault
abbrev pub IsTopicFault : Option (Text × List Row) → Program → LineFault → Type 0
IsTopicFault met program Code = (program ≡ Explain) × IsNoCode (topic_code met)
IsTopicFault met program NoMemory = ⊤
IsTopicFault met program fault = ⊥
