-- The errors of the layers below, as faults of a command line.
use Rattle.clap.specs.Words.{kind_of}
use Rattle.clap.specs.declared.error.Error.{Error}
use Rattle.clap.specs.declared.error.kind.ErrorKind.{ErrorKind}
use Rattle.clap.specs.declared.error.kind.ErrorKind.TheVariants as kind
use Rattle.spiffe_name.specs.declared.refusals.IdRefusal.{IdRefusal}
use Rattle.spiffe_name.specs.declared.refusals.Failure.{Failure}
use Rattle.spiffe_name.specs.declared.refusals.Failure.TheVariants as name
use Rattle.command_line.specs.declared.fault.LineFault.{LineFault}
use Rattle.command_line.specs.declared.fault.LineFault.TheVariants.{Domain, NoMemory, Refused, Version}

-- the fault of the parser's error of this kind
abbrev pub fault_of_kind : ErrorKind → Error → LineFault
fault_of_kind kind.OutOfMemory error = NoMemory
fault_of_kind kind.DisplayVersion error = Version
fault_of_kind _ error = Refused error

-- the parser's refusal of the words; out of memory is not a fault of the words, and a request for the version has its own case
abbrev pub fault_of_refusal : Error → LineFault
fault_of_refusal error = fault_of_kind (kind_of error) error

-- the refusal of the text that was given as the domain
abbrev pub fault_of_domain : Failure IdRefusal → LineFault
fault_of_domain name.NoMemory = NoMemory
fault_of_domain (name.Refused refusal) = Domain refusal
