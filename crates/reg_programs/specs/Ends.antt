-- How a run reports its end to the caller: by the exit status, and by a text on a standard stream.
use Rattle.std.specs.Prelude.{codes, ℕ, ◌++◌, List, [], ◌∷◌, Option, Some, Result, Ok, Err}
use Rattle.clap.specs.declared.error.Error.{Error}
use Rattle.spiffe_name.specs.Codes.{id_code}
use Rattle.command_line.specs.Versions.{version_text}
use Rattle.error_codes.specs.Texts.{explanation_text}
use Rattle.reg_programs.specs.declared.exit_message.Stream.{Stream}
use Rattle.reg_programs.specs.declared.exit_message.Stream.TheVariants as stream
use Rattle.reg_programs.specs.declared.ended.Ended.{Ended}
use Rattle.reg_programs.specs.declared.ended.Ended.TheVariants as ended
use Rattle.line_engines.specs.declared.fault.RunFault.{RunFault}
use Rattle.line_engines.specs.declared.fault.RunFault.TheVariants as run
use Rattle.reg_programs.specs.declared.serve_fault.ServeFault.{ServeFault}
use Rattle.reg_programs.specs.declared.serve_fault.ServeFault.TheVariants as serve
use Rattle.command_line.specs.declared.fault.LineFault.{LineFault}
use Rattle.command_line.specs.declared.fault.LineFault.TheVariants as line
use Rattle.line_engines.specs.declared.run_end.RunEnd.{RunEnd}
use Rattle.line_engines.specs.declared.run_end.RunEnd.TheVariants.{Denied, Done, Shortened}
use Rattle.reg_programs.specs.declared.exit_message.ExitMessage.{ExitMessage}
use Rattle.reg_programs.specs.declared.exit_message.ExitMessage.TheVariants as exit_message

-- a line of the program itself, with its line feed
abbrev pub own_line : List ℕ → Option (List ℕ)
own_line text = Some (codes "regd: " ++ (text ++ (10 ∷ [])))

-- the text at the end; the parser's own text, if it is known, is unchanged
abbrev pub exit_message_text : {E : Type 0} → (E → Option (List ℕ)) → ExitMessage E → Option (List ℕ)
exit_message_text text_of exit_message.Nothing = Some []
exit_message_text text_of (exit_message.Parser error) = text_of error
exit_message_text text_of exit_message.Version = Some version_text
exit_message_text text_of (exit_message.Explanation explanation) = Some (explanation_text explanation)
exit_message_text text_of exit_message.Input = own_line (codes "input failed")
exit_message_text text_of exit_message.Output = own_line (codes "output failed")
exit_message_text text_of exit_message.NoMemory = own_line (codes "out of memory")
exit_message_text text_of exit_message.Listen = own_line (codes "listen failed")
exit_message_text text_of exit_message.Accept = own_line (codes "accept failed")
exit_message_text text_of exit_message.NoSeat = own_line (codes "no seat")
exit_message_text text_of (exit_message.Domain refusal) = own_line (codes "domain " ++ id_code refusal)
exit_message_text text_of exit_message.Seed = own_line (codes "seed")
exit_message_text text_of exit_message.Address = own_line (codes "listen")
exit_message_text text_of exit_message.Number = own_line (codes "number")
exit_message_text text_of exit_message.Code = own_line (codes "explain: no code has this name")
exit_message_text text_of exit_message.NotText = own_line (codes "a word isn't UTF-8")

-- the text for an invalid command line
abbrev pub exit_message_of_line : LineFault → ExitMessage Error
exit_message_of_line (line.Refused error) = exit_message.Parser error
exit_message_of_line line.Version = exit_message.Version
exit_message_of_line (line.Domain refusal) = exit_message.Domain refusal
exit_message_of_line line.Seed = exit_message.Seed
exit_message_of_line line.Address = exit_message.Address
exit_message_of_line line.Number = exit_message.Number
exit_message_of_line line.Code = exit_message.Code
exit_message_of_line line.NotText = exit_message.NotText
exit_message_of_line line.NoMemory = exit_message.NoMemory

-- the text for an end of a run
abbrev pub exit_message_of : Ended → ExitMessage Error
exit_message_of ended.Done = exit_message.Nothing
exit_message_of ended.Denied = exit_message.Nothing
exit_message_of (ended.Line fault) = exit_message_of_line fault
exit_message_of ended.Input = exit_message.Input
exit_message_of ended.Output = exit_message.Output
exit_message_of ended.NoMemory = exit_message.NoMemory
exit_message_of ended.Listen = exit_message.Listen
exit_message_of ended.Accept = exit_message.Accept
exit_message_of ended.NoSeat = exit_message.NoSeat
exit_message_of ended.Version = exit_message.Version
exit_message_of (ended.Help error) = exit_message.Parser error
exit_message_of (ended.Explained explanation) = exit_message.Explanation explanation

-- the stream that gets the text: standard output if it was asked for
abbrev pub stream_of : Ended → Stream
stream_of ended.Version = stream.Output
stream_of (ended.Help error) = stream.Output
stream_of (ended.Explained explanation) = stream.Output
stream_of _ = stream.Error

-- the exit status for an invalid command line; running out of memory is not a fault of the words
abbrev pub status_of_line : LineFault → ℕ
status_of_line line.NoMemory = 1
status_of_line _ = 2

-- the exit status of an end
abbrev pub exit_status_of : Ended → ℕ
exit_status_of ended.Done = 0
exit_status_of ended.Denied = 3
exit_status_of (ended.Line fault) = status_of_line fault
exit_status_of ended.Version = 0
exit_status_of (ended.Help error) = 0
exit_status_of (ended.Explained explanation) = 0
exit_status_of _ = 1

-- The end of a run that had its settings. A recorded schedule that lost lines for lack of memory ends as out of memory.
abbrev pub ended_by_run : Result RunEnd RunFault → Ended
ended_by_run (Ok Done) = ended.Done
ended_by_run (Ok Denied) = ended.Denied
ended_by_run (Ok (Shortened lost)) = ended.NoMemory
ended_by_run (Err run.Input) = ended.Input
ended_by_run (Err run.Output) = ended.Output
ended_by_run (Err run.NoMemory) = ended.NoMemory

-- the end after an invalid command line, or one that asks for the version
abbrev pub ended_of_line : LineFault → Ended
ended_of_line line.Version = ended.Version
ended_of_line fault = ended.Line fault

-- the end of a run, from the results of the command line and then of the run
abbrev pub ended_of : Result (Result RunEnd RunFault) LineFault → Ended
ended_of (Ok answered) = ended_by_run answered
ended_of (Err fault) = ended_of_line fault

-- the end of a server
abbrev pub ended_of_server : {T : Type 0} → Result T ServeFault → Ended
ended_of_server (Ok none) = ended.Done
ended_of_server (Err serve.Listen) = ended.Listen
ended_of_server (Err serve.Output) = ended.Output
ended_of_server (Err serve.Accept) = ended.Accept
ended_of_server (Err serve.NoSeat) = ended.NoSeat
ended_of_server (Err serve.NoMemory) = ended.NoMemory
