-- What the programs do.
use Rattle.std.specs.Prelude.{◌≡◌, ◌==◌, Bool, true, false, List, ℕ, Result, Ok, Err, if◌then◌else◌}
use Rattle.line_devices.specs.Stream.{InputState, OutputState}
use Rattle.line_engines.specs.Answers.{RunsPlain}
use Rattle.line_engines.specs.Audited.{RunsAudit}
use Rattle.line_engines.specs.Recorded.{RunsRecord}
use Rattle.line_engines.specs.Schedules.{RunsSchedule}
use Rattle.line_engines.specs.declared.fault.RunFault.{RunFault}
use Rattle.line_engines.specs.declared.run_end.RunEnd.{RunEnd}
use Rattle.line_engines.specs.declared.run_end.RunEnd.TheVariants.{Done, Shortened}
use Rattle.command_line.specs.declared.program.Program.{Program}
use Rattle.command_line.specs.declared.program.Program.TheVariants.{Audit, Explain, Help, Plain, Record, Schedule, Serve, Version}

-- the outcome of a run that answers each line
abbrev pub run_end_of_result : Result Unit RunFault → Result RunEnd RunFault
run_end_of_result (Ok x) = Ok Done
run_end_of_result (Err fault) = Err fault

-- the outcome of a recorded schedule that lost this many lines for lack of memory
abbrev pub run_end_of_lost : ℕ → RunEnd
run_end_of_lost lost = if lost == 0 then Done else Shortened lost

-- the outcome of a recorded schedule
abbrev pub run_end_of_recording : Result ℕ RunFault → Result RunEnd RunFault
run_end_of_recording (Ok lost) = Ok (run_end_of_lost lost)
run_end_of_recording (Err fault) = Err fault

-- whether the program answers the lines of an input
abbrev pub runs_lines : Program → Bool
runs_lines Plain = true
runs_lines Schedule = true
runs_lines Record = true
runs_lines Audit = true
runs_lines _ = false

-- The result of a run of this program over an input and an output. Over known bytes only an audit has the outcome `Denied`, and only a
-- recorded schedule has the outcome `Shortened`, with the number of lost lines that the engine returns.
abbrev pub RunsAs : Program → List ℕ → List ℕ → InputState → InputState → OutputState → OutputState → Result RunEnd RunFault → Type 0
RunsAs Plain domain seed input rest output out result = (ran : Result Unit RunFault) × (result ≡ run_end_of_result ran) × RunsPlain domain seed input rest output out ran
RunsAs Schedule domain seed input rest output out result = (ran : Result Unit RunFault) × (result ≡ run_end_of_result ran) × RunsSchedule domain seed input rest output out ran
RunsAs Record domain seed input rest output out result = (ran : Result ℕ RunFault) × (result ≡ run_end_of_recording ran) × RunsRecord domain seed input rest output out ran
RunsAs Audit domain seed input rest output out result = RunsAudit domain input rest output out result
-- a server has no input and no output of lines, and neither have the programs without a book
RunsAs Serve domain seed input rest output out result = ⊥
RunsAs Explain domain seed input rest output out result = ⊥
RunsAs Version domain seed input rest output out result = ⊥
RunsAs Help domain seed input rest output out result = ⊥
