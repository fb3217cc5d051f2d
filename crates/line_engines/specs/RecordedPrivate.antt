-- The state that the engine `record_schedule` stores. For this crate's own contracts.
use Rattle.std.specs.Prelude.{◌≡◌, ◌≤◌, ◌+◌, ℕ, List, [], refl}
use Rattle.line_engines.specs.Schedules.{schedule_skips, unread}
use Rattle.line_engines.specs.SchedulesPrivate.{ScheduleKept, ScheduleRepresents}
use Rattle.line_engines.specs.Recorded.{Recording, RecordsLine, was_lost}

-- any line may be lost, in every state
pub a_line_recorded : (domain : List ℕ) (now : Recording) (line : List ℕ) → (next : Recording) × (reply : List ℕ) × RecordsLine domain now line next reply
a_line_recorded domain now line = (record { scheduled = schedule_skips now.scheduled; lost = now.lost + 1 }, [], was_lost (unread refl) refl refl)

-- the state that the engine stores: that of `schedule`, and the number of lost lines
pub record RecordKept : Type 0 where
  pub schedule : ScheduleKept
  pub lost : ℕ

-- it represents this state of a run after this number of lines, of which no more can be lost
abbrev pub RecordRepresents : RecordKept → ℕ → Recording → Type 0
RecordRepresents kept lines now = ScheduleRepresents kept.schedule lines now.scheduled × (now.lost ≡ kept.lost) × (kept.lost ≤ lines)
