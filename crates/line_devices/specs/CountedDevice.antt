-- The state of a counted device.
use Rattle.std.specs.Prelude.{◌≡◌, ◌⊎◌, ◌<◌, ℕ, ◌-◌, ◌^◌, Bool, Result, MatchResult}
use Rattle.line_devices.specs.declared.counted.CountedDevice.{CountedDevice}

abbrev pub device_of : {D : Type 0} → CountedDevice D → D
device_of c = c.device

-- how many of its calls have failed
abbrev pub failures_of : {D : Type 0} → CountedDevice D → ℕ
failures_of c = c.failures

-- how many more calls it may make
abbrev pub calls_left_of : {D : Type 0} → CountedDevice D → ℕ
calls_left_of c = 2 ^ 64 - 1 - c.calls

-- whether it is flushed: no write was called since the last successful flush, or at all
abbrev pub is_flushed_of : {D : Type 0} → CountedDevice D → Bool
is_flushed_of c = c.is_flushed

-- at least one call was counted, unless the call failed and none was left to count
abbrev pub IsCalled : {D T E : Type 0} → CountedDevice D → CountedDevice D → Result T E → Type 0
IsCalled old new r = MatchResult r (λ _. calls_left_of new < calls_left_of old) (λ _. (calls_left_of new < calls_left_of old) ⊎ (calls_left_of old ≡ 0))
