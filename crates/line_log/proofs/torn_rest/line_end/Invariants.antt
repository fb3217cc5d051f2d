use Rattle.std.proofs.Common.{◌≢◌, ◌<◌, ℕ, slice_index}
use Rattle.line_log.proofs.torn_rest.line_end.Given as goal

abbrev pub invariant-bytes : goal.invariant-bytes
invariant-bytes l = record { none : (k : ℕ) → k < l.i → slice_index l.block k ≢ 10 }
