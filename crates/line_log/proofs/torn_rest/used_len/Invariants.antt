use Rattle.std.proofs.Common.{◌≡◌, ◌≢◌, ◌-◌, ◌<◌, ◌≤◌, ℕ, slice_index}
use Rattle.line_log.proofs.torn_rest.used_len.Given as goal

abbrev pub invariant-bytes : goal.invariant-bytes
invariant-bytes l = record {
  within : l.used ≤ l.i;
  filler : (k : ℕ) → l.used ≤ k → k < l.i → slice_index l.block k ≡ 30;
  last : 0 < l.used → slice_index l.block (l.used - 1) ≢ 30;
}
