-- For this crate's own contracts: what was found in the bytes that follow a line that is broken.
use Rattle.std.specs.Prelude.{◌≡◌, ◌≢◌, ℕ, ◌+◌, ◌-◌, ◌<◌, ◌≤◌, List, slice_index}
use Rattle.line_log.specs.declared.torn_rest.Used.{Used}

-- The bytes of a file were looked through from one offset up to another. The last one that isn't a filler ends here, or there is none
-- and this is the first offset.
pub record HasEnd (file : List ℕ) (from at end : ℕ) : Type 0 where
  pub above : from ≤ end
  pub below : end ≤ at
  pub filler : (i : ℕ) → end ≤ i → i < at → slice_index file i ≡ 30
  pub last : from < end → slice_index file (end - 1) ≢ 30

-- In these bytes of a file of this length the first LF ends here, or there is none and this is the length.
pub record HasLineEnd (file : List ℕ) (from at len end : ℕ) : Type 0 where
  pub start : from ≤ at
  pub within : end ≤ len
  pub behind : end < len → end ≤ at
  pub above : end < len → from < end
  pub last : end < len → slice_index file (end - 1) ≡ 10
  pub before : (i : ℕ) → from ≤ i → i < at → i + 1 < end → slice_index file i ≢ 10

pub record HasUsed (file : List ℕ) (from at len : ℕ) (used : Used) : Type 0 where
  pub end : HasEnd file from at used.end
  pub line : HasLineEnd file from at len used.line
