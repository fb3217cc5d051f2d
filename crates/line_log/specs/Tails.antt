-- What follows the whole lines of a file, and which of it a crash may have left.
use Rattle.std.specs.Prelude.{◌≡◌, ◌⊎◌, ℕ, ◌==◌, ◌^◌, ◌<◌, ◌+◌, ◌≤◌, nat_lt, zero, suc, Bool, false, List, [], ◌∷◌, length, slice_index, if◌then◌else◌}

-- Nothing but the front of a line, which is so long; a front of this length, this byte, which neither continues nor ends it, and more
-- bytes; or this byte, which begins no line, and more bytes.
pub data Tail : Type 0 where
  unbroken : ℕ → Tail
  broken_by : ℕ → ℕ → List ℕ → Tail
  shut_by : ℕ → List ℕ → Tail

-- what follows the whole lines, where this number of bytes of the next one were read
abbrev pub tail_from : ℕ → List ℕ → Tail
tail_from n [] = unbroken n
tail_from zero (b ∷ bytes) = if b == 123 then tail_from 1 bytes else shut_by b bytes
tail_from (suc n) (b ∷ bytes) = if b == 10 then tail_from 0 bytes else if nat_lt b 32 then broken_by (suc n) b bytes else tail_from (suc (suc n)) bytes

-- what follows the whole lines of a file
abbrev pub tail_in : List ℕ → Tail
tail_in bytes = tail_from 0 bytes

-- how many bytes follow the lines
abbrev pub len_of : Tail → ℕ
len_of (unbroken n) = n
len_of (broken_by n b rest) = n + 1 + length rest
len_of (shut_by b rest) = 1 + length rest

-- A torn write may leave these bytes behind a filler: in the first 64 KiB any, and then fillers; or any up to an LF, and then fillers.
abbrev pub IsTornRest : List ℕ → Type 0
IsTornRest rest = ((i : ℕ) → 2 ^ 16 ≤ i → i < length rest → slice_index rest i ≡ 30) ⊎ ((i j : ℕ) → i < j → j < length rest → slice_index rest i ≡ 10 → slice_index rest j ≡ 30)

-- A crash may leave this where the lines end: the end of the file, there or behind one byte more, since a filler (30) follows the lines of a
-- log; or a filler, behind the front of a line of less than 8 MiB with the rest of a torn write. In the place of a line's first byte it may
-- also leave any byte, if the disk doesn't mix torn writes or if that is the last byte of the file.
abbrev pub IsTornEnd : Bool → Tail → Type 0
IsTornEnd mixes (unbroken n) = n ≤ 1
IsTornEnd mixes (broken_by n b rest) = (n < 2 ^ 23) × (b ≡ 30) × IsTornRest rest
IsTornEnd mixes (shut_by b bytes) = (b ≡ 30) ⊎ ((mixes ≡ false) ⊎ (bytes ≡ []))

-- A crash may leave this behind the lines: the same, and no more than the file of a log has there.
abbrev pub MayEnd : Bool → Tail → Type 0
MayEnd mixes end = (len_of end ≤ 2 ^ 24 + 2 ^ 18) × IsTornEnd mixes end
