-- A part of a buffer whose first bytes are taken.
use Rattle.std.proofs.Common.{◌≡◌, ◌+◌, ◌-◌, ◌≤◌, ℕ, ◌==◌, false, List, ◌++◌, Option, None, Some, length, take, drop, arith, ap, refl, sym, ◌∙◌}
use Rattle.std.specs.Prelude.{is_some, slice_range}
use Rattle.std.specs.List.{position}
use Rattle.std.proofs.lemmas.Bool.{false≢true}
use Rattle.std.proofs.lemmas.List.{take-append-drop, drop-take, drop-drop, length-take}
use Rattle.line_devices.specs.Lines.{has_lf}
use Rattle.line_devices.proofs.FirstLf.{found_if_any}

within : (end start len : ℕ) (buffer : List ℕ) → len ≤ length (slice_range buffer start end) → len ≤ end - start
within end start len buffer h = omega (arith, length-take (end - start) (drop start buffer))

drop-slice_range : (buffer : List ℕ) (start end len : ℕ) → len ≤ end - start → drop len (slice_range buffer start end) ≡ slice_range buffer (start + len) end
drop-slice_range buffer start end len h =
    let e : end - start ≡ len + (end - (start + len)) = omega arith in
    ap (λ n. drop len (take n (drop start buffer))) e ∙ (drop-take len (end - (start + len)) (drop start buffer) ∙ ap (take (end - (start + len))) (drop-drop len start buffer))

pub slice_range-split : (buffer : List ℕ) (start end len : ℕ) → len ≤ length (slice_range buffer start end) → slice_range buffer start end ≡ take len (slice_range buffer start end) ++ slice_range buffer (start + len) end
slice_range-split buffer start end len h =
    sym (take-append-drop len (slice_range buffer start end)) ∙ ap (λ l. take len (slice_range buffer start end) ++ l) (drop-slice_range buffer start end len (within end start len buffer h))

none_of : (first : Option ℕ) → is_some first ≡ false → first ≡ None
none_of None e = refl
none_of (Some at) e = absurd (false≢true (sym e))

-- if all bytes are taken because there is no LF among them, there is none among those that are left
pub none_left : (buffer : List ℕ) (start end : ℕ) (first : Option ℕ) → first ≡ position (λ b. b == 10) (slice_range buffer start end) → has_lf (slice_range buffer start end) ≡ false → first ≡ position (λ b. b == 10) (slice_range buffer end end)
none_left buffer start end first e none =
    let all : 0 ≡ end - end = omega arith in
    none_of first (found_if_any (slice_range buffer start end) first e ∙ none) ∙ ap (λ n. position (λ b. b == 10) (take n (drop end buffer))) all
