use Rattle.std.proofs.Common.{◌≡◌, ◌==◌, length, drop}
use Rattle.std.specs.List.{slice_split}
use Rattle.spiffe_name.specs.Id.{segments_refusal}
use Rattle.spiffe_name.proofs.spiffe_id.segments_refusal.Given as goal

-- the refusal is that of the segments that are left
abbrev pub invariant-loop-segment : goal.invariant-loop-segment
invariant-loop-segment l =
    segments_refusal (drop (length l.yielded) (slice_split (λ b. b == 47) l.path)) ≡ segments_refusal (slice_split (λ b. b == 47) l.path)
