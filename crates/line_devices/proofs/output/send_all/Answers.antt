use Rattle.std.proofs.Common.{◌≡◌, ◌++◌, take, drop, List, ℕ, append_assoc, arith}
use Rattle.std.proofs.lemmas.Grind.{common_steps}
use Rattle.std.proofs.lemmas.List.{take-append-drop}
use Rattle.std.proofs.KnownBytes.{Appends-trans}
use Rattle.line_devices.proofs.output.send_all.Goals as goal

advanced : (bytes rest new front : List ℕ) (n : ℕ) → bytes ≡ front ++ rest → new ≡ drop n rest → bytes ≡ (front ++ take n rest) ++ new
advanced bytes rest new front n e h = rw (h, append_assoc, take-append-drop) e

pub loop-rest-preserved : goal.loop-rest-preserved
loop-rest-preserved g c =
    let i = c.loop-rest.invariant.sent in
    record {
      sent = (i.0 ++ take c.in_ok-count.count c.loop-rest.rest.now, advanced _ _ _ _ _ i.1 c.split_at.ensures.back, Appends-trans _ _ _ _ _ i.2 c.in_ok-count.ensures.bytes);
      failures = grind (arith, common_steps);
    }
