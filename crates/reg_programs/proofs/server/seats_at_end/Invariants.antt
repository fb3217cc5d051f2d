use Rattle.std.specs.Prelude.{◌≡◌, ℕ, ◌+◌, ◌<◌, ◌≤◌, get_or, vec_items, vec_len, vec_capacity}
use Rattle.std.specs.Vec.Iter.{into_iter_items, into_iter_len}
use Rattle.shared_registry.specs.Seated.{Seated}
use Rattle.reg_programs.specs.Sessions.{Grew}
use Rattle.reg_programs.proofs.server.seats_at_end.Given as goal

-- The workers that are left follow those that were joined. Each of these returned the seat that it was started with, after its
-- sessions.
abbrev pub invariant-loop-worker : goal.invariant-loop-worker
invariant-loop-worker g l =
    let done = vec_len l.seats in let rest = l.worker-iterator in let first = l.initial.worker-iterator in
    (done + into_iter_len rest ≡ into_iter_len first)
    × ((k : ℕ) (d : _) → k < into_iter_len rest → get_or (into_iter_items rest) k d ≡ get_or (into_iter_items first) (done + k) d)
    × ((k : ℕ) (w : _) (s : Seated) → k < done → Grew g.J.RegistryId.first g.J.RegistryId.domain (get_or (into_iter_items first) k w).promise.0.value (get_or (vec_items l.seats) k s))
    × (into_iter_len first ≤ vec_capacity l.seats)
