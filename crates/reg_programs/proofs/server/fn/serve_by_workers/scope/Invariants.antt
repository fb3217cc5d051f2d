use Rattle.std.specs.Prelude.{◌≡◌, ℕ, ◌+◌, ◌<◌, ◌≤◌, get_or, length, vec_items, vec_len, vec_capacity}
use Rattle.std.specs.Vec.Iter.{into_iter_items, into_iter_len}
use Rattle.shared_registry.specs.Seated.{Seated}
use Rattle.reg_programs.proofs.server.fn.serve_by_workers.scope.Given as goal

-- the workers that were started, each with the seat at its index, and the seats that are left
abbrev pub invariant-loop-seat : goal.invariant-loop-seat
invariant-loop-seat g l =
    let done = vec_len l.workers in let rest = l.seat-iterator in let first = l.initial.seat-iterator in
    (done + into_iter_len rest ≡ length l.queues)
    × ((k : ℕ) (d : _) → k < into_iter_len rest → get_or (into_iter_items rest) k d ≡ get_or (into_iter_items first) (done + k) d)
    × ((k : ℕ) (w : _) (s : Seated) → k < done → (get_or (vec_items l.workers) k w).promise.0.value ≡ get_or (into_iter_items first) k s)
    × (length l.queues ≤ vec_capacity l.workers)
