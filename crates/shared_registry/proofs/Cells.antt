-- The cells of a history's book of words.
use Rattle.std.proofs.Common.{◌≡◌, ◌≢◌, ℕ, zero, suc, ◌<◌, true, false, List, [], ◌∷◌, ◌++◌, length, ap, sym, ◌∙◌, arith}
use Rattle.std.specs.Prelude.{slice_set}
use Rattle.std.proofs.lemmas.List.{get_or-set_same, get_or-set_other}
use Rattle.std.proofs.Math.ListN.{get_or-append}
use mathlib.Core.Logic.{dite}
use native.Mathlib.Decide.{ℕ_discrete}
use Rattle.logbook.specs.Pages.{Cell, cell}
use Rattle.shared_registry.specs.RulesPrivate.{IsHome}

pub home_in : (cells : List Cell) (k : ℕ) → IsHome cells k → k < length cells
home_in [] k h = absurd cc
home_in (c ∷ cells) zero h = omega arith
home_in (c ∷ cells) (suc k) h = let i = home_in cells k h in omega arith

-- ---- a cell is set

pub set_there : (cells : List Cell) (k n : ℕ) → k < length cells → cell (slice_set cells k (n, true)) k ≡ (n, true)
set_there cells k n less = get_or-set_same cells k (n, true) (0, false) less

pub set_other : (cells : List Cell) (j k n : ℕ) → k ≢ j → cell (slice_set cells j (n, true)) k ≡ cell cells k
set_other cells j k n ne = get_or-set_other cells j k (n, true) (0, false) ne

pub home_set : (cells : List Cell) (j n k : ℕ) → IsHome cells k → IsHome (slice_set cells j (n, true)) k
home_set cells j n k h = dite (ℕ_discrete k j)
    (λ same. ap (λ (c : Cell). c.1) (ap (λ i. cell (slice_set cells i (n, true)) k) (sym same) ∙ set_there cells k n (home_in cells k h)))
    (λ ne. ap (λ (c : Cell). c.1) (set_other cells j k n ne) ∙ h)

-- ---- cells are added

pub cell_more : (cells more : List Cell) (k : ℕ) → k < length cells → cell (cells ++ more) k ≡ cell cells k
cell_more cells more k less = get_or-append cells more (0, false) k less

pub home_more : (cells more : List Cell) (k : ℕ) → IsHome cells k → IsHome (cells ++ more) k
home_more cells more k h = ap (λ (c : Cell). c.1) (cell_more cells more k (home_in cells k h)) ∙ h

-- a cell that is at home isn't one that is not
pub apart : (cells : List Cell) (j k : ℕ) → IsHome cells j → (cell cells k).1 ≡ false → j ≢ k
apart cells j k h away same = let t : true ≡ false = sym h ∙ (ap (λ i. (cell cells i).1) same ∙ away) in absurd cc
