-- Nodes cut at a key.
use Rattle.std.proofs.Common.{◌≡◌, ℕ, ◌+◌, ◌-◌, ◌<◌, ◌≤◌, Bool, List, [], ◌∷◌, ◌++◌, length, get_or, take, refl, sym, ap, ◌∙◌, append-nil, length-append, length-take-le, inl, inr, arith}
use Rattle.std.proofs.lemmas.List.{take-take, get_or-take, get_or_at}
use Rattle.version_shelf.specs.Nodes.{AreFullNodes, AreNodes, Cuts, CutsAt, IsSplitIndex, last_passes}
use Rattle.version_shelf.proofs.Ends.{starts_drop}
use Rattle.version_shelf.proofs.Flat.{flatten_around, full_front, full_back, full_from_nodes}

module _ {X : Type 0} (least : ℕ) where
  cuts_full : (below : List (List X)) (node : List X) (above : List (List X)) → AreFullNodes least (below ++ node ∷ above) → Cuts least (below ++ node ∷ above) below node above
  cuts_full below node above all =
      let back : AreFullNodes least (node ∷ above) = full_back least below (node ∷ above) all in
      record {
        whole = inl refl;
        joined = flatten_around below node above;
        are_below = full_front least below (node ∷ above) all;
        are_above = back.1;
        most = back.0.1;
        fewest = λ some. back.0.0;
        fits = omega (arith, length-append below (node ∷ above));
        all = omega (arith, length-append below (node ∷ above));
      }

  pub cuts_of : (below : List (List X)) (node : List X) (above : List (List X)) → AreNodes least (below ++ node ∷ above) → Cuts least (below ++ node ∷ above) below node above
  cuts_of [] node [] all = record {
    whole = inl refl;
    joined = refl;
    are_below = tt;
    are_above = tt;
    most = all;
    fewest = λ some. absurd (omega arith);
    fits = omega arith;
    all = omega arith;
  }
  cuts_of [] node (q ∷ above) all = cuts_full [] node (q ∷ above) all
  cuts_of (q ∷ below) node above all = cuts_full (q ∷ below) node above (full_from_nodes least (q ∷ (below ++ node ∷ above)) all (omega (arith, length-append below (node ∷ above))))

  pub cuts_none : (nodes below above : List (List X)) → nodes ≡ below ++ above → length above ≡ 0 → length below ≤ length nodes - 1 → Cuts least nodes below [] above
  cuts_none [] [] [] parts none few = record {
    whole = inr (refl, refl);
    joined = refl;
    are_below = tt;
    are_above = tt;
    most = omega arith;
    fewest = λ some. absurd (omega arith);
    fits = omega arith;
    all = omega arith;
  }
  cuts_none [] (b ∷ below) above parts none few = absurd (omega arith)
  cuts_none (p ∷ nodes) below (a ∷ above) parts none few = absurd (omega arith)
  cuts_none [] [] (a ∷ above) parts none few = absurd (omega arith)
  cuts_none (p ∷ nodes) below [] parts none few = absurd (omega (arith, ap length parts, ap length (append-nil below)))

-- a cut at the index of the key among all nodes but the last
module _ {X : Type 0} (passes : X → Bool) (nodes others below : List (List X)) (position : ℕ) (node : List X) (above : List (List X)) where
  pub cuts_at : others ≡ take (length nodes - 1) nodes → IsSplitIndex (last_passes passes) others position → below ≡ take position nodes → length below ≡ position → nodes ≡ below ++ node ∷ above → CutsAt passes below node above
  cuts_at some is front size parts =
      let all : length nodes ≡ position + (length above + 1) = ap length parts ∙ omega (arith, length-append below (node ∷ above)) in
      let few : length others ≡ length nodes - 1 = ap length some ∙ length-take-le (length nodes - 1) nodes (omega arith) in
      let inside : position ≤ length nodes - 1 = omega (arith, is.inside) in
      let same : take position others ≡ below = ap (take position) some ∙ take-take position (length nodes - 1) nodes inside ∙ sym front in
      record {
        before = λ first. ap (last_passes (last_passes passes)) (sym same) ∙ is.before (omega arith);
        behind = λ more.
            let here : position < length others = omega arith in
            let there : position < length nodes - 1 = omega arith in
            let read : get_or others position node ≡ node = ap (λ l. get_or l position node) some ∙ get_or-take (length nodes - 1) nodes position node there ∙ ap (λ l. get_or l position node) parts ∙ get_or_at below node above node position size in
            ap (last_passes passes) (sym read) ∙ sym (starts_drop (last_passes passes) others position node here) ∙ is.behind;
      }
