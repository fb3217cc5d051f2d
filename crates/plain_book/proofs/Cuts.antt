-- Rows in blocks, and the block to which a key belongs.
use Rattle.std.proofs.Common.{◌≡◌, ℕ, zero, suc, ◌+◌, ◌-◌, ◌<◌, ◌≤◌, Bool, true, false, List, [], ◌∷◌, ◌++◌, length, get_or, take, drop, Option, Some, None, cond, refl, sym, ap, subst, ◌∙◌, inl, ⊎_elim, arith, append_assoc, append-nil, length-append}
use Rattle.std.specs.Prelude.{filter, bytes_eq, option_to_list}
use Rattle.std.specs.List.{AllByRecursion}
use Rattle.std.proofs.lemmas.Bool.{cases_Bool, false≢true}
use Rattle.std.proofs.lemmas.List.{at_drop_more, nil_from_length, take-append-drop}
use Rattle.std.proofs.lemmas.List.Elements.{filter-append}
use Rattle.std.proofs.Math.Seq.{get_or-append_seam}
use Rattle.entry_book.specs.Rows.{Bytes}
use Rattle.entry_book.specs.Order.{Ascending, first, is_before, with_row}
use Rattle.entry_book.proofs.Sets.{All-within, before-irrefl, before-trans, before-total, text_is, within_right}
use Rattle.plain_book.specs.Blocks.{joined, IsBlock, begins_behind, IsBlockRank, IsCut}
use Rattle.plain_book.proofs.Ranks.{all_pass, none_pass, not_before}

-- ---- lists

module _ {X : Type 0} where
  pub joined-append : (blocks others : List (List X)) → joined (blocks ++ others) ≡ joined blocks ++ joined others
  joined-append [] others = refl
  joined-append (b ∷ bs) others = ap (λ l. b ++ l) (joined-append bs others) ∙ sym (append_assoc b (joined bs) (joined others))

  pub all_front : (P : X → Type 0) (xs ys : List X) → AllByRecursion P (xs ++ ys) → AllByRecursion P xs
  all_front P [] ys h = tt
  all_front P (x ∷ xs) ys h = (h.0, all_front P xs ys h.1)

  pub all_back : (P : X → Type 0) (xs ys : List X) → AllByRecursion P (xs ++ ys) → AllByRecursion P ys
  all_back P [] ys h = h
  all_back P (x ∷ xs) ys h = all_back P xs ys h.1

  pub all_both : (P : X → Type 0) (xs ys : List X) → AllByRecursion P xs → AllByRecursion P ys → AllByRecursion P (xs ++ ys)
  all_both P [] ys h k = k
  all_both P (x ∷ xs) ys h k = (h.0, all_both P xs ys h.1 k)

  all_with : (P Q : X → Type 0) → ((x : X) → P x → Q x) → (xs : List X) → AllByRecursion P xs → AllByRecursion Q xs
  all_with P Q f [] h = tt
  all_with P Q f (x ∷ xs) h = (f x h.0, all_with P Q f xs h.1)

module _ {X : Type 0} where
  one_at_most : (o : Option X) → length (option_to_list o) ≤ 1
  one_at_most None = omega arith
  one_at_most (Some x) = omega arith

  regrouped : (a b c d e : List X) → (a ++ b) ++ (c ++ (d ++ e)) ≡ a ++ ((b ++ (c ++ d)) ++ e)
  regrouped a b c d e = simp append_assoc

  apart_counts : (p q : X → Bool) → ((x : X) → p x ≡ true → q x ≡ false) → (xs : List X) → length (filter p xs) + length (filter q xs) ≤ length xs
  apart_counts p q h [] = omega arith
  apart_counts p q h (x ∷ xs) =
      let r = apart_counts p q h xs in
      elim (p x) as (λ b. p x ≡ b → length (cond b (x ∷ filter p xs) (filter p xs)) + length (filter q (x ∷ xs)) ≤ suc (length xs)) [
        | true ↦ λ e. rw (h x e) (omega arith)
        | false ↦ λ e. elim (q x) as (λ b. length (filter p xs) + length (cond b (x ∷ filter q xs) (filter q xs)) ≤ suc (length xs)) [ true ↦ omega arith | false ↦ omega arith ]
      ] refl

  module _ (key : X → Bytes) where
    -- putting a row makes the list at most one row longer
    pub length-with_row : (k : Bytes) (new : Option X) (xs : List X) → length (with_row key k new xs) ≤ length xs + 1
    unfolding with_row
    length-with_row k new xs =
        let apart = apart_counts (λ x. is_before (key x) k) (λ x. is_before k (key x)) (λ x h. not_before (key x) k h) xs in
        let a = length-append (filter (λ x. is_before (key x) k) xs) (option_to_list new ++ filter (λ x. is_before k (key x)) xs) in
        let b = length-append (option_to_list new) (filter (λ x. is_before k (key x)) xs) in
        let c = one_at_most new in
        omega arith

    pub ascending_front : (xs ys : List X) → Ascending key (xs ++ ys) → Ascending key xs
    ascending_front [] ys a = tt
    ascending_front (x ∷ xs) ys a = (all_front (λ y. is_before (key x) (key y) ≡ true) xs ys a.0, ascending_front xs ys a.1)

    pub ascending_back : (xs ys : List X) → Ascending key (xs ++ ys) → Ascending key ys
    ascending_back [] ys a = a
    ascending_back (x ∷ xs) ys a = ascending_back xs ys a.1

    -- ---- the rows of the blocks before an index, and of those after it

    module _ (k : Bytes) where
      above_more : (x : X) (ys : List X) → is_before k (key x) ≡ true → AllByRecursion (λ y. is_before (key x) (key y) ≡ true) ys → AllByRecursion (λ y. is_before k (key y) ≡ true) ys
      above_more x ys h a = all_with (λ y. is_before (key x) (key y) ≡ true) (λ y. is_before k (key y) ≡ true) (λ y b. before-trans k (key x) (key y) h b) ys a

      -- if a block begins after the key, all its rows and all following rows are above the key
      starts_above : (block rest : List X) → Ascending key (block ++ rest) → begins_behind key k block ≡ true → AllByRecursion (λ y. is_before k (key y) ≡ true) (block ++ rest)
      starts_above [] rest a h = absurd (false≢true h)
      starts_above (x ∷ xs) rest a h = (h, above_more x (xs ++ rest) h a.0)

      below_it : (x y : Bytes) → is_before k x ≡ false → is_before y x ≡ true → is_before y k ≡ true
      below_it x y h b = ⊎_elim
          (λ l. before-trans y x k b l)
          (λ r. ⊎_elim (λ e. subst (λ t. is_before y t ≡ true) e b) (λ t. absurd (false≢true (sym h ∙ t))) r)
          (before-total x k)

      -- all rows before a row that isn't above the key are below the key
      ends_below : (front : List X) (x : X) (rest : List X) → Ascending key (front ++ x ∷ rest) → is_before k (key x) ≡ false → AllByRecursion (λ y. is_before (key y) k ≡ true) front
      ends_below [] x rest a h = tt
      ends_below (y ∷ ys) x rest a h = (
        below_it (key x) (key y) h (All-within (λ z. is_before (key y) (key z) ≡ true) (ys ++ x ∷ rest) x a.0 (within_right ys (x ∷ rest) x (inl refl))),
        ends_below ys x rest a.1 h,
      )

      below_of : (before : List (List X)) (block : List X) (behind : List (List X)) → Ascending key (joined before ++ (block ++ joined behind)) → 0 < length block → (0 < length before → begins_behind key k block ≡ false) → AllByRecursion (λ y. is_before (key y) k ≡ true) (joined before)
      below_of [] block behind a l p = tt
      below_of (b ∷ bs) [] behind a l p = absurd (omega arith)
      below_of (b ∷ bs) (x ∷ xs) behind a l p = ends_below (joined (b ∷ bs)) x (xs ++ joined behind) a (p (omega arith))

      above_at : (m : ℕ) (block : List X) (behind : List (List X)) → Ascending key (block ++ joined behind) → (m ≡ 0 → begins_behind key k block ≡ true) → ((c : List X) (cs : List (List X)) → 0 < m → behind ≡ c ∷ cs → begins_behind key k c ≡ true) → AllByRecursion (λ y. is_before k (key y) ≡ true) (joined behind)
      above_at zero block behind a f g = all_back (λ y. is_before k (key y) ≡ true) block (joined behind) (starts_above block (joined behind) a (f refl))
      above_at (suc m) block [] a f g = tt
      above_at (suc m) block (c ∷ cs) a f g = starts_above c (joined cs) (ascending_back block (c ++ joined cs) a) (g c cs (omega arith) refl)

      -- ---- the cut

      at_seam : (blocks before : List (List X)) (block : List X) (behind : List (List X)) (d : List X) → blocks ≡ before ++ block ∷ behind → get_or blocks (length before) d ≡ block
      at_seam blocks before block behind d e = ap (λ l. get_or l (length before) d) e ∙ get_or-append_seam before block behind d

      past_seam : (before : List (List X)) (block c : List X) (cs : List (List X)) (d : List X) → get_or (before ++ block ∷ c ∷ cs) (suc (length before)) d ≡ c
      past_seam [] block c cs d = refl
      past_seam (b ∷ bs) block c cs d = past_seam bs block c cs d

      length_parts : (before : List (List X)) (block : List X) (behind : List (List X)) → length (before ++ block ∷ behind) ≡ length before + 1 + length behind
      length_parts [] block behind = omega arith
      length_parts (b ∷ bs) block behind = let r = length_parts bs block behind in omega arith

      pub cut_some : (blocks before : List (List X)) (block : List X) (behind : List (List X)) (n : ℕ) → IsBlockRank key k blocks n → blocks ≡ before ++ block ∷ behind → length before ≡ n - 1 → Ascending key (joined blocks) → AllByRecursion IsBlock blocks → IsCut key k blocks before block behind
      cut_some blocks before block behind n p e l a f =
          let whole : joined blocks ≡ joined before ++ (block ++ joined behind) = ap joined e ∙ joined-append before (block ∷ behind) in
          let rows : Ascending key (joined before ++ (block ++ joined behind)) = subst (Ascending key) whole a in
          let filled : AllByRecursion IsBlock (before ++ block ∷ behind) = subst (AllByRecursion IsBlock) e f in
          let others : AllByRecursion IsBlock (block ∷ behind) = all_back IsBlock before (block ∷ behind) filled in
          let size : length blocks ≡ length before + 1 + length behind = ap length e ∙ length_parts before block behind in
          let first_place : n ≡ 0 → begins_behind key k block ≡ true = λ z.
          let here : length before ≡ n = omega arith in
          sym (ap (begins_behind key k) (ap (λ m. get_or blocks m block) (sym here) ∙ at_seam blocks before block behind block e)) ∙ p.behind (omega arith) block in
          let later : (c : List X) (cs : List (List X)) → 0 < n → behind ≡ c ∷ cs → begins_behind key k c ≡ true = λ c cs some q.
          let more : length behind ≡ suc (length cs) = ap length q in
          let there : n ≡ suc (length before) = omega arith in
          sym (ap (begins_behind key k) (ap (λ m. get_or blocks m block) there ∙ (ap (λ l. get_or l (suc (length before)) block) (e ∙ ap (λ l. before ++ block ∷ l) q) ∙ past_seam before block c cs block))) ∙ p.behind (omega arith) block in
          record {
            whole = whole;
            below = below_of before block behind rows others.0.0 (λ some.
                let here : n - 1 ≡ length before = sym l in
                sym (ap (begins_behind key k) (ap (λ m. get_or blocks m block) here ∙ at_seam blocks before block behind block e)) ∙ p.before (omega arith) block);
            above = above_at n block behind (ascending_back (joined before) (block ++ joined behind) rows) first_place later;
            filled_before = all_front IsBlock before (block ∷ behind) filled;
            filled_behind = others.1;
            size = others.0.1;
          }

      pub cut_none : (blocks before : List (List X)) (behind : List (List X)) (n : ℕ) → IsBlockRank key k blocks n → blocks ≡ before ++ behind → length before ≡ n - 1 → length behind ≡ 0 → IsCut key k blocks before [] behind
      cut_none blocks before behind n p e l z =
          let inside = p.inside in
          let size : length blocks ≡ length before + length behind = ap length e ∙ length-append before behind in
          let none_before : before ≡ [] = nil_from_length before (omega arith) in
          let none_behind : behind ≡ [] = nil_from_length behind z in
          record {
            whole = ap joined e ∙ joined-append before behind;
            below = subst (λ l. AllByRecursion (λ x. is_before (key x) k ≡ true) (joined l)) (sym none_before) tt;
            above = subst (λ l. AllByRecursion (λ x. is_before k (key x) ≡ true) (joined l)) (sym none_behind) tt;
            filled_before = subst (AllByRecursion IsBlock) (sym none_before) tt;
            filled_behind = subst (AllByRecursion IsBlock) (sym none_behind) tt;
            size = omega arith;
          }

      -- ---- the row of the key, and a change at the key

      not_same : (x : Bytes) → is_before x k ≡ true → bytes_eq x k ≡ false
      not_same x h = ⊎_elim (λ t. absurd (before-irrefl k (subst (λ z. is_before z k ≡ true) (text_is x k t) h))) (λ f. f) (cases_Bool (bytes_eq x k))

      not_same_above : (x : Bytes) → is_before k x ≡ true → bytes_eq x k ≡ false
      not_same_above x h = ⊎_elim (λ t. absurd (before-irrefl k (subst (λ z. is_before k z ≡ true) (text_is x k t) h))) (λ f. f) (cases_Bool (bytes_eq x k))

      module _ (blocks before : List (List X)) (rows : List X) (behind : List (List X)) (c : IsCut key k blocks before rows behind) where
        pub row_in_cut : first (filter (λ x. bytes_eq (key x) k) rows) ≡ first (filter (λ x. bytes_eq (key x) k) (joined blocks))
        row_in_cut =
            let p : X → Bool = λ x. bytes_eq (key x) k in
            let low : filter p (joined before) ≡ [] = none_pass p (joined before) (all_with (λ x. is_before (key x) k ≡ true) (λ x. p x ≡ false) (λ x h. not_same (key x) h) (joined before) c.below) in
            let high : filter p (joined behind) ≡ [] = none_pass p (joined behind) (all_with (λ x. is_before k (key x) ≡ true) (λ x. p x ≡ false) (λ x h. not_same_above (key x) h) (joined behind) c.above) in
            sym (ap (λ l. first (filter p l)) c.whole
            ∙ (ap first (filter-append p (joined before) (rows ++ joined behind))
            ∙ (ap (λ l. first (l ++ filter p (rows ++ joined behind))) low
            ∙ (ap first (filter-append p rows (joined behind))
            ∙ (ap (λ l. first (filter p rows ++ l)) high ∙ ap first (append-nil (filter p rows)))))))

        pub change_in_cut : (new : Option X) → with_row key k new (joined blocks) ≡ joined before ++ (with_row key k new rows ++ joined behind)
        unfolding with_row
        change_in_cut new =
            let lower : X → Bool = λ x. is_before (key x) k in
            let upper : X → Bool = λ x. is_before k (key x) in
            let all_lower : filter lower (joined before) ≡ joined before = all_pass lower (joined before) c.below in
            let none_upper : filter upper (joined before) ≡ [] = none_pass upper (joined before) (all_with (λ x. lower x ≡ true) (λ x. upper x ≡ false) (λ x h. not_before (key x) k h) (joined before) c.below) in
            let all_upper : filter upper (joined behind) ≡ joined behind = all_pass upper (joined behind) c.above in
            let none_lower : filter lower (joined behind) ≡ [] = none_pass lower (joined behind) (all_with (λ x. upper x ≡ true) (λ x. lower x ≡ false) (λ x h. not_before k (key x) h) (joined behind) c.above) in
            let low : filter lower (joined blocks) ≡ joined before ++ filter lower rows =
            ap (filter lower) c.whole
            ∙ (filter-append lower (joined before) (rows ++ joined behind)
            ∙ (ap (λ l. l ++ filter lower (rows ++ joined behind)) all_lower
            ∙ (ap (λ l. joined before ++ l) (filter-append lower rows (joined behind))
            ∙ (ap (λ l. joined before ++ (filter lower rows ++ l)) none_lower ∙ ap (λ l. joined before ++ l) (append-nil (filter lower rows)))))) in
            let high : filter upper (joined blocks) ≡ filter upper rows ++ joined behind =
            ap (filter upper) c.whole
            ∙ (filter-append upper (joined before) (rows ++ joined behind)
            ∙ (ap (λ l. l ++ filter upper (rows ++ joined behind)) none_upper
            ∙ (filter-append upper rows (joined behind) ∙ ap (λ l. filter upper rows ++ l) all_upper))) in
            ap (λ l. l ++ (option_to_list new ++ filter upper (joined blocks))) low
            ∙ (ap (λ l. (joined before ++ filter lower rows) ++ (option_to_list new ++ l)) high
            ∙ regrouped (joined before) (filter lower rows) (option_to_list new) (filter upper rows) (joined behind))

        pub rows_ascend : Ascending key (joined blocks) → Ascending key rows
        rows_ascend a = ascending_front rows (joined behind) (ascending_back (joined before) (rows ++ joined behind) (subst (Ascending key) c.whole a))

-- ---- appended blocks

module _ {X : Type 0} where
  pub one_more : (out new : List (List X)) (rows : List X) → new ≡ out ++ rows ∷ [] → joined new ≡ joined out ++ rows
  one_more out new rows e = ap joined e ∙ (joined-append out (rows ∷ []) ∙ ap (λ l. joined out ++ l) (append-nil rows))

  pub two_more : (n : ℕ) (out middle new : List (List X)) (front back rows : List X) → front ≡ take n rows → back ≡ drop n rows → middle ≡ out ++ front ∷ [] → new ≡ middle ++ back ∷ [] → joined new ≡ joined out ++ rows
  two_more n out middle new front back rows f b m e =
      one_more middle new back e
      ∙ (ap (λ l. l ++ back) (one_more out middle front m)
      ∙ (append_assoc (joined out) front back
      ∙ ap (λ l. joined out ++ l) (ap (λ l. l ++ back) f ∙ (ap (λ l. take n rows ++ l) b ∙ take-append-drop n rows))))

  -- two blocks appended one after the other
  pub two_blocks : (n : ℕ) (out middle new : List (List X)) (front back rows : List X) → front ≡ take n rows → back ≡ drop n rows → middle ≡ out ++ front ∷ [] → new ≡ middle ++ back ∷ [] → new ≡ out ++ take n rows ∷ drop n rows ∷ []
  two_blocks n out middle new front back rows f b m e = e ∙ (ap (λ l. l ++ back ∷ []) m ∙ (append_assoc out (front ∷ []) (back ∷ []) ∙ (λ i. out ++ f i ∷ b i ∷ [])))

  pub mended_is : (none before first second third behind : List (List X)) (rows : List X) → none ≡ [] → first ≡ none ++ before → joined second ≡ joined first ++ rows → third ≡ second ++ behind → joined third ≡ joined before ++ (rows ++ joined behind)
  mended_is none before first second third behind rows n f s t =
      ap joined t
      ∙ (joined-append second behind
      ∙ (ap (λ l. l ++ joined behind) (s ∙ ap (λ l. joined l ++ rows) (f ∙ ap (λ l. l ++ before) n))
      ∙ append_assoc (joined before) rows (joined behind)))

-- ---- the first row that a search finds, block by block

module _ {X : Type 0} where
  first_of_front : (xs ys : List X) (x : X) → Some x ≡ first xs → Some x ≡ first (xs ++ ys)
  first_of_front [] ys x h = cc
  first_of_front (z ∷ zs) ys x h = h

  first_of_back : (xs ys : List X) → None ≡ first xs → first ys ≡ first (xs ++ ys)
  first_of_back [] ys h = refl
  first_of_back (z ∷ zs) ys h = cc

  pub joined_more : (blocks : List (List X)) (i : ℕ) (b : List X) → i < length blocks → b ≡ get_or blocks i b → joined (drop i blocks) ≡ b ++ joined (drop (i + 1) blocks)
  joined_more blocks i b l e = at_drop_more joined blocks i b l ∙ ap (λ y. y ++ joined (drop (i + 1) blocks)) (sym e)

  module _ (search : List X → List X) (parts : (xs ys : List X) → search (xs ++ ys) ≡ search xs ++ search ys) (blocks : List (List X)) (i : ℕ) (b : List X) (l : i < length blocks) (e : b ≡ get_or blocks i b) where
    pub block_first : search (joined (drop i blocks)) ≡ search b ++ search (joined (drop (i + 1) blocks))
    block_first = ap search (joined_more blocks i b l e) ∙ parts b (joined (drop (i + 1) blocks))

    pub found_here : (x : X) → Some x ≡ first (search b) → Some x ≡ first (search (joined (drop i blocks)))
    found_here x h = first_of_front (search b) (search (joined (drop (i + 1) blocks))) x h ∙ ap first (sym block_first)

    pub not_here : None ≡ first (search b) → first (search (joined (drop (i + 1) blocks))) ≡ first (search (joined (drop i blocks)))
    not_here h = first_of_back (search b) (search (joined (drop (i + 1) blocks))) h ∙ ap first (sym block_first)
