-- How the sets of a walk relate to what was read: the identities met, the pending ones, and the entries found.
use Rattle.std.proofs.Common.{◌≡◌, true, false, not, ◌⊎◌, List, [], ◌∷◌, ◌++◌, Some, map, refl, sym, ap, subst, ◌∙◌, inl, inr, ⊎_elim}
use Rattle.std.specs.Prelude.{bytes_eq}
use Rattle.std.proofs.lemmas.Bool.{both_ways, not-true, not_from_false}
use Rattle.std.proofs.lemmas.List.{append_assoc, append-nil}
use Rattle.entry_book.specs.declared.agent.Agent.{Agent}
use Rattle.entry_book.specs.Rows.{Bytes, Entry, entry_key}
use Rattle.entry_book.specs.Order.{Within, Ascending, is_before, with_row}
use Rattle.entry_book.proofs.InOrder.{ascending-with_row}
use Rattle.entry_book.proofs.Keys.{same_key, from_with_row, within_with_row, new_with_row}
use Rattle.entry_book.proofs.Sets.{All-within, before-irrefl, from_within_filter, within_filter, from_within_append, within_left, within_right, same_sets, text_is, text_same}
use Rattle.batch_work.specs.Reads.{is_one_of, unread}
use Rattle.batch_work.specs.WalkStates.{WalkState, first_walk, with_text, met_when, with_found, walked}
use Rattle.batch_work.proofs.TextSets.{text_set-ascending, from_text_set, within_text_set, into_text, new_text, from_text, text-ascending, one_of, from_one_of, not_one_of, within_map, from_within_map}

-- an entry of the list has the identity
abbrev pub HasIdentity : List Entry → Bytes → Type 0
HasIdentity es x = (e : Entry) × Within es e × (e.identity ≡ x)

has_more : (es : List Entry) (f : Entry) (x : Bytes) → HasIdentity es x → HasIdentity (es ++ f ∷ []) x
has_more es f x h = (h.0, within_left es _ h.0 h.1, h.2)

has_new : (es : List Entry) (f : Entry) → HasIdentity (es ++ f ∷ []) f.identity
has_new es f = (f, within_right es _ f (inl refl), refl)

one_of_more : (es : List Entry) (f e : Entry) → Within (es ++ f ∷ []) e → Within es e ⊎ (f ≡ e)
one_of_more es f e w = ⊎_elim (λ v. inl v) (λ v. ⊎_elim (λ q. inr q) (λ n. absurd n) v) (from_within_append es _ e w)

module _ (a : Agent) where
  -- These identities were read, and these entries were found.
  pub record Reached (rs : List Bytes) (es : List Entry) (w : WalkState) : Type 0 where
    pub agent_is : w.agent ≡ a
    pub pending_order : Ascending (λ t. t) w.pending
    pub found_order : Ascending entry_key w.found
    pub from_met : (x : Bytes) → Within w.met x → Within (a.id ∷ rs) x ⊎ HasIdentity es x
    pub read_met : (x : Bytes) → Within (a.id ∷ rs) x → Within w.met x
    pub found_met : (e : Entry) → Within es e → Within w.met e.identity
    pub from_waiting : (x : Bytes) → Within w.pending x → HasIdentity es x × (Within (a.id ∷ rs) x → ⊥)
    pub found_waits : (e : Entry) → Within es e → (Within (a.id ∷ rs) e.identity → ⊥) → Within w.pending e.identity
    pub from_found : (e : Entry) → Within w.found e → Within es e
    pub into_found : (e : Entry) → Within es e → Within w.found e

  pub reached_first : Reached [] [] (first_walk a)
  reached_first = record {
    agent_is = refl;
    pending_order = tt;
    found_order = tt;
    from_met = λ x w. inl w;
    read_met = λ x w. w;
    found_met = λ e w. absurd w;
    from_waiting = λ x w. absurd w;
    found_waits = λ e w n. absurd w;
    from_found = λ e w. w;
    into_found = λ e w. w;
  }

  module _ (rows : List Entry) (rows_order : Ascending entry_key rows) where
    module _ (rs : List Bytes) (es : List Entry) (w : WalkState) (f : Entry) (r : Reached rs es w) (inside : (e : Entry) → Within es e → Within rows e) (here : Within rows f) where
      abbrev set : List Entry
      set = with_row entry_key f.id (Some f) w.found

      set_order : Ascending entry_key set
      set_order = ascending-with_row entry_key f.id (Some f) w.found r.found_order refl

      from_set : (e : Entry) → Within set e → Within (es ++ f ∷ []) e
      from_set e v = ⊎_elim
          (λ n. within_right es _ e (⊎_elim (λ q. inl q) (λ x. absurd x) n))
          (λ o. within_left es _ e (r.from_found e o.0))
          (from_with_row entry_key f.id (Some f) w.found e v)

      into_set : (e : Entry) → Within (es ++ f ∷ []) e → Within set e
      into_set e v =
          let new : Within set f = new_with_row entry_key f.id f w.found in
          ⊎_elim
          (λ o. elim (bytes_eq e.id f.id) as (λ t. bytes_eq e.id f.id ≡ t → Within set e) [
            | true ↦ λ q. subst (Within set) (same_key entry_key rows rows_order f e here (inside e o) (sym (text_is e.id f.id q))) new
            | false ↦ λ q. within_with_row entry_key f.id (Some f) w.found e (r.into_found e o) (λ i. both_ways _ q (text_same e.id f.id i))
          ] refl)
          (λ q. subst (Within set) q new)
          (one_of_more es f e v)

      -- its identity was met before
      old_identity : Within w.met f.identity → Reached rs (es ++ f ∷ []) (record w { found = set })
      old_identity m = record {
        agent_is = r.agent_is;
        pending_order = r.pending_order;
        found_order = set_order;
        from_met = λ x v. ⊎_elim (λ k. inl k) (λ h. inr (has_more es f x h)) (r.from_met x v);
        read_met = r.read_met;
        found_met = λ e v. ⊎_elim (λ o. r.found_met e o) (λ q. subst (λ g. Within w.met g.identity) q m) (one_of_more es f e v);
        from_waiting = λ x v. let h = r.from_waiting x v in (has_more es f x h.0, h.1);
        found_waits = λ e v n. ⊎_elim
            (λ o. r.found_waits e o n)
            (λ q. ⊎_elim
            (λ k. absurd (n (subst (λ g. Within (a.id ∷ rs) g.identity) q k)))
            (λ h. subst (Within w.pending) (h.2 ∙ ap (λ g. g.identity) q) (r.found_waits h.0 h.1 (λ k. n (subst (Within (a.id ∷ rs)) (h.2 ∙ ap (λ g. g.identity) q) k))))
            (r.from_met f.identity m))
            (one_of_more es f e v);
        from_found = from_set;
        into_found = into_set;
      }

      -- it is met now
      new_identity : (Within w.met f.identity → ⊥) → Reached rs (es ++ f ∷ []) (record w { met = with_text f.identity w.met; pending = with_text f.identity w.pending; found = set })
      new_identity m = record {
        agent_is = r.agent_is;
        pending_order = text-ascending f.identity w.pending r.pending_order;
        found_order = set_order;
        from_met = λ x v. ⊎_elim (λ q. inr (subst (HasIdentity (es ++ f ∷ [])) q (has_new es f))) (λ o. ⊎_elim (λ k. inl k) (λ h. inr (has_more es f x h)) (r.from_met x o)) (from_text f.identity x w.met v);
        read_met = λ x v. into_text f.identity x w.met (r.read_met x v);
        found_met = λ e v. ⊎_elim (λ o. into_text f.identity e.identity w.met (r.found_met e o)) (λ q. subst (λ g. Within (with_text f.identity w.met) g.identity) q (new_text f.identity w.met)) (one_of_more es f e v);
        from_waiting = λ x v. ⊎_elim
            (λ q. (subst (HasIdentity (es ++ f ∷ [])) q (has_new es f), λ k. m (r.read_met f.identity (subst (Within (a.id ∷ rs)) (sym q) k))))
            (λ o. let h = r.from_waiting x o in (has_more es f x h.0, h.1))
            (from_text f.identity x w.pending v);
        found_waits = λ e v n. ⊎_elim
            (λ o. into_text f.identity e.identity w.pending (r.found_waits e o n))
            (λ q. subst (λ g. Within (with_text f.identity w.pending) g.identity) q (new_text f.identity w.pending))
            (one_of_more es f e v);
        from_found = from_set;
        into_found = into_set;
      }

      pub one_found : Reached rs (es ++ f ∷ []) (with_found f w)
      one_found = elim (is_one_of f.identity w.met) as (λ t. is_one_of f.identity w.met ≡ t → Reached rs (es ++ f ∷ []) (record w { met = met_when t f.identity w.met; pending = met_when t f.identity w.pending; found = set })) [
        | true ↦ λ q. old_identity (from_one_of f.identity w.met q)
        | false ↦ λ q. new_identity (λ k. both_ways _ q (one_of f.identity w.met k))
      ] refl

    pub all_found_in : (rs : List Bytes) (fs es : List Entry) (w : WalkState) → Reached rs es w → ((e : Entry) → Within es e → Within rows e) → ((e : Entry) → Within fs e → Within rows e) → Reached rs (es ++ fs) (walked fs w)
    all_found_in rs [] es w r inside here = subst (λ l. Reached rs l w) (sym (append-nil es)) r
    all_found_in rs (f ∷ fs) es w r inside here =
        subst (λ l. Reached rs l (walked fs (with_found f w))) (append_assoc es (f ∷ []) fs)
        (all_found_in rs fs (es ++ f ∷ []) (with_found f w) (one_found rs es w f r inside (here f (inl refl)))
        (λ e v. ⊎_elim (λ o. inside e o) (λ q. subst (Within rows) q (here f (inl refl))) (one_of_more es f e v))
        (λ e v. here e (inr v)))

  -- the pending identities are those that are unread
  pub waiting_is : (rs : List Bytes) (es : List Entry) (w : WalkState) → Reached rs es w → w.pending ≡ unread a rs es
  waiting_is rs es w r = same_sets (λ t. t) w.pending (unread a rs es) r.pending_order (text_set-ascending _)
      (λ x v. let h = r.from_waiting x v in within_text_set _ x (within_filter (λ i. not (is_one_of i (a.id ∷ rs))) (map (λ e. e.identity) es) x (subst (Within (map (λ e. e.identity) es)) (h.0).2 (within_map (λ e. e.identity) es (h.0).0 (h.0).1)) (not_from_false _ (not_one_of x (a.id ∷ rs) h.1))))
      (λ x v.
      let u = from_within_filter (λ i. not (is_one_of i (a.id ∷ rs))) (map (λ e. e.identity) es) x (from_text_set _ x v) in
      let e = from_within_map (λ e. e.identity) es x u.0 in
      subst (Within w.pending) e.2 (r.found_waits e.0 e.1 (λ k. both_ways _ (not-true _ u.1) (one_of x (a.id ∷ rs) (subst (Within (a.id ∷ rs)) e.2 k)))))

  -- the least of them is read
  pub one_read : (rs : List Bytes) (es : List Entry) (w : WalkState) (i : Bytes) (is : List Bytes) → Reached rs es w → w.pending ≡ i ∷ is → Reached (i ∷ rs) es (record w { pending = is })
  one_read rs es w i is r h =
      let order : Ascending (λ t. t) (i ∷ is) = subst (Ascending (λ t. t)) h r.pending_order in
      let first : HasIdentity es i × (Within (a.id ∷ rs) i → ⊥) = r.from_waiting i (subst (λ l. Within l i) (sym h) (inl refl)) in
      record {
        agent_is = r.agent_is;
        pending_order = order.1;
        found_order = r.found_order;
        from_met = λ x v. ⊎_elim (λ k. inl (⊎_elim (λ q. inl q) (λ o. inr (inr o)) k)) (λ n. inr n) (r.from_met x v);
        read_met = λ x v. ⊎_elim (λ q. r.read_met x (inl q)) (λ o. ⊎_elim (λ q. subst (Within w.met) ((first.0).2 ∙ q) (r.found_met (first.0).0 (first.0).1)) (λ k. r.read_met x (inr k)) o) v;
        found_met = r.found_met;
        from_waiting = λ x v. let k = r.from_waiting x (subst (λ l. Within l x) (sym h) (inr v)) in
            (k.0, λ z. ⊎_elim (λ q. k.1 (inl q)) (λ o. ⊎_elim (λ q. before-irrefl x (subst (λ t. is_before t x ≡ true) q (All-within (λ y. is_before i y ≡ true) is x order.0 v))) (λ u. k.1 (inr u)) o) z);
        found_waits = λ e v n. ⊎_elim
            (λ q. absurd (n (inr (inl q))))
            (λ o. o)
            (subst (λ l. Within l e.identity) h (r.found_waits e v (λ k. n (⊎_elim (λ q. inl q) (λ o. inr (inr o)) k))));
        from_found = r.from_found;
        into_found = r.into_found;
      }
