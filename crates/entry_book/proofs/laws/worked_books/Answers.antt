use Rattle.std.proofs.Common.{◌≡◌, false, [], ◌∷◌, refl, sym, ap, subst, ◌∙◌, inl, inr, ⊎_elim}
use Rattle.std.specs.Prelude.{bytes_eq, codes}
use Rattle.std.proofs.lemmas.Bool.{both_ways}
use Rattle.entry_book.specs.declared.agent.Agent.{Agent}
use Rattle.entry_book.specs.Rows.{Bytes, Entry}
use Rattle.entry_book.specs.Order.{Within}
use Rattle.entry_book.specs.Authorised.{authorised, EndsChain}
use Rattle.entry_book.specs.Visible.{MaySee, ShowsSame, ShowsSameBundles}
use Rattle.entry_book.specs.Worked.{server, id_of, agent_id, cycle, stranger, plain_agent, other_agent, cycle_book, larger_book}
use Rattle.entry_book.proofs.Chains.{ends_of_chains}
use Rattle.entry_book.proofs.Listed.{one_is}
use Rattle.entry_book.proofs.Sets.{from_within_append, text_same, within_left}
use Rattle.entry_book.proofs.laws.worked_books.Goals as goal

pub returns-clause-cycle : goal.returns-clause-cycle
unfolding authorised
returns-clause-cycle c = refl

pub returns-clause-held : goal.returns-clause-held
unfolding authorised
returns-clause-held c = refl

pub returns-clause-held_with_more : goal.returns-clause-held_with_more
unfolding authorised
returns-clause-held_with_more c = refl

pub returns-clause-not_held : goal.returns-clause-not_held
unfolding authorised
returns-clause-not_held c = refl

pub returns-clause-not_held_with_none : goal.returns-clause-not_held_with_none
unfolding authorised
returns-clause-not_held_with_none c = refl

pub returns-clause-of_another : goal.returns-clause-of_another
unfolding authorised
returns-clause-of_another c = refl

-- ---- two books that show an agent the same rows

other_text : (x y : Bytes) → bytes_eq x y ≡ false → x ≡ y → ⊥
other_text x y h e = both_ways (bytes_eq x y) h (text_same x y e)

-- an identity of the cycle isn't the stranger's parent
not_parent : (d : Entry) → Within cycle d → stranger.parent ≡ d.identity → ⊥
not_parent d (inl e) q = other_text stranger.parent (id_of (codes "/A")) refl (q ∙ sym (ap (λ x. x.identity) e))
not_parent d (inr (inl e)) q = other_text stranger.parent (id_of (codes "/B")) refl (q ∙ sym (ap (λ x. x.identity) e))
not_parent d (inr (inr (inl e))) q = other_text stranger.parent (id_of (codes "/A")) refl (q ∙ sym (ap (λ x. x.identity) e))
not_parent d (inr (inr (inr n))) q = absurd n

cycle_ends : authorised server plain_agent cycle_book ≡ cycle
unfolding authorised
cycle_ends = refl

not_seen : (a : Agent) → plain_agent ≡ a → MaySee server a cycle_book stranger → ⊥
not_seen a e m = ⊎_elim
    (λ h. other_text stranger.parent server refl h.is_alias)
    (λ r. ⊎_elim
    (λ q. other_text stranger.parent agent_id refl (q ∙ sym (ap (λ x. x.id) e)))
    (λ l. not_parent l.0 (subst (λ es. Within es l.0) cycle_ends ((ends_of_chains server plain_agent cycle_book l.0).1 (subst (λ x. EndsChain server x cycle_book l.0) (sym e) l.1))) l.2)
    r)
    m

only_agent : (a : Agent) → Within cycle_book.agents a → plain_agent ≡ a
only_agent a w = ⊎_elim (λ e. e) (λ n. absurd n) w

larger_shows_same : ShowsSame server agent_id cycle_book larger_book × ShowsSameBundles server agent_id cycle_book larger_book
larger_shows_same = (
  record {
    agent = λ x i. (
      λ w. ⊎_elim (λ e. inl e) (λ n. absurd n) w,
      λ w. ⊎_elim (λ e. inl e) (λ v. ⊎_elim (λ e. absurd (other_text other_agent.id agent_id refl (ap (λ y. y.id) e ∙ i))) (λ n. absurd n) v) w,
    );
    entries = λ x i. (
      λ w. within_left cycle (stranger ∷ []) x w,
      λ w. ⊎_elim (λ v. v) (λ v. absurd (not_seen i.0 (only_agent i.0 i.1) (subst (MaySee server i.0 cycle_book) (one_is stranger x v) i.3))) (from_within_append cycle (stranger ∷ []) x w),
    );
  },
  λ x i. (λ w. w, λ w. w),
)

pub returns-clause-shows_same : goal.returns-clause-shows_same
returns-clause-shows_same c = larger_shows_same
