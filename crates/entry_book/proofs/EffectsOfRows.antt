-- The effects of prune, set_agent, drop_agent and set_bundle.
use Rattle.std.proofs.Common.{◌≡◌, ◌↔◌, ℕ, true, Option, Some, None, refl, sym, subst}
use Rattle.std.specs.Prelude.{MatchResult, nat_lt}
use Rattle.std.proofs.lemmas.Bool.{and_parts, and_from, ltb-true, lt-ltb}
use Rattle.entry_book.specs.declared.agent.Agent.{Agent}
use Rattle.entry_book.specs.declared.bundle.Bundle.{Bundle}
use Rattle.entry_book.specs.declared.op.Op.TheVariants.{Prune, SetAgent, DropAgent, SetBundle}
use Rattle.entry_book.specs.Rows.{Bytes, Entry, entry_key, agent_key, bundle_key}
use Rattle.entry_book.specs.Order.{Within}
use Rattle.entry_book.specs.Book.{Book, AscendingBook, bundle_at, expires_before, expired_before}
use Rattle.entry_book.specs.Ops.{next_sequence, agent_dropped, op_of}
use Rattle.entry_book.specs.Effects.{EntriesBecome, LacksAgent, IsExpired, Prunes, SetsAgent, DropsAgent, IsNextSequence, SetsBundle}
use Rattle.entry_book.proofs.Changed.{after_removed}
use Rattle.entry_book.proofs.EffectsOfQuestions.{agent_effect}
use Rattle.entry_book.proofs.Listed.{row_found, listed_filter, listed_others, listed_put, listed_gone}

-- ---- prune

expires : (moment : ℕ) (x : Entry) → (expires_before moment x ≡ true) ↔ IsExpired moment x
expires moment x = (
  λ h. let r = and_parts (nat_lt 0 x.expiry) (nat_lt x.expiry moment) h in (ltb-true 0 x.expiry r.0, ltb-true x.expiry moment r.1),
  λ v. and_from (nat_lt 0 x.expiry) (nat_lt x.expiry moment) (lt-ltb 0 x.expiry v.0) (lt-ltb x.expiry moment v.1),
)

pub prune_effect : (own_domain : Bytes) (moment : ℕ) (b : Book) → AscendingBook b → MatchResult (op_of own_domain (Prune moment) b) (Prunes moment b) (λ refusal. ⊥)
prune_effect own_domain moment b s = record {
  expired = expired_before moment b;
  are_expired = listed_filter entry_key (expires_before moment) (IsExpired moment) b.entries (expires moment) s.entries;
  reply = refl;
  after_it = subst (λ c. EntriesBecome b c (λ x. Within b.entries x × (IsExpired moment x → ⊥))) (sym (after_removed (expires_before moment) b s)) (record {
    listed = listed_others entry_key (expires_before moment) (IsExpired moment) b.entries (expires moment) s.entries;
    others = refl;
  });
}

-- ---- set_agent and drop_agent

pub set_agent_effect : (own_domain : Bytes) (a : Agent) (b : Book) → AscendingBook b → MatchResult (op_of own_domain (SetAgent a) b) (SetsAgent a b) (λ refusal. ⊥)
set_agent_effect own_domain a b s = record { reply = refl; after_it = record { listed = listed_put agent_key a.id a b.agents refl s.agents; others = refl } }

pub drop_agent_effect : (own_domain : Bytes) (k : Bytes) (b : Book) → AscendingBook b → MatchResult (op_of own_domain (DropAgent k) b) (DropsAgent k b) (LacksAgent k b)
drop_agent_effect own_domain k b s = agent_effect k b agent_dropped (DropsAgent k b) (λ a w q. record {
  old = a;
  found = (w, q);
  reply = refl;
  after_it = record { listed = rw q (listed_gone agent_key k b.agents s.agents); others = refl };
})

-- ---- set_bundle

next : (old : Option Bundle) → IsNextSequence old (next_sequence old)
next None = refl
next (Some d) = refl

pub set_bundle_effect : (own_domain : Bytes) (domain text : Bytes) (b : Book) → AscendingBook b → MatchResult (op_of own_domain (SetBundle domain text) b) (SetsBundle domain text b) (λ refusal. ⊥)
set_bundle_effect own_domain domain text b s =
    let new : Bundle = record { domain = domain; text = text; sequence = next_sequence (bundle_at domain b) } in
    record {
      old = bundle_at domain b;
      found = row_found bundle_key domain b.bundles (bundle_at domain b) refl;
      new = new;
      domain_is = refl;
      text_is = refl;
      sequence = next (bundle_at domain b);
      reply = refl;
      after_it = record { listed = listed_put bundle_key domain new b.bundles refl s.bundles; others = refl };
    }
