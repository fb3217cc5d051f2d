use Rattle.std.proofs.Common.{◌≡◌, ◌↔◌, ℕ, zero, suc, ◌<◌, List, [], ◌∷◌, length, get_or, inl, inr, ⊎_elim, arith}
use Rattle.std.specs.List.{Contains}
use Rattle.entry_book.specs.Rows.{Bytes, entry_key, agent_key, bundle_key}
use Rattle.entry_book.specs.Order.{Within, Ascending}
use Rattle.entry_book.proofs.Chains.{of_subset, subset_of}
use Rattle.entry_book.proofs.DomainSets.{is_domain_set}
use Rattle.entry_book.proofs.Sets.{same_sets}
use Rattle.entry_book.specs.Tokens.{token_key}
use Rattle.entry_book.proofs.laws.membership.Goals as goal

contains : (xs : List Bytes) (x : Bytes) → Within xs x → Contains xs x
contains [] x w = absurd w
contains (y ∷ ys) x w = ⊎_elim (λ e. (0, omega arith, e)) (λ v. let r = contains ys x v in let l = r.1 in (suc r.0, omega arith, r.2)) w

within : (xs : List Bytes) (x : Bytes) (k : ℕ) → k < length xs → get_or xs k x ≡ x → Within xs x
within [] x k l e = absurd (omega arith)
within (y ∷ ys) x zero l e = inl e
within (y ∷ ys) x (suc k) l e = inr (within ys x k (omega arith) e)

pub returns-clause-contains : goal.returns-clause-contains
returns-clause-contains c = λ xs x. (contains xs x, λ h. within xs x h.0 h.1 h.2)

one_list : {X : Type 0} (key : X → Bytes) (xs ys : List X) → Ascending key xs → Ascending key ys → ((x : X) → Within xs x ↔ Within ys x) → xs ≡ ys
one_list key xs ys a b f = same_sets key xs ys a b (λ x. (f x).0) (λ x. (f x).1)

pub returns-clause-entries : goal.returns-clause-entries
returns-clause-entries c = one_list entry_key

pub returns-clause-agents : goal.returns-clause-agents
returns-clause-agents c = one_list agent_key

pub returns-clause-bundles : goal.returns-clause-bundles
returns-clause-bundles c = one_list bundle_key

pub returns-clause-tokens : goal.returns-clause-tokens
returns-clause-tokens c = one_list token_key

pub returns-clause-domains : goal.returns-clause-domains
returns-clause-domains c = is_domain_set

pub returns-clause-selectors : goal.returns-clause-selectors
returns-clause-selectors c = λ a b. (subset_of a b, of_subset a b)
