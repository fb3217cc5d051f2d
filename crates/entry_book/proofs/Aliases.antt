-- In a lawful book, the agent itself holds each of its authorised aliases: no identity and no agent has the server's ID.
use Rattle.std.proofs.Common.{◌≡◌, ◌≢◌, ℕ, ◌+◌, Bool, true, false, not, cond, ◌++◌, length, drop, Option, Some, None, refl, sym, ap, ◌∙◌, ⊎_elim}
use Rattle.std.specs.Prelude.{bytes_eq, nat_lt}
use Rattle.std.proofs.Math.Seq.{drop-append-add, drop-append_seam}
use Rattle.std.proofs.lemmas.Bool.{both_ways}
use Rattle.spiffe_name.specs.Id.{prefix, domain_of, path_of, server_text}
use Rattle.entry_book.specs.declared.agent.Agent.{Agent}
use Rattle.entry_book.specs.declared.fault.OpFault.{OpFault}
use Rattle.entry_book.specs.declared.fault.OpFault.TheVariants.{ForeignId, Selectors, AgentPath}
use Rattle.entry_book.specs.Rows.{Bytes, Entry, given_of}
use Rattle.entry_book.specs.Order.{Within}
use Rattle.entry_book.specs.Book.{Book}
use Rattle.entry_book.specs.Authorised.{authorised, Holds}
use Rattle.entry_book.specs.Batches.{agent_fault, is_foreign, is_agent_path}
use Rattle.entry_book.specs.Lawful.{Lawful}
use Rattle.entry_book.proofs.Chains.{reached_by}
use Rattle.entry_book.proofs.Faultless.{not_the_server}
use Rattle.entry_book.proofs.Ids.{not_false}
use Rattle.entry_book.proofs.Sets.{text_is}
use Rattle.entry_book.proofs.Servers.{server_path}

-- ---- an agent's ID isn't the server's

-- the table, with the results of its tests
abbrev lines : Bool → Bool → Bool → Option OpFault
lines foreign many agents = cond foreign (Some ForeignId) (cond many (Some Selectors) (cond (not agents) (Some AgentPath) None))

lines_pass : (foreign many agents : Bool) → lines foreign many agents ≡ None → (foreign ≡ false) × (agents ≡ true)
lines_pass true many agents h = cc
lines_pass false true agents h = cc
lines_pass false false true h = (refl, refl)
lines_pass false false false h = cc

no_lines : (own_domain : Bytes) (a : Agent) → agent_fault own_domain a ≡ lines (is_foreign own_domain a.id) (nat_lt 64 (length a.selectors)) (is_agent_path (path_of a.id))
unfolding agent_fault
no_lines own_domain a = refl

-- its domain is the book's, and its path an agent's
pub of_agent : (own_domain : Bytes) (a : Agent) → agent_fault own_domain a ≡ None → (domain_of a.id ≡ own_domain) × (is_agent_path (path_of a.id) ≡ true)
of_agent own_domain a h =
    let k = lines_pass _ _ _ (sym (no_lines own_domain a) ∙ h) in
    (text_is (domain_of a.id) own_domain (not_false (bytes_eq (domain_of a.id) own_domain) k.0), k.1)

behind : (own_domain : Bytes) → drop (length prefix + length own_domain) (server_text own_domain) ≡ server_path
behind own_domain = drop-append-add prefix (own_domain ++ server_path) (length own_domain) ∙ drop-append_seam own_domain server_path

pub agent_not_server : (own_domain : Bytes) (a : Agent) → agent_fault own_domain a ≡ None → a.id ≢ server_text own_domain
agent_not_server own_domain a h q =
    let k = of_agent own_domain a h in
    let path : path_of a.id ≡ server_path = ap (λ d. drop (length prefix + length d) a.id) k.0 ∙ (ap (drop (length prefix + length own_domain)) q ∙ behind own_domain) in
    both_ways (is_agent_path server_path) refl (sym (ap is_agent_path path) ∙ k.1)

-- ---- an authorised alias

pub alias_is_held : (own_domain : Bytes) (most : ℕ) (a : Agent) (b : Book) (e : Entry) → Lawful own_domain most b → Within b.agents a → Within (authorised (server_text own_domain) a b) e → e.parent ≡ server_text own_domain → Holds (server_text own_domain) a e
alias_is_held own_domain most a b e l w v p = ⊎_elim
    (λ s. ⊎_elim (λ h. h) (λ q. absurd (agent_not_server own_domain a (l.no_agent_fault a w) (sym q ∙ p))) s)
    (λ r. absurd (not_the_server own_domain (given_of r.0) (l.no_fault r.0 r.1) (sym r.2 ∙ p)))
    (reached_by (server_text own_domain) a b e v)
