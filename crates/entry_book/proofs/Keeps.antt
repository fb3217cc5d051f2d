-- Each operation keeps a book lawful, and so does a batch.
use Rattle.std.proofs.Common.{◌≡◌, ℕ, ◌+◌, ◌≤◌, Bool, true, false, not, cond, List, [], ◌∷◌, ◌++◌, length, Option, Some, None, Ok, Err, refl, subst, inl, inr, IfSome, IfOk, arith}
use Rattle.std.specs.Prelude.{filter, map, bytes_eq, if◌then◌else◌}
use Rattle.std.specs.List.{AllByRecursion, list_any}
use Rattle.std.proofs.lemmas.Bool.{both_ways, not-true}
use Rattle.spiffe_name.specs.Domain.{IsDomain}
use Rattle.entry_book.specs.declared.agent.Agent.{Agent}
use Rattle.entry_book.specs.declared.bundle.Bundle.{Bundle}
use Rattle.entry_book.specs.declared.entry.NewEntry.{NewEntry}
use Rattle.entry_book.specs.declared.mode.DropMode.{DropMode}
use Rattle.entry_book.specs.declared.mode.DropMode.TheVariants as mode
use Rattle.entry_book.specs.declared.op.Op.{Op}
use Rattle.entry_book.specs.declared.op.Op.TheVariants.{Create, Update, Delete, Show, ShowAgent, ShowBundle, Children, Page, Authorised, Trust, Prune, SetAgent, DropAgent, SetBundle, DropBundle}
use Rattle.entry_book.specs.Rows.{Bytes, Entry, at_revision, given_of, entry_key, bundle_key, IsProperEntry}
use Rattle.entry_book.specs.Order.{Within}
use Rattle.entry_book.specs.Book.{Book, HasBundle, entry_at, agent_at, bundle_at, names, users_of, expires_before, expired_before}
use Rattle.entry_book.specs.Writes.{after}
use Rattle.entry_book.specs.Batches.{IsProperOp, bundle_fault, entry_fault, op_fault}
use Rattle.entry_book.specs.Ops.{OpEffect, OpResult, similar, lacking, put_named, put_unless_similar, create_over, is_stale, update_when, update_over, removed, delete_when, delete_over, for_agent, agent_dropped, next_sequence, bundle_set, bundle_removed, dissociated, freed, drop_in, drop_over, op_of}
use Rattle.entry_book.specs.Runs.{RunResult, onto, then_run, run}
use Rattle.entry_book.specs.Lawful.{Lawful}
use Rattle.entry_book.proofs.Changed.{after-append, after_freed_then, after_removed, after_removed_then, ascending_map, from_within_map}
use Rattle.entry_book.proofs.Faultless.{fewer_domains, not_its_own}
use Rattle.entry_book.proofs.Keys.{at_row}
use Rattle.entry_book.proofs.LawfulRows.{AreMilder, MayReplace, lawful_agent, lawful_bundle, lawful_entry, lawful_milder, same_milder, wider}
use Rattle.entry_book.proofs.Present.{not_similar, all_bundled}
use Rattle.entry_book.proofs.Sets.{All-from_within, All-within, ascending_filter, from_any, from_within_filter}

abbrev KeepsAnswer : Bytes → ℕ → OpResult → Book → Type 0
KeepsAnswer own_domain m o b = IfOk o (λ d. Lawful own_domain m (after d.writes b))

-- ---- create and update, of an entry at a revision within the bound

named_keeps : (own_domain : Bytes) (m : ℕ) (old : Option Entry) (e : Entry) (b : Book) → IsProperEntry (given_of e) → entry_fault own_domain (given_of e) ≡ None → e.revision ≤ m → Lawful own_domain m b → similar e b ≡ None → (q : Option Bytes) → lacking e.domains b ≡ q → KeepsAnswer own_domain m (put_named q old e) b
named_keeps own_domain m old e b p f r l s (Some d) h = tt
named_keeps own_domain m old e b p f r l s None h = lawful_entry own_domain m b l e.id old (Some e) (record { keyed = refl; apart = not_similar e b s; bundled = λ d w. All-within (HasBundle b) e.domains d (all_bundled e.domains b h) w; proper = p; no_fault = f; low = r })

unless_similar_keeps : (own_domain : Bytes) (m : ℕ) (old : Option Entry) (e : Entry) (b : Book) → IsProperEntry (given_of e) → entry_fault own_domain (given_of e) ≡ None → e.revision ≤ m → Lawful own_domain m b → (p : Option Entry) → similar e b ≡ p → KeepsAnswer own_domain m (put_unless_similar p old e b) b
unless_similar_keeps own_domain m old e b p f r l (Some o) h = tt
unless_similar_keeps own_domain m old e b p f r l None h = named_keeps own_domain m old e b p f r l h (lacking e.domains b) refl

create_keeps : (own_domain : Bytes) (m : ℕ) (e : Entry) (b : Book) → IsProperEntry (given_of e) → entry_fault own_domain (given_of e) ≡ None → e.revision ≤ m → Lawful own_domain m b → (o : Option Entry) → KeepsAnswer own_domain m (create_over o e b) b
create_keeps own_domain m e b p f r l (Some o) = tt
create_keeps own_domain m e b p f r l None = unless_similar_keeps own_domain m None e b p f r l (similar e b) refl

update_keeps_when : (own_domain : Bytes) (m : ℕ) (e : NewEntry) (old : Entry) (b : Book) → IsProperEntry e → entry_fault own_domain e ≡ None → old.revision ≤ m → Lawful own_domain m b → (stale : Bool) → KeepsAnswer own_domain (m + 1) (update_when stale old e b) b
update_keeps_when own_domain m e old b p f r l true = tt
update_keeps_when own_domain m e old b p f r l false = unless_similar_keeps own_domain (m + 1) (Some old) (at_revision (old.revision + 1) e) b p f (omega arith) (wider (m + 1) (omega arith) l) (similar (at_revision (old.revision + 1) e) b) refl

update_keeps : (own_domain : Bytes) (m : ℕ) (e : NewEntry) (expected : Option ℕ) (b : Book) → IsProperEntry e → entry_fault own_domain e ≡ None → Lawful own_domain m b → (o : Option Entry) → entry_at e.id b ≡ o → KeepsAnswer own_domain (m + 1) (update_over o e expected b) b
update_keeps own_domain m e expected b p f l None h = tt
update_keeps own_domain m e expected b p f l (Some old) h = update_keeps_when own_domain m e old b p f (l.revisions old (at_row entry_key e.id b.entries old h).0) l (is_stale expected old)

-- ---- delete and prune

delete_keeps_when : (own_domain : Bytes) (m : ℕ) (e : Entry) (b : Book) → Lawful own_domain m b → (stale : Bool) → KeepsAnswer own_domain m (delete_when stale e) b
delete_keeps_when own_domain m e b l true = tt
delete_keeps_when own_domain m e b l false = lawful_entry own_domain m b l e.id (Some e) None tt

delete_keeps : (own_domain : Bytes) (m : ℕ) (expected : Option ℕ) (b : Book) → Lawful own_domain m b → (o : Option Entry) → KeepsAnswer own_domain m (delete_over o expected) b
delete_keeps own_domain m expected b l None = tt
delete_keeps own_domain m expected b l (Some e) = delete_keeps_when own_domain m e b l (is_stale expected e)

-- the entries that don't pass
others_milder : (own_domain : Bytes) (m : ℕ) (b : Book) (p : Entry → Bool) → Lawful own_domain m b → AreMilder own_domain m b (filter (λ e. not (p e)) b.entries)
others_milder own_domain m b p l x w = let r = from_within_filter (λ e. not (p e)) b.entries x w in (x, r.0, same_milder own_domain m b l x r.0)

others_lawful : (own_domain : Bytes) (m : ℕ) (b : Book) (p : Entry → Bool) → Lawful own_domain m b → Lawful own_domain m (record b { entries = filter (λ e. not (p e)) b.entries })
others_lawful own_domain m b p l = lawful_milder own_domain m b (filter (λ e. not (p e)) b.entries) l (ascending_filter entry_key (λ e. not (p e)) b.entries l.ascending.entries) (others_milder own_domain m b p l)

prune_keeps : (own_domain : Bytes) (m moment : ℕ) (b : Book) → Lawful own_domain m b → Lawful own_domain m (after (map removed (expired_before moment b)) b)
prune_keeps own_domain m moment b l = rw (after_removed (expires_before moment) b l.ascending) (others_lawful own_domain m b (expires_before moment) l)

-- ---- queries of an agent, and an agent that is dropped

read_keeps : (own_domain : Bytes) (m : ℕ) (b : Book) (o : Option Agent) (f : Agent → OpResult) → ((a : Agent) → KeepsAnswer own_domain m (f a) b) → KeepsAnswer own_domain m (for_agent o f) b
read_keeps own_domain m b None f h = tt
read_keeps own_domain m b (Some a) f h = h a

-- ---- set_bundle

next_low : (m : ℕ) (old : Option Bundle) → IfSome old (λ d. d.sequence ≤ m) → next_sequence old ≤ m + 1
next_low m None h = omega arith
next_low m (Some old) h = omega arith

old_low : (own_domain : Bytes) (m : ℕ) (k : Bytes) (b : Book) → Lawful own_domain m b → (o : Option Bundle) → bundle_at k b ≡ o → IfSome o (λ d. d.sequence ≤ m)
old_low own_domain m k b l None h = tt
old_low own_domain m k b l (Some d) h = l.sequences d (at_row bundle_key k b.bundles d h).0

set_keeps : (own_domain : Bytes) (m : ℕ) (k text : Bytes) (b : Book) → IsDomain k → bundle_fault own_domain k text ≡ None → Lawful own_domain m b → (o : Option Bundle) → IfSome o (λ d. d.sequence ≤ m) → KeepsAnswer own_domain (m + 1) (bundle_set k text o) b
set_keeps own_domain m k text b p f l o h = lawful_bundle own_domain (m + 1) b (wider (m + 1) (omega arith) l) k o (Some (record { domain = k; text = text; sequence = next_sequence o })) (not_its_own own_domain k text f) (record { keyed = refl; proper = p; no_fault = f; low = next_low m o h }) (λ q. cc)

-- ---- drop_bundle

not_named : (d : Bytes) (xs : List Bytes) → list_any (λ x. bytes_eq x d) (filter (λ x. not (bytes_eq x d)) xs) ≡ false
not_named d xs = elim (list_any (λ x. bytes_eq x d) (filter (λ x. not (bytes_eq x d)) xs)) as (λ t. list_any (λ x. bytes_eq x d) (filter (λ x. not (bytes_eq x d)) xs) ≡ t → t ≡ false) [
  | true ↦ λ e. let r = from_any (λ x. bytes_eq x d) _ e in let k = from_within_filter (λ x. not (bytes_eq x d)) xs r.0 r.1 in absurd (both_ways _ (not-true _ k.1) r.2)
  | false ↦ λ e. refl
] refl

none_pass : {X : Type 0} (p : X → Bool) (xs : List X) → ((x : X) → Within xs x → p x ≡ false) → filter p xs ≡ []
none_pass p [] h = refl
none_pass p (x ∷ xs) h = let q = h x (inl refl) in rw q (none_pass p xs (λ y w. h y (inr w)))

milder_freed : (own_domain : Bytes) (m : ℕ) (k : Bytes) (e : Entry) → e.revision ≤ m → MayReplace own_domain (m + 1) e (dissociated k e)
milder_freed own_domain m k e h = record {
  id = refl;
  parent = refl;
  identity = refl;
  selectors = refl;
  domains = λ d w. (from_within_filter (λ x. not (bytes_eq x k)) e.domains d w).0;
  proper = λ p. record { id = p.id; parent = p.parent; identity = p.identity; selectors = p.selectors; domains = ascending_filter (λ domain. domain) (λ x. not (bytes_eq x k)) e.domains p.domains; are_domains = All-from_within IsDomain _ (λ d w. All-within IsDomain e.domains d p.are_domains (from_within_filter (λ x. not (bytes_eq x k)) e.domains d w).0) };
  no_fault = λ f. fewer_domains own_domain (given_of e) (λ x. not (bytes_eq x k)) f;
  low = omega arith;
}

-- an entry, freed if it names the domain
abbrev freed_user : Bytes → Entry → Entry
freed_user k e = if names k e then dissociated k e else e

freed_keyed : (k : Bytes) (e : Entry) → entry_key (freed_user k e) ≡ entry_key e
freed_keyed k e = elim (names k e) as (λ t. entry_key (cond t (dissociated k e) e) ≡ entry_key e) [ true ↦ refl | false ↦ refl ]

freed_milder : (own_domain : Bytes) (m : ℕ) (b : Book) (k : Bytes) → Lawful own_domain m b → AreMilder own_domain (m + 1) b (map (freed_user k) b.entries)
freed_milder own_domain m b k l x w =
    let r = from_within_map entry_key (freed_user k) b.entries x w in
    let low = l.revisions r.0 r.1 in (
      r.0,
      r.1,
      subst (MayReplace own_domain (m + 1) r.0) r.2 (elim (names k r.0) as (λ t. MayReplace own_domain (m + 1) r.0 (cond t (dissociated k r.0) r.0)) [
        | true ↦ milder_freed own_domain m k r.0 low
        | false ↦ same_milder own_domain (m + 1) b (wider (m + 1) (omega arith) l) r.0 r.1
      ]),
    )

freed_names_not : (k : Bytes) (e : Entry) → names k (freed_user k e) ≡ false
freed_names_not k e = elim (names k e) as (λ t. names k e ≡ t → names k (cond t (dissociated k e) e) ≡ false) [
  | true ↦ λ _. not_named k e.domains
  | false ↦ λ h. h
] refl

-- a book in which no entry names the domain, without the domain's bundle
without_unused : (own_domain : Bytes) (m : ℕ) (b : Book) (d : Bundle) → Within b.bundles d → Lawful own_domain m b → users_of d.domain b ≡ [] → Lawful own_domain m (after (bundle_removed d ∷ []) b)
without_unused own_domain m b d w l h = lawful_bundle own_domain m b l d.domain (Some d) None (λ q. l.not_own (d, w, q)) tt (λ _. h)

restrict_keeps : (own_domain : Bytes) (m : ℕ) (b : Book) (d : Bundle) → Within b.bundles d → Lawful own_domain m b → (es : List Entry) → users_of d.domain b ≡ es → KeepsAnswer own_domain m (drop_in mode.Restrict es d) b
restrict_keeps own_domain m b d w l [] h = without_unused own_domain m b d w l h
restrict_keeps own_domain m b d w l (e ∷ es) h = tt

deleting_keeps : (own_domain : Bytes) (m : ℕ) (b : Book) (d : Bundle) → Within b.bundles d → Lawful own_domain m b → Lawful own_domain m (after (map removed (users_of d.domain b) ++ bundle_removed d ∷ []) b)
deleting_keeps own_domain m b d w l =
    let p = names d.domain in
    rw (after_removed_then p d b l.ascending)
    (without_unused own_domain m (record b { entries = filter (λ e. not (p e)) b.entries }) d w (others_lawful own_domain m b p l)
    (none_pass p (filter (λ e. not (p e)) b.entries) (λ x v. not-true _ (from_within_filter (λ e. not (p e)) b.entries x v).1)))

freeing_keeps : (own_domain : Bytes) (m : ℕ) (b : Book) (d : Bundle) → Within b.bundles d → Lawful own_domain m b → Lawful own_domain (m + 1) (after (map (freed d.domain) (users_of d.domain b) ++ bundle_removed d ∷ []) b)
freeing_keeps own_domain m b d w l =
    let k = d.domain in
    let rows = map (freed_user k) b.entries in
    rw (after_freed_then k (names k) d b l.ascending)
    (without_unused own_domain (m + 1) (record b { entries = rows }) d w
    (lawful_milder own_domain (m + 1) b rows (wider (m + 1) (omega arith) l) (ascending_map entry_key (freed_user k) (freed_keyed k) b.entries l.ascending.entries) (freed_milder own_domain m b k l))
    (none_pass (names k) rows (λ x v. let r = from_within_map entry_key (freed_user k) b.entries x v in subst (λ y. names k y ≡ false) r.2 (freed_names_not k r.0))))

mode_keeps : (own_domain : Bytes) (m : ℕ) (b : Book) → Lawful own_domain m b → (d : Bundle) → Within b.bundles d → (by : DropMode) → KeepsAnswer own_domain (m + 1) (drop_in by (users_of d.domain b) d) b
mode_keeps own_domain m b l d w mode.Restrict = restrict_keeps own_domain (m + 1) b d w (wider (m + 1) (omega arith) l) (users_of d.domain b) refl
mode_keeps own_domain m b l d w mode.Delete = deleting_keeps own_domain (m + 1) b d w (wider (m + 1) (omega arith) l)
mode_keeps own_domain m b l d w mode.Dissociate = freeing_keeps own_domain m b d w l

drop_keeps : (own_domain : Bytes) (m : ℕ) (b : Book) → Lawful own_domain m b → (k : Bytes) (by : DropMode) (o : Option Bundle) → bundle_at k b ≡ o → KeepsAnswer own_domain (m + 1) (drop_over o k by b) b
drop_keeps own_domain m b l k by None h = tt
drop_keeps own_domain m b l k by (Some d) h = mode_keeps own_domain m b l d (at_row bundle_key k b.bundles d h).0 by

-- ---- an accepted operation leaves a lawful book, and raises each revision and sequence by at most 1

pub op_keeps : (own_domain : Bytes) (m : ℕ) (op : Op) (b : Book) → IsProperOp op → op_fault own_domain op ≡ None → Lawful own_domain m b → IfOk (op_of own_domain op b) (λ d. Lawful own_domain (m + 1) (after d.writes b))
op_keeps own_domain m (Create e) b p h l = create_keeps own_domain (m + 1) (at_revision 0 e) b p h (omega arith) (wider (m + 1) (omega arith) l) (entry_at e.id b)
op_keeps own_domain m (Update e expected) b p h l = update_keeps own_domain m e expected b p h l (entry_at e.id b) refl
op_keeps own_domain m (Delete k expected) b p h l = delete_keeps own_domain (m + 1) expected b (wider (m + 1) (omega arith) l) (entry_at k b)
op_keeps own_domain m (Show k) b p h l = wider (m + 1) (omega arith) l
op_keeps own_domain m (ShowAgent k) b p h l = wider (m + 1) (omega arith) l
op_keeps own_domain m (ShowBundle k) b p h l = wider (m + 1) (omega arith) l
op_keeps own_domain m (Children k) b p h l = wider (m + 1) (omega arith) l
op_keeps own_domain m (Page q) b p h l = wider (m + 1) (omega arith) l
op_keeps own_domain m (Authorised k) b p h l = read_keeps own_domain (m + 1) b (agent_at k b) _ (λ a. wider (m + 1) (omega arith) l)
op_keeps own_domain m (Trust k) b p h l = read_keeps own_domain (m + 1) b (agent_at k b) _ (λ a. wider (m + 1) (omega arith) l)
op_keeps own_domain m (Prune moment) b p h l = prune_keeps own_domain (m + 1) moment b (wider (m + 1) (omega arith) l)
op_keeps own_domain m (SetAgent a) b p h l = lawful_agent own_domain (m + 1) b (wider (m + 1) (omega arith) l) a.id (agent_at a.id b) (Some a) (record { keyed = refl; proper = p; no_fault = h })
op_keeps own_domain m (DropAgent k) b p h l = read_keeps own_domain (m + 1) b (agent_at k b) agent_dropped (λ a. lawful_agent own_domain (m + 1) b (wider (m + 1) (omega arith) l) a.id (Some a) None tt)
op_keeps own_domain m (SetBundle k text) b p h l = set_keeps own_domain m k text b p h l (bundle_at k b) (old_low own_domain m k b l (bundle_at k b) refl)
op_keeps own_domain m (DropBundle k by) b p h l = drop_keeps own_domain m b l k by (bundle_at k b) refl

-- ---- the run of a batch

abbrev KeepsRun : Bytes → ℕ → RunResult → Book → Type 0
KeepsRun own_domain n r b = IfOk r (λ t. Lawful own_domain n (after t.writes b))

onto_keeps : (own_domain : Bytes) (n : ℕ) (d : OpEffect) (b : Book) (r : RunResult) → KeepsRun own_domain n r (after d.writes b) → KeepsRun own_domain n (onto d r) b
onto_keeps own_domain n d b (Ok t) h = rw (after-append d.writes t.writes b) h
onto_keeps own_domain n d b (Err r) h = tt

then_keeps : (own_domain : Bytes) (m n : ℕ) (b : Book) (o : OpResult) (f : OpEffect → RunResult) → IfOk o (λ d. Lawful own_domain m (after d.writes b)) → ((d : OpEffect) → Lawful own_domain m (after d.writes b) → KeepsRun own_domain n (f d) (after d.writes b)) → KeepsRun own_domain n (then_run o f) b
then_keeps own_domain m n b (Ok d) f h k = onto_keeps own_domain n d b (f d) (k d h)
then_keeps own_domain m n b (Err r) f h k = tt

run_to : (own_domain : Bytes) (m n : ℕ) (ops : List Op) (b : Book) → m + length ops ≡ n → AllByRecursion IsProperOp ops → AllByRecursion (λ op. op_fault own_domain op ≡ None) ops → Lawful own_domain m b → IfOk (run own_domain ops b) (λ t. Lawful own_domain n (after t.writes b))
run_to own_domain m n [] b e p f l = wider n (omega arith) l
run_to own_domain m n (op ∷ ops) b e p f l = then_keeps own_domain (m + 1) n b (op_of own_domain op b) (λ d. run own_domain ops (after d.writes b)) (op_keeps own_domain m op b p.0 f.0 l) (λ d k. run_to own_domain (m + 1) n ops (after d.writes b) (omega arith) p.1 f.1 k)

-- a batch leaves a lawful book, and raises each revision and sequence by at most its number of operations
pub run_keeps : (own_domain : Bytes) (m : ℕ) (ops : List Op) (b : Book) → AllByRecursion IsProperOp ops → AllByRecursion (λ op. op_fault own_domain op ≡ None) ops → Lawful own_domain m b → IfOk (run own_domain ops b) (λ t. Lawful own_domain (m + length ops) (after t.writes b))
run_keeps own_domain m ops b p f l = run_to own_domain m (m + length ops) ops b refl p f l
