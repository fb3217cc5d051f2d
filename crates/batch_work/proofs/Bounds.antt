-- The maximum number of reads of an operation, and of a batch.
use Rattle.std.proofs.Common.{◌≡◌, ℕ, suc, ◌+◌, ◌*◌, ◌^◌, ◌≤◌, Bool, true, false, cond, List, [], ◌∷◌, ◌++◌, length, map, Option, Some, None, Result, Ok, Err, refl, sym, ap, subst, IfSome, IfOk, arith, length-append}
use Rattle.std.specs.Prelude.{flat_map, is_some, nat_lt, option_to_list}
use Rattle.std.specs.List.{AllByRecursion}
use Rattle.std.specs.Option.{option_map_or}
use Rattle.std.proofs.Math.Nat.{suc-mul}
use Rattle.std.proofs.lemmas.List.{length-map}
use Rattle.std.proofs.lemmas.Nat.{mul-le}
use Rattle.spiffe_name.specs.Id.{server_text}
use Rattle.entry_book.specs.declared.agent.Agent.{Agent}
use Rattle.entry_book.specs.declared.bundle.Bundle.{Bundle}
use Rattle.entry_book.specs.declared.entry.NewEntry.{NewEntry}
use Rattle.entry_book.specs.declared.kept.KeptBatch.{KeptBatch}
use Rattle.entry_book.specs.declared.op.Op.{Op}
use Rattle.entry_book.specs.declared.op.Op.TheVariants.{Create, Update, Delete, Show, ShowAgent, ShowBundle, Children, Page, Authorised, Trust, Prune, SetAgent, DropAgent, SetBundle, DropBundle}
use Rattle.entry_book.specs.Rows.{Bytes, Entry, at_revision, IsProperEntry}
use Rattle.entry_book.specs.Order.{Within}
use Rattle.entry_book.specs.Book.{Book, entry_at, agent_at, bundle_at}
use Rattle.entry_book.specs.Writes.{after}
use Rattle.entry_book.specs.Authorised.{ends_within, authorised}
use Rattle.entry_book.specs.Batches.{Batch, IsMadeFor, IsProperOp, entry_fault, op_fault}
use Rattle.entry_book.specs.History.{kept_under}
use Rattle.entry_book.specs.Laws.{AreFaultless}
use Rattle.entry_book.specs.Lawful.{Lawful}
use Rattle.entry_book.specs.Ops.{OpEffect, OpResult, similar, is_stale, op_of}
use Rattle.entry_book.specs.Runs.{run}
use Rattle.entry_book.proofs.Faults.{not_refused}
use Rattle.entry_book.proofs.Keeps.{op_keeps, run_keeps}
use Rattle.entry_book.proofs.Sets.{All-within, All-from_within, from_within_filter, length_filter_le, within_left, within_right}
use Rattle.entry_book.proofs.Unfaulted.{entry_faults}
use Rattle.version_book.specs.declared.mark.MarkKind.TheVariants as mark
use Rattle.version_book.specs.declared.mark.MarkKind.{MarkKind}
use Rattle.batch_work.specs.Bounds.{identity_put, identities_put, identities_of, count_of_identities, sets_bundle, count_of_sets, most_reads, IsBounded, OpReadsBounded, BatchReadsBounded, ReadsAreFew, ReadsAreFewAnywhere}
use Rattle.batch_work.specs.Reads.{early, gone, kept, runs, case_on, text_set, bundle_marks, marks_unless_similar, put_marks, create_marks, update_marks_when, update_marks, walk, walk_marks, for_agent_marks, domains_of, trust_marks, drop_marks, marks_of, marks_after, marks_of_ops, token_marks, footprint_in}
use Rattle.batch_work.proofs.Counts.{no_longer, once}
use Rattle.batch_work.proofs.Deciding.{split_all}
use Rattle.batch_work.proofs.Names.{domain_set, IsNamed, PutsNamed, named_after_op, named_after_run}
use Rattle.batch_work.proofs.TextSets.{text_set-ascending, from_text_set, within_text_set, within_map, from_within_map, within_flat, from_within_flat}
use Rattle.batch_work.proofs.WalkOrder.{walk_new, walk_once}

-- ---- an entry that is put

bundle_marks_few : (ds : List Bytes) (b : Book) → length (bundle_marks ds b) ≤ length ds
bundle_marks_few [] b = omega arith
bundle_marks_few (d ∷ ds) b = let r = bundle_marks_few ds b in elim (is_some (bundle_at d b)) as (λ t. suc (length (cond t (bundle_marks ds b) [])) ≤ suc (length ds)) [ true ↦ omega arith | false ↦ omega arith ]

unless_similar_few : (o : Option Entry) (e : Entry) (b : Book) → length (marks_unless_similar o e b) ≤ length e.domains
unless_similar_few (Some o) e b = omega arith
unless_similar_few None e b = bundle_marks_few e.domains b

put_few : (e : Entry) (b : Book) → length (put_marks e b) ≤ 1 + length e.domains
put_few e b = let r = unless_similar_few (similar e b) e b in omega arith

create_few : (o : Option Entry) (e : Entry) (b : Book) → length (create_marks o e b) ≤ 1 + length e.domains
create_few (Some o) e b = omega arith
create_few None e b = put_few e b

update_few_when : (stale : Bool) (e : Entry) (b : Book) → length (update_marks_when stale e b) ≤ 1 + length e.domains
update_few_when true e b = omega arith
update_few_when false e b = put_few e b

update_few : (o : Option Entry) (e : NewEntry) (expected : Option ℕ) (b : Book) → length (update_marks o e expected b) ≤ 1 + length e.domains
update_few None e expected b = omega arith
update_few (Some old) e expected b = update_few_when (is_stale expected old) (at_revision (old.revision + 1) e) b

few_domains : (own_domain : Bytes) (e : NewEntry) → IsProperEntry e → entry_fault own_domain e ≡ None → length e.domains ≤ 8
few_domains own_domain e p f = ((entry_faults own_domain e p).0 f).domains

-- ---- authorised entries and their bundles

drop_few : (o : Option Bundle) (d : Bytes) → length (drop_marks o d) ≤ 1
drop_few None d = omega arith
drop_few (Some x) d = omega arith

for_agent_few : (n : ℕ) (o : Option Agent) (f : Agent → List MarkKind) → ((a : Agent) → length (f a) ≤ n) → length (for_agent_marks o f) ≤ n
for_agent_few n None f h = omega arith
for_agent_few n (Some a) f h = h a

module _ (is ds : List Bytes) (s : Bytes) (a : Agent) (b : Book) (h : IsNamed is ds b) where
  walk_few : length (walk (length b.entries) s a [] b) ≤ length is
  walk_few = no_longer (walk (length b.entries) s a [] b) is (walk_once s a b (length b.entries) []) (λ i w.
      let e = from_within_map (λ e. e.identity) b.entries i (walk_new s a b (length b.entries) [] i w).1 in
      subst (Within is) e.2 (All-within (λ e. Within is e.identity) b.entries e.0 h.entries e.1))

  walk_marks_few : length (walk_marks s a b) ≤ 2 + length is
  walk_marks_few = let l = walk_few in let m = length-map (walk (length b.entries) s a [] b) mark.Children in omega arith

  trust_marks_few : (own_domain : Bytes) (most : ℕ) → Lawful own_domain most b → length (trust_marks s a b) ≤ 2 + length is + length ds
  unfolding authorised
  trust_marks_few own_domain most l =
      let w = walk_marks_few in
      let named : List Bytes = domains_of (authorised s a b) in
      let d = no_longer named ds (once named (text_set-ascending _)) (λ x v.
      let e = from_within_flat (λ e. e.domains) (authorised s a b) x (from_text_set _ x v) in
      let k = l.bundled e.0 (from_within_filter (ends_within s a b.entries (length b.entries)) b.entries e.0 e.1).0 x e.2 in
      subst (Within ds) k.2 (All-within (λ d. Within ds d.domain) b.bundles k.0 h.bundles k.1)) in
      let k = length-map named mark.Bundle in
      let j = length-append (walk_marks s a b) (map mark.Bundle named) in
      omega arith

-- ---- one operation

module _ (is ds : List Bytes) (k : ℕ) (few : length ds ≤ k) (room : 7 ≤ k) where
  marks_few : (own_domain : Bytes) (most : ℕ) (op : Op) (b : Book) → IsProperOp op → op_fault own_domain op ≡ None → Lawful own_domain most b → IsNamed is ds b → length (marks_of own_domain op b) ≤ 3 + length is + k
  marks_few own_domain most (Create e) b p f l h = let d = few_domains own_domain e p f in let r = create_few (entry_at e.id b) (at_revision 0 e) b in omega arith
  marks_few own_domain most (Update e expected) b p f l h = let d = few_domains own_domain e p f in let r = update_few (entry_at e.id b) e expected b in omega arith
  marks_few own_domain most (Delete x expected) b p f l h = omega arith
  marks_few own_domain most (Show x) b p f l h = omega arith
  marks_few own_domain most (ShowAgent x) b p f l h = omega arith
  marks_few own_domain most (ShowBundle x) b p f l h = omega arith
  marks_few own_domain most (Children x) b p f l h = omega arith
  marks_few own_domain most (Page q) b p f l h = omega arith
  marks_few own_domain most (Authorised x) b p f l h = let r = for_agent_few (2 + length is) (agent_at x b) (λ a. walk_marks (server_text own_domain) a b) (λ a. walk_marks_few is ds (server_text own_domain) a b h) in omega arith
  marks_few own_domain most (Trust x) b p f l h = let r = for_agent_few (2 + length is + length ds) (agent_at x b) (λ a. trust_marks (server_text own_domain) a b) (λ a. trust_marks_few is ds (server_text own_domain) a b h own_domain most l) in omega arith
  marks_few own_domain most (Prune moment) b p f l h = omega arith
  marks_few own_domain most (SetAgent x) b p f l h = omega arith
  marks_few own_domain most (DropAgent x) b p f l h = omega arith
  marks_few own_domain most (SetBundle d text) b p f l h = omega arith
  marks_few own_domain most (DropBundle d m) b p f l h = let r = drop_few (bundle_at d b) d in omega arith

  -- ---- operations one after another

  footprint_few : (own_domain : Bytes) (most : ℕ) (ops : List Op) (b : Book) → AllByRecursion IsProperOp ops → AllByRecursion (λ op. op_fault own_domain op ≡ None) ops → AllByRecursion (PutsNamed is ds) ops → Lawful own_domain most b → IsNamed is ds b → length (marks_of_ops own_domain ops b) ≤ length ops * (3 + length is + k)
  footprint_few own_domain most [] b p f q l h = omega arith
  footprint_few own_domain most (op ∷ ops) b p f q l h =
      let first = marks_few own_domain most op b p.0 f.0 l h in
      let rest = rest_few (op_of own_domain op b) (op_keeps own_domain most op b p.0 f.0 l) (named_after_op is ds own_domain op b q.0 h) (λ d m n. footprint_few own_domain (most + 1) ops (after d.writes b) p.1 f.1 q.1 m n) in
      let both = length-append (marks_of own_domain op b) (marks_after (op_of own_domain op b) (λ d. marks_of_ops own_domain ops (after d.writes b))) in
      let times = suc-mul (length ops) (3 + length is + k) in
      omega arith
    where
      rest_few : (o : OpResult) → IfOk o (λ d. Lawful own_domain (most + 1) (after d.writes b)) → IfOk o (λ d. IsNamed is ds (after d.writes b)) → ((d : OpEffect) → Lawful own_domain (most + 1) (after d.writes b) → IsNamed is ds (after d.writes b) → length (marks_of_ops own_domain ops (after d.writes b)) ≤ length ops * (3 + length is + k)) → length (marks_after o (λ d. marks_of_ops own_domain ops (after d.writes b))) ≤ length ops * (3 + length is + k)
      rest_few (Ok d) m n g = g d m n
      rest_few (Err r) m n g = omega arith

-- ---- the identities and domains of a batch

abbrev identities : Batch → Book → List Bytes
identities batch b = text_set (identities_of b ++ identities_put batch.ops)

abbrev domains : List Op → Book → List Bytes
domains ops b = map (λ d. d.domain) b.bundles ++ flat_map domain_set ops

sets_counted : (ops : List Op) → length (flat_map domain_set ops) ≡ count_of_sets ops
sets_counted [] = refl
sets_counted (SetBundle d text ∷ ops) = ap suc (sets_counted ops)
sets_counted (op ∷ ops) = sets_counted ops

domains_few : (ops : List Op) (b : Book) → length b.bundles ≤ 1024 → length (domains ops b) ≤ 1024 + count_of_sets ops
domains_few ops b l =
    let a = length-append (map (λ d. d.domain) b.bundles) (flat_map domain_set ops) in
    let m = length-map b.bundles (λ d. d.domain) in
    let s = sets_counted ops in
    omega arith

at_first : (batch : Batch) (ops : List Op) (b : Book) → IsNamed (identities batch b) (domains ops b) b
at_first batch ops b = record {
  entries = All-from_within (λ e. Within (identities batch b) e.identity) b.entries (λ e w. within_text_set _ e.identity (within_left (identities_of b) (identities_put batch.ops) e.identity (within_map (λ e. e.identity) b.entries e w)));
  bundles = All-from_within (λ d. Within (domains ops b) d.domain) b.bundles (λ d w. within_left (map (λ d. d.domain) b.bundles) (flat_map domain_set ops) d.domain (within_map (λ d. d.domain) b.bundles d w));
}

all_put : (batch : Batch) (ops : List Op) (b : Book) → ((op : Op) → Within ops op → Within batch.ops op) → AllByRecursion (PutsNamed (identities batch b) (domains ops b)) ops
all_put batch ops b inside = All-from_within (PutsNamed (identities batch b) (domains ops b)) ops (λ op w. record {
  identity = All-from_within (Within (identities batch b)) (identity_put op) (λ i v. within_text_set _ i (within_right (identities_of b) (identities_put batch.ops) i (within_flat identity_put batch.ops op i (inside op w) v)));
  domain = All-from_within (Within (domains ops b)) (domain_set op) (λ d v. within_right (map (λ d. d.domain) b.bundles) (flat_map domain_set ops) d (within_flat domain_set ops op d w v));
})

-- ---- the theorems

ok_is : {X E : Type 0} (P : X → Type 0) (r : Result X E) (x : X) → r ≡ Ok x → IfOk r P → P x
ok_is {E = E} P r x e h = let k : IfOk {E = E} (Ok x) P = subst (λ r. IfOk r P) e h in k

pub op_reads_bounded : OpReadsBounded
op_reads_bounded own_domain most batch b before op later t made l few e ran =
    let d : Bytes = batch.domain in
    let faultless : AreFaultless d batch.ops = ((not_refused d batch.ops batch.token).0 made.no_fault).0 in
    let proper = split_all IsProperOp before (op ∷ later) (subst (AllByRecursion IsProperOp) e made.proper) in
    let none = split_all (λ op. op_fault d op ≡ None) before (op ∷ later) (subst (AllByRecursion (λ op. op_fault d op ≡ None)) e faultless.none) in
    let l' : Lawful d most b = subst (λ o. Lawful o most b) (sym made.domain_is) l in
    let after_it : Lawful d (most + length before) (after t.writes b) = ok_is (λ t. Lawful d (most + length before) (after t.writes b)) (run d before b) t ran (run_keeps d most before b proper.0 none.0 l') in
    let inside : (x : Op) → Within before x → Within batch.ops x = λ x w. subst (λ ops. Within ops x) (sym e) (within_left before (op ∷ later) x w) in
    let named : IsNamed (identities batch b) (domains before b) (after t.writes b) = ok_is (λ t. IsNamed (identities batch b) (domains before b) (after t.writes b)) (run d before b) t ran (named_after_run (identities batch b) (domains before b) d before b (all_put batch before b inside) (at_first batch before b)) in
    let r = marks_few (identities batch b) (domains before b) (1024 + count_of_sets before) (domains_few before b few) (omega arith) d (most + length before) op (after t.writes b) (proper.1).0 (none.1).0 after_it named in
    omega arith

token_few : (o : Option Bytes) → length (token_marks o) ≡ length (option_to_list o)
token_few None = refl
token_few (Some k) = refl

case_few : (batch : Batch) (b : Book) (o : Option KeptBatch) → length (footprint_in batch (option_map_or kept o (runs b))) ≤ length (token_marks batch.token) + length (marks_of_ops batch.domain batch.ops b)
case_few batch b (Some k) = omega arith
case_few batch b None = let a = length-append (token_marks batch.token) (marks_of_ops batch.domain batch.ops b) in omega arith

pub batch_reads_bounded : BatchReadsBounded
batch_reads_bounded own_domain most batch b made l few =
    let d : Bytes = batch.domain in
    let faultless : AreFaultless d batch.ops = ((not_refused d batch.ops batch.token).0 made.no_fault).0 in
    let l' : Lawful d most b = subst (λ o. Lawful o most b) (sym made.domain_is) l in
    let r = footprint_few (identities batch b) (domains batch.ops b) (1024 + count_of_sets batch.ops) (domains_few batch.ops b few) (omega arith) d most batch.ops b made.proper faultless.none (all_put batch batch.ops b (λ op w. w)) l' (at_first batch batch.ops b) in
    let same : 3 + length (identities batch b) + (1024 + count_of_sets batch.ops) ≡ most_reads batch batch.ops b = omega arith in
    let r' : length (marks_of_ops d batch.ops b) ≤ length batch.ops * most_reads batch batch.ops b = subst (λ n. length (marks_of_ops d batch.ops b) ≤ length batch.ops * n) same r in
    let t = token_few batch.token in
    let o = case_few batch b (kept_under batch.token b) in
    omega arith

-- ---- in numbers

few_put : (ops : List Op) → length (identities_put ops) ≤ length ops
few_put [] = omega arith
few_put (Create e ∷ ops) = let r = few_put ops in omega arith
few_put (Update e expected ∷ ops) = let r = few_put ops in omega arith
few_put (op ∷ ops) = let r = few_put ops in omega arith

set_few : (xs : List Bytes) → length (text_set xs) ≤ length xs
set_few xs = no_longer (text_set xs) xs (once (text_set xs) (text_set-ascending xs)) (λ x w. from_text_set xs x w)

identities_few : (ops : List Op) (b : Book) → count_of_identities ops b ≤ length b.entries + length ops
identities_few ops b =
    let s = set_few (identities_of b ++ identities_put ops) in
    let a = length-append (identities_of b) (identities_put ops) in
    let m = length-map b.entries (λ e. e.identity) in
    let p = few_put ops in
    omega arith

one_token : (o : Option Bytes) → length (option_to_list o) ≤ 1
one_token None = omega arith
one_token (Some k) = omega arith

pub reads_are_few : ReadsAreFew
reads_are_few own_domain batch b made bounded =
    let r = batch_reads_bounded own_domain bounded.most batch b made bounded.lawful bounded.bundles in
    let faultless : AreFaultless batch.domain batch.ops = ((not_refused batch.domain batch.ops batch.token).0 made.no_fault).0 in
    let n = faultless.few in
    let e = bounded.entries in
    let i = identities_few batch.ops b in
    let s = length_filter_le sets_bundle batch.ops in
    let most : most_reads batch batch.ops b ≤ 17539 = omega arith in
    let times = mul-le (length batch.ops) (most_reads batch batch.ops b) 64 17539 n most in
    let t = one_token batch.token in
    omega arith

few_read : (own_domain : Bytes) (batch : Batch) (b : Option Book) → IsMadeFor own_domain batch → IfSome b (IsBounded own_domain) → length (footprint_in batch (option_map_or (case_on batch) b gone)) ≤ 2 ^ 21
few_read own_domain batch None made bounded = omega arith
few_read own_domain batch (Some b) made bounded = reads_are_few own_domain batch b made bounded

pub reads_are_few_anywhere : ReadsAreFewAnywhere
reads_are_few_anywhere own_domain batch place b made bounded = elim (nat_lt place batch.after) as (λ t. length (footprint_in batch (cond t early (option_map_or (case_on batch) b gone))) ≤ 2 ^ 21) [
  | true ↦ omega arith
  | false ↦ few_read own_domain batch b made bounded
]
