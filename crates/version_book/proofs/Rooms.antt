-- Is there room for all rows that a batch writes?
use Rattle.std.proofs.Common.{◌≡◌, ℕ, suc, ◌+◌, ◌*◌, ◌≤◌, Bool, true, false, not, ◌||◌, cond, List, [], ◌∷◌, ◌++◌, length, Option, Some, None, Ok, Err, refl, sym, ap, subst, ◌∙◌, inl, ⊎_elim, IfSome, IfOk, arith, length-append}
use Rattle.std.specs.Prelude.{⊤, filter, map, option_to_list, bytes_eq, nat_lt}
use Rattle.std.specs.List.{AllByRecursion}
use Rattle.std.proofs.lemmas.Bool.Decides.{nat_tests}
use Rattle.spiffe_name.specs.Id.{server_text}
use Rattle.entry_book.proofs.Faults.{not_refused}
use Rattle.entry_book.proofs.Keeps.{op_keeps}
use Rattle.entry_book.proofs.Keys.{from_with_row}
use Rattle.entry_book.proofs.Runs.{run_fits}
use Rattle.entry_book.proofs.Sets.{All-within, All-from_within, before-irrefl, before-trans, from_within_filter, length_filter_le, text_is}
use Rattle.entry_book.specs.declared.agent.Agent.{Agent}
use Rattle.entry_book.specs.declared.bundle.Bundle.{Bundle}
use Rattle.entry_book.specs.declared.entry.NewEntry.{NewEntry}
use Rattle.entry_book.specs.declared.fault.OpFault.{OpFault}
use Rattle.entry_book.specs.declared.kept.KeptBatch.{KeptBatch}
use Rattle.entry_book.specs.declared.fault.OpFault.TheVariants.{ForeignId, EmptyPath, ServerIdentity, Selectors, TooManyDomains}
use Rattle.entry_book.specs.declared.mode.DropMode.{DropMode}
use Rattle.entry_book.specs.declared.mode.DropMode.TheVariants as mode
use Rattle.entry_book.specs.declared.op.Op.{Op}
use Rattle.entry_book.specs.declared.op.Op.TheVariants.{Create, Update, Delete, Show, ShowAgent, ShowBundle, Children, Page, Authorised, Trust, Prune, SetAgent, DropAgent, SetBundle, DropBundle}
use Rattle.entry_book.specs.declared.reply.OpReply.{OpReply}
use Rattle.entry_book.specs.Rows.{Bytes, Entry, at_revision, given_of, entry_key, agent_key, bundle_key}
use Rattle.entry_book.specs.Tokens.{token_key}
use Rattle.entry_book.specs.Order.{Within, is_before, with_row}
use Rattle.entry_book.specs.Book.{Book, AscendingBook, entry_at, agent_at, bundle_at, names, users_of, expired_before}
use Rattle.entry_book.specs.Writes.{RowWrite, wrote_entry, wrote_agent, wrote_bundle, wrote_token, FitsBook, FitAll, after, after_write}
use Rattle.entry_book.specs.Batches.{Batch, IsMadeFor, IsProperOp, entry_fault, op_fault, is_foreign, has_no_path, is_outside}
use Rattle.entry_book.specs.Ops.{OpEffect, OpResult, similar, lacking, put_named, put_unless_similar, create_over, is_stale, update_when, update_over, removed, delete_when, delete_over, for_agent, agent_dropped, bundle_removed, freed, drop_in, drop_over, op_of}
use Rattle.entry_book.specs.Runs.{RunEffect, RefusedOp, RunResult, onto, then_run, run}
use Rattle.entry_book.specs.History.{token_writes}
use Rattle.entry_book.specs.Laws.{AreFaultless}
use Rattle.entry_book.specs.Limits.{IsWithinLimits}
use Rattle.entry_book.specs.Lawful.{Lawful}
use Rattle.version_book.specs.Laws.{RoomInRun}
use Rattle.version_book.specs.Room.{RoomFor, RoomAll, count_of_names}

-- ---- how many rows there are after a write

-- 1 if a row is put where there was none, and otherwise 0
abbrev grows : {X : Type 0} → Option X → Option X → ℕ
grows (Some x) new = 0
grows None None = 0
grows None (Some x) = 1

grows_by_one : {X : Type 0} (old new : Option X) → grows old new ≤ 1
grows_by_one (Some x) new = omega arith
grows_by_one None None = omega arith
grows_by_one None (Some x) = omega arith

module _ {X : Type 0} (key : X → Bytes) where
  -- the number of rows with another key, by the order of keys
  others : Bytes → List X → ℕ
  others k rows = length (filter (λ x. is_before (key x) k) rows) + length (filter (λ x. is_before k (key x)) rows)

  others_more : (k : Bytes) (x : X) (xs : List X) → others k (x ∷ xs) ≤ suc (others k xs)
  unfolding others
  others_more k x xs =
      let low = filter (λ x. is_before (key x) k) xs in
      let high = filter (λ x. is_before k (key x)) xs in
      elim (is_before (key x) k) as (λ a. is_before (key x) k ≡ a → length (cond a (x ∷ low) low) + length (cond (is_before k (key x)) (x ∷ high) high) ≤ suc (length low + length high)) [
        | true ↦ λ e. elim (is_before k (key x)) as (λ a. is_before k (key x) ≡ a → length (x ∷ low) + length (cond a (x ∷ high) high) ≤ suc (length low + length high)) [
          | true ↦ λ f. absurd (before-irrefl (key x) (before-trans (key x) k (key x) e f))
          | false ↦ λ f. omega arith
        ] refl
        | false ↦ λ e. elim (is_before k (key x)) as (λ a. length low + length (cond a (x ∷ high) high) ≤ suc (length low + length high)) [ true ↦ omega arith | false ↦ omega arith ]
      ] refl

  others_le : (k : Bytes) (rows : List X) → others k rows ≤ length rows
  unfolding others
  others_le k [] = omega arith
  others_le k (x ∷ xs) = let h = others_more k x xs in let r = others_le k xs in omega arith

  not_before : (x : Bytes) → is_before x x ≡ false
  not_before x = elim (is_before x x) as (λ a. is_before x x ≡ a → a ≡ false) [ true ↦ λ e. absurd (before-irrefl x e) | false ↦ λ e. refl ] refl

  others_same : (x : X) (xs : List X) → others (key x) (x ∷ xs) ≡ others (key x) xs
  unfolding others
  others_same x xs = let h = not_before (key x) in rw h refl

  -- a row with the key isn't one of the others
  others_lt : (k : Bytes) (rows : List X) (x : X) → Within rows x → key x ≡ k → suc (others k rows) ≤ length rows
  others_lt k [] x w e = absurd w
  others_lt k (y ∷ ys) x w e = ⊎_elim
      (λ q. let p : key y ≡ k = ap key q ∙ e in let s : others k (y ∷ ys) ≡ others k ys = subst (λ k. others k (y ∷ ys) ≡ others k ys) p (others_same y ys) in let r = others_le k ys in omega arith)
      (λ v. let r = others_lt k ys x v e in let m = others_more k y ys in omega arith)
      w

  length-with_row : (k : Bytes) (new : Option X) (rows : List X) → length (with_row key k new rows) ≡ others k rows + length (option_to_list new)
  unfolding with_row others
  length-with_row k new rows =
      let a = length-append (filter (λ x. is_before (key x) k) rows) (option_to_list new ++ filter (λ x. is_before k (key x)) rows) in
      let b = length-append (option_to_list new) (filter (λ x. is_before k (key x)) rows) in
      omega arith

  size_after : (k : Bytes) (old new : Option X) (rows : List X) → filter (λ x. bytes_eq (key x) k) rows ≡ option_to_list old → length (with_row key k new rows) ≤ length rows + grows old new
  size_after k (Some x) None rows e = let l = length-with_row k None rows in let r = others_le k rows in omega arith
  size_after k None None rows e = let l = length-with_row k None rows in let r = others_le k rows in omega arith
  size_after k None (Some n) rows e = let l = length-with_row k (Some n) rows in let r = others_le k rows in omega arith
  size_after k (Some x) (Some n) rows e =
      let v = from_within_filter (λ x. bytes_eq (key x) k) rows x (subst (λ l. Within l x) (sym e) (inl refl)) in
      let l = length-with_row k (Some n) rows in
      let r = others_lt k rows x v.0 (text_is (key x) k v.1) in
      omega arith

-- ---- the sizes of a book, through writes that fit

abbrev growth : RowWrite → ℕ
growth (wrote_entry c) = grows c.old c.new
growth (wrote_agent c) = grows c.old c.new
growth (wrote_bundle c) = grows c.old c.new
growth (wrote_token c) = grows c.old c.new

growth_by_one : (w : RowWrite) → growth w ≤ 1
growth_by_one (wrote_entry c) = grows_by_one c.old c.new
growth_by_one (wrote_agent c) = grows_by_one c.old c.new
growth_by_one (wrote_bundle c) = grows_by_one c.old c.new
growth_by_one (wrote_token c) = grows_by_one c.old c.new

abbrev growth_of : List RowWrite → ℕ
growth_of [] = 0
growth_of (w ∷ ws) = growth w + growth_of ws

abbrev HasFewNames : Entry → Type 0
HasFewNames e = length e.domains ≤ 8

-- an entry that is put names at most 8 domains
abbrev PutsFewNames : RowWrite → Type 0
PutsFewNames (wrote_entry c) = IfSome c.new HasFewNames
PutsFewNames (wrote_agent c) = ⊤
PutsFewNames (wrote_bundle c) = ⊤
PutsFewNames (wrote_token c) = ⊤

-- A book with at most n rows above the limit in each set, whose entries name at most 8 domains each.
record IsSmall (n : ℕ) (b : Book) : Type 0 where
  entries : length b.entries ≤ 16384 + n
  agents : length b.agents ≤ 4096 + n
  bundles : length b.bundles ≤ 1024 + n
  tokens : length b.tokens ≤ 65536 + n
  few : AllByRecursion HasFewNames b.entries

few_after : (k : Bytes) (new : Option Entry) (rows : List Entry) → AllByRecursion HasFewNames rows → IfSome new HasFewNames → AllByRecursion HasFewNames (with_row entry_key k new rows)
few_after k new rows h n = All-from_within HasFewNames (with_row entry_key k new rows) (λ e w. ⊎_elim (new_few new e n) (λ v. All-within HasFewNames rows e h v.0) (from_with_row entry_key k new rows e w))
  where
    new_few : (o : Option Entry) (e : Entry) → IfSome o HasFewNames → Within (option_to_list o) e → HasFewNames e
    new_few None e h w = absurd w
    new_few (Some x) e h w = ⊎_elim (λ q. subst HasFewNames q h) (λ v. absurd v) w

small_after : (n : ℕ) (w : RowWrite) (b : Book) → FitsBook w b → PutsFewNames w → IsSmall n b → IsSmall (n + growth w) (after_write w b)
small_after n (wrote_entry c) b f p s =
    let a = s.entries in let u = s.agents in let d = s.bundles in let k = s.tokens in
    let g = size_after entry_key c.key c.old c.new b.entries f.found in
    record { entries = omega arith; agents = omega arith; bundles = omega arith; tokens = omega arith; few = few_after c.key c.new b.entries s.few p }
small_after n (wrote_agent c) b f p s =
    let a = s.entries in let u = s.agents in let d = s.bundles in let k = s.tokens in
    let g = size_after agent_key c.key c.old c.new b.agents f.found in
    record { entries = omega arith; agents = omega arith; bundles = omega arith; tokens = omega arith; few = s.few }
small_after n (wrote_bundle c) b f p s =
    let a = s.entries in let u = s.agents in let d = s.bundles in let k = s.tokens in
    let g = size_after bundle_key c.key c.old c.new b.bundles f.found in
    record { entries = omega arith; agents = omega arith; bundles = omega arith; tokens = omega arith; few = s.few }
small_after n (wrote_token c) b f p s =
    let a = s.entries in let u = s.agents in let d = s.bundles in let k = s.tokens in
    let g = size_after token_key c.key c.old c.new b.tokens f.found in
    record { entries = omega arith; agents = omega arith; bundles = omega arith; tokens = omega arith; few = s.few }

names_le : (es : List Entry) → AllByRecursion HasFewNames es → count_of_names es ≤ 8 * length es
names_le [] h = omega arith
names_le (e ∷ es) h = let k = h.0 in let r = names_le es h.1 in omega arith

if_some : {X : Type 0} (P : X → Type 0) (o : Option X) → ((x : X) → P x) → IfSome o P
if_some P None h = tt
if_some P (Some x) h = h x

room_for : (n : ℕ) (w : RowWrite) (b : Book) → n ≤ 64 → IsSmall n (after_write w b) → RoomFor w b
room_for n (wrote_entry c) b l s = if_some _ c.new (λ e. let a = s.entries in let r = names_le (after_write (wrote_entry c) b).entries s.few in (omega arith, omega arith))
room_for n (wrote_agent c) b l s = if_some _ c.new (λ x. let a = s.agents in omega arith)
room_for n (wrote_bundle c) b l s = if_some _ c.new (λ d. let a = s.bundles in omega arith)
room_for n (wrote_token c) b l s = if_some _ c.new (λ k. let a = s.tokens in omega arith)

room_all : (n : ℕ) (ws : List RowWrite) (b : Book) → n + growth_of ws ≤ 64 → FitAll ws b → AllByRecursion PutsFewNames ws → IsSmall n b → RoomAll ws b
room_all n [] b l f p s = tt
room_all n (w ∷ ws) b l f p s =
    let t = small_after n w b f.0 p.0 s in
    (room_for (n + growth w) w b (omega arith) t, room_all (n + growth w) ws (after_write w b) (omega arith) f.1 p.1 t)

small_all : (n : ℕ) (ws : List RowWrite) (b : Book) → FitAll ws b → AllByRecursion PutsFewNames ws → IsSmall n b → IsSmall (n + growth_of ws) (after ws b)
small_all n [] b f p s = let q : n ≡ n + 0 = omega arith in subst (λ m. IsSmall m b) q s
small_all n (w ∷ ws) b f p s =
    let q : n + growth w + growth_of ws ≡ n + growth_of (w ∷ ws) = omega arith in
    subst (λ m. IsSmall m (after ws (after_write w b))) q (small_all (n + growth w) ws (after_write w b) f.1 p.1 (small_after n w b f.0 p.0 s))

-- ---- storing a batch under its token adds a row or replaces one

room_for_token : (token : Option Bytes) (ops : List Op) (n : ℕ) (replies : List OpReply) (b : Book) → length b.tokens ≤ 65600 → RoomAll (token_writes token ops n replies) b
room_for_token None ops n replies b l = tt
room_for_token (Some k) ops n replies b l =
    let kept : KeptBatch = record { token = k; ops = ops; place = n; replies = replies } in
    let size = length-with_row token_key k (Some kept) b.tokens in
    let rest = others_le token_key k b.tokens in
    (omega arith, tt)

room_append : (xs ys : List RowWrite) (b : Book) → RoomAll xs b → RoomAll ys (after xs b) → RoomAll (xs ++ ys) b
room_append [] ys b h k = k
room_append (x ∷ xs) ys b h k = (h.0, room_append xs ys (after_write x b) h.1 k)

-- ---- the domains of an entry without a fault

-- from the table of faults: without a fault, the fifth test is false
fifth : (a b c d t : Bool) (later : Option OpFault) → cond a (Some ForeignId) (cond b (Some EmptyPath) (cond c (Some ServerIdentity) (cond d (Some Selectors) (cond t (Some TooManyDomains) later)))) ≡ None → t ≡ false
fifth true b c d t later h = cc
fifth false true c d t later h = cc
fifth false false true d t later h = cc
fifth false false false true t later h = cc
fifth false false false false true later h = cc
fifth false false false false false later h = refl

few_domains : (own_domain : Bytes) (e : NewEntry) → entry_fault own_domain e ≡ None → nat_lt 8 (length e.domains) ≡ false
unfolding entry_fault
few_domains own_domain e h = fifth (is_foreign own_domain e.parent || is_foreign own_domain e.identity) (has_no_path e.parent || has_no_path e.identity) (bytes_eq e.identity (server_text own_domain)) (is_outside e.selectors) (nat_lt 8 (length e.domains)) _ h

few_names : (own_domain : Bytes) (e : NewEntry) → entry_fault own_domain e ≡ None → length e.domains ≤ 8
few_names own_domain e h = let q = few_domains own_domain e h in grind (arith, nat_tests, q)

-- ---- each operation adds at most one row

record AreModest (n : ℕ) (ws : List RowWrite) : Type 0 where
  grow : growth_of ws ≤ n
  few : AllByRecursion PutsFewNames ws

all_append : {X : Type 0} (P : X → Type 0) (xs ys : List X) → AllByRecursion P xs → AllByRecursion P ys → AllByRecursion P (xs ++ ys)
all_append P [] ys h k = k
all_append P (x ∷ xs) ys h k = (h.0, all_append P xs ys h.1 k)

growth-append : (xs ys : List RowWrite) → growth_of (xs ++ ys) ≡ growth_of xs + growth_of ys
growth-append [] ys = omega arith
growth-append (x ∷ xs) ys = let h = growth-append xs ys in omega arith

modest_both : (m n : ℕ) (xs ys : List RowWrite) → AreModest m xs → AreModest n ys → AreModest (m + n) (xs ++ ys)
modest_both m n xs ys h k = record { grow = let a = h.grow in let b = k.grow in let c = growth-append xs ys in omega arith; few = all_append PutsFewNames xs ys h.few k.few }

modest_one : (w : RowWrite) → PutsFewNames w → AreModest 1 (w ∷ [])
modest_one w p = record { grow = let h = growth_by_one w in omega arith; few = (p, tt) }

modest_none : AreModest 1 []
modest_none = record { grow = omega arith; few = tt }

modest_more : (ws : List RowWrite) → AreModest 0 ws → AreModest 1 ws
modest_more ws h = record { grow = let k = h.grow in omega arith; few = h.few }

modest_removed : (es : List Entry) → AreModest 0 (map removed es)
modest_removed [] = record { grow = omega arith; few = tt }
modest_removed (e ∷ es) = let r = modest_removed es in record { grow = let h = r.grow in omega arith; few = (tt, r.few) }

modest_freed : (domain : Bytes) (es : List Entry) → AllByRecursion HasFewNames es → AreModest 0 (map (freed domain) es)
modest_freed domain [] h = record { grow = omega arith; few = tt }
modest_freed domain (e ∷ es) h =
    let r = modest_freed domain es h.1 in
    let l = length_filter_le (λ d. not (bytes_eq d domain)) e.domains in
    let k = h.0 in
    record { grow = let g = r.grow in omega arith; few = (omega arith, r.few) }

abbrev IsModest : OpResult → Type 0
IsModest o = IfOk o (λ d. AreModest 1 d.writes)

named_modest : (q : Option Bytes) (old : Option Entry) (e : Entry) → HasFewNames e → IsModest (put_named q old e)
named_modest (Some d) old e h = tt
named_modest None old e h = modest_one _ h

unless_similar_modest : (p old : Option Entry) (e : Entry) (b : Book) → HasFewNames e → IsModest (put_unless_similar p old e b)
unless_similar_modest (Some o) old e b h = tt
unless_similar_modest None old e b h = named_modest (lacking e.domains b) old e h

create_modest : (o : Option Entry) (e : Entry) (b : Book) → HasFewNames e → IsModest (create_over o e b)
create_modest (Some o) e b h = tt
create_modest None e b h = unless_similar_modest (similar e b) None e b h

update_modest_when : (stale : Bool) (old : Entry) (e : NewEntry) (b : Book) → length e.domains ≤ 8 → IsModest (update_when stale old e b)
update_modest_when true old e b h = tt
update_modest_when false old e b h = unless_similar_modest (similar (at_revision (old.revision + 1) e) b) (Some old) (at_revision (old.revision + 1) e) b h

update_modest : (o : Option Entry) (e : NewEntry) (expected : Option ℕ) (b : Book) → length e.domains ≤ 8 → IsModest (update_over o e expected b)
update_modest None e expected b h = tt
update_modest (Some old) e expected b h = update_modest_when (is_stale expected old) old e b h

delete_modest_when : (stale : Bool) (e : Entry) → IsModest (delete_when stale e)
delete_modest_when true e = tt
delete_modest_when false e = modest_one _ tt

delete_modest : (o : Option Entry) (expected : Option ℕ) → IsModest (delete_over o expected)
delete_modest None expected = tt
delete_modest (Some e) expected = delete_modest_when (is_stale expected e) e

read_modest : (o : Option Agent) (f : Agent → OpResult) → ((a : Agent) → IsModest (f a)) → IsModest (for_agent o f)
read_modest None f h = tt
read_modest (Some a) f h = h a

drop_in_modest : (m : DropMode) (es : List Entry) (d : Bundle) → AllByRecursion HasFewNames es → IsModest (drop_in m es d)
drop_in_modest mode.Restrict [] d h = modest_one _ tt
drop_in_modest mode.Restrict (e ∷ es) d h = tt
drop_in_modest mode.Delete es d h = modest_both 0 1 (map removed es) (bundle_removed d ∷ []) (modest_removed es) (modest_one _ tt)
drop_in_modest mode.Dissociate es d h = modest_both 0 1 (map (freed d.domain) es) (bundle_removed d ∷ []) (modest_freed d.domain es h) (modest_one _ tt)

few_in : (own_domain : Bytes) (m : ℕ) (b : Book) → Lawful own_domain m b → AllByRecursion HasFewNames b.entries
few_in own_domain m b l = All-from_within HasFewNames b.entries (λ e w. few_names own_domain (given_of e) (l.no_fault e w))

few_users : (domain : Bytes) (b : Book) → AllByRecursion HasFewNames b.entries → AllByRecursion HasFewNames (users_of domain b)
few_users domain b h = All-from_within HasFewNames (users_of domain b) (λ e w. All-within HasFewNames b.entries e h (from_within_filter (names domain) b.entries e w).0)

drop_modest : (o : Option Bundle) (domain : Bytes) (m : DropMode) (b : Book) → AllByRecursion HasFewNames b.entries → IsModest (drop_over o domain m b)
drop_modest None domain m b h = tt
drop_modest (Some d) domain m b h = drop_in_modest m (users_of d.domain b) d (few_users d.domain b h)

op_modest : (own_domain : Bytes) (op : Op) (b : Book) → op_fault own_domain op ≡ None → AllByRecursion HasFewNames b.entries → IsModest (op_of own_domain op b)
op_modest own_domain (Create e) b f h = create_modest (entry_at e.id b) (at_revision 0 e) b (few_names own_domain e f)
op_modest own_domain (Update e expected) b f h = update_modest (entry_at e.id b) e expected b (few_names own_domain e f)
op_modest own_domain (Delete k expected) b f h = delete_modest (entry_at k b) expected
op_modest own_domain (Show k) b f h = modest_none
op_modest own_domain (ShowAgent k) b f h = modest_none
op_modest own_domain (ShowBundle k) b f h = modest_none
op_modest own_domain (Children k) b f h = modest_none
op_modest own_domain (Page q) b f h = modest_none
op_modest own_domain (Authorised k) b f h = read_modest (agent_at k b) _ (λ a. modest_none)
op_modest own_domain (Trust k) b f h = read_modest (agent_at k b) _ (λ a. modest_none)
op_modest own_domain (Prune moment) b f h = modest_more _ (modest_removed (expired_before moment b))
op_modest own_domain (SetAgent a) b f h = modest_one _ tt
op_modest own_domain (DropAgent k) b f h = read_modest (agent_at k b) agent_dropped (λ a. modest_one _ tt)
op_modest own_domain (SetBundle k text) b f h = modest_one _ tt
op_modest own_domain (DropBundle k m) b f h = drop_modest (bundle_at k b) k m b h

-- ---- the run of a batch adds at most as many rows as it has operations

abbrev RunsModestly : ℕ → RunResult → Type 0
RunsModestly n r = IfOk r (λ t. AreModest n t.writes)

onto_modest : (n : ℕ) (d : OpEffect) (r : RunResult) → AreModest 1 d.writes → RunsModestly n r → RunsModestly (1 + n) (onto d r)
onto_modest n d (Ok t) h k = modest_both 1 n d.writes t.writes h k
onto_modest n d (Err s) h k = tt

then_modest : (own_domain : Bytes) (m n : ℕ) (b : Book) (o : OpResult) (f : OpEffect → RunResult) → IfOk o (λ d. Lawful own_domain m (after d.writes b)) → IsModest o → ((d : OpEffect) → Lawful own_domain m (after d.writes b) → RunsModestly n (f d)) → RunsModestly (1 + n) (then_run o f)
then_modest own_domain m n b (Ok d) f l h k = onto_modest n d (f d) h (k d l)
then_modest own_domain m n b (Err r) f l h k = tt

run_modest : (own_domain : Bytes) (m : ℕ) (ops : List Op) (b : Book) → AllByRecursion IsProperOp ops → AllByRecursion (λ op. op_fault own_domain op ≡ None) ops → Lawful own_domain m b → RunsModestly (length ops) (run own_domain ops b)
run_modest own_domain m [] b p f l = record { grow = omega arith; few = tt }
run_modest own_domain m (op ∷ ops) b p f l =
    let q : 1 + length ops ≡ length (op ∷ ops) = omega arith in
    subst (λ n. RunsModestly n (run own_domain (op ∷ ops) b)) q
    (then_modest own_domain (m + 1) (length ops) b (op_of own_domain op b) (λ d. run own_domain ops (after d.writes b)) (op_keeps own_domain m op b p.0 f.0 l) (op_modest own_domain op b f.0 (few_in own_domain m b l)) (λ d k. run_modest own_domain (m + 1) ops (after d.writes b) p.1 f.1 k))

of_run : (P : RunEffect → Type 0) (r : RunResult) (t : RunEffect) → r ≡ Ok t → IfOk r P → P t
of_run P r t e h = let k : IfOk {E = RefusedOp} (Ok t) P = subst (λ r. IfOk r P) e h in k

-- for any replies that are stored
pub room_with : (own_domain : Bytes) (most : ℕ) (batch : Batch) (n : ℕ) (replies : List OpReply) (b : Book) (t : RunEffect) → IsMadeFor own_domain batch → Lawful own_domain most b → IsWithinLimits b → run own_domain batch.ops b ≡ Ok t → RoomAll (t.writes ++ token_writes batch.token batch.ops n replies) b
room_with own_domain most batch n replies b t made l w e =
    let sound : AreFaultless batch.domain batch.ops = ((not_refused batch.domain batch.ops batch.token).0 made.no_fault).0 in
    let few = sound.few in
    let faultless : AllByRecursion (λ op. op_fault own_domain op ≡ None) batch.ops = subst (λ d. AllByRecursion (λ op. op_fault d op ≡ None) batch.ops) made.domain_is sound.none in
    let modest : AreModest (length batch.ops) t.writes = of_run (λ t. AreModest (length batch.ops) t.writes) (run own_domain batch.ops b) t e (run_modest own_domain most batch.ops b made.proper faultless l) in
    let fits = of_run (λ t. FitAll t.writes b × AscendingBook (after t.writes b)) (run own_domain batch.ops b) t e (run_fits own_domain batch.ops b l.ascending) in
    let g = modest.grow in
    let x = w.entries in let y = w.agents in let z = w.bundles in let k = w.tokens in
    let small : IsSmall 0 b = record { entries = omega arith; agents = omega arith; bundles = omega arith; tokens = omega arith; few = few_in own_domain most b l } in
    let left : IsSmall (0 + growth_of t.writes) (after t.writes b) = small_all 0 t.writes b fits.0 modest.few small in
    let tokens = left.tokens in
    room_append t.writes (token_writes batch.token batch.ops n replies) b
    (room_all 0 t.writes b (omega arith) fits.0 modest.few small)
    (room_for_token batch.token batch.ops n replies (after t.writes b) (omega arith))

pub room_in_run : RoomInRun
room_in_run own_domain most batch n b t made l w e = room_with own_domain most batch n t.replies b t made l w e
