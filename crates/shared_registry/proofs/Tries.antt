-- The outcome of the tries of a batch of changes.
use Rattle.std.proofs.Common.{◌≡◌, ℕ, zero, suc, ◌+◌, ◌-◌, ◌≤◌, List, [], ◌∷◌, ◌++◌, length, length-append, take, refl, sym, ap, subst, ◌∙◌, arith}
use Rattle.std.proofs.lemmas.List.{append_assoc, length-take, take-append-le}
use mathlib.Core.List.{IsPrefix}
use Rattle.commit_head.specs.declared.item.Item.{Item}
use Rattle.entry_book.specs.Batches.{Batch}
use Rattle.entry_book.specs.Book.{Book}
use Rattle.entry_book.specs.History.{books_from, place_of}
use Rattle.batch_work.specs.Reads.{footprint_of}
use Rattle.commit_head.specs.Journals.{batches_of}
use Rattle.commit_head.specs.Outcomes.{IsHitSince}
use Rattle.version_book.specs.declared.mark.MarkKind.{MarkKind}
use Rattle.shared_registry.specs.declared.outcome.Outcome.{Outcome}
use Rattle.shared_registry.specs.declared.outcome.Outcome.TheVariants.{Committed, Repeated, Refused, Conflict, NoMemory, NoEntry}
use Rattle.shared_registry.specs.Outcomes.{AreOvertaken, ConflictsTakeCommits, HasSeenLearnt, IsOvertaken, IsSubmitted, TookCommits, WasOvertaken}
use Rattle.shared_registry.specs.OutcomesPrivate.{IsNotConflict, IsOvertakenOnce}
use Rattle.shared_registry.specs.Seated.{DuringCall, Seated}
use Rattle.commit_head.proofs.OnBooks.{batches_join}
use Rattle.shared_registry.proofs.Prefixes.{prefix_length, prefix_trans}

-- ---- a journal grows

-- a prefix of it is a prefix of the longer journal
prefix_on : (place end : ℕ) (journal more : List Batch) → place ≤ end → (rest : List Batch) × (take end (journal ++ more) ≡ take place journal ++ rest)
prefix_on zero end journal more le = (take end (journal ++ more), refl)
prefix_on (suc place) zero journal more le = absurd (omega arith)
prefix_on (suc place) (suc end) [] more le = (take (suc end) more, refl)
prefix_on (suc place) (suc end) (b ∷ journal) more le = let r = prefix_on place end journal more (omega arith) in (r.0, ap (λ l. b ∷ l) r.1)

hit_on : (first : List Book) (journal more : List Batch) (base : ℕ) (marks : List MarkKind) → IsHitSince first journal base marks → IsHitSince first (journal ++ more) base marks
hit_on first journal more base marks o = record {
  before = o.before;
  other = o.other;
  later = o.later ++ more;
  split = ap (λ l. l ++ more) o.split ∙ append_assoc o.before (o.other ∷ o.later) more;
  since = o.since;
  mark = o.mark;
  read = o.read;
  write = o.write;
  is_made = o.is_made;
  hit = o.hit;
}

overtaken_on : (first : List Book) (journal more : List Batch) (batch : Batch) (base place end : ℕ) → place ≤ end → IsOvertaken first journal batch base place → IsOvertaken first (journal ++ more) batch base end
overtaken_on first journal more batch base place end le o =
    let l = ap length o.split in
    let n = length-append o.before (o.other ∷ o.later) in
    let short = length-take place journal in
    let within : base ≤ length journal = let s = o.since in omega arith in
    let front : take base (journal ++ more) ≡ take base journal = take-append-le base journal more within in
    let prefix = prefix_on place end journal more le in
    let marks = footprint_of batch (books_from first (take base journal)) in
    subst (λ l. IsHitSince first (take end (journal ++ more)) (base + place_of first) (footprint_of batch (books_from first l))) (sym front)
    (subst (λ l. IsHitSince first l (base + place_of first) marks) (sym prefix.1) (hit_on first (take place journal) prefix.0 (base + place_of first) marks o))

are_on : (first : List Book) (journal more : List Batch) (batch : Batch) (least place end : ℕ) (bases : List ℕ) → place ≤ end → AreOvertaken first journal batch least place bases → AreOvertaken first (journal ++ more) batch least end bases
are_on first journal more batch least place end [] le o = tt
are_on first journal more batch least place end (base ∷ bases) le o = (o.0, overtaken_on first journal more batch base place end le o.1, are_on first journal more batch least base base bases (omega arith) o.2)

-- ---- what a seat has seen grows

pub during_call_joined : (s t u : Seated) → DuringCall s t → DuringCall t u → DuringCall s u
during_call_joined s t u a b = record {
  number = b.number ∙ a.number;
  calls = b.calls ∙ a.calls;
  learnt = b.learnt ∙ a.learnt;
  seen = prefix_trans s.seen t.seen u.seen a.seen b.seen;
}

-- it has another snapshot
pub during_call_replaced : (s t u : Seated) (found : List Item) → DuringCall s t → u ≡ record t { found = found } → DuringCall s u
during_call_replaced s t u found g is = subst (DuringCall s) (sym is) (record { number = g.number; calls = g.calls; learnt = g.learnt; seen = g.seen })

-- ---- one more try

pub none_yet : (first : List Book) (s : Seated) (batch : Batch) (place : ℕ) → WasOvertaken first s s batch 0 place
none_yet first s batch place = record { bases = []; count = refl; since_seen = tt; since_learnt = tt }

pub once_again : (first : List Book) (s u t : Seated) (batch : Batch) (tries n : ℕ) → WasOvertaken first s u batch tries (length u.seen) → IsPrefix s.seen u.seen → u.learnt ≡ s.learnt → IsPrefix u.seen t.seen → IsOvertakenOnce first u t batch n → WasOvertaken first s t batch (tries + 1) (length t.seen)
once_again first s u t batch tries n o p learnt q once =
    let journal : batches_of t.seen ≡ batches_of u.seen ++ batches_of q.0 = ap batches_of (sym q.1) ∙ batches_join u.seen q.0 in
    let long = prefix_length s.seen u.seen p in
    let le : length u.seen ≤ once.base = once.since_seen in
    let same = ap length learnt in
    let upto : n - place_of first ≡ length t.seen = (let place = once.place in omega arith) in
    let overtaken : IsOvertaken first (batches_of t.seen) batch once.base (length t.seen) = subst (IsOvertaken first (batches_of t.seen) batch once.base) upto once.overtaken in
    record {
      bases = once.base ∷ o.bases;
      count = let c = o.count in omega arith;
      since_seen = (
        let b = once.since_seen in omega arith,
        overtaken,
        subst (λ j. AreOvertaken first j batch (length s.seen) once.base o.bases) (sym journal) (are_on first (batches_of u.seen) (batches_of q.0) batch (length s.seen) (length u.seen) once.base o.bases le o.since_seen),
      );
      since_learnt = (
        let b = once.since_learnt in omega arith,
        overtaken,
        subst (λ j. AreOvertaken first j batch (length s.learnt) once.base o.bases) (sym journal) (are_on first (batches_of u.seen) (batches_of q.0) batch (length s.learnt) (length u.seen) once.base o.bases le o.since_learnt),
      );
    }

-- ---- how many commits the tries took

-- each try began at a later place than the one before
began_apart : (first : List Book) (journal : List Batch) (batch : Batch) (least place : ℕ) (bases : List ℕ) → least ≤ place → AreOvertaken first journal batch least place bases → least + length bases ≤ place
began_apart first journal batch least place [] le o = omega arith
began_apart first journal batch least place (base ∷ bases) le o =
    let earlier = began_apart first journal batch least base bases o.0 o.2 in
    let hit = o.1 in
    let l = ap length hit.split in
    let n = length-append hit.before (hit.other ∷ hit.later) in
    let short = length-take place journal in
    let since = hit.since in
    omega arith

pub conflict_took : (first : List Book) (s t : Seated) (batch : Batch) (tries place : ℕ) → WasOvertaken first s t batch tries (length t.seen) → IsPrefix s.seen t.seen → TookCommits s t tries (Conflict place)
conflict_took first s t batch tries place o p n is =
    let long = prefix_length s.seen t.seen p in
    let apart = began_apart first (batches_of t.seen) batch (length s.seen) (length t.seen) o.bases long o.since_seen in
    let count = o.count in
    omega arith

pub no_conflict_took : (s t : Seated) (tries : ℕ) (o : Outcome) → IsNotConflict o → TookCommits s t tries o
no_conflict_took s t tries o over n is = absurd (over n is)

-- every conflict of a call
pub conflicts_took : ConflictsTakeCommits
conflicts_took first domain s t batch tries (Conflict place) after o =
    let upto : place - place_of first ≡ length t.seen = (let p = o.1 in omega arith) in
    conflict_took first s t batch tries place (subst (WasOvertaken first s t batch tries) upto o.0) after.seen
conflicts_took first domain s t batch tries (Committed reply) after o = no_conflict_took s t tries (Committed reply) (λ n is. cc)
conflicts_took first domain s t batch tries (Repeated reply) after o = no_conflict_took s t tries (Repeated reply) (λ n is. cc)
conflicts_took first domain s t batch tries (Refused reply) after o = no_conflict_took s t tries (Refused reply) (λ n is. cc)
conflicts_took first domain s t batch tries NoMemory after o = no_conflict_took s t tries NoMemory (λ n is. cc)
conflicts_took first domain s t batch tries NoEntry after o = no_conflict_took s t tries NoEntry (λ n is. cc)

-- ---- the end

pub ended : (first : List Book) (s u t : Seated) (batch : Batch) (tries : ℕ) (o : Outcome) → u.own ≡ s.own → IsNotConflict o → IsSubmitted first u t batch 0 o → IsSubmitted first s t batch tries o
ended first s u t batch tries (Committed reply) own over a = record {
  log = a.log;
  item = a.item;
  seen = a.seen;
  reply_is = a.reply_is;
  seat = a.seat;
  call = a.call;
  batch_is = a.batch_is;
  own = a.own ∙ ap (λ l. l ++ t.calls ∷ []) own;
  found = a.found;
}
ended first s u t batch tries (Repeated reply) own over a = (a.0, a.1 ∙ own)
ended first s u t batch tries (Refused reply) own over a = (a.0, a.1 ∙ own)
ended first s u t batch tries (Conflict n) own over a = absurd (over n refl)
ended first s u t batch tries NoMemory own over a = a ∙ own
ended first s u t batch tries NoEntry own over a = a ∙ own

pub seen_learnt_from : (s u t : Seated) (o : Outcome) → u.learnt ≡ s.learnt → HasSeenLearnt u t o → HasSeenLearnt s t o
seen_learnt_from s u t (Committed reply) e h = subst (λ l. IsPrefix l t.seen) e h
seen_learnt_from s u t (Repeated reply) e h = subst (λ l. IsPrefix l t.seen) e h
seen_learnt_from s u t (Refused reply) e h = subst (λ l. IsPrefix l t.seen) e h
seen_learnt_from s u t (Conflict n) e h = subst (λ l. IsPrefix l t.seen) e h
seen_learnt_from s u t NoMemory e h = tt
seen_learnt_from s u t NoEntry e h = tt
