-- A waiting work is still based on the head after others commit, and after a checkpoint drops items.
use Rattle.std.proofs.Common.{◌≡◌, ℕ, zero, suc, ◌-◌, List, [], ◌∷◌, ◌++◌, length, take, drop, Option, Some, None, refl, sym, ap, subst, ◌∙◌, inl, inr, ⊎_elim, append_assoc}
use Rattle.std.specs.Prelude.{All}
use Rattle.std.proofs.lemmas.List.{append-nil, take-append-drop}
use Rattle.std.proofs.lemmas.List.Elements.{All-push, All-weaker}
use Rattle.entry_book.specs.Batches.{Batch}
use Rattle.batch_work.specs.Windows.{Window}
use Rattle.batch_work.specs.Working.{Base, Work, base_in}
use Rattle.commit_head.specs.declared.commit.Commit.{Commit}
use Rattle.commit_head.specs.declared.commit.Commit.TheVariants.{Conflict, Full, Committed, NoMemory}
use Rattle.commit_head.specs.declared.item.Item.{Item}
use Rattle.commit_head.specs.Heads.{BeganOn, Head, IsAppended, IsCommit, IsUnchangedHead, last_items, newest_of}
use Rattle.commit_head.specs.Journals.{Agrees, IsSuffix, Joins, Leads}
use Rattle.commit_head.proofs.Journals.{leads_more}

-- ---- one more item

ending_more : (whole end : List Item) (item : Item) → IsSuffix whole end → IsSuffix (whole ++ item ∷ []) (end ++ item ∷ [])
ending_more whole end item e = (e.0, ap (λ l. l ++ item ∷ []) e.1 ∙ append_assoc e.0 end (item ∷ []))

agrees_more : (items kept : List Item) (item : Item) → Agrees items kept → Agrees (items ++ item ∷ []) (kept ++ item ∷ [])
agrees_more items kept item a = ⊎_elim (λ e. inl (ending_more items kept item e)) (λ e. inr (ending_more kept items item e)) a

began_more : (base : Option Base) (old new : Head) (item : Item) → Joins item (newest_of old) → IsAppended old item new → BeganOn base old → BeganOn base new
began_more None old new item j a b = b
began_more (Some base) old new item j a b = (
  b.0 ++ item ∷ [],
  subst (Leads base.newest (b.0 ++ item ∷ [])) (sym (ap (λ w. w.newest) a.window)) (leads_more b.0 item base.newest (newest_of old) b.1 j),
  subst (Agrees (b.0 ++ item ∷ [])) (sym a.kept) (agrees_more b.0 old.kept item b.2),
)

began_same : (base : Option Base) (old new : Head) → IsUnchangedHead old new → BeganOn base old → BeganOn base new
began_same None old new s b = b
began_same (Some base) old new s b = (b.0, subst (Leads base.newest b.0) (sym (ap (λ w. w.newest) s.window)) b.1, subst (Agrees b.0) (sym s.kept) b.2)

-- a work that began on the head still has begun on it after another one's commit
pub after_commit : (base : Option Base) (old new : Head) (seat call : ℕ) (w : Work) (c : Commit) → IsCommit old seat call w c new → BeganOn base old → BeganOn base new
after_commit base old new seat call w (Conflict n) k b = began_same base old new k.0 b
after_commit base old new seat call w (Full limit n) k b = began_same base old new k.0 b
after_commit base old new seat call w (Committed n) k b = began_more base old new k.item k.joins k.appended b
after_commit base old new seat call w NoMemory k b = began_same base old new k b

-- ---- fewer items

agrees_behind : (n : ℕ) (front items : List Item) → Agrees items (drop n (front ++ items))
agrees_behind zero front items = inr (front, refl)
agrees_behind (suc n) [] items = inl (take (suc n) items, sym (take-append-drop (suc n) items))
agrees_behind (suc n) (x ∷ front) items = agrees_behind n front items

agrees_less : (n : ℕ) (items kept : List Item) → Agrees items kept → Agrees items (drop n kept)
agrees_less n items kept a = ⊎_elim
    (λ e. inl (e.0 ++ take n kept, e.1 ∙ (ap (λ l. e.0 ++ l) (sym (take-append-drop n kept)) ∙ sym (append_assoc e.0 (take n kept) (drop n kept)))))
    (λ e. subst (λ l. Agrees items (drop n l)) (sym e.1) (agrees_behind n e.0 items))
    a

-- and after a checkpoint
pub after_checkpoint : (base : Option Base) (old new : Head) → new.window ≡ old.window → new.kept ≡ last_items old.kept → BeganOn base old → BeganOn base new
after_checkpoint None old new w k b = b
after_checkpoint (Some base) old new w k b = (b.0, subst (Leads base.newest b.0) (sym (ap (λ w. w.newest) w)) b.1, subst (Agrees b.0) (sym k) (agrees_less (length old.kept - 64) b.0 old.kept b.2))

-- ---- all waiting works

pub all_after_commit : (works : List Work) (old new : Head) (seat call : ℕ) (w : Work) (c : Commit) → IsCommit old seat call w c new → All (λ work. BeganOn work.base old) works → All (λ work. BeganOn work.base new) works
all_after_commit works old new seat call w c k h = All-weaker (λ (work : Work). BeganOn work.base old) (λ (work : Work). BeganOn work.base new) (λ work b. after_commit work.base old new seat call w c k b) works h

pub all_after_checkpoint : (works : List Work) (old new : Head) → new.window ≡ old.window → new.kept ≡ last_items old.kept → All (λ work. BeganOn work.base old) works → All (λ work. BeganOn work.base new) works
all_after_checkpoint works old new w k h = All-weaker (λ (work : Work). BeganOn work.base old) (λ (work : Work). BeganOn work.base new) (λ work b. after_checkpoint work.base old new w k b) works h

pub all_with : (works after : List Work) (work : Work) (head : Head) → All (λ work. BeganOn work.base head) works → BeganOn work.base head → after ≡ works ++ work ∷ [] → All (λ work. BeganOn work.base head) after
all_with works after work head h b e = subst (All (λ (work : Work). BeganOn work.base head)) (sym e) (All-push (λ (work : Work). BeganOn work.base head) works work h b)

-- ---- a begin

pub began_now : (batch : Batch) (base : Option Base) (window : Window) (head : Head) → base ≡ Some (base_in batch window) → window ≡ head.window → BeganOn base head
began_now batch base window head e w = subst (λ base. BeganOn base head) (sym e) ([], ap (λ w. w.newest) w, inr (head.kept, sym (append-nil head.kept)))
