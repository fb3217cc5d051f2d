-- The version on which a work began remains one of a head's history.
use Rattle.std.proofs.Common.{◌≡◌, ℕ, zero, suc, ◌-◌, ◌⊎◌, List, [], ◌∷◌, ◌++◌, length, drop, take, Some, None, refl, sym, ap, subst, ◌∙◌, inl, inr, ⊎_elim}
use Rattle.std.proofs.lemmas.List.{append_assoc, append-nil, take-append-drop}
use Rattle.version_book.specs.History.{version_with}
use Rattle.entry_book.specs.History.{books_from}
use Rattle.batch_work.specs.Windows.{WindowRepresents}
use Rattle.commit_head.specs.declared.item.Item.{Item}
use Rattle.commit_head.specs.Heads.{newest_of}
use Rattle.commit_head.specs.Journals.{Agrees, IsSuffix, Leads, batches_of, first_version}
use Rattle.commit_head.specs.Laws.{BeganExtends, BeganHere, BeganInside, BeganKept, BeganUnchanged, JournalKept, JournalUnchanged}
use Rattle.commit_head.proofs.Journals.{leads_in_parts, leads_more, leads_to_one}

pub began_here : BeganHere
began_here base h e = ([], e, inr (h.kept, sym (append-nil h.kept)))

-- two suffixes of one list agree
endings_agree : (before since front kept : List Item) → before ++ since ≡ front ++ kept → Agrees since kept
endings_agree [] since front kept e = inl (front, e)
endings_agree (b ∷ bs) since [] kept e = inr (b ∷ bs, sym e)
endings_agree (b ∷ bs) since (f ∷ fs) kept e = endings_agree bs since fs kept (rest e)
  where
    rest : b ∷ bs ++ since ≡ f ∷ fs ++ kept → bs ++ since ≡ fs ++ kept
    rest e = cc

pub began_inside : BeganInside
began_inside first before since base h j l =
    let parts = leads_in_parts before since (first_version h.window.newest.domain first) h.window.newest j.leads in
    let same = leads_to_one before (first_version h.window.newest.domain first) parts.0 base.newest parts.1 l in
    let leads : Leads base.newest since (newest_of h) = subst (λ s. Leads s since (newest_of h)) same parts.2 in
    let agrees : Agrees since h.kept = endings_agree before since j.ending.0 h.kept j.ending.1 in
    record { leads = leads; agrees = agrees; began = (since, leads, agrees) }

pub began_kept : BeganKept
began_kept None old new b k = b
began_kept (Some base) old new b k = (b.0, subst (λ w. Leads base.newest b.0 w.newest) (sym k.window) b.1, subst (Agrees b.0) (sym k.kept) b.2)

pub journal_kept : JournalKept
journal_kept first items old new j k = record {
  leads = subst (λ w. Leads (first_version w.newest.domain first) items w.newest) (sym k.window) j.leads;
  ending = (j.ending.0, j.ending.1 ∙ ap (λ l. j.ending.0 ++ l) (sym k.kept));
  shown = subst (λ w. WindowRepresents w (books_from first (batches_of items))) (sym k.window) j.shown;
}

ending_more : (whole end : List Item) (item : Item) → IsSuffix whole end → IsSuffix (whole ++ item ∷ []) (end ++ item ∷ [])
ending_more whole end item e = (e.0, ap (λ l. l ++ item ∷ []) e.1 ∙ append_assoc e.0 end (item ∷ []))

agrees_more : (items kept : List Item) (item : Item) → Agrees items kept → Agrees (items ++ item ∷ []) (kept ++ item ∷ [])
agrees_more items kept item a = ⊎_elim (λ e. inl (ending_more items kept item e)) (λ e. inr (ending_more kept items item e)) a

pub began_extends : BeganExtends
began_extends None item old new b j a = b
began_extends (Some base) item old new b j a =
    let newest : newest_of new ≡ version_with item.batch (newest_of old) = ap (λ w. w.newest) a.window in (
      b.0 ++ item ∷ [],
      subst (Leads base.newest (b.0 ++ item ∷ [])) (sym newest) (leads_more b.0 item base.newest (newest_of old) b.1 j),
      subst (Agrees (b.0 ++ item ∷ [])) (sym a.kept) (agrees_more b.0 old.kept item b.2),
    )

-- after the first n items of two parts are dropped, the rest and the second part agree
dropped : (n : ℕ) (front items : List Item) → IsSuffix (drop n (front ++ items)) items ⊎ IsSuffix items (drop n (front ++ items))
dropped zero front items = inl (front, refl)
dropped (suc n) [] items = inr (take (suc n) items, sym (take-append-drop (suc n) items))
dropped (suc n) (x ∷ front) items = dropped n front items

agrees_dropped : (n : ℕ) (items kept : List Item) → Agrees items kept → Agrees items (drop n kept)
agrees_dropped n items kept a = ⊎_elim
    (λ e. inl (e.0 ++ take n kept, e.1 ∙ (ap (λ l. e.0 ++ l) (sym (take-append-drop n kept)) ∙ sym (append_assoc e.0 (take n kept) (drop n kept)))))
    (λ e. subst (λ l. Agrees items (drop n l)) (sym e.1) (⊎_elim (λ f. inr f) (λ f. inl f) (dropped n e.0 items)))
    a

pub began_unchanged : BeganUnchanged
began_unchanged None old new b w k = b
began_unchanged (Some base) old new b w k = (
  b.0,
  subst (λ w. Leads base.newest b.0 w.newest) (sym w) b.1,
  subst (Agrees b.0) (sym k) (agrees_dropped (length old.kept - 64) b.0 old.kept b.2),
)

pub journal_unchanged : JournalUnchanged
journal_unchanged first items old new j w k =
    let n = length old.kept - 64 in
    record {
      leads = subst (λ w. Leads (first_version w.newest.domain first) items w.newest) (sym w) j.leads;
      ending = (j.ending.0 ++ take n old.kept, j.ending.1 ∙ (ap (λ l. j.ending.0 ++ l) (sym (take-append-drop n old.kept) ∙ ap (λ l. take n old.kept ++ l) (sym k)) ∙ sym (append_assoc j.ending.0 (take n old.kept) new.kept)));
      shown = subst (λ w. WindowRepresents w (books_from first (batches_of items))) (sym w) j.shown;
    }
