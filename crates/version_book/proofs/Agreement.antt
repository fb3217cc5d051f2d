-- What does a mark read after writes?
use Rattle.std.proofs.Common.{◌≡◌, Bool, false, List, [], ◌∷◌, Option, Some, None, sym, ap, subst, ◌∙◌, refl, ⊎_elim}
use Rattle.std.specs.Prelude.{map, filter, option_to_list, bytes_eq}
use Rattle.std.proofs.lemmas.Bool.{both_ways, or_parts}
use Rattle.entry_book.proofs.Filters.{kept as kept_in, filter-with_row}
use Rattle.entry_book.proofs.Fits.{in_order}
use Rattle.entry_book.proofs.Keys.{without_none}
use Rattle.entry_book.proofs.Sets.{ascending_filter, from_within_filter, within_filter, text_same}
use Rattle.entry_book.specs.Rows.{Bytes, entry_key, agent_key, bundle_key}
use Rattle.entry_book.specs.Tokens.{token_key}
use Rattle.entry_book.specs.Order.{Within, Ascending, with_row}
use Rattle.entry_book.specs.Book.{Book, AscendingBook}
use Rattle.entry_book.specs.Writes.{RowChange, RowWrite, wrote_entry, wrote_agent, wrote_bundle, wrote_token, FitsRows, FitsBook, after, after_write}
use Rattle.version_book.specs.declared.mark.MarkKind.{MarkKind}
use Rattle.version_book.specs.Marks.{Agree, reads, hits, passes_if_some, seen, names_entry, names_agent, names_bundle, names_token}
use Rattle.version_book.specs.Laws.{AgreeAfter, ReadsAfter, Unhit}

reads-after_write : (m : MarkKind) (w : RowWrite) (b : Book) → reads m (after_write w b) ≡ after_write (seen m w) (reads m b)
reads-after_write m (wrote_entry c) b = ap (λ rows. record (reads m b) { entries = rows }) (filter-with_row entry_key (names_entry m) c.key c.new b.entries)
reads-after_write m (wrote_agent c) b = ap (λ rows. record (reads m b) { agents = rows }) (filter-with_row agent_key (names_agent m) c.key c.new b.agents)
reads-after_write m (wrote_bundle c) b = ap (λ rows. record (reads m b) { bundles = rows }) (filter-with_row bundle_key (names_bundle m) c.key c.new b.bundles)
reads-after_write m (wrote_token c) b = ap (λ rows. record (reads m b) { tokens = rows }) (filter-with_row token_key (names_token m) c.key c.new b.tokens)

-- what a mark reads from a book in order is in order
pub ascending_reads : (m : MarkKind) (b : Book) → AscendingBook b → AscendingBook (reads m b)
ascending_reads m b a = record {
  entries = ascending_filter entry_key (names_entry m) b.entries a.entries;
  agents = ascending_filter agent_key (names_agent m) b.agents a.agents;
  bundles = ascending_filter bundle_key (names_bundle m) b.bundles a.bundles;
  tokens = ascending_filter token_key (names_token m) b.tokens a.tokens;
}

pub reads_after : ReadsAfter
reads_after m [] b = refl
reads_after m (w ∷ ws) b = reads_after m ws (after_write w b) ∙ ap (after (map (seen m) ws)) (reads-after_write m w b)

pub agree_after : AgreeAfter
agree_after ws b c m h = reads_after m ws b ∙ (ap (after (map (seen m) ws)) h ∙ sym (reads_after m ws c))

-- ---- writes that don't hit

module _ {X : Type 0} (key : X → Bytes) (p : X → Bool) where
  kept_none : (o : Option X) → passes_if_some p o ≡ false → kept_in p o ≡ None
  kept_none None h = refl
  kept_none (Some x) h = rw h refl

  -- if neither the rows with the key nor the new row pass, the rows that pass are unchanged
  pub unhit_rows : (k : Bytes) (new : Option X) (rows : List X) → Ascending key rows → ((x : X) → Within rows x → key x ≡ k → p x ≡ false) → passes_if_some p new ≡ false → filter p (with_row key k new rows) ≡ filter p rows
  unhit_rows k new rows a old h =
      filter-with_row key p k new rows
      ∙ (ap (λ o. with_row key k o (filter p rows)) (kept_none new h)
      ∙ without_none key k (filter p rows) (ascending_filter key p rows a) (λ x w e. let r = from_within_filter p rows x w in both_ways (p x) (old x r.0 e) r.1))

  not_old : (o : Option X) (x : X) → Within (option_to_list o) x → passes_if_some p o ≡ false → p x ≡ false
  not_old None x w h = absurd w
  not_old (Some y) x w h = ⊎_elim (λ e. ap p (sym e) ∙ h) (λ n. absurd n) w

  -- a row with the key of a fitting write is its old row
  pub old_fails : (c : RowChange X) (rows : List X) → FitsRows key c rows → passes_if_some p c.old ≡ false → (x : X) → Within rows x → key x ≡ c.key → p x ≡ false
  old_fails c rows f h x w e = not_old c.old x (subst (λ l. Within l x) f.found (within_filter (λ x. bytes_eq (key x) c.key) rows x w (text_same (key x) c.key e))) h

  unhit_change : (c : RowChange X) (rows : List X) → Ascending key rows → FitsRows key c rows → passes_if_some p c.old ≡ false → passes_if_some p c.new ≡ false → filter p rows ≡ filter p (with_row key c.key c.new rows)
  unhit_change c rows a f old new = sym (unhit_rows c.key c.new rows a (old_fails c rows f old) new)

unhit_write : (w : RowWrite) (b : Book) (m : MarkKind) → AscendingBook b → FitsBook w b → hits w m ≡ false → Agree b (after_write w b) m
unhit_write (wrote_entry c) b m a f h = let r = or_parts _ _ (or_parts _ _ h).1 in ap (λ rows. record (reads m b) { entries = rows }) (unhit_change entry_key (names_entry m) c b.entries a.entries f r.0 r.1)
unhit_write (wrote_agent c) b m a f h = let r = or_parts _ _ h in ap (λ rows. record (reads m b) { agents = rows }) (unhit_change agent_key (names_agent m) c b.agents a.agents f r.0 r.1)
unhit_write (wrote_bundle c) b m a f h = let r = or_parts _ _ h in ap (λ rows. record (reads m b) { bundles = rows }) (unhit_change bundle_key (names_bundle m) c b.bundles a.bundles f r.0 r.1)
unhit_write (wrote_token c) b m a f h = let r = or_parts _ _ h in ap (λ rows. record (reads m b) { tokens = rows }) (unhit_change token_key (names_token m) c b.tokens a.tokens f r.0 r.1)

pub unhit : Unhit
unhit [] b m a f h = refl
unhit (w ∷ ws) b m a f h = unhit_write w b m a f.0 h.0 ∙ unhit ws (after_write w b) m (in_order (w ∷ []) b a (f.0, tt)) f.1 h.1
