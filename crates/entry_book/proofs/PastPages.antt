-- A batch that reads an earlier book is a single page, which is read-only, and has no token.
use Rattle.std.proofs.Common.{◌≡◌, ℕ, true, false, List, [], ◌∷◌, Option, Some, None, refl, sym, ap, ◌∙◌, arith}
use Rattle.std.specs.Prelude.{is_some}
use Rattle.entry_book.specs.declared.op.Op.{Op}
use Rattle.entry_book.specs.declared.op.Op.TheVariants.{Page}
use Rattle.entry_book.specs.declared.page.PageQuery.{PageQuery}
use Rattle.entry_book.specs.Rows.{Bytes}
use Rattle.entry_book.specs.Batches.{Batch, IsMadeFor, is_query, past_place}
use Rattle.entry_book.specs.Laws.{ArePagesAlone, ReadLastBook}
use Rattle.entry_book.proofs.Faults.{PageOf, last_asks, not_refused, page_of}

pub record IsPastPage (batch : Batch) (n : ℕ) : Type 0 where
  pub query : PageQuery
  pub ops : batch.ops ≡ Page query ∷ []
  pub at : query.at ≡ Some n
  pub token : batch.token ≡ None

no_token : (token : Option Bytes) → (is_some token ≡ true → true ≡ false) → token ≡ None
no_token None h = refl
no_token (Some k) h = let q = h refl in cc

past_when : (batch : Batch) (ops : List Op) (n : ℕ) → batch.ops ≡ ops → ArePagesAlone ops → (is_some batch.token ≡ true → is_query ops ≡ false) → past_place ops ≡ Some n → IsPastPage batch n
past_when batch [] n e a t h = cc
past_when batch (op ∷ []) n e a t h =
    let r : PageOf op n = page_of op n h in
    record { query = r.query; ops = e ∙ ap (λ x. x ∷ []) r.is_page; at = r.at; token = no_token batch.token (λ k. sym (ap (λ x. is_query (x ∷ [])) r.is_page) ∙ t k) }
past_when batch (op ∷ other ∷ ops) n e a t h = let q : None ≡ Some n = sym (last_asks (op ∷ other ∷ ops) (a (omega arith))).0 ∙ h in cc

pub past_page : (own_domain : Bytes) (batch : Batch) (n : ℕ) → IsMadeFor own_domain batch → past_place batch.ops ≡ Some n → IsPastPage batch n
past_page own_domain batch n m h = let k = (not_refused batch.domain batch.ops batch.token).0 m.no_fault in past_when batch batch.ops n refl k.1 k.2 h

pub past_asks : (own_domain : Bytes) (batch : Batch) (n : ℕ) → IsMadeFor own_domain batch → past_place batch.ops ≡ Some n → is_query batch.ops ≡ true
past_asks own_domain batch n m h = let p : IsPastPage batch n = past_page own_domain batch n m h in ap is_query p.ops

-- a batch of changes reads no earlier book
pub changes_newest : (own_domain : Bytes) (batch : Batch) → IsMadeFor own_domain batch → is_query batch.ops ≡ false → past_place batch.ops ≡ None
changes_newest own_domain batch m q = none_when batch (past_place batch.ops) refl
  where
    none_when : (batch' : Batch) (o : Option ℕ) → past_place batch.ops ≡ o → past_place batch.ops ≡ None
    none_when batch' None e = e
    none_when batch' (Some n) e = let a : true ≡ false = sym (past_asks own_domain batch n m e) ∙ q in cc

-- operations whose pages give no book's number read no earlier book
pub asks_newest : (ops : List Op) → ReadLastBook ops → past_place ops ≡ None
asks_newest [] h = refl
asks_newest (op ∷ ops) h = (last_asks (op ∷ ops) h).0
