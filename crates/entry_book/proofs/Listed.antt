-- The rows of a kind, as a list in order: those that pass a test, and those that a write leaves.
use Rattle.std.proofs.Common.{◌≡◌, ◌≢◌, ◌↔◌, Bool, true, not, ◌⊎◌, List, Option, Some, None, refl, sym, inl, inr, ⊎_elim}
use Rattle.std.specs.Prelude.{filter, bytes_eq}
use Rattle.std.proofs.lemmas.Bool.{both_ways, cases_Bool}
use Rattle.entry_book.specs.Rows.{Bytes}
use Rattle.entry_book.specs.Order.{Within, Ascending, with_row, first}
use Rattle.entry_book.specs.Effects.{IsListOf, IsRowAt}
use Rattle.entry_book.proofs.Changed.{not_is}
use Rattle.entry_book.proofs.InOrder.{ascending-with_row}
use Rattle.entry_book.proofs.Keys.{at_row, no_row, from_with_row, within_with_row, new_with_row}
use Rattle.entry_book.proofs.Sets.{within_filter, from_within_filter, ascending_filter}

pub one_is : {X : Type 0} (n x : X) → (n ≡ x) ⊎ ⊥ → x ≡ n
one_is n x w = ⊎_elim (λ e. sym e) (λ v. absurd v) w

module _ {X : Type 0} (key : X → Bytes) where
  -- the row of a key, as the book finds it
  pub row_found : (k : Bytes) (rows : List X) (o : Option X) → first (filter (λ x. bytes_eq (key x) k) rows) ≡ o → IsRowAt key rows k o
  row_found k rows None h = λ x w e. no_row key k rows h x w e
  row_found k rows (Some x) h = at_row key k rows x h

  -- the same rows, by an equivalent condition
  pub listed_as : (P Q : X → Type 0) (xs : List X) → ((x : X) → P x ↔ Q x) → IsListOf key P xs → IsListOf key Q xs
  listed_as P Q xs f l = record { members = λ x. (λ w. (f x).0 ((l.members x).0 w), λ q. (l.members x).1 ((f x).1 q)); order = l.order }

  pub listed_filter : (p : X → Bool) (P : X → Type 0) (rows : List X) → ((x : X) → (p x ≡ true) ↔ P x) → Ascending key rows → IsListOf key (λ x. Within rows x × P x) (filter p rows)
  listed_filter p P rows f a = record {
    members = λ x. (
      λ w. let r = from_within_filter p rows x w in (r.0, (f x).0 r.1),
      λ v. within_filter p rows x v.0 ((f x).1 v.1),
    );
    order = ascending_filter key p rows a;
  }

  pub listed_others : (p : X → Bool) (P : X → Type 0) (rows : List X) → ((x : X) → (p x ≡ true) ↔ P x) → Ascending key rows → IsListOf key (λ x. Within rows x × (P x → ⊥)) (filter (λ x. not (p x)) rows)
  listed_others p P rows f a = listed_filter (λ x. not (p x)) (λ x. P x → ⊥) rows (λ x. (
    λ h v. both_ways (p x) (not_is (p x) h) ((f x).1 v),
    λ n. ⊎_elim (λ t. absurd (n ((f x).0 t))) (λ t. rw t refl) (cases_Bool (p x)),
  )) a

  -- after a row is put, and after one is removed
  pub listed_put : (k : Bytes) (n : X) (rows : List X) → key n ≡ k → Ascending key rows → IsListOf key (λ x. (x ≡ n) ⊎ (Within rows x × (key x ≢ k))) (with_row key k (Some n) rows)
  listed_put k n rows e a = record {
    members = λ x. (
      λ w. ⊎_elim (λ v. inl (one_is n x v)) (λ v. inr v) (from_with_row key k (Some n) rows x w),
      λ v. ⊎_elim (λ q. rw q (new_with_row key k n rows)) (λ r. within_with_row key k (Some n) rows x r.0 r.1) v,
    );
    order = ascending-with_row key k (Some n) rows a e;
  }

  pub listed_gone : (k : Bytes) (rows : List X) → Ascending key rows → IsListOf key (λ x. Within rows x × (key x ≢ k)) (with_row key k None rows)
  listed_gone k rows a = record {
    members = λ x. (
      λ w. ⊎_elim (λ v. absurd v) (λ r. r) (from_with_row key k None rows x w),
      λ r. within_with_row key k None rows x r.0 r.1,
    );
    order = ascending-with_row key k None rows a tt;
  }
