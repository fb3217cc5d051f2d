-- When no limit is passed, and that no book of a history passes one.
use Rattle.std.proofs.Common.{◌≡◌, ℕ, zero, suc, ◌+◌, ◌<◌, ◌≤◌, Bool, true, false, cond, List, [], ◌∷◌, length, Option, Some, None, Ok, Err, refl, sym, ap, subst, ◌∙◌, ◌↔◌, arith}
use Rattle.std.specs.Prelude.{◌^◌, slice_get, nat_lt, not}
use Rattle.std.specs.List.{AllByRecursion}
use Rattle.std.proofs.lemmas.Bool.Decides.{nat_tests}
use Rattle.entry_book.specs.declared.limit.Limit.{Limit}
use Rattle.entry_book.specs.declared.limit.Limit.TheVariants as of
use Rattle.entry_book.specs.declared.reply.OpReply.{OpReply}
use Rattle.entry_book.specs.Rows.{Bytes}
use Rattle.entry_book.specs.Book.{Book, empty_book}
use Rattle.entry_book.specs.Writes.{after}
use Rattle.entry_book.specs.Runs.{RunResult, run}
use Rattle.entry_book.specs.Limits.{limit_passed, IsWithinLimits}
use Rattle.entry_book.specs.Batches.{Batch, is_query, past_place}
use Rattle.entry_book.specs.History.{place_of, batch_writes, book_for, adds_within, verdict_when, books_with, books_after, books_from, IsFirst, LeadToBooks, IsHistory}
use Rattle.entry_book.specs.Laws.{IsFirstPassed}
use Rattle.entry_book.proofs.Sets.{All-more}
use Rattle.entry_book.proofs.OfVerdict.{of_verdict}

-- the table, with the results of its tests
abbrev lines : Bool → Bool → Bool → Bool → Bool → Option Limit
lines a b c d e = cond a (Some of.History) (cond b (Some of.Entries) (cond c (Some of.Agents) (cond d (Some of.Bundles) (cond e (Some of.Tokens) None))))

all_fail : (a b c d e : Bool) → lines a b c d e ≡ None → (a ≡ false) × (b ≡ false) × (c ≡ false) × (d ≡ false) × (e ≡ false)
all_fail true b c d e h = cc
all_fail false true c d e h = cc
all_fail false false true d e h = cc
all_fail false false false true e h = cc
all_fail false false false false true h = cc
all_fail false false false false false h = (refl, refl, refl, refl, refl)

lines_none : (a b c d e : Bool) → a ≡ false → b ≡ false → c ≡ false → d ≡ false → e ≡ false → lines a b c d e ≡ None
lines_none a b c d e p q r s t = ap (λ x. lines x b c d e) p ∙ (ap (λ x. lines false x c d e) q ∙ (ap (λ x. lines false false x d e) r ∙ (ap (λ x. lines false false false x e) s ∙ ap (lines false false false false) t)))

passed_not : (n m : ℕ) → nat_lt n m ≡ false → m ≤ n
passed_not n m h = grind (arith, nat_tests, h)

not_passed : (n m : ℕ) → m ≤ n → nat_lt n m ≡ false
not_passed n m h = grind (arith, nat_tests, h)

below : (n m : ℕ) → not (nat_lt n m) ≡ false → n < m
below n m h = grind (arith, nat_tests, h)

not_from : (n m : ℕ) → n < m → not (nat_lt n m) ≡ false
not_from n m h = grind (arith, nat_tests, h)

pub none_is_passed : (place : ℕ) (b : Book) → (limit_passed place b ≡ None) ↔ ((place < 2 ^ 48) × IsWithinLimits b)
none_is_passed place b = (
  λ h.
      let k = all_fail (not (nat_lt place (2 ^ 48))) (nat_lt 16384 (length b.entries)) (nat_lt 4096 (length b.agents)) (nat_lt 1024 (length b.bundles)) (nat_lt 65536 (length b.tokens)) h in
      (below place (2 ^ 48) k.0, record { entries = passed_not 16384 (length b.entries) k.1; agents = passed_not 4096 (length b.agents) k.2; bundles = passed_not 1024 (length b.bundles) k.3; tokens = passed_not 65536 (length b.tokens) k.4 }),
  λ h.
      let p = h.0 in
      let w : IsWithinLimits b = h.1 in
      lines_none (not (nat_lt place (2 ^ 48))) (nat_lt 16384 (length b.entries)) (nat_lt 4096 (length b.agents)) (nat_lt 1024 (length b.bundles)) (nat_lt 65536 (length b.tokens))
      (not_from place (2 ^ 48) p) (not_passed 16384 (length b.entries) w.entries) (not_passed 4096 (length b.agents) w.agents) (not_passed 1024 (length b.bundles) w.bundles) (not_passed 65536 (length b.tokens) w.tokens),
)

-- the tests for which a limit is the first that is passed
abbrev FailsFirst : Limit → Bool → Bool → Bool → Bool → Bool → Type 0
FailsFirst of.History a b c d e = a ≡ true
FailsFirst of.Entries a b c d e = (a ≡ false) × (b ≡ true)
FailsFirst of.Agents a b c d e = (a ≡ false) × (b ≡ false) × (c ≡ true)
FailsFirst of.Bundles a b c d e = (a ≡ false) × (b ≡ false) × (c ≡ false) × (d ≡ true)
FailsFirst of.Tokens a b c d e = (a ≡ false) × (b ≡ false) × (c ≡ false) × (d ≡ false) × (e ≡ true)

-- the results of the tests if a limit is the first one
first_fails : (limit : Limit) (a b c d e : Bool) → lines a b c d e ≡ Some limit → FailsFirst limit a b c d e
first_fails limit true b c d e h = let q : of.History ≡ limit = cc in subst (λ l. FailsFirst l true b c d e) q refl
first_fails limit false true c d e h = let q : of.Entries ≡ limit = cc in subst (λ l. FailsFirst l false true c d e) q (refl, refl)
first_fails limit false false true d e h = let q : of.Agents ≡ limit = cc in subst (λ l. FailsFirst l false false true d e) q (refl, refl, refl)
first_fails limit false false false true e h = let q : of.Bundles ≡ limit = cc in subst (λ l. FailsFirst l false false false true e) q (refl, refl, refl, refl)
first_fails limit false false false false true h = let q : of.Tokens ≡ limit = cc in subst (λ l. FailsFirst l false false false false true) q (refl, refl, refl, refl, refl)
first_fails limit false false false false false h = cc

first_lines : (limit : Limit) (a b c d e : Bool) → FailsFirst limit a b c d e → lines a b c d e ≡ Some limit
first_lines of.History a b c d e h = ap (λ x. lines x b c d e) h
first_lines of.Entries a b c d e h = ap (λ x. lines x b c d e) h.0 ∙ ap (λ x. lines false x c d e) h.1
first_lines of.Agents a b c d e h = ap (λ x. lines x b c d e) h.0 ∙ (ap (λ x. lines false x c d e) h.1 ∙ ap (λ x. lines false false x d e) h.2)
first_lines of.Bundles a b c d e h = ap (λ x. lines x b c d e) h.0 ∙ (ap (λ x. lines false x c d e) h.1 ∙ (ap (λ x. lines false false x d e) h.2 ∙ ap (λ x. lines false false false x e) h.3))
first_lines of.Tokens a b c d e h = ap (λ x. lines x b c d e) h.0 ∙ (ap (λ x. lines false x c d e) h.1 ∙ (ap (λ x. lines false false x d e) h.2 ∙ (ap (λ x. lines false false false x e) h.3 ∙ ap (lines false false false false) h.4)))

reached : (n m : ℕ) → not (nat_lt n m) ≡ true → m ≤ n
reached n m h = grind (arith, nat_tests, h)

is_reached : (n m : ℕ) → m ≤ n → not (nat_lt n m) ≡ true
is_reached n m h = grind (arith, nat_tests, h)

passed_by : (n m : ℕ) → nat_lt n m ≡ true → n < m
passed_by n m h = grind (arith, nat_tests, h)

is_passed : (n m : ℕ) → n < m → nat_lt n m ≡ true
is_passed n m h = grind (arith, nat_tests, h)

abbrev IsFirstOf : Limit → ℕ → Book → Type 0
IsFirstOf limit place b = FailsFirst limit (not (nat_lt place (2 ^ 48))) (nat_lt 16384 (length b.entries)) (nat_lt 4096 (length b.agents)) (nat_lt 1024 (length b.bundles)) (nat_lt 65536 (length b.tokens))

in_words : (limit : Limit) (place : ℕ) (b : Book) → IsFirstOf limit place b → IsFirstPassed limit place b
in_words of.History place b h = reached place (2 ^ 48) h
in_words of.Entries place b h = (below place (2 ^ 48) h.0, passed_by 16384 (length b.entries) h.1)
in_words of.Agents place b h = (below place (2 ^ 48) h.0, passed_not 16384 (length b.entries) h.1, passed_by 4096 (length b.agents) h.2)
in_words of.Bundles place b h = (below place (2 ^ 48) h.0, passed_not 16384 (length b.entries) h.1, passed_not 4096 (length b.agents) h.2, passed_by 1024 (length b.bundles) h.3)
in_words of.Tokens place b h = (below place (2 ^ 48) h.0, passed_not 16384 (length b.entries) h.1, passed_not 4096 (length b.agents) h.2, passed_not 1024 (length b.bundles) h.3, passed_by 65536 (length b.tokens) h.4)

of_words : (limit : Limit) (place : ℕ) (b : Book) → IsFirstPassed limit place b → IsFirstOf limit place b
of_words of.History place b h = is_reached place (2 ^ 48) h
of_words of.Entries place b h = (not_from place (2 ^ 48) h.0, is_passed 16384 (length b.entries) h.1)
of_words of.Agents place b h = (not_from place (2 ^ 48) h.0, not_passed 16384 (length b.entries) h.1, is_passed 4096 (length b.agents) h.2)
of_words of.Bundles place b h = (not_from place (2 ^ 48) h.0, not_passed 16384 (length b.entries) h.1, not_passed 4096 (length b.agents) h.2, is_passed 1024 (length b.bundles) h.3)
of_words of.Tokens place b h = (not_from place (2 ^ 48) h.0, not_passed 16384 (length b.entries) h.1, not_passed 4096 (length b.agents) h.2, not_passed 1024 (length b.bundles) h.3, is_passed 65536 (length b.tokens) h.4)

pub first_limit : (place : ℕ) (b : Book) (limit : Limit) → (limit_passed place b ≡ Some limit) ↔ IsFirstPassed limit place b
first_limit place b limit = (
  λ h. in_words limit place b (first_fails limit (not (nat_lt place (2 ^ 48))) (nat_lt 16384 (length b.entries)) (nat_lt 4096 (length b.agents)) (nat_lt 1024 (length b.bundles)) (nat_lt 65536 (length b.tokens)) h),
  λ h. first_lines limit (not (nat_lt place (2 ^ 48))) (nat_lt 16384 (length b.entries)) (nat_lt 4096 (length b.agents)) (nat_lt 1024 (length b.bundles)) (nat_lt 65536 (length b.tokens)) (of_words limit place b h),
)

-- ---- the books of a history

at_number : {X : Type 0} (P : X → Type 0) (xs : List X) (n : ℕ) (x : X) → AllByRecursion P xs → slice_get xs n ≡ Some x → P x
at_number P [] n x h e = cc
at_number P (y ∷ ys) zero x h e = let q : y ≡ x = cc in subst P q h.0
at_number P (y ∷ ys) (suc n) x h e = at_number P ys n x h.1 e

within_with : (n : ℕ) (books : List Book) (c : Book) (replies : List OpReply) (o : Option Limit) → limit_passed n c ≡ o → AllByRecursion IsWithinLimits books → AllByRecursion IsWithinLimits (books_with books (adds_within o replies c))
within_with n books c replies (Some l) e h = h
within_with n books c replies None e h = All-more IsWithinLimits books c h ((none_is_passed n c).0 e).1

within_when : (query : Bool) (batch : Batch) (n : ℕ) (books : List Book) (b : Book) (r : RunResult) → AllByRecursion IsWithinLimits books → AllByRecursion IsWithinLimits (books_with books (verdict_when query batch n b r))
within_when query batch n books b (Err s) h = h
within_when true batch n books b (Ok t) h = h
within_when false batch n books b (Ok t) h = let c = after (batch_writes batch (n + 1) t) b in within_with n books c t.replies (limit_passed n c) refl h

within_from : (books : List Book) (batches : List Batch) → AllByRecursion IsWithinLimits books → AllByRecursion IsWithinLimits (books_from books batches)
within_from books [] h = h
within_from books (x ∷ xs) h = within_from (books_after x books) xs (of_verdict (λ v. AllByRecursion IsWithinLimits (books_with books v)) x (place_of books) (λ r. h) (λ n rs. h) (book_for (past_place x.ops) books) (λ b e k. within_when (is_query x.ops) x (place_of books) books b (run x.domain x.ops b) h))

pub empty_within : IsWithinLimits empty_book
empty_within = record { entries = omega arith; agents = omega arith; bundles = omega arith; tokens = omega arith }

by_number : {X : Type 0} (P : X → Type 0) (xs : List X) → ((n : ℕ) (x : X) → slice_get xs n ≡ Some x → P x) → AllByRecursion P xs
by_number P [] h = tt
by_number P (x ∷ xs) h = (h zero x refl, by_number P xs (λ n. h (suc n)))

pub all_within_limits : (first : List Book) (own_domain : Bytes) (books : List Book) → IsHistory first own_domain books → (n : ℕ) (b : Book) → slice_get books n ≡ Some b → IsWithinLimits b
all_within_limits first own_domain books h n b e =
    let leads : LeadToBooks first own_domain h.0 books = h.1 in
    let begins : IsFirst own_domain first = leads.is_first in
    at_number IsWithinLimits books n b (subst (AllByRecursion IsWithinLimits) (sym leads.books_are) (within_from first h.0 (by_number IsWithinLimits first begins.within))) e
