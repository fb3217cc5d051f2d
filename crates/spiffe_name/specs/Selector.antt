-- The grammar of a selector, as a concatenation of a type, a colon and a value.
use Rattle.std.specs.Prelude.{◌≡◌, ℕ, ◌<◌, ◌≤◌, Bool, ◌==◌, not, List, ◌∷◌, ◌++◌, length, nat_lt, IsTrue, Option, None}
use Rattle.std.specs.List.{list_all, list_any, before_first, after_first}
use Rattle.spiffe_name.specs.Failures.{refuse_if}
use Rattle.spiffe_name.specs.declared.refusals.SelectorRefusal.{SelectorRefusal}
use Rattle.spiffe_name.specs.declared.refusals.SelectorRefusal.TheVariants.{TooLong, NoColon, EmptyType, EmptyValue}

-- the model of a selector: a type, such as `unix`, and a value, such as `uid:1000`
pub record SelectorPair : Type 0 where
  pub type : List ℕ
  pub value : List ℕ

abbrev pub is_colon : ℕ → Bool
is_colon b = b == 58

-- the text of a selector
abbrev pub selector_text : SelectorPair → List ℕ
selector_text s = s.type ++ 58 ∷ s.value

-- The text spells the pair: it is the type, a colon and the value, in at most 512 bytes. Neither part is empty, and the
-- type has no colon.
pub record SpellsSelector (text : List ℕ) (pair : SelectorPair) : Type 0 where
  pub joined : text ≡ selector_text pair
  pub fits : length text ≤ 512
  pub has_type : 0 < length pair.type
  pub has_value : 0 < length pair.value
  pub no_colon : IsTrue (list_all (λ b. not (is_colon b)) pair.type)

-- the text before the first colon, and the text after it
abbrev pub pair_of : List ℕ → SelectorPair
pair_of text = record { type = before_first is_colon text; value = after_first is_colon text }

-- the first refusal that applies to the text, if any
unfoldable pub selector_refusal : List ℕ → Option SelectorRefusal
selector_refusal text =
    refuse_if (nat_lt 512 (length text)) TooLong (
    refuse_if (not (list_any is_colon text)) NoColon (
    refuse_if (length (pair_of text).type == 0) EmptyType (
    refuse_if (length (pair_of text).value == 0) EmptyValue
    None)))
