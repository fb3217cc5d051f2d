-- Theorems: one name has one text, and which texts are refused.
use Rattle.std.specs.Prelude.{◌≡◌, ◌↔◌, ℕ, Contains, IsTrue, List, None}
use Rattle.spiffe_name.specs.Domain.{IsDomain, domain_refusal}
use Rattle.spiffe_name.specs.Id.{Spells, id_refusal}
use Rattle.spiffe_name.specs.Selector.{SelectorPair, SpellsSelector, selector_refusal}
use Rattle.spiffe_name.specs.SelectorOrder.{selector_eq}
use Rattle.spiffe_name.specs.SelectorSet.{IsSelectorSet, set_of}

-- a text spells at most one domain and one list of segments
abbrev pub OneIdOfText : Type 0
OneIdOfText = (text d e : List ℕ) (ss ts : List (List ℕ)) → Spells text d ss → Spells text e ts → (d ≡ e) × (ss ≡ ts)

-- two texts that spell the same are the same
abbrev pub OneTextOfId : Type 0
OneTextOfId = (text other d : List ℕ) (ss : List (List ℕ)) → Spells text d ss → Spells other d ss → text ≡ other

-- a text spells at most one pair of a type and a value
abbrev pub OneSelectorOfText : Type 0
OneSelectorOfText = (text : List ℕ) (a b : SelectorPair) → SpellsSelector text a → SpellsSelector text b → a ≡ b

-- two texts that spell the same pair are the same
abbrev pub OneTextOfSelector : Type 0
OneTextOfSelector = (text other : List ℕ) (pair : SelectorPair) → SpellsSelector text pair → SpellsSelector other pair → text ≡ other

-- sets with the same members are the same list
abbrev pub OneListOfSet : Type 0
OneListOfSet = (a b : List SelectorPair) → IsSelectorSet a → IsSelectorSet b → ((s : SelectorPair) → Contains a s ↔ Contains b s) → a ≡ b

-- selectors compare as equal exactly if they are the same
abbrev pub EqualSelectorsAreOne : Type 0
EqualSelectorsAreOne = (a b : SelectorPair) → IsTrue (selector_eq a b) ↔ (a ≡ b)

-- the set of the members of a list is one, with these members
abbrev pub SetOfList : Type 0
SetOfList = (selectors : List SelectorPair) → IsSelectorSet (set_of selectors) × ((s : SelectorPair) → Contains (set_of selectors) s ↔ Contains selectors s)

-- no refusal applies to a text exactly if it names a trust domain
abbrev pub DomainsPass : Type 0
DomainsPass = (text : List ℕ) → (domain_refusal text ≡ None) ↔ IsDomain text

-- or spells an ID
abbrev pub IdsPass : Type 0
IdsPass = (text : List ℕ) → (id_refusal text ≡ None) ↔ ((domain : List ℕ) × (segments : List (List ℕ)) × Spells text domain segments)

-- or spells a selector
abbrev pub SelectorsPass : Type 0
SelectorsPass = (text : List ℕ) → (selector_refusal text ≡ None) ↔ ((pair : SelectorPair) × SpellsSelector text pair)
