-- Compact JSON text.
use Rattle.std.specs.Prelude.{ℕ, ◌+◌, ◌-◌, ◌/◌, ◌%◌, List, [], ◌∷◌, ◌++◌, nat_lt, ◌==◌, if◌then◌else◌, Option, None, Some, codes}
use Rattle.std.specs.List.{flat_map}

abbrev pub hex_digit : ℕ → ℕ
hex_digit d = if nat_lt d 10 then 48 + d else 97 + (d - 10)

-- a byte of a JSON string, escaped if it must be
unfoldable pub escaped : ℕ → List ℕ
escaped b = if b == 34 then codes "\\\"" else (if b == 92 then codes "\\\\" else (if b == 8 then codes "\\b" else (if b == 9 then codes "\\t" else (if b == 10 then codes "\\n" else (if b == 12 then codes "\\f" else (if b == 13 then codes "\\r" else (if nat_lt b 32 then codes "\\u00" ++ hex_digit (b / 16) ∷ hex_digit (b % 16) ∷ [] else b ∷ [])))))))

unfoldable pub text_json : List ℕ → List ℕ
text_json s = codes "\"" ++ flat_map escaped s ++ codes "\""

-- the items, separated by commas
abbrev pub items_json : {A : Type 0} → (A → List ℕ) → List A → List ℕ
items_json f [] = []
items_json f (x ∷ xs) = f x ++ flat_map (λ y. codes "," ++ f y) xs

unfoldable pub list_json : {A : Type 0} → (A → List ℕ) → List A → List ℕ
list_json f xs = codes "[" ++ items_json f xs ++ codes "]"

-- a value, or null
abbrev pub option_json : {A : Type 0} → (A → List ℕ) → Option A → List ℕ
option_json f None = codes "null"
option_json f (Some x) = f x
