-- One text, put in parts.
use Rattle.std.proofs.Common.{◌≡◌, ℕ, List, ◌++◌, ap, sym, ◌∙◌}
use Rattle.std.proofs.lemmas.Grind.{flat_map-append}
use Rattle.std.specs.Prelude.{codes}
use Rattle.std.specs.List.{flat_map}
use Rattle.reg_lines.specs.Json.{escaped, text_json}

pub named-text : (word name : List ℕ) → codes "\"" ++ flat_map escaped word ++ flat_map escaped name ++ codes "\"" ≡ text_json (word ++ name)
unfolding text_json
named-text word name = ap (λ l. codes "\"" ++ l ++ codes "\"") (sym (flat_map-append escaped word name))

pub group-text : (parent identity : List ℕ) → codes "\"group " ++ flat_map escaped parent ++ codes " " ++ flat_map escaped identity ++ codes "\"" ≡ text_json (codes "group " ++ parent ++ codes " " ++ identity)
unfolding text_json escaped
group-text parent identity =
    let front = codes "group " ++ parent in
    let parts = flat_map-append escaped (front ++ codes " ") identity ∙ ap (λ l. l ++ flat_map escaped identity) (flat_map-append escaped front (codes " ")) in
    ap (λ l. codes "\"" ++ l ++ codes "\"") (sym parts)
