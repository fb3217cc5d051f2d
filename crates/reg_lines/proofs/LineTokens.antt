-- A line feed after a printed text doesn't change its tokens.
use Rattle.std.proofs.Common.{◌≡◌, ℕ, Bool, true, false, cond, ◌&&◌, List, [], ◌∷◌, ◌++◌, refl, sym, ap, ap₂, ◌∙◌, append_assoc, append-nil}
use Rattle.json.specs.Token.{Token, begin_object, end_object, begin_array, end_array, key, string, number, boolean, null, bad}
use Rattle.json.specs.Word.{ends_word, word}
use Rattle.json.specs.Lex.{Lexeme, token, comma, colon, string_token, lex, between, fresh, punctuate, tokens}
use Rattle.json.specs.Print.{escape, quoted, token_text, begins, ends, print_from, print, IsPrintable, ArePrintable}
use Rattle.json.proofs.Printed.Strings.{content-escape, lex-escape}
use Rattle.json.proofs.Printed.Numbers.{lex-number, in_word-ended}
use Rattle.json.proofs.Printed.Tokens.{tokens-print}

abbrev token_lexemes : Token → List Lexeme
token_lexemes begin_object = token begin_object ∷ []
token_lexemes end_object = token end_object ∷ []
token_lexemes begin_array = token begin_array ∷ []
token_lexemes end_array = token end_array ∷ []
token_lexemes (key s) = token (string s) ∷ colon ∷ []
token_lexemes (string s) = token (string s) ∷ []
token_lexemes (number s) = token (number s) ∷ []
token_lexemes (boolean b) = token (boolean b) ∷ []
token_lexemes null = token null ∷ []
token_lexemes bad = []

lex-quoted : (s r : List ℕ) → lex between (quoted s ++ r) ≡ token (string s) ∷ lex between r
unfolding lex
lex-quoted s r =
    let e = append_assoc (escape s) (34 ∷ []) r in
    ap (λ l. lex between (34 ∷ l)) e ∙ ap₂ (λ o l. token (string_token o) ∷ l) (content-escape s r) (lex-escape s r)

lex-token_text : (t : Token) (r : List ℕ) → IsPrintable t → (ends t ≡ true → ends_word r ≡ true) → lex between (token_text t ++ r) ≡ token_lexemes t ++ lex between r
unfolding lex word
lex-token_text begin_object r h ended = refl
lex-token_text end_object r h ended = refl
lex-token_text begin_array r h ended = refl
lex-token_text end_array r h ended = refl
lex-token_text (key s) r h ended = ap (lex between) (append_assoc (quoted s) (58 ∷ []) r) ∙ lex-quoted s (58 ∷ r)
lex-token_text (string s) r h ended = lex-quoted s r
lex-token_text (number s) r h ended = lex-number s r h (ended refl)
lex-token_text (boolean true) r h ended = ap₂ (λ b l. token (cond b (boolean true) bad) ∷ l) (ended refl) (in_word-ended r (ended refl))
lex-token_text (boolean false) r h ended = ap₂ (λ b l. token (cond b (boolean false) bad) ∷ l) (ended refl) (in_word-ended r (ended refl))
lex-token_text null r h ended = ap₂ (λ b l. token (cond b null bad) ∷ l) (ended refl) (in_word-ended r (ended refl))
lex-token_text bad r h ended = absurd h

lex-separator : (b : Bool) (r : List ℕ) → lex between (cond b (44 ∷ []) [] ++ r) ≡ cond b (comma ∷ []) [] ++ lex between r
unfolding lex
lex-separator true r = refl
lex-separator false r = refl

-- a value is followed by a comma, a closing bracket or what follows the text
value_ends : (ts : List Token) (end : List ℕ) → ends_word end ≡ true → ends_word (print_from true ts ++ end) ≡ true
unfolding print_from
value_ends [] end e = e
value_ends (begin_object ∷ ts) end e = refl
value_ends (end_object ∷ ts) end e = refl
value_ends (begin_array ∷ ts) end e = refl
value_ends (end_array ∷ ts) end e = refl
value_ends (key s ∷ ts) end e = refl
value_ends (string s ∷ ts) end e = refl
value_ends (number s ∷ ts) end e = refl
value_ends (boolean b ∷ ts) end e = refl
value_ends (null ∷ ts) end e = refl
value_ends (bad ∷ ts) end e = refl

abbrev lexemes : Bool → List Token → List Lexeme
lexemes c [] = []
lexemes c (t ∷ ts) = cond (c && begins t) (comma ∷ []) [] ++ (token_lexemes t ++ lexemes (ends t) ts)

regroup : (s t p end : List ℕ) → (s ++ (t ++ p)) ++ end ≡ s ++ (t ++ (p ++ end))
regroup s t p end = simp append_assoc

lex-printed : (c : Bool) (ts : List Token) (end : List ℕ) → ends_word end ≡ true → lex between end ≡ [] → ArePrintable ts → lex between (print_from c ts ++ end) ≡ lexemes c ts
unfolding print_from ArePrintable
lex-printed c [] end e none h = none
lex-printed c (t ∷ ts) end e none h =
    ap (lex between) (regroup (cond (c && begins t) (44 ∷ []) []) (token_text t) (print_from (ends t) ts) end)
    ∙ lex-separator (c && begins t) _
    ∙ ap (λ l. cond (c && begins t) (comma ∷ []) [] ++ l)
    (lex-token_text t (print_from (ends t) ts ++ end) h.0 (λ is. ap (λ b. ends_word (print_from b ts ++ end)) is ∙ value_ends ts end e)
    ∙ ap (λ l. token_lexemes t ++ l) (lex-printed (ends t) ts end e none h.1))

no_line : lex between (10 ∷ []) ≡ []
unfolding lex
no_line = refl

nothing : lex between [] ≡ []
unfolding lex
nothing = refl

pub tokens-line : (ts : List Token) → ArePrintable ts → tokens (print ts ++ 10 ∷ []) ≡ ts
tokens-line ts h =
    ap (punctuate fresh)
    (lex-printed false ts (10 ∷ []) refl no_line h
    ∙ sym (lex-printed false ts [] refl nothing h)
    ∙ ap (lex between) (append-nil (print ts)))
    ∙ tokens-print ts h
