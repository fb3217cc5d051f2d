-- Whether a text is the ID of a trust domain's server, part by part.
use Rattle.std.proofs.Common.{◌≡◌, ◌≢◌, Bool, true, false, [], ◌∷◌, ◌++◌, refl, sym, ap, ◌∙◌}
use Rattle.std.specs.Prelude.{bytes_eq, codes}
use Rattle.std.proofs.lemmas.Bool.{false_from_ne_true}
use Rattle.spiffe_name.specs.Id.{prefix, server_text}
use Rattle.entry_book.specs.Rows.{Bytes}
use Rattle.entry_book.proofs.Sets.{text_is, text_same}

abbrev pub server_path : Bytes
server_path = codes "/spire/server"

apart : (d : Bytes) → server_text d ≡ prefix ++ (d ++ server_path)
apart d = refl

pub apart_from : (x y : Bytes) → x ≢ y → bytes_eq x y ≡ false
apart_from x y n = false_from_ne_true _ (λ t. n (text_is x y t))

cancel : (xs ys zs : Bytes) → xs ++ ys ≡ xs ++ zs → ys ≡ zs
cancel [] ys zs e = e
cancel (x ∷ xs) ys zs e = let q : xs ++ ys ≡ xs ++ zs = cc in cancel xs ys zs q

pub no_prefix : (text d : Bytes) → ((rest : Bytes) → text ≢ prefix ++ rest) → bytes_eq text (server_text d) ≡ false
no_prefix text d n = apart_from text (server_text d) (λ e. n (d ++ server_path) (e ∙ apart d))

pub no_domain : (text d rest : Bytes) → text ≡ prefix ++ rest → ((path : Bytes) → rest ≢ d ++ path) → bytes_eq text (server_text d) ≡ false
no_domain text d rest t n = apart_from text (server_text d) (λ e. n server_path (cancel prefix rest (d ++ server_path) (sym t ∙ (e ∙ apart d))))

by_path : (b : Bool) (text d path : Bytes) → text ≡ prefix ++ (d ++ path) → bytes_eq path server_path ≡ b → b ≡ bytes_eq text (server_text d)
by_path true text d path t h = sym (text_same text (server_text d) (t ∙ (ap (λ p. prefix ++ (d ++ p)) (text_is path server_path h) ∙ sym (apart d))))
by_path false text d path t h = sym (apart_from text (server_text d) (λ e. absurd (differ (bytes_eq path server_path) h (text_same path server_path (cancel d path server_path (cancel prefix (d ++ path) (d ++ server_path) (sym t ∙ (e ∙ apart d))))))))
  where
    differ : (b : Bool) → b ≡ false → b ≡ true → ⊥
    differ b f t = cc

pub whole : (text d rest path : Bytes) → text ≡ prefix ++ rest → rest ≡ d ++ path → bytes_eq path server_path ≡ bytes_eq text (server_text d)
whole text d rest path t r = by_path (bytes_eq path server_path) text d path (t ∙ ap (λ l. prefix ++ l) r) refl
