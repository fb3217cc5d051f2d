-- Bytes put one after another.
use Rattle.std.proofs.Common.{◌≡◌, ◌<◌, ℕ, zero, suc, List, [], ◌++◌, sym, ap, refl, ◌∙◌, append_assoc, append-nil, arith, Option, None, Some, Result, Ok, Err, subst}
use Rattle.std.specs.Prelude.{is_ok, if◌then◌else◌}
use Rattle.std.specs.Io.KnownBytes.{Appends, Keeps}
use Rattle.std.proofs.KnownBytes.{Appends-trans, Appends-nil}
use Rattle.line_devices.specs.Stream.{OutputState, AppendsPrefix, Puts, stopped, whole, cut}
use Rattle.line_devices.specs.StreamPrivate.{SendsAll}

prefix_more : (a b : Option (List ℕ)) (t u : List ℕ) → AppendsPrefix a b t → AppendsPrefix a b (t ++ u)
prefix_more a b t u f = (f.0, f.1 ++ u, ap (λ w. w ++ u) f.2 ∙ append_assoc f.0 f.1 u, f.3)

prefix_after : (a b c : Option (List ℕ)) (t u : List ℕ) → Appends a b t → AppendsPrefix b c u → AppendsPrefix a c (t ++ u)
prefix_after a b c t u p f = (t ++ f.0, f.1, ap (λ w. t ++ w) f.2 ∙ sym (append_assoc t f.0 f.1), Appends-trans _ _ _ _ _ p f.3)

prefix_of : (a b : Option (List ℕ)) (t u : List ℕ) → t ≡ u → AppendsPrefix a b t → AppendsPrefix a b u
prefix_of a b t u e f = (f.0, f.1, sym e ∙ f.2, f.3)

above_zero : (n : ℕ) → 0 < n → n ≡ 0 → ⊥
above_zero n h e = omega arith

moved : (a b c : Option (List ℕ)) (t : List ℕ) → AppendsPrefix a b t → c ≡ b → AppendsPrefix a c t
moved a b c t f e = (f.0, f.1, f.2, (let P : Option (List ℕ) → Type 0 = λ x. Appends a x f.0 in subst P (sym e) f.3))

-- what was buffered, put and put again is what was sent, followed by what is buffered
joined : (held text mid sent more rest sent2 : List ℕ) → held ++ text ≡ sent ++ mid → mid ++ more ≡ sent2 ++ rest → held ++ (text ++ more) ≡ (sent ++ sent2) ++ rest
joined held text mid sent more rest sent2 e f =
    sym (append_assoc held text more) ∙ (ap (λ l. l ++ more) e ∙ (append_assoc sent mid more ∙ (ap (λ l. sent ++ l) f ∙ sym (append_assoc sent sent2 rest))))

joined_prefix : (held text mid sent more : List ℕ) → held ++ text ≡ sent ++ mid → sent ++ (mid ++ more) ≡ held ++ (text ++ more)
joined_prefix held text mid sent more e = sym (append_assoc sent mid more) ∙ (ap (λ l. l ++ more) (sym e) ∙ append_assoc held text more)

pub Puts-then : (a b c : OutputState) (t u : List ℕ) → Puts a b t → Puts b c u → Puts a c (t ++ u)
Puts-then a b c t u (stopped p q) (stopped k l) = stopped p (l ∙ q)
Puts-then a b c t u (stopped p q) (whole k l s m e) = absurd (above_zero _ p (sym (ap (λ o. o.failures) q) ∙ k))
Puts-then a b c t u (stopped p q) (cut k l m) = absurd (above_zero _ p (sym (ap (λ o. o.failures) q) ∙ k))
Puts-then a b c t u (whole p q r s e) (stopped k l) = absurd (above_zero _ k q)
Puts-then a b c t u (whole p q r s e) (whole k l m n f) = whole p l (r ++ m) (Appends-trans _ _ _ _ _ s n) (joined a.held t b.held r u c.held m e f)
Puts-then a b c t u (whole p q r s e) (cut k l m) = cut p l (prefix_of _ _ _ _ (joined_prefix a.held t b.held r u e) (prefix_after _ _ _ r _ s m))
Puts-then a b c t u (cut p q s) (stopped k l) = cut p (ap (λ o. o.failures) l ∙ q) (prefix_of _ _ _ _ (append_assoc a.held t u) (moved _ _ _ _ (prefix_more _ _ _ u s) (ap (λ o. o.written) l)))
Puts-then a b c t u (cut p q s) (whole k l m n f) = absurd (omega arith)
Puts-then a b c t u (cut p q s) (cut k l m) = absurd (omega arith)

at_rest : (n : ℕ) (a : OutputState) → a.failures ≡ n → Puts a a []
at_rest zero a e = whole e e [] (Appends-nil a.written) (append-nil a.held)
at_rest (suc n) a e = stopped (omega arith) refl

pub Puts-nil : (a : OutputState) → Puts a a []
Puts-nil a = at_rest a.failures a refl

pub Puts-same : (a b : OutputState) (t u : List ℕ) → t ≡ u → Puts a b t → Puts a b u
Puts-same a b t u e p = let P : List ℕ → Type 0 = λ x. Puts a b x in subst P e p

pub ruleset puts = (Puts-then)

Appends-kept_nil : (a b : Option (List ℕ)) → Keeps a b → Appends a b []
Appends-kept_nil None b k = tt
Appends-kept_nil (Some x) None k = absurd k
Appends-kept_nil (Some x) (Some y) k = k ∙ sym (append-nil x)

-- the text is appended to the buffer
pub Puts-held : (a b : OutputState) (text : List ℕ) → a.failures ≡ 0 → b ≡ record a { held = a.held ++ text } → Puts a b text
Puts-held a b text f e =
    let same : b.written ≡ a.written = ap (λ o. o.written) e in
    let P : Option (List ℕ) → Type 0 = λ w. Appends a.written w [] in
    whole f (ap (λ o. o.failures) e ∙ f) [] (subst P (sym same) (Appends-nil a.written)) (sym (ap (λ o. o.held) e))

-- what was buffered and the text went to the sink, or a prefix of them did
pub Puts-sent : {T E : Type 0} (a b : OutputState) (text sent : List ℕ) (r : Result T E) → a.failures ≡ 0 → b.failures ≡ (if is_ok r then 0 else 1) → a.held ++ text ≡ sent → b.held ≡ [] → SendsAll a.written b.written sent r → Puts a b text
Puts-sent a b text sent (Ok x) f g e h s = whole f g sent s (e ∙ (sym (append-nil sent) ∙ ap (λ l. sent ++ l) (sym h)))
Puts-sent a b text sent (Err x) f g e h s = cut f g (prefix_of _ _ _ _ (sym e) s)

-- the device passed on what it had
pub Puts-handed : {T E : Type 0} (a b : OutputState) (r : Result T E) → a.failures ≡ 0 → b.failures ≡ (if is_ok r then 0 else 1) → b.held ≡ a.held → Keeps a.written b.written → Puts a b []
Puts-handed a b (Ok x) f g h k = whole f g [] (Appends-kept_nil a.written b.written k) (append-nil a.held ∙ sym h)
Puts-handed a b (Err x) f g h k = cut f g ([], a.held ++ [], refl, Appends-kept_nil a.written b.written k)

-- nothing is put once a call has failed
pub Puts-stopped : (a : OutputState) (text : List ℕ) → 0 < a.failures → Puts a a text
Puts-stopped a text f = stopped f refl
