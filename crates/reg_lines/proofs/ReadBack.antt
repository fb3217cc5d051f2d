-- The printed value of a batch parses to that batch.
use Rattle.std.proofs.Common.{◌≡◌, ℕ, Bool, true, false, cond, Ordering, Less, Equal, Greater, List, [], ◌∷◌, map, Option, None, Some, Ok, refl, sym, ap, ◌∙◌, arith}
use Rattle.std.specs.Prelude.{bytes_eq, nat_lt, is_some, option_map, option_and_then, unwrap_or, IfSome}
use Rattle.std.specs.List.{AllByRecursion}
use Rattle.std.specs.Ordering.{nat_cmp, match_ordering}
use Rattle.std.specs.Cmp.Lexicographic.{slice_cmp}
use Rattle.std.proofs.lemmas.Bool.{false≢true, true≢false}
use Rattle.std.proofs.lemmas.Bool.Decides.{nat_tests}
use Rattle.std.proofs.lemmas.Slice.Eq.{bytes_eq-Decides}
use Rattle.spiffe_name.specs.Selector.{SelectorPair}
use Rattle.serde_json.specs.Data.{Data, string, Members, no_members, member, put}
use Rattle.serde_json.specs.Find.{get, get_member}
use Rattle.serde_json.specs.View.{items_of}
use Rattle.serde_json.proofs.Views.{get_member-put, get_member-put_other}
use Rattle.entry_book.specs.declared.mode.DropMode.{DropMode}
use Rattle.entry_book.specs.declared.mode.DropMode.TheVariants.{Restrict, Delete, Dissociate}
use Rattle.entry_book.specs.declared.page.MatchMode.{MatchMode}
use Rattle.entry_book.specs.declared.page.MatchMode.TheVariants.{Exact, Any, Superset, Subset}
use Rattle.entry_book.specs.declared.page.SelectorMatch.{SelectorMatch}
use Rattle.line_reading.specs.declared.fault.Key.{Key}
use Rattle.line_reading.specs.Codes.{key_name}
use Rattle.line_reading.specs.Fields.{optional, unless_null, text_at, text_in, optional_text_at, mode_in, optional_mode_at, match_in, optional_match_at, number_in, number_at, optional_number_at, id_at, id_in, optional_id_at, domain_at, domain_in, optional_domain_at, uuid_in, uuid_at, optional_uuid_at, selector_in, selectors_in, selectors_at, selector_set_in, optional_selectors_at, domains_in, domain_set_in, optional_domains_at, is_known_key, least_other, lesser}
use Rattle.reg_lines.specs.RecordLines.{match_text, mode_text}
use Rattle.reg_lines.specs.RecordValues.{selectors_data, match_data}
use Rattle.reg_lines.specs.ReadBack.{AreDomains, AreSelectors, IsDomainText, IsIdText, IsSelector, IsUuid}
use Rattle.reg_lines.specs.Replies.{given_lifetime, uuid_text}
use Rattle.reg_lines.specs.Values.{if_due, list_data, selector_data, uuid_data, whole}

-- ---- an object as a list of keys, each with its value, if it has one

abbrev pub Due : Type 0
Due = List ℕ × Option Data

abbrev pub members_due : List Due → Members
members_due [] = no_members
members_due (x ∷ xs) = if_due x.0 (λ d. d) x.1 (members_due xs)

abbrev or_else : Option Data → Option Data → Option Data
or_else None o = o
or_else (Some d) o = Some d

-- the value at a key of the list
abbrev pub due_at : List ℕ → List Due → Option Data
due_at q [] = None
due_at q (x ∷ xs) = cond (bytes_eq q x.0) (or_else x.1 (due_at q xs)) (due_at q xs)

found-put : (q k : List ℕ) (d : Data) (ms : Members) → get_member q (put k d ms) ≡ cond (bytes_eq q k) (Some d) (get_member q ms)
found-put q k d ms = elim (bytes_eq q k) as (λ b. bytes_eq q k ≡ b → get_member q (put k d ms) ≡ cond b (Some d) (get_member q ms)) [
  | true ↦ λ e. ap (λ n. get_member n (put k d ms)) ((bytes_eq-Decides q k).0 e) ∙ get_member-put k d ms
  | false ↦ λ e. get_member-put_other q k d ms (λ same. false≢true (sym e ∙ (bytes_eq-Decides q k).1 same))
] refl

same_branch : (b : Bool) (o : Option Data) → o ≡ cond b o o
same_branch true o = refl
same_branch false o = refl

found-due : (q k : List ℕ) (o : Option Data) (ms : Members) → get_member q (if_due k (λ d. d) o ms) ≡ cond (bytes_eq q k) (or_else o (get_member q ms)) (get_member q ms)
found-due q k None ms = same_branch (bytes_eq q k) (get_member q ms)
found-due q k (Some d) ms = found-put q k d ms

pub found : (q : List ℕ) (xs : List Due) → get_member q (members_due xs) ≡ due_at q xs
found q [] = refl
found q (x ∷ xs) = found-due q x.0 x.1 (members_due xs) ∙ ap (λ r. cond (bytes_eq q x.0) (or_else x.1 r) r) (found q xs)

pub or_none : (o : Option Data) → or_else o None ≡ o
or_none None = refl
or_none (Some d) = refl

-- an optional value, converted by f first
pub due-map : {A : Type 0} (k : List ℕ) (f : A → Data) (o : Option A) (ms : Members) → if_due k f o ms ≡ if_due k (λ d. d) (option_map f o) ms
due-map k f None ms = refl
due-map k f (Some x) ms = refl

-- ---- its keys are all known

known-rest : (keys : List Key) (l : List ℕ) (e : Data) (ms : Members) (b : Bool) → is_known_key keys l ≡ b → least_other keys (member l e ms) ≡ None → (is_known_key keys l ≡ true) × (least_other keys ms ≡ None)
known-rest keys l e ms true is h = (is, sym (ap (λ b. cond b (least_other keys ms) (Some (lesser l (least_other keys ms)))) is) ∙ h)
known-rest keys l e ms false is h = absurd (true≢false (ap is_some (sym (ap (λ b. cond b (least_other keys ms) (Some (lesser l (least_other keys ms)))) is) ∙ h)))

known-more : (keys : List Key) (l : List ℕ) (e : Data) (ms : Members) → is_known_key keys l ≡ true → least_other keys ms ≡ None → least_other keys (member l e ms) ≡ None
known-more keys l e ms is h = ap (λ b. cond b (least_other keys ms) (Some (lesser l (least_other keys ms)))) is ∙ h

known-put_at : (o : Ordering) (keys : List Key) (k l : List ℕ) (d e : Data) (ms : Members) → is_known_key keys k ≡ true → is_known_key keys l ≡ true → least_other keys ms ≡ None → least_other keys (put k d ms) ≡ None
    → least_other keys (match_ordering o (member k d (member l e ms)) (member l d ms) (member l e (put k d ms))) ≡ None
known-put_at Less keys k l d e ms a b h later = known-more keys k d (member l e ms) a (known-more keys l e ms b h)
known-put_at Equal keys k l d e ms a b h later = known-more keys l d ms b h
known-put_at Greater keys k l d e ms a b h later = known-more keys l e (put k d ms) b later

known-put : (keys : List Key) (k : List ℕ) (d : Data) (ms : Members) → is_known_key keys k ≡ true → least_other keys ms ≡ None → least_other keys (put k d ms) ≡ None
known-put keys k d no_members a h = known-more keys k d no_members a h
known-put keys k d (member l e ms) a h =
    let p = known-rest keys l e ms (is_known_key keys l) refl h in
    known-put_at (slice_cmp nat_cmp k l) keys k l d e ms a p.0 p.1 (known-put keys k d ms a p.1)

known-due : (keys : List Key) (k : List ℕ) (o : Option Data) (ms : Members) → is_known_key keys k ≡ true → least_other keys ms ≡ None → least_other keys (if_due k (λ d. d) o ms) ≡ None
known-due keys k None ms a h = h
known-due keys k (Some d) ms a h = known-put keys k d ms a h

abbrev AreKnown : List Key → List Due → Type 0
AreKnown keys xs = AllByRecursion (λ x. is_known_key keys x.0 ≡ true) xs

pub known : (keys : List Key) (xs : List Due) → AreKnown keys xs → least_other keys (members_due xs) ≡ None
known keys [] h = refl
known keys (x ∷ xs) h = known-due keys x.0 x.1 (members_due xs) h.0 (known keys xs h.1)

-- ---- what each reader returns for a printed value

pub text-back : (k : Key) (d : Data) (s : List ℕ) → get (key_name k) d ≡ Some (string s) → text_at k d ≡ Ok s
unfolding text_at
text-back k d s e = rw e refl

pub optional_text-back : (k : Key) (d : Data) (s : List ℕ) → get (key_name k) d ≡ Some (string s) → optional_text_at k d ≡ Ok (Some s)
unfolding optional_text_at text_in
optional_text-back k d s e = rw e refl

pub number-back : (k : Key) (d : Data) (n : ℕ) → get (key_name k) d ≡ Some (whole n) → number_at k d ≡ Ok n
unfolding number_at
number-back k d n e = rw e refl

number_given : (k : Key) (o : Option ℕ) → optional (number_in k) (option_and_then unless_null (option_map whole o)) ≡ Ok o
unfolding number_in
number_given k None = refl
number_given k (Some n) = refl

pub optional_number-back : (k : Key) (d : Data) (o : Option ℕ) → get (key_name k) d ≡ option_map whole o → optional_number_at k d ≡ Ok o
unfolding optional_number_at
optional_number-back k d o e = rw e (number_given k o)

pub id-back : (k : Key) (d : Data) (s : List ℕ) → get (key_name k) d ≡ Some (string s) → IsIdText s → id_at k d ≡ Ok s
unfolding id_at
id-back k d s e h = rw (text-back k d s e) (rw h refl)

id_given : (k : Key) (o : Option (List ℕ)) → IfSome o IsIdText → optional (id_in k) (option_and_then unless_null (option_map string o)) ≡ Ok o
unfolding id_in text_in
id_given k None h = refl
id_given k (Some s) h = rw h refl

pub optional_id-back : (k : Key) (d : Data) (o : Option (List ℕ)) → get (key_name k) d ≡ option_map string o → IfSome o IsIdText → optional_id_at k d ≡ Ok o
unfolding optional_id_at
optional_id-back k d o e h = rw e (id_given k o h)

pub domain-back : (k : Key) (d : Data) (s : List ℕ) → get (key_name k) d ≡ Some (string s) → IsDomainText s → domain_at k d ≡ Ok s
unfolding domain_at
domain-back k d s e h = rw (text-back k d s e) (rw h refl)

domain_given : (k : Key) (o : Option (List ℕ)) → IfSome o IsDomainText → optional (domain_in k) (option_and_then unless_null (option_map string o)) ≡ Ok o
unfolding domain_in text_in
domain_given k None h = refl
domain_given k (Some s) h = rw h refl

pub optional_domain-back : (k : Key) (d : Data) (o : Option (List ℕ)) → get (key_name k) d ≡ option_map string o → IfSome o IsDomainText → optional_domain_at k d ≡ Ok o
unfolding optional_domain_at
optional_domain-back k d o e h = rw e (domain_given k o h)

pub uuid-back : (k : Key) (d : Data) (id : List ℕ) → get (key_name k) d ≡ Some (uuid_data id) → IsUuid id → uuid_at k d ≡ Ok id
unfolding uuid_at
uuid-back k d id e h = rw (text-back k d (uuid_text id) e) (rw h refl)

uuid_given : (k : Key) (o : Option (List ℕ)) → IfSome o IsUuid → optional (uuid_in k) (option_and_then unless_null (option_map uuid_data o)) ≡ Ok o
unfolding uuid_in text_in
uuid_given k None h = refl
uuid_given k (Some id) h = rw h refl

pub optional_uuid-back : (k : Key) (d : Data) (o : Option (List ℕ)) → get (key_name k) d ≡ option_map uuid_data o → IfSome o IsUuid → optional_uuid_at k d ≡ Ok o
unfolding optional_uuid_at
optional_uuid-back k d o e h = rw e (uuid_given k o h)

-- ---- words

mode_given : (k : Key) (m : DropMode) → mode_in k (string (mode_text m)) ≡ Ok m
unfolding mode_in
mode_given k Restrict = refl
mode_given k Delete = refl
mode_given k Dissociate = refl

pub mode-back : (k : Key) (d : Data) (m : DropMode) → get (key_name k) d ≡ Some (string (mode_text m)) → optional_mode_at k d ≡ Ok (Some m)
unfolding optional_mode_at
mode-back k d m e = rw e (rw (mode_given k m) refl)

match_given : (k : Key) (m : MatchMode) → match_in k (string (match_text m)) ≡ Ok m
unfolding match_in
match_given k Exact = refl
match_given k Any = refl
match_given k Superset = refl
match_given k Subset = refl

match_of_question : (k : Key) (o : Option SelectorMatch) → optional (match_in k) (option_and_then unless_null (option_map match_data o)) ≡ Ok (option_map (λ m. m.mode) o)
match_of_question k None = refl
match_of_question k (Some m) = rw (match_given k m.mode) refl

pub match-back : (k : Key) (d : Data) (o : Option SelectorMatch) → get (key_name k) d ≡ option_map match_data o → optional_match_at k d ≡ Ok (option_map (λ m. m.mode) o)
unfolding optional_match_at
match-back k d o e = rw e (match_of_question k o)

-- ---- lists

selectors_given : (k : Key) (ss : List SelectorPair) → AllByRecursion IsSelector ss → selectors_in k (items_of (map selector_data ss)) ≡ Ok ss
unfolding selector_in text_in
selectors_given k [] h = refl
selectors_given k (s ∷ ss) h = rw h.0.0 (rw h.0.1 (rw (selectors_given k ss h.1) refl))

pub selectors-back : (k : Key) (d : Data) (ss : List SelectorPair) → get (key_name k) d ≡ Some (list_data selector_data ss) → AreSelectors ss → selectors_at k d ≡ Ok ss
unfolding selectors_at
selectors-back k d ss e h = rw e (rw (selectors_given k ss h.0) (rw h.1 refl))

selectors_of_condition : (k : Key) (o : Option SelectorMatch) → IfSome o (λ m. AreSelectors m.selectors) → optional (selector_set_in k) (option_and_then unless_null (option_map selectors_data o)) ≡ Ok (option_map (λ m. m.selectors) o)
unfolding selector_set_in
selectors_of_condition k None h = refl
selectors_of_condition k (Some m) h = rw (selectors_given k m.selectors h.0) (rw h.1 refl)

pub condition_selectors-back : (k : Key) (d : Data) (o : Option SelectorMatch) → get (key_name k) d ≡ option_map selectors_data o → IfSome o (λ m. AreSelectors m.selectors) → optional_selectors_at k d ≡ Ok (option_map (λ m. m.selectors) o)
unfolding optional_selectors_at
condition_selectors-back k d o e h = rw e (selectors_of_condition k o h)

domains_given : (k : Key) (ds : List (List ℕ)) → AllByRecursion IsDomainText ds → domains_in k (items_of (map string ds)) ≡ Ok ds
unfolding domain_in text_in
domains_given k [] h = refl
domains_given k (s ∷ ss) h = rw h.0 (rw (domains_given k ss h.1) refl)

pub domains-back : (k : Key) (d : Data) (ds : List (List ℕ)) → get (key_name k) d ≡ Some (list_data string ds) → AreDomains ds → optional_domains_at k d ≡ Ok (Some ds)
unfolding optional_domains_at domain_set_in
domains-back k d ds e h = rw e (rw (domains_given k ds h.0) (rw h.1 refl))

-- ---- lifetimes: 0 isn't given

lifetime_by : (b : Bool) (n : ℕ) → nat_lt 0 n ≡ b → unwrap_or (cond b (Some n) None) 0 ≡ n
lifetime_by true n e = refl
lifetime_by false n e = grind (arith, nat_tests)

pub lifetime-back : (n : ℕ) → unwrap_or (given_lifetime n) 0 ≡ n
lifetime-back n = lifetime_by (nat_lt 0 n) n refl
