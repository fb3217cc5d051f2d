-- Properties of a row that has no fault.
use Rattle.std.proofs.Common.{◌≡◌, ◌≢◌, Bool, true, false, ◌||◌, cond, List, length, Option, Some, None, refl, sym, ap, ◌∙◌, arith}
use Rattle.std.specs.Prelude.{filter, bytes_eq, nat_lt}
use Rattle.std.proofs.lemmas.Bool.{both_ways}
use Rattle.std.proofs.lemmas.Bool.Decides.{nat_tests}
use Rattle.spiffe_name.specs.Id.{server_text}
use Rattle.entry_book.specs.declared.entry.NewEntry.{NewEntry}
use Rattle.entry_book.specs.declared.fault.OpFault.{OpFault}
use Rattle.entry_book.specs.declared.fault.OpFault.TheVariants.{ForeignId, EmptyPath, ServerIdentity, Selectors, TooManyDomains, HintTooLong, OwnDomainBundle}
use Rattle.entry_book.specs.Rows.{Bytes}
use Rattle.entry_book.specs.Batches.{entry_fault, bundle_fault, is_foreign, has_no_path, is_outside}
use Rattle.entry_book.proofs.Sets.{length_filter_le, text_same}

-- ---- an entry

-- the table, with the results of its tests
abbrev lines : Bool → Bool → Bool → Bool → Bool → Bool → Option OpFault
lines a b c d t u = cond a (Some ForeignId) (cond b (Some EmptyPath) (cond c (Some ServerIdentity) (cond d (Some Selectors) (cond t (Some TooManyDomains) (cond u (Some HintTooLong) None)))))

abbrev lines_of : Bytes → NewEntry → Bool → Option OpFault
lines_of own_domain e t = lines (is_foreign own_domain e.parent || is_foreign own_domain e.identity) (has_no_path e.parent || has_no_path e.identity) (bytes_eq e.identity (server_text own_domain)) (is_outside e.selectors) t (nat_lt 1024 (length e.hint))

table_is : (own_domain : Bytes) (e : NewEntry) → entry_fault own_domain e ≡ lines_of own_domain e (nat_lt 8 (length e.domains))
unfolding entry_fault
table_is own_domain e = refl

third : (a b c d t u : Bool) → lines a b c d t u ≡ None → c ≡ false
third true b c d t u h = cc
third false true c d t u h = cc
third false false true d t u h = cc
third false false false d t u h = refl

fifth : (a b c d t u : Bool) → lines a b c d t u ≡ None → t ≡ false
fifth true b c d t u h = cc
fifth false true c d t u h = cc
fifth false false true d t u h = cc
fifth false false false true t u h = cc
fifth false false false false true u h = cc
fifth false false false false false u h = refl

-- its identity isn't the server's
pub not_the_server : (own_domain : Bytes) (e : NewEntry) → entry_fault own_domain e ≡ None → e.identity ≢ server_text own_domain
not_the_server own_domain e h = λ q. both_ways _ (third _ _ _ _ _ _ (sym (table_is own_domain e) ∙ h)) (text_same e.identity (server_text own_domain) q)

abbrev with_domains : List Bytes → NewEntry → NewEntry
with_domains ds e = record e { domains = ds }

-- with fewer of its domains it has no fault either
pub fewer_domains : (own_domain : Bytes) (e : NewEntry) (p : Bytes → Bool) → entry_fault own_domain e ≡ None → entry_fault own_domain (with_domains (filter p e.domains) e) ≡ None
fewer_domains own_domain e p h =
    let few = length_filter_le p e.domains in
    let q : nat_lt 8 (length e.domains) ≡ false = fifth _ _ _ _ _ _ (sym (table_is own_domain e) ∙ h) in
    let r : nat_lt 8 (length (filter p e.domains)) ≡ false = grind (arith, nat_tests, q, few) in
    table_is own_domain (with_domains (filter p e.domains) e) ∙ (ap (lines_of own_domain e) (r ∙ sym q) ∙ (sym (table_is own_domain e) ∙ h))

-- ---- a bundle

first_line : (t : Bool) (f : OpFault) (later : Option OpFault) → cond t (Some f) later ≡ None → t ≡ false
first_line true f later h = cc
first_line false f later h = refl

-- it isn't the server's own
pub not_its_own : (own_domain d text : Bytes) → bundle_fault own_domain d text ≡ None → d ≢ own_domain
unfolding bundle_fault
not_its_own own_domain d text h = λ e. both_ways (bytes_eq d own_domain) (first_line (bytes_eq d own_domain) OwnDomainBundle _ h) (text_same d own_domain e)
