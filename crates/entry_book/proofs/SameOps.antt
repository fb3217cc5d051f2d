-- Operations that compare as equal are equal.
use Rattle.std.proofs.Common.{◌≡◌, Bool, true, false, List, [], ◌∷◌, Option, Some, None, refl, ap, subst, ◌∙◌, ◌↔◌, arith}
use Rattle.std.specs.Prelude.{◌&&◌, bytes_eq, nat_eq}
use Rattle.std.specs.Option.{option_eq}
use Rattle.std.specs.Cmp.Lexicographic.{pointwise}
use Rattle.std.proofs.lemmas.Bool.Decides.{nat_tests}
use Rattle.spiffe_name.specs.SelectorSet.{set_eq}
use Rattle.entry_book.specs.declared.agent.Agent.{Agent}
use Rattle.entry_book.specs.declared.entry.NewEntry.{NewEntry}
use Rattle.entry_book.specs.declared.mode.DropMode.{DropMode}
use Rattle.entry_book.specs.declared.mode.DropMode.TheVariants as drop
use Rattle.entry_book.specs.declared.op.Op.{Op}
use Rattle.entry_book.specs.declared.op.Op.TheVariants.{Create, Update, Delete, Show, ShowAgent, ShowBundle, Children, Page, Authorised, Trust, Prune, SetAgent, DropAgent, SetBundle, DropBundle}
use Rattle.entry_book.specs.declared.page.Filter.{Filter}
use Rattle.entry_book.specs.declared.page.MatchMode.{MatchMode}
use Rattle.entry_book.specs.declared.page.MatchMode.TheVariants as mode
use Rattle.entry_book.specs.declared.page.PageQuery.{PageQuery}
use Rattle.entry_book.specs.declared.page.SelectorMatch.{SelectorMatch}
use Rattle.entry_book.specs.SameOps.{agent_eq, drop_mode_eq, entry_eq, filter_eq, match_eq, match_mode_eq, op_eq, ops_eq, page_eq}
use Rattle.entry_book.proofs.Present.{set_is, set_same}
use Rattle.entry_book.proofs.Sets.{text_is, text_same}

-- a test that holds exactly for equal values
record DecidesEquality {X : Type 0} (same : X → X → Bool) : Type 0 where
  is : (x y : X) → same x y ≡ true → x ≡ y
  refl_of : (x : X) → same x x ≡ true

both : (a b : Bool) → (a && b) ≡ true → (a ≡ true) × (b ≡ true)
both true true h = (refl, refl)
both true false h = cc
both false b h = cc

and_true : (a b : Bool) → a ≡ true → b ≡ true → (a && b) ≡ true
and_true a b p q = ap (λ x. x && b) p ∙ q

nats_decide : DecidesEquality nat_eq
nats_decide = record { is = λ x y h. grind (arith, nat_tests, h); refl_of = λ x. grind (arith, nat_tests) }

texts_decide : DecidesEquality bytes_eq
texts_decide = record { is = text_is; refl_of = λ x. text_same x x refl }

sets_decide : DecidesEquality set_eq
sets_decide = record { is = set_is; refl_of = λ x. set_same x x refl }

module _ {X : Type 0} (same : X → X → Bool) (decides : DecidesEquality same) where
  lists_is : (xs ys : List X) → pointwise same xs ys ≡ true → xs ≡ ys
  lists_is [] [] h = refl
  lists_is [] (y ∷ ys) h = cc
  lists_is (x ∷ xs) [] h = cc
  lists_is (x ∷ xs) (y ∷ ys) h = let k = both (same x y) (pointwise same xs ys) h in ap (λ z. z ∷ xs) (decides.is x y k.0) ∙ ap (λ zs. y ∷ zs) (lists_is xs ys k.1)

  lists_refl : (xs : List X) → pointwise same xs xs ≡ true
  lists_refl [] = refl
  lists_refl (x ∷ xs) = and_true (same x x) (pointwise same xs xs) (decides.refl_of x) (lists_refl xs)

  lists_decide : DecidesEquality (pointwise same)
  lists_decide = record { is = lists_is; refl_of = lists_refl }

  options_is : (x y : Option X) → option_eq same x y ≡ true → x ≡ y
  options_is None None h = refl
  options_is (Some x) (Some y) h = ap Some (decides.is x y h)
  options_is x y h = cc

  options_refl : (x : Option X) → option_eq same x x ≡ true
  options_refl None = refl
  options_refl (Some x) = decides.refl_of x

  options_decide : DecidesEquality (option_eq same)
  options_decide = record { is = options_is; refl_of = options_refl }

-- ---- the parts of operations

drop_modes_is : (m n : DropMode) → drop_mode_eq m n ≡ true → m ≡ n
drop_modes_is drop.Restrict drop.Restrict h = refl
drop_modes_is drop.Delete drop.Delete h = refl
drop_modes_is drop.Dissociate drop.Dissociate h = refl
drop_modes_is m n h = cc

drop_modes_refl : (m : DropMode) → drop_mode_eq m m ≡ true
drop_modes_refl drop.Restrict = refl
drop_modes_refl drop.Delete = refl
drop_modes_refl drop.Dissociate = refl

match_modes_is : (m n : MatchMode) → match_mode_eq m n ≡ true → m ≡ n
match_modes_is mode.Exact mode.Exact h = refl
match_modes_is mode.Any mode.Any h = refl
match_modes_is mode.Superset mode.Superset h = refl
match_modes_is mode.Subset mode.Subset h = refl
match_modes_is m n h = cc

match_modes_refl : (m : MatchMode) → match_mode_eq m m ≡ true
match_modes_refl mode.Exact = refl
match_modes_refl mode.Any = refl
match_modes_refl mode.Superset = refl
match_modes_refl mode.Subset = refl

entries_is : (e f : NewEntry) → entry_eq e f ≡ true → e ≡ f
entries_is e f h =
    let k8 = both (bytes_eq e.id f.id && bytes_eq e.parent f.parent && bytes_eq e.identity f.identity && set_eq e.selectors f.selectors && bytes_eq e.hint f.hint && pointwise bytes_eq e.domains f.domains && nat_eq e.expiry f.expiry && nat_eq e.x509_svid_ttl f.x509_svid_ttl) (nat_eq e.jwt_svid_ttl f.jwt_svid_ttl) h in
    let k7 = both (bytes_eq e.id f.id && bytes_eq e.parent f.parent && bytes_eq e.identity f.identity && set_eq e.selectors f.selectors && bytes_eq e.hint f.hint && pointwise bytes_eq e.domains f.domains && nat_eq e.expiry f.expiry) (nat_eq e.x509_svid_ttl f.x509_svid_ttl) k8.0 in
    let k6 = both (bytes_eq e.id f.id && bytes_eq e.parent f.parent && bytes_eq e.identity f.identity && set_eq e.selectors f.selectors && bytes_eq e.hint f.hint && pointwise bytes_eq e.domains f.domains) (nat_eq e.expiry f.expiry) k7.0 in
    let k5 = both (bytes_eq e.id f.id && bytes_eq e.parent f.parent && bytes_eq e.identity f.identity && set_eq e.selectors f.selectors && bytes_eq e.hint f.hint) (pointwise bytes_eq e.domains f.domains) k6.0 in
    let k4 = both (bytes_eq e.id f.id && bytes_eq e.parent f.parent && bytes_eq e.identity f.identity && set_eq e.selectors f.selectors) (bytes_eq e.hint f.hint) k5.0 in
    let k3 = both (bytes_eq e.id f.id && bytes_eq e.parent f.parent && bytes_eq e.identity f.identity) (set_eq e.selectors f.selectors) k4.0 in
    let k2 = both (bytes_eq e.id f.id && bytes_eq e.parent f.parent) (bytes_eq e.identity f.identity) k3.0 in
    let k1 = both (bytes_eq e.id f.id) (bytes_eq e.parent f.parent) k2.0 in
    let p0 : e.id ≡ f.id = (texts_decide).is e.id f.id (k1.0) in
    let p1 : e.parent ≡ f.parent = (texts_decide).is e.parent f.parent (k1.1) in
    let p2 : e.identity ≡ f.identity = (texts_decide).is e.identity f.identity (k2.1) in
    let p3 : e.selectors ≡ f.selectors = (sets_decide).is e.selectors f.selectors (k3.1) in
    let p4 : e.hint ≡ f.hint = (texts_decide).is e.hint f.hint (k4.1) in
    let p5 : e.domains ≡ f.domains = (lists_decide bytes_eq texts_decide).is e.domains f.domains (k5.1) in
    let p6 : e.expiry ≡ f.expiry = (nats_decide).is e.expiry f.expiry (k6.1) in
    let p7 : e.x509_svid_ttl ≡ f.x509_svid_ttl = (nats_decide).is e.x509_svid_ttl f.x509_svid_ttl (k7.1) in
    let p8 : e.jwt_svid_ttl ≡ f.jwt_svid_ttl = (nats_decide).is e.jwt_svid_ttl f.jwt_svid_ttl (k8.1) in
    ap (λ x. record { id = x; parent = e.parent; identity = e.identity; selectors = e.selectors; hint = e.hint; domains = e.domains; expiry = e.expiry; x509_svid_ttl = e.x509_svid_ttl; jwt_svid_ttl = e.jwt_svid_ttl }) p0
    ∙ (ap (λ x. record { id = f.id; parent = x; identity = e.identity; selectors = e.selectors; hint = e.hint; domains = e.domains; expiry = e.expiry; x509_svid_ttl = e.x509_svid_ttl; jwt_svid_ttl = e.jwt_svid_ttl }) p1
    ∙ (ap (λ x. record { id = f.id; parent = f.parent; identity = x; selectors = e.selectors; hint = e.hint; domains = e.domains; expiry = e.expiry; x509_svid_ttl = e.x509_svid_ttl; jwt_svid_ttl = e.jwt_svid_ttl }) p2
    ∙ (ap (λ x. record { id = f.id; parent = f.parent; identity = f.identity; selectors = x; hint = e.hint; domains = e.domains; expiry = e.expiry; x509_svid_ttl = e.x509_svid_ttl; jwt_svid_ttl = e.jwt_svid_ttl }) p3
    ∙ (ap (λ x. record { id = f.id; parent = f.parent; identity = f.identity; selectors = f.selectors; hint = x; domains = e.domains; expiry = e.expiry; x509_svid_ttl = e.x509_svid_ttl; jwt_svid_ttl = e.jwt_svid_ttl }) p4
    ∙ (ap (λ x. record { id = f.id; parent = f.parent; identity = f.identity; selectors = f.selectors; hint = f.hint; domains = x; expiry = e.expiry; x509_svid_ttl = e.x509_svid_ttl; jwt_svid_ttl = e.jwt_svid_ttl }) p5
    ∙ (ap (λ x. record { id = f.id; parent = f.parent; identity = f.identity; selectors = f.selectors; hint = f.hint; domains = f.domains; expiry = x; x509_svid_ttl = e.x509_svid_ttl; jwt_svid_ttl = e.jwt_svid_ttl }) p6
    ∙ (ap (λ x. record { id = f.id; parent = f.parent; identity = f.identity; selectors = f.selectors; hint = f.hint; domains = f.domains; expiry = f.expiry; x509_svid_ttl = x; jwt_svid_ttl = e.jwt_svid_ttl }) p7
    ∙ (ap (λ x. record { id = f.id; parent = f.parent; identity = f.identity; selectors = f.selectors; hint = f.hint; domains = f.domains; expiry = f.expiry; x509_svid_ttl = f.x509_svid_ttl; jwt_svid_ttl = x }) p8))))))))

entries_refl : (e : NewEntry) → entry_eq e e ≡ true
entries_refl e =
    and_true (bytes_eq e.id e.id && bytes_eq e.parent e.parent && bytes_eq e.identity e.identity && set_eq e.selectors e.selectors && bytes_eq e.hint e.hint && pointwise bytes_eq e.domains e.domains && nat_eq e.expiry e.expiry && nat_eq e.x509_svid_ttl e.x509_svid_ttl) (nat_eq e.jwt_svid_ttl e.jwt_svid_ttl) (and_true (bytes_eq e.id e.id && bytes_eq e.parent e.parent && bytes_eq e.identity e.identity && set_eq e.selectors e.selectors && bytes_eq e.hint e.hint && pointwise bytes_eq e.domains e.domains && nat_eq e.expiry e.expiry) (nat_eq e.x509_svid_ttl e.x509_svid_ttl) (and_true (bytes_eq e.id e.id && bytes_eq e.parent e.parent && bytes_eq e.identity e.identity && set_eq e.selectors e.selectors && bytes_eq e.hint e.hint && pointwise bytes_eq e.domains e.domains) (nat_eq e.expiry e.expiry) (and_true (bytes_eq e.id e.id && bytes_eq e.parent e.parent && bytes_eq e.identity e.identity && set_eq e.selectors e.selectors && bytes_eq e.hint e.hint) (pointwise bytes_eq e.domains e.domains) (and_true (bytes_eq e.id e.id && bytes_eq e.parent e.parent && bytes_eq e.identity e.identity && set_eq e.selectors e.selectors) (bytes_eq e.hint e.hint) (and_true (bytes_eq e.id e.id && bytes_eq e.parent e.parent && bytes_eq e.identity e.identity) (set_eq e.selectors e.selectors) (and_true (bytes_eq e.id e.id && bytes_eq e.parent e.parent) (bytes_eq e.identity e.identity) (and_true (bytes_eq e.id e.id) (bytes_eq e.parent e.parent) ((texts_decide).refl_of e.id) ((texts_decide).refl_of e.parent)) ((texts_decide).refl_of e.identity)) ((sets_decide).refl_of e.selectors)) ((texts_decide).refl_of e.hint)) ((lists_decide bytes_eq texts_decide).refl_of e.domains)) ((nats_decide).refl_of e.expiry)) ((nats_decide).refl_of e.x509_svid_ttl)) ((nats_decide).refl_of e.jwt_svid_ttl)

entries_decide : DecidesEquality entry_eq
entries_decide = record { is = entries_is; refl_of = entries_refl }

agents_is : (e f : Agent) → agent_eq e f ≡ true → e ≡ f
agents_is e f h =
    let k1 = both (bytes_eq e.id f.id) (set_eq e.selectors f.selectors) h in
    let p0 : e.id ≡ f.id = (texts_decide).is e.id f.id (k1.0) in
    let p1 : e.selectors ≡ f.selectors = (sets_decide).is e.selectors f.selectors (k1.1) in
    ap (λ x. record { id = x; selectors = e.selectors }) p0
    ∙ (ap (λ x. record { id = f.id; selectors = x }) p1)

agents_refl : (e : Agent) → agent_eq e e ≡ true
agents_refl e =
    and_true (bytes_eq e.id e.id) (set_eq e.selectors e.selectors) ((texts_decide).refl_of e.id) ((sets_decide).refl_of e.selectors)

agents_decide : DecidesEquality agent_eq
agents_decide = record { is = agents_is; refl_of = agents_refl }

match_modes_decide : DecidesEquality match_mode_eq
match_modes_decide = record { is = match_modes_is; refl_of = match_modes_refl }

matches_is : (e f : SelectorMatch) → match_eq e f ≡ true → e ≡ f
matches_is e f h =
    let k1 = both (set_eq e.selectors f.selectors) (match_mode_eq e.mode f.mode) h in
    let p0 : e.selectors ≡ f.selectors = (sets_decide).is e.selectors f.selectors (k1.0) in
    let p1 : e.mode ≡ f.mode = (match_modes_decide).is e.mode f.mode (k1.1) in
    ap (λ x. record { selectors = x; mode = e.mode }) p0
    ∙ (ap (λ x. record { selectors = f.selectors; mode = x }) p1)

matches_refl : (e : SelectorMatch) → match_eq e e ≡ true
matches_refl e =
    and_true (set_eq e.selectors e.selectors) (match_mode_eq e.mode e.mode) ((sets_decide).refl_of e.selectors) ((match_modes_decide).refl_of e.mode)

matches_decide : DecidesEquality match_eq
matches_decide = record { is = matches_is; refl_of = matches_refl }

filters_is : (e f : Filter) → filter_eq e f ≡ true → e ≡ f
filters_is e f h =
    let k3 = both (option_eq bytes_eq e.parent f.parent && option_eq bytes_eq e.identity f.identity && option_eq bytes_eq e.domain f.domain) (option_eq match_eq e.selectors f.selectors) h in
    let k2 = both (option_eq bytes_eq e.parent f.parent && option_eq bytes_eq e.identity f.identity) (option_eq bytes_eq e.domain f.domain) k3.0 in
    let k1 = both (option_eq bytes_eq e.parent f.parent) (option_eq bytes_eq e.identity f.identity) k2.0 in
    let p0 : e.parent ≡ f.parent = (options_decide bytes_eq texts_decide).is e.parent f.parent (k1.0) in
    let p1 : e.identity ≡ f.identity = (options_decide bytes_eq texts_decide).is e.identity f.identity (k1.1) in
    let p2 : e.domain ≡ f.domain = (options_decide bytes_eq texts_decide).is e.domain f.domain (k2.1) in
    let p3 : e.selectors ≡ f.selectors = (options_decide match_eq matches_decide).is e.selectors f.selectors (k3.1) in
    ap (λ x. record { parent = x; identity = e.identity; domain = e.domain; selectors = e.selectors }) p0
    ∙ (ap (λ x. record { parent = f.parent; identity = x; domain = e.domain; selectors = e.selectors }) p1
    ∙ (ap (λ x. record { parent = f.parent; identity = f.identity; domain = x; selectors = e.selectors }) p2
    ∙ (ap (λ x. record { parent = f.parent; identity = f.identity; domain = f.domain; selectors = x }) p3)))

filters_refl : (e : Filter) → filter_eq e e ≡ true
filters_refl e =
    and_true (option_eq bytes_eq e.parent e.parent && option_eq bytes_eq e.identity e.identity && option_eq bytes_eq e.domain e.domain) (option_eq match_eq e.selectors e.selectors) (and_true (option_eq bytes_eq e.parent e.parent && option_eq bytes_eq e.identity e.identity) (option_eq bytes_eq e.domain e.domain) (and_true (option_eq bytes_eq e.parent e.parent) (option_eq bytes_eq e.identity e.identity) ((options_decide bytes_eq texts_decide).refl_of e.parent) ((options_decide bytes_eq texts_decide).refl_of e.identity)) ((options_decide bytes_eq texts_decide).refl_of e.domain)) ((options_decide match_eq matches_decide).refl_of e.selectors)

filters_decide : DecidesEquality filter_eq
filters_decide = record { is = filters_is; refl_of = filters_refl }

pages_is : (e f : PageQuery) → page_eq e f ≡ true → e ≡ f
pages_is e f h =
    let k3 = both (nat_eq e.size f.size && option_eq nat_eq e.at f.at && option_eq bytes_eq e.from f.from) (filter_eq e.filter f.filter) h in
    let k2 = both (nat_eq e.size f.size && option_eq nat_eq e.at f.at) (option_eq bytes_eq e.from f.from) k3.0 in
    let k1 = both (nat_eq e.size f.size) (option_eq nat_eq e.at f.at) k2.0 in
    let p0 : e.size ≡ f.size = (nats_decide).is e.size f.size (k1.0) in
    let p1 : e.at ≡ f.at = (options_decide nat_eq nats_decide).is e.at f.at (k1.1) in
    let p2 : e.from ≡ f.from = (options_decide bytes_eq texts_decide).is e.from f.from (k2.1) in
    let p3 : e.filter ≡ f.filter = (filters_decide).is e.filter f.filter (k3.1) in
    ap (λ x. record { size = x; at = e.at; from = e.from; filter = e.filter }) p0
    ∙ (ap (λ x. record { size = f.size; at = x; from = e.from; filter = e.filter }) p1
    ∙ (ap (λ x. record { size = f.size; at = f.at; from = x; filter = e.filter }) p2
    ∙ (ap (λ x. record { size = f.size; at = f.at; from = f.from; filter = x }) p3)))

pages_refl : (e : PageQuery) → page_eq e e ≡ true
pages_refl e =
    and_true (nat_eq e.size e.size && option_eq nat_eq e.at e.at && option_eq bytes_eq e.from e.from) (filter_eq e.filter e.filter) (and_true (nat_eq e.size e.size && option_eq nat_eq e.at e.at) (option_eq bytes_eq e.from e.from) (and_true (nat_eq e.size e.size) (option_eq nat_eq e.at e.at) ((nats_decide).refl_of e.size) ((options_decide nat_eq nats_decide).refl_of e.at)) ((options_decide bytes_eq texts_decide).refl_of e.from)) ((filters_decide).refl_of e.filter)

pages_decide : DecidesEquality page_eq
pages_decide = record { is = pages_is; refl_of = pages_refl }

-- ---- operations

op_is : (x y : Op) → op_eq x y ≡ true → x ≡ y
op_is (Create e) (Create f) h = ap Create (entries_is e f h)
op_is (Update e n) (Update f m) h = let k = both (entry_eq e f) (option_eq nat_eq n m) h in ap (λ x. Update x n) (entries_is e f k.0) ∙ ap (Update f) ((options_decide nat_eq nats_decide).is n m k.1)
op_is (Delete i n) (Delete j m) h = let k = both (bytes_eq i j) (option_eq nat_eq n m) h in ap (λ x. Delete x n) (text_is i j k.0) ∙ ap (Delete j) ((options_decide nat_eq nats_decide).is n m k.1)
op_is (Show i) (Show j) h = ap Show (text_is i j h)
op_is (ShowAgent i) (ShowAgent j) h = ap ShowAgent (text_is i j h)
op_is (ShowBundle i) (ShowBundle j) h = ap ShowBundle (text_is i j h)
op_is (Children i) (Children j) h = ap Children (text_is i j h)
op_is (Page q) (Page r) h = ap Page (pages_is q r h)
op_is (Authorised i) (Authorised j) h = ap Authorised (text_is i j h)
op_is (Trust i) (Trust j) h = ap Trust (text_is i j h)
op_is (Prune t) (Prune u) h = ap Prune (nats_decide.is t u h)
op_is (SetAgent a) (SetAgent b) h = ap SetAgent (agents_is a b h)
op_is (DropAgent i) (DropAgent j) h = ap DropAgent (text_is i j h)
op_is (SetBundle d t) (SetBundle c u) h = let k = both (bytes_eq d c) (bytes_eq t u) h in ap (λ x. SetBundle x t) (text_is d c k.0) ∙ ap (SetBundle c) (text_is t u k.1)
op_is (DropBundle d m) (DropBundle c n) h = let k = both (bytes_eq d c) (drop_mode_eq m n) h in ap (λ x. DropBundle x m) (text_is d c k.0) ∙ ap (DropBundle c) (drop_modes_is m n k.1)
op_is x y h = cc

op_refl : (x : Op) → op_eq x x ≡ true
op_refl (Create e) = entries_refl e
op_refl (Update e n) = and_true (entry_eq e e) (option_eq nat_eq n n) (entries_refl e) ((options_decide nat_eq nats_decide).refl_of n)
op_refl (Delete i n) = and_true (bytes_eq i i) (option_eq nat_eq n n) (text_same i i refl) ((options_decide nat_eq nats_decide).refl_of n)
op_refl (Show i) = text_same i i refl
op_refl (ShowAgent i) = text_same i i refl
op_refl (ShowBundle i) = text_same i i refl
op_refl (Children i) = text_same i i refl
op_refl (Page q) = pages_refl q
op_refl (Authorised i) = text_same i i refl
op_refl (Trust i) = text_same i i refl
op_refl (Prune t) = nats_decide.refl_of t
op_refl (SetAgent a) = agents_refl a
op_refl (DropAgent i) = text_same i i refl
op_refl (SetBundle d t) = and_true (bytes_eq d d) (bytes_eq t t) (text_same d d refl) (text_same t t refl)
op_refl (DropBundle d m) = and_true (bytes_eq d d) (drop_mode_eq m m) (text_same d d refl) (drop_modes_refl m)

ops_decide : DecidesEquality ops_eq
ops_decide = lists_decide op_eq (record { is = op_is; refl_of = op_refl })

pub same_ops : (ops others : List Op) → (ops_eq ops others ≡ true) ↔ (ops ≡ others)
same_ops ops others = (ops_decide.is ops others, λ e. subst (λ x. ops_eq ops x ≡ true) e (ops_decide.refl_of ops))
