use Rattle.std.proofs.Common.{rules, ◌≡◌, ◌==◌, List, ℕ, arith, tests, sym, ◌∙◌, ap, length, drop, false, true, Option, None, Some, ◌<◌, get_or, ◌+◌, refl}
use Rattle.std.specs.List.{slice_split}
use Rattle.std.specs.Option.{is_some}
use Rattle.std.proofs.lemmas.List.{at_drop_more, at_drop_all, length_push}
use Rattle.std.proofs.lemmas.Iterator.Splits.{YieldsList-from_slice_split}
use Rattle.std.proofs.lemmas.Iterator.Consumers.{YieldsList-turn, YieldsList-end}
use Rattle.spiffe_name.specs.Id.{segments_refusal, segment_refusal, or_else}
use Rattle.spiffe_name.proofs.spiffe_id.segments_refusal.Goals as goal

step : (ss : List (List ℕ)) (n : ℕ) (s : List ℕ) → (n < length ss) × (s ≡ get_or ss n s) → segments_refusal (drop n ss) ≡ or_else (segment_refusal s) (segments_refusal (drop (n + 1) ss))
step ss n s h = at_drop_more segments_refusal ss n s h.0 ∙ ap (λ x. or_else (segment_refusal x) (segments_refusal (drop (n + 1) ss))) (sym h.1)

found : {A : Type 0} (r o : Option A) → true ≡ is_some r → or_else r o ≡ r
found (Some x) o e = refl
found None o e = cc

passed : {A : Type 0} (r o : Option A) → false ≡ is_some r → or_else r o ≡ o
passed (Some x) o e = cc
passed None o e = refl

pub loop-segment-init : goal.loop-segment-init
loop-segment-init c = refl

pub returns-then-is_some : goal.returns-then-is_some
returns-then-is_some c =
    let t = YieldsList-turn (YieldsList-from_slice_split _ (λ b. b == 47) c.args.path.now (cc) (cc) (cc) (λ x b q k. search (rules, tests))) c.loop-segment.yielded _ c.loop-segment.yielded_by _ _ c.in-Some.segment c.in-Some.is c.next.ensures.steps in
    let e = step _ _ _ t in
    let f = found c.segment_refusal-refusal.result (segments_refusal (drop (length c.loop-segment.yielded + 1) (slice_split (λ b. b == 47) c.args.path.now))) (sym c.if-is_some.true ∙ c.is_some.ensures) in
    cc

pub loop-segment-preserved : goal.loop-segment-preserved
loop-segment-preserved c =
    let t = YieldsList-turn (YieldsList-from_slice_split _ (λ b. b == 47) c.args.path.now (cc) (cc) (cc) (λ x b q k. search (rules, tests))) c.loop-segment.yielded _ c.loop-segment.yielded_by _ _ c.in-Some.segment c.in-Some.is c.next.ensures.steps in
    let e = step _ _ _ t in
    let f = passed c.segment_refusal-refusal.result (segments_refusal (drop (length c.loop-segment.yielded + 1) (slice_split (λ b. b == 47) c.args.path.now))) (sym c.if-is_some.false ∙ c.is_some.ensures) in
    let n = length_push c.loop-segment.yielded c.in-Some.segment in
    cc

pub returns : goal.returns
returns c =
    let t = YieldsList-end (YieldsList-from_slice_split _ (λ b. b == 47) c.args.path.now (cc) (cc) (cc) (λ x b q k. search (rules, tests))) c.loop-segment.yielded _ c.loop-segment.yielded_by _ _ c.in-None.is c.next.ensures.steps in
    let e = at_drop_all segments_refusal (slice_split (λ b. b == 47) c.args.path.now) (length c.loop-segment.yielded) (omega (arith, t.1)) in
    cc
