use Rattle.std.proofs.Common.{◌≡◌, ◌+◌, ap, subst, arith}
use Rattle.std.proofs.lemmas.List.{length-map}
use Rattle.version_book.specs.Applying.{MayApply}
use Rattle.entry_book.specs.Limits.{IsWithinLimits}
use Rattle.version_book.specs.CommittedRows.{book_of, row_of}
use Rattle.version_book.specs.Written.{placed}
use Rattle.test_works.proofs.Tested.{may_apply}
use Rattle.test_works.proofs.running.applied.Goals as goal

pub made-requires : goal.made-requires
made-requires c =
    let s = c.args.version.now in
    let same : s.number + 1 ≡ c.number-number.result + 1 = omega (arith, c.number-number.ensures.number) in
    let e = ap (λ n. n.entries) c.count-count.ensures in
    let a = ap (λ n. n.agents) c.count-count.ensures in
    let d = ap (λ n. n.bundles) c.count-count.ensures in
    let k = ap (λ n. n.tokens) c.count-count.ensures in
    let few : IsWithinLimits (book_of s.rows) = record {
      entries = omega (arith, length-map s.rows.entries row_of);
      agents = omega (arith, length-map s.rows.agents row_of);
      bundles = omega (arith, length-map s.rows.bundles row_of);
      tokens = omega (arith, length-map s.rows.tokens row_of);
    } in
    let may : MayApply (placed (s.number + 1) c.args.changes.now) (s.number + 1) s = may_apply c.args.batch.now s c.args.changes.now c.requires.accepted.0 c.requires.accepted.1 c.ops.ensures.made c.requires.domain c.number-number.ensures.lawful few c.requires.kept c.places.ensures.put c.applying.ensures in
    subst (λ n. MayApply (placed n c.args.changes.now) n s) same may
