use Rattle.std.proofs.Common.{◌+◌, ◌++◌, false, List, ℕ, take, arith, refl, sym, ◌∙◌, ap, subst}
use Rattle.std.specs.Prelude.{IsTrue}
use Rattle.std.proofs.lemmas.Bool.{false≢true}
use Rattle.std.proofs.lemmas.List.{append-nil, take_all}
use Rattle.line_log.specs.Lines.{IsBetween, lines_in}
use Rattle.line_log.specs.Restarts.{lines_of_all}
use Rattle.line_log.specs.Hashes.{hashed}
use Rattle.line_log.specs.Log.{HasLines}
use Rattle.line_log.proofs.RestartLemmas.{at_ok, now_more, between_all, between_done, left_found}
use Rattle.line_log.proofs.restart.append_all.Goals as goal

pub loop-text-init : goal.loop-text-init
loop-text-init g c =
    record {
      usable = c.requires.usable;
      clean = refl;
      synced = c.requires.synced;
      count = refl;
      lines = λ clean base has. subst (λ (ls : List (List ℕ)). HasLines g.D.Disk.seen g.D.Disk.may_leave c.args.log.now ls) (sym (append-nil base)) has;
    }

pub loop-text-preserved : goal.loop-text-preserved
loop-text-preserved g c =
    let i = c.loop-text.invariant in
    let fine = c.if-is_err.ensures.value in
    record {
      usable = at_ok c.append.result fine c.append.ensures.usable;
      clean = c.append.ensures.clean ∙ i.clean;
      synced = λ clean. at_ok c.append.result fine c.append.ensures.synced (subst IsTrue c.append.ensures.clean clean);
      count = ap (λ (n : ℕ). n + 1) i.count;
      lines = λ clean base has.
          let now = base ++ lines_of_all (take c.loop-text.text-index c.args.texts.now) in
          let added = at_ok c.append.result fine c.append.ensures.added (subst IsTrue (sym i.clean) clean) now (i.lines clean base has) in
          subst (λ (ls : List (List ℕ)). HasLines g.D.Disk.seen g.D.Disk.may_leave c.append.new.self ls)
          (now_more base c.args.texts.now c.loop-text.text-index c.text-item.result c.deref.result.now now c.loop-text-test.true c.text-item.is c.deref.ensures.value refl) added;
    }

pub returns-then-is_err-clause-any_moment : goal.returns-then-is_err-clause-any_moment
returns-then-is_err-clause-any_moment g c clean base has left may =
    let i = c.loop-text.invariant in
    let texts = c.args.texts.now in
    let now = base ++ lines_of_all (take c.loop-text.text-index texts) in
    let part = c.append.ensures.any_moment (subst IsTrue (sym i.clean) clean) false (λ never. absurd (false≢true never)) now (i.lines clean base has) left may in
    let (found, has_found, between) = left_found false now (lines_in c.deref.result.now) left part in
    let one = subst (λ (t : List ℕ). IsBetween now (now ++ lines_in t) found) c.deref.ensures.value between in
    let all = between_all base texts c.loop-text.text-index c.text-item.result now found c.loop-text-test.true c.text-item.is refl one in
    (found, has_found, subst (λ (n : ℕ). IsBetween (base ++ lines_of_all (take n texts)) (base ++ lines_of_all texts) found) (sym i.count) all)

pub returns-clause-any_moment : goal.returns-clause-any_moment
returns-clause-any_moment g c clean base has left may =
    let i = c.loop-text.invariant in
    let texts = c.args.texts.now in
    let now = i.lines clean base has in
    let all = take_all c.loop-text.text-index texts c.loop-text-test.false in (
      base ++ lines_of_all texts,
      ap lines_in (now.synced.durable left may) ∙ now.same ∙ ap (λ l. hashed (base ++ lines_of_all l)) all,
      between_done base texts c.loop-text.added (base ++ lines_of_all texts) (omega (arith, c.loop-text-test.false, i.count)) refl,
    )
