use Rattle.std.proofs.Common.{◌≡◌, ◌++◌, ◌∷◌, [], List, ℕ, length, take, sym, ◌∙◌, ap, subst, arith, length-append}
use Rattle.std.specs.List.{AllByRecursion}
use Rattle.sha2.specs.Hashers.{Holds256}
use Rattle.line_log.specs.Lines.{IsLogLine, lines_in, text_of}
use Rattle.line_log.specs.Hashes.{hashed_after}
use Rattle.line_log.proofs.FirstLemmas.{text_all, text_ended, text_step}
use Rattle.line_log.proofs.HashLemmas.{more_hashed, more_text, text_more}
use Rattle.line_log.proofs.hashing.with_hashes.Goals as goal

pub lines-preserved : goal.lines-preserved
lines-preserved c =
    let (ls, all, is, held, long, count) = c.lines.invariant.read in
    let text = c.args.text.now in
    let rest = c.lines.rest.now in
    let n = c.in-Some.n in
    let line = c.in-Some.ensures.line in
    let l = c.split_at.result.0.now in
    let front : l ≡ take n rest = c.split_at.ensures.front in
    let more = ls ++ l ∷ [] in
    let file = c.lines.file.items in
    let new = c.put_line.new.file.items in
    record {
      read = (
        more,
        subst (λ (k : List ℕ). AllByRecursion IsLogLine (ls ++ k ∷ [])) (sym front) (text_all text rest ls is all n line.1),
        text_step text rest ls is all n line.0 line.2 ∙ ap (λ (d : List ℕ). text_of (ls ++ take n rest ∷ []) ++ d) (sym c.split_at-in-Some.ensures.back)
            ∙ ap (λ (k : List ℕ). text_of (ls ++ k ∷ []) ++ c.split_at-in-Some.result.1.now) (sym front),
        λ before start.
            let so_far = held before start in (
              subst (Holds256 c.put_line.new.hasher) (more_text before ls l file new) (c.in_ok-put_line.ensures.text (before ++ text_of ls) so_far.0),
              more_hashed before ls l file new so_far.1 (c.in_ok-put_line.ensures.put (before ++ text_of ls) so_far.0),
            ),
        omega (arith, long, c.in_ok-put_line.ensures.len, ap length (text_more ls l), length-append (text_of ls) (l ++ 10 ∷ []), length-append l (10 ∷ []), length-append ls (l ∷ [])),
        omega (arith, count, c.in_ok-put_line.ensures.count, length-append ls (l ∷ [])),
      );
      whole = c.in_ok-put_line.ensures.lines;
    }

pub returns-clause-text : goal.returns-clause-text
returns-clause-text c before start =
    let (ls, all, is, held, long, count) = c.lines.invariant.read in
    let found : lines_in c.args.text.now ≡ ls = text_ended c.args.text.now c.lines.rest.now ls is all c.in_default.ensures.none in
    let whole : text_of ls ≡ c.args.text.now = ap text_of (sym found) ∙ c.requires in
    subst (λ (t : List ℕ). Holds256 c.lines.hasher (before ++ t)) whole (held before start).0

pub returns-clause-hashed : goal.returns-clause-hashed
returns-clause-hashed c before start =
    let (ls, all, is, held, long, count) = c.lines.invariant.read in
    let found : lines_in c.args.text.now ≡ ls = text_ended c.args.text.now c.lines.rest.now ls is all c.in_default.ensures.none in
    (held before start).1 ∙ ap (hashed_after before) (sym found)

pub returns-clause-len : goal.returns-clause-len
returns-clause-len c =
    let (ls, all, is, held, long, count) = c.lines.invariant.read in
    let found : lines_in c.args.text.now ≡ ls = text_ended c.args.text.now c.lines.rest.now ls is all c.in_default.ensures.none in
    let whole : text_of ls ≡ c.args.text.now = ap text_of (sym found) ∙ c.requires in
    omega (arith, long, ap length whole, ap length found)

pub returns-clause-count : goal.returns-clause-count
returns-clause-count c =
    let (ls, all, is, held, long, count) = c.lines.invariant.read in
    let found : lines_in c.args.text.now ≡ ls = text_ended c.args.text.now c.lines.rest.now ls is all c.in_default.ensures.none in
    count ∙ ap length (sym found)
