use Rattle.std.proofs.Common.{◌++◌, ◌∷◌, [], List, ℕ, length, take, sym, ◌∙◌, ap}
use Rattle.std.proofs.lemmas.Bool.Decides.{Decides-eqb}
use Rattle.line_log.specs.Lines.{text_of}
use Rattle.line_log.proofs.FirstLemmas.{no_bytes, none_left, text_all, text_step, text_whole}
use Rattle.line_log.proofs.first_line.is_text.Goals as goal

pub lines-preserved : goal.lines-preserved
lines-preserved c =
    let (ls, all, is) = c.lines.invariant.read in
    let bytes = c.args.bytes.now in
    let rest = c.lines.rest.now in
    let n = c.in-Some.n in
    let line = c.in-Some.ensures.line in
    record {
      read = (
        ls ++ take n rest ∷ [],
        text_all bytes rest ls is all n line.1,
        text_step bytes rest ls is all n line.0 line.2 ∙ ap (λ (d : List ℕ). text_of (ls ++ take n rest ∷ []) ++ d) (sym c.split_at.ensures.back),
      );
    }

pub returns : goal.returns
returns c =
    let (ls, all, is) = c.lines.invariant.read in
    let bytes = c.args.bytes.now in
    let rest = c.lines.rest.now in
    let none = c.in_default.ensures.none in
    let decides = Decides-eqb (length rest) 0 in (
      λ empty. text_whole bytes rest ls is all none (no_bytes rest (decides.0 (sym c.is_empty.ensures ∙ empty))),
      λ whole. c.is_empty.ensures ∙ decides.1 (none_left bytes rest ls is all none whole),
    )
