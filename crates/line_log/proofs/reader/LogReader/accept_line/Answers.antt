use Rattle.std.proofs.Common.{rules, ◌≡◌, inl, Bool, ◌+◌, ◌++◌, ◌∷◌, [], ℕ, List, length, take, drop, arith, sym, ◌∙◌, ap, subst, append_assoc, length-append}
use Rattle.std.proofs.lemmas.List.{length-take-le}
use Rattle.sha2.specs.Hashers.{Holds256}
use Rattle.line_log.specs.Lines.{lines_in, text_of}
use Rattle.line_log.specs.Hashes.{hashed, hashed_line}
use Rattle.line_log.specs.Damage.{HasWrongLine, JustifiesError}
use Rattle.line_log.specs.Reading.{HasReadLines, held_by}
use Rattle.line_log.specs.declared.error.LogError.{LogError}
use Rattle.line_log.specs.declared.error.LogError.TheVariants.{NoMemory}
use Rattle.line_log.proofs.HashLemmas.{text_more}
use Rattle.line_log.proofs.ReadLemmas.{of_error, rest_whole, rest_tail, more_at, more_read, part_past, part_within}
use Rattle.line_log.proofs.reader.LogReader.accept_line.Goals as goal

pub returns-clause-taken : goal.returns-clause-taken
returns-clause-taken g c lines file read =
    let r = c.args.self.now in
    let n = c.args.len in
    let held = held_by r in
    let line = c.requires.line in
    let new = c.take_line.new.line.items in
    let found_is : c.split_at-2.result.0.now ≡ take n held = search rules in
    let found : take n held ≡ hashed_line (text_of lines) new = sym found_is ∙ c.in_ok-is_right.ensures.hashed c.if-not-is_right.false (text_of lines) read.text in
    let long : length (take n held) ≡ n = length-take-le n held (omega (arith, line.0)) in
    let within = part_within file r read.part in
    let rest = rest_whole file held r.at within read.part.each n line.0 line.1 line.2 in
    record {
      part = record { len = read.part.len; each = part_past file r.block.items r.at r.from n read.part.each };
      count = omega (arith, read.count, length-append lines (new ∷ []));
      at = more_at file lines new n r.at (take n held) (drop (r.at + (n + 1)) file) found long read.at;
      read = more_read file lines new n r.at (take n held) (drop (r.at + (n + 1)) file) found long read.at (read.read ∙ ap (λ (l : List (List ℕ)). hashed lines ++ l) rest);
      tail = read.tail ∙ rest_tail file held r.at within read.part.each n line.0 line.1 line.2;
      text = subst (Holds256 c.take_line.new.hasher) (append_assoc (text_of lines) new (10 ∷ []) ∙ sym (text_more lines new)) (c.in_ok-is_right.ensures.text c.if-not-is_right.false (text_of lines) read.text);
    }

pub returns-then-not-is_right-clause-justified : goal.returns-then-not-is_right-clause-justified
returns-then-not-is_right-clause-justified g c mixes lines file read =
    let r = c.args.self.now in
    let n = c.args.len in
    let held = held_by r in
    let line = c.requires.line in
    let found_is : c.split_at-2.result.0.now ≡ take n held = search rules in
    let rest = rest_whole file held r.at (part_within file r read.part) read.part.each n line.0 line.1 line.2 in
    let wrong : HasWrongLine file lines = record {
      found = take n held;
      rest = lines_in (drop (r.at + (n + 1)) file);
      follows = read.read ∙ ap (λ (l : List (List ℕ)). hashed lines ++ l) rest;
      wrong = λ other e. c.in_ok-is_right.ensures.wrong c.if-not-is_right.true (text_of lines) read.text other (found_is ∙ e);
    } in
    (read.count, inl wrong)

pub returns-in_err-is_right-clause-justified : goal.returns-in_err-is_right-clause-justified
returns-in_err-is_right-clause-justified g c =
    of_error c.from_residual.result (λ (e : LogError). (mixes : Bool) → (lines : List (List ℕ)) → (file : List ℕ) → HasReadLines file c.args.self.now lines → JustifiesError mixes file lines e)
    NoMemory c.from_residual.ensures.1 (λ mixes lines file read. tt)
