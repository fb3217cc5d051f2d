use Rattle.std.proofs.Common.{◌≡◌, ◌++◌, [], ℕ, List, arith, sym, ◌∙◌, ap, subst}
use Rattle.sha2.specs.Hashers.{Holds256}
use Rattle.line_log.specs.Lines.{lines_in, text_of}
use Rattle.line_log.specs.Hashes.{hashed, hashed_after}
use Rattle.line_log.proofs.LineLemmas.{text_append}
use Rattle.line_log.proofs.HashLemmas.{hashed_append, left_after, left_none}
use Rattle.line_log.proofs.StepLemmas.{at_rest}
use Rattle.line_log.proofs.log.LineLog.append.Goals as goal

pub returns-in_err-hashed-clause-any_moment : goal.returns-in_err-hashed-clause-any_moment
returns-in_err-hashed-clause-any_moment g c clean mixes kind lines has left may =
    let log = c.args.self.now.file in
    let s = has.synced in
    let rest = at_rest (g.D.Disk.seen log.disk) log.end s.rest (omega (arith, log.short, s.len)) left (omega (arith, log.room, s.len)) (s.durable left may) in
    left_none mixes lines (lines_in c.args.text.now) left (rest.0 ∙ has.same) rest.1

pub returns-then-size-gt-MAX_LINE_LEN-clause-any_moment : goal.returns-then-size-gt-MAX_LINE_LEN-clause-any_moment
returns-then-size-gt-MAX_LINE_LEN-clause-any_moment g c clean mixes kind lines has left may =
    let log = c.args.self.now.file in
    let s = has.synced in
    let rest = at_rest (g.D.Disk.seen log.disk) log.end s.rest (omega (arith, log.short, s.len)) left (omega (arith, log.room, s.len)) (s.durable left may) in
    left_none mixes lines (lines_in c.args.text.now) left (rest.0 ∙ has.same) rest.1

pub returns-in_err-append-clause-any_moment : goal.returns-in_err-append-clause-any_moment
returns-in_err-append-clause-any_moment g c clean mixes kind lines has left may =
    let t = c.args.text.now in
    let more : lines_in c.deref.result.now ≡ hashed_after (text_of lines) (lines_in t) = ap lines_in c.deref.ensures.value ∙ c.in_ok-hashed.ensures.hashed (text_of lines) (subst (λ h. Holds256 h (text_of lines)) (sym c.in_ok-hasher.ensures.cases) has.text) in
    left_after mixes lines (lines_in t) (lines_in (g.D.Disk.seen c.args.self.now.file.disk)) (lines_in c.deref.result.now) left has.same more (c.append.ensures.any_moment clean mixes kind left may)

pub returns-clause-any_moment : goal.returns-clause-any_moment
returns-clause-any_moment g c clean mixes kind lines has left may =
    let t = c.args.text.now in
    let more : lines_in c.deref.result.now ≡ hashed_after (text_of lines) (lines_in t) = ap lines_in c.deref.ensures.value ∙ c.in_ok-hashed.ensures.hashed (text_of lines) (subst (λ h. Holds256 h (text_of lines)) (sym c.in_ok-hasher.ensures.cases) has.text) in
    left_after mixes lines (lines_in t) (lines_in (g.D.Disk.seen c.args.self.now.file.disk)) (lines_in c.deref.result.now) left has.same more (c.append.ensures.any_moment clean mixes kind left may)

pub returns-clause-added : goal.returns-clause-added
returns-clause-added g c clean lines has =
    let t = c.args.text.now in
    let more : lines_in c.deref.result.now ≡ hashed_after (text_of lines) (lines_in t) = ap lines_in c.deref.ensures.value ∙ c.in_ok-hashed.ensures.hashed (text_of lines) (subst (λ h. Holds256 h (text_of lines)) (sym c.in_ok-hasher.ensures.cases) has.text) in
    record {
      synced = c.in_ok-append.ensures.synced clean;
      same = c.in_ok-append.ensures.added clean ∙ ap (λ (l : List (List ℕ)). l ++ lines_in c.deref.result.now) has.same ∙ ap (λ (l : List (List ℕ)). hashed lines ++ l) more ∙ sym (hashed_append [] lines (lines_in t));
      text = subst (Holds256 c.with_hashes.new.hasher) (ap (λ (l : List ℕ). text_of lines ++ l) (sym c.requires.text) ∙ sym (text_append lines (lines_in t))) (c.in_ok-hashed.ensures.text (text_of lines) (subst (λ h. Holds256 h (text_of lines)) (sym c.in_ok-hasher.ensures.cases) has.text));
    }
