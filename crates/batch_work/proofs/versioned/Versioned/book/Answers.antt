use Rattle.std.proofs.Common.{ℕ, ◌-◌, Some, ap, ◌∙◌, arith}
use Rattle.version_book.specs.CommittedRows.{VersionState}
use Rattle.batch_work.specs.Windows.{Window}
use Rattle.batch_work.proofs.Windows.{at_later, at_newest, found_back, is_before_newest}
use Rattle.batch_work.proofs.versioned.Versioned.book.Goals as goal

pub returns-then-number-place-clause-found : goal.returns-then-number-place-clause-found
returns-then-number-place-clause-found g c =
    let w : Window = g.Self.Versioned.window c.args.self.now in
    let back : ℕ = c.number-place.result - c.args.number in
    let place = c.number-place.ensures.number ∙ ap (λ (s : VersionState). s.number) c.newest-newest.ensures.newest in
    c.back.ensures ∙ found_back c.args.number back w c.newest-newest.ensures.counted (omega arith) (omega arith)

pub returns-then-number-place-clause-earlier : goal.returns-then-number-place-clause-earlier
returns-then-number-place-clause-earlier g c =
    let w : Window = g.Self.Versioned.window c.args.self.now in
    let back : ℕ = c.number-place.result - c.args.number in
    let place = c.number-place.ensures.number ∙ ap (λ (s : VersionState). s.number) c.newest-newest.ensures.newest in
    is_before_newest c.args.number w c.newest-newest.ensures.counted c.back.result
    (c.back.ensures ∙ found_back c.args.number back w c.newest-newest.ensures.counted (omega arith) (omega arith))

pub returns-then-number-place-2-clause-found : goal.returns-then-number-place-2-clause-found
returns-then-number-place-2-clause-found g c =
    let w : Window = g.Self.Versioned.window c.args.self.now in
    let place = c.number-place.ensures.number ∙ ap (λ (s : VersionState). s.number) c.newest-newest.ensures.newest in
    ap Some c.newest-newest.ensures.newest ∙ at_newest c.args.number w c.newest-newest.ensures.counted (omega arith)

pub returns-else-number-place-2-clause-found : goal.returns-else-number-place-2-clause-found
returns-else-number-place-2-clause-found g c =
    let w : Window = g.Self.Versioned.window c.args.self.now in
    let place = c.number-place.ensures.number ∙ ap (λ (s : VersionState). s.number) c.newest-newest.ensures.newest in
    at_later c.args.number w c.newest-newest.ensures.counted (omega arith)
