use Rattle.std.proofs.Common.{◌≡◌, List, false, true, subst, IsTrue}
use Rattle.entry_book.specs.Batches.{Batch}
use Rattle.version_book.specs.History.{Follows, IsEarlier, any_hits}
use Rattle.version_book.specs.Marks.{Agree}
use Rattle.version_book.specs.CommittedRows.{VersionState, book_of, marked}
use Rattle.version_book.specs.Stores.{NumbersIdentify}
use Rattle.version_book.proofs.Unchanged.{same_reads, same_rows, some_hits}
use Rattle.version_book.proofs.version.Version.unchanged.Goals as goal

pub returns-clause-rows : goal.returns-clause-rows
returns-clause-rows c =
    let older : VersionState = record { domain = c.older.inside.body.names; number = c.older.inside.number; rows = c.older.inside.body.store } in
    let newer : VersionState = record { domain = c.self.inside.body.names; number = c.self.inside.number; rows = c.self.inside.body.store } in
    let is_exact = subst (λ o. NumbersIdentify o.store c.self.inside.body.store → IsTrue c.is_same_at.result → marked c.args.mark.now o.store ≡ marked c.args.mark.now c.self.inside.body.store) c.get.ensures
    (subst (λ s. NumbersIdentify c.get.result.now.store s.store → IsTrue c.is_same_at.result → marked c.args.mark.now c.get.result.now.store ≡ marked c.args.mark.now s.store) c.get-body.ensures c.is_same_at.ensures.is_exact) in
    subst (λ o. IsEarlier o c.args.self.now → IsTrue c.is_same_at.result → marked c.args.mark.now o.rows ≡ marked c.args.mark.now c.args.self.now.rows) c.older.view_is
    (subst (λ s. IsEarlier older s → IsTrue c.is_same_at.result → marked c.args.mark.now older.rows ≡ marked c.args.mark.now s.rows) c.self.view_is
    (same_rows c.args.mark.now older newer c.older.invariant.0.ascending c.older.invariant.1 c.is_same_at.result is_exact))

pub returns-clause-reads : goal.returns-clause-reads
returns-clause-reads c =
    let older : VersionState = record { domain = c.older.inside.body.names; number = c.older.inside.number; rows = c.older.inside.body.store } in
    let newer : VersionState = record { domain = c.self.inside.body.names; number = c.self.inside.number; rows = c.self.inside.body.store } in
    let is_exact = subst (λ o. NumbersIdentify o.store c.self.inside.body.store → IsTrue c.is_same_at.result → marked c.args.mark.now o.store ≡ marked c.args.mark.now c.self.inside.body.store) c.get.ensures
    (subst (λ s. NumbersIdentify c.get.result.now.store s.store → IsTrue c.is_same_at.result → marked c.args.mark.now c.get.result.now.store ≡ marked c.args.mark.now s.store) c.get-body.ensures c.is_same_at.ensures.is_exact) in
    subst (λ o. IsEarlier o c.args.self.now → IsTrue c.is_same_at.result → Agree (book_of o.rows) (book_of c.args.self.now.rows) c.args.mark.now) c.older.view_is
    (subst (λ s. IsEarlier older s → IsTrue c.is_same_at.result → Agree (book_of older.rows) (book_of s.rows) c.args.mark.now) c.self.view_is
    (same_reads c.args.mark.now older newer c.older.invariant.0.ascending c.older.invariant.1 c.is_same_at.result is_exact))

pub returns-clause-hit : goal.returns-clause-hit
returns-clause-hit c =
    let older : VersionState = record { domain = c.older.inside.body.names; number = c.older.inside.number; rows = c.older.inside.body.store } in
    let newer : VersionState = record { domain = c.self.inside.body.names; number = c.self.inside.number; rows = c.self.inside.body.store } in
    let same = subst (λ o. marked c.args.mark.now o.store ≡ marked c.args.mark.now c.self.inside.body.store → IsTrue c.is_same_at.result) c.get.ensures
    (subst (λ s. marked c.args.mark.now c.get.result.now.store ≡ marked c.args.mark.now s.store → IsTrue c.is_same_at.result) c.get-body.ensures c.is_same_at.ensures.same) in
    subst (λ o. (batches : List Batch) → Follows o batches c.args.self.now → c.is_same_at.result ≡ false → any_hits c.args.mark.now o batches ≡ true) c.older.view_is
    (subst (λ s. (batches : List Batch) → Follows older batches s → c.is_same_at.result ≡ false → any_hits c.args.mark.now older batches ≡ true) c.self.view_is
    (some_hits c.args.mark.now older newer c.older.invariant.0.ascending c.older.invariant.1 c.is_same_at.result same))
