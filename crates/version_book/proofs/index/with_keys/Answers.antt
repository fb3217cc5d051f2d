use Rattle.std.proofs.Common.{◌≡◌, [], ◌∷◌, ◌++◌, length, sym, ap, subst, ◌∙◌, arith, append_assoc, length-append}
use Rattle.std.proofs.lemmas.Cmp.{tied_itself}
use Rattle.version_book.proofs.Indexes.{Puts, puts_one, index_with}
use Rattle.version_book.proofs.Replaced.{nothing_left}
use Rattle.version_book.proofs.index.with_keys.Goals as goal

pub into_with-requires-clause-room : goal.into_with-requires-clause-room
into_with-requires-clause-room g c =
    let all = ap length c.loop-key.invariant.split in
    let parts = length-append c.loop-key.yielded c.loop-key.key-iterator.rest.items in
    let left = ap length c.in-Some.ensures.steps.0 in
    let room = c.requires.room c.in_order.ensures.order in
    omega (arith, c.loop-key.invariant.size)

pub loop-key-preserved : goal.loop-key-preserved
loop-key-preserved g c =
    let parts = length-append c.loop-key.yielded (c.in-Some.key ∷ []) in
    let same : c.in_ok-clone.field-0 ≡ c.args.row.now = let e = c.in_ok-clone.ensures.cases in λ i. record { row = e.0 i; commit = e.1 i } in
    record {
      split = append_assoc c.loop-key.yielded (c.in-Some.key ∷ []) c.next.new.self.rest.items ∙ (ap (λ l. c.loop-key.yielded ++ l) (sym c.in-Some.ensures.steps.0) ∙ c.loop-key.invariant.split);
      size = omega (arith, c.in_ok-more.ensures.count, c.loop-key.invariant.size);
      puts = rw (c.in_ok-more.ensures.rows, same) (puts_one g.K.Ord.cmp c.requires.is_exact (tied_itself g.met.K.Ord.total) c.loop-key.yielded c.in-Some.key c.args.row.now c.args.index c.loop-key.more c.loop-key.invariant.puts);
    }

pub returns : goal.returns
returns g c = λ keys_of rows identify absent index e.
    let none : length c.loop-key.key-iterator.rest.items ≡ 0 = sym c.loop-key.key-iterator.rest.ok.0 ∙ c.in-None.ensures.steps.0 in
    let all = nothing_left c.loop-key.yielded c.loop-key.key-iterator.rest.items c.args.keys.items c.loop-key.invariant.split none in
    index_with keys_of identify rows c.args.index c.loop-key.more index c.args.row.now absent
    (subst (λ ks. Puts ks c.args.row.now c.args.index c.loop-key.more) (all ∙ e) c.loop-key.invariant.puts)
