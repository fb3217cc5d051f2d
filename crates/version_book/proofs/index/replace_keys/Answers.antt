use Rattle.std.proofs.Common.{◌≡◌, [], ◌∷◌, ◌++◌, length, refl, sym, ap, subst, ◌∙◌, inl, append_assoc}
use Rattle.entry_book.specs.Order.{Within}
use Rattle.entry_book.proofs.Sets.{within_right}
use Rattle.version_book.proofs.Indexes.{Puts, puts_none, puts_one, index_replaced}
use Rattle.version_book.proofs.Replaced.{nothing_left, room_there}
use Rattle.std.proofs.lemmas.Cmp.{tied_itself}
use Rattle.version_book.proofs.index.replace_keys.Goals as goal

pub loop-key-init : goal.loop-key-init
loop-key-init g c = record {
  split = c.into_iter-key-iterator.ensures.into_iter_gives.0;
  puts = puts_none c.args.row.now c.args.index;
}

pub put_row-requires-clause-room : goal.put_row-requires-clause-room
put_row-requires-clause-room g c =
    let next = ap (λ l. c.loop-key.yielded ++ l) c.in-Some.ensures.steps.0 in
    let all = sym next ∙ c.loop-key.invariant.split in
    let among = subst (λ l. Within l c.in-Some.key) all (within_right c.loop-key.yielded (c.in-Some.key ∷ c.next.new.self.rest.items) c.in-Some.key (inl refl)) in
    let there = c.requires.there c.in-Some.key among in
    let still = c.loop-key.invariant.puts.still c.in-Some.key there.0 there.1 in
    room_there g.K.Ord.cmp (tied_itself g.met.K.Ord.total) c.in-Some.key c.loop-key.new still.0 still.1 c.in_order.ensures.most

pub loop-key-preserved : goal.loop-key-preserved
loop-key-preserved g c =
    let same : c.in_ok-clone.field-0 ≡ c.args.row.now = let e = c.in_ok-clone.ensures.cases in λ i. record { row = e.0 i; commit = e.1 i } in
    record {
      split = append_assoc c.loop-key.yielded (c.in-Some.key ∷ []) c.next.new.self.rest.items ∙ (ap (λ l. c.loop-key.yielded ++ l) (sym c.in-Some.ensures.steps.0) ∙ c.loop-key.invariant.split);
      puts = rw (c.in_ok-new.ensures, same) (puts_one g.K.Ord.cmp c.requires.is_exact (tied_itself g.met.K.Ord.total) c.loop-key.yielded c.in-Some.key c.args.row.now c.args.index c.loop-key.new c.loop-key.invariant.puts);
    }

pub returns : goal.returns
returns g c = λ keys_of rows old identify sorted index there id same e.
    let none : length c.loop-key.key-iterator.rest.items ≡ 0 = sym c.loop-key.key-iterator.rest.ok.0 ∙ c.in-None.ensures.steps.0 in
    let all = nothing_left c.loop-key.yielded c.loop-key.key-iterator.rest.items c.args.keys.items c.loop-key.invariant.split none in
    index_replaced keys_of identify rows c.args.index c.loop-key.new index c.args.row.now old sorted there id same
    (subst (λ ks. Puts ks c.args.row.now c.args.index c.loop-key.new) (all ∙ e) c.loop-key.invariant.puts)
