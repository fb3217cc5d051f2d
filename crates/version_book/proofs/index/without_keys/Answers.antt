use Rattle.std.proofs.Common.{◌∷◌, [], ◌++◌, take, sym, ap, subst, ◌∙◌}
use Rattle.std.proofs.lemmas.Cmp.{tied_itself}
use Rattle.std.proofs.lemmas.List.{take_more, take_all}
use Rattle.version_book.proofs.Indexes.{Takes, takes_one, index_without}
use Rattle.version_book.proofs.index.without_keys.Goals as goal

pub loop-key-preserved : goal.loop-key-preserved
loop-key-preserved g c =
    let done = take_more c.args.keys.now c.loop-key.key-index c.key-item.result c.loop-key-test.true ∙ ap (λ k. take c.loop-key.key-index c.args.keys.now ++ k ∷ []) (sym c.key-item.is) in
    rw (done, c.in_ok-rest.ensures.rows) (takes_one g.K.Ord.cmp c.requires.is_exact (tied_itself g.met.K.Ord.total) (take c.loop-key.key-index c.args.keys.now) c.key-item.result c.args.index c.loop-key.rest c.loop-key.invariant)

pub returns : goal.returns
returns g c = λ keys_of rows old identify sorted index there e.
    let all = take_all c.loop-key.key-index c.args.keys.now c.loop-key-test.false in
    index_without keys_of identify rows c.args.index c.loop-key.rest index old sorted there
    (subst (λ ks. Takes ks c.args.index c.loop-key.rest) (all ∙ e) c.loop-key.invariant)
