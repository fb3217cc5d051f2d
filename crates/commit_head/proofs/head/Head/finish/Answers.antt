use Rattle.std.proofs.Common.{◌-◌, sym, subst}
use Rattle.std.specs.Prelude.{vec_capacity, vec_len}
use Rattle.commit_head.specs.Heads.{IsPreparedFor, Head, Prepared, newest_of}
use Rattle.commit_head.proofs.Journals.{finished}
use Rattle.commit_head.proofs.head.Head.finish.Goals as goal

pub invariant_of-self : goal.invariant_of-self
invariant_of-self c =
    let old : Head = record { window = c.self.inside.window; kept = c.self.inside.kept.items; room = vec_capacity c.self.inside.kept - vec_len c.self.inside.kept } in
    let p : Prepared = record { item = c.prepared.inside.item; version = c.prepared.inside.version } in
    let goes = subst (IsPreparedFor (newest_of old)) (sym c.prepared.view_is) (subst (λ h. IsPreparedFor (newest_of h) c.args.prepared) (sym c.self.view_is) c.requires.fits.goes) in
    finished old p _ _ _ c.self.invariant goes c.push.ensures c.push_reserved.ensures.items
