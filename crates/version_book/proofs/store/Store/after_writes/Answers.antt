use Rattle.std.proofs.Common.{map, drop, ◌+◌, refl, sym, subst}
use Rattle.version_book.specs.CommittedRows.{rows_after}
use Rattle.version_book.specs.Written.{placed, write_of}
use Rattle.version_book.proofs.Writing.{Lead, fits_now, leads_on, room_now}
use Rattle.version_book.proofs.store.Store.after_writes.Goals as goal

pub loop-write-init : goal.loop-write-init
loop-write-init c = subst (λ store. Lead c.args.commit c.args.writes.now store (rows_after c.args.commit (placed c.args.commit (map write_of c.args.writes.now)) c.args.self.now)) (sym c.in_ok-store.ensures.cases) (refl, c.requires.fits, c.requires.room)

pub after_write-requires-clause-fits : goal.after_write-requires-clause-fits
after_write-requires-clause-fits c = fits_now c.args.commit c.args.writes.now c.loop-write.write-index c.write-item.result c.loop-write.store _ c.loop-write-test.true c.write-item.is c.loop-write.invariant

pub after_write-requires-clause-room : goal.after_write-requires-clause-room
after_write-requires-clause-room c = room_now c.args.commit c.args.writes.now c.loop-write.write-index c.write-item.result c.loop-write.store _ c.loop-write-test.true c.write-item.is c.loop-write.invariant

pub loop-write-preserved : goal.loop-write-preserved
loop-write-preserved c = subst (λ store. Lead c.args.commit (drop (c.loop-write.write-index + 1) c.args.writes.now) store (rows_after c.args.commit (placed c.args.commit (map write_of c.args.writes.now)) c.args.self.now)) (sym c.in_ok-store-2.ensures) (leads_on c.args.commit c.args.writes.now c.loop-write.write-index c.write-item.result c.loop-write.store _ c.loop-write-test.true c.write-item.is c.loop-write.invariant)
