use Rattle.std.proofs.Common.{◌<◌, ap, arith, drop, length, length-append, length-drop}
use Rattle.std.proofs.lemmas.Bool.Decides.{nat_tests}
use Rattle.batch_work.proofs.shared_window.push_clones.Goals as goal

pub push-requires : goal.push-requires
push-requires c =
    let all = ap length c.loop-slot.invariant in
    let now = length-append c.loop-slot.all.items (drop c.loop-slot.slot-index c.args.more.now) in
    let before = length-append c.args.all.now.items c.args.more.now in
    let rest = length-drop c.loop-slot.slot-index c.args.more.now in
    let few = c.requires.room in
    let next : c.loop-slot.slot-index < length c.args.more.now = grind (arith, nat_tests, c.loop-slot-test.true) in
    let room : length c.loop-slot.all.items < 63 = omega arith in
    (omega arith, room)
