-- To add for the words left makes of the sums what to add for all makes of the sums at entry.
use Rattle.std.proofs.Common.{arith, ◌≡◌, ◌≤◌, length, ap}
use Rattle.std.proofs.lemmas.List.{length-map}
use lib.ListN.{drop_of_length-le}
use Rattle.sets.specs.Sets.{those, members, members_of}
use Rattle.sets.specs.Table.{row_words}
use Rattle.sets.proofs.InWords.{from_start, count-drop, members-drop}
use Rattle.sets.proofs.Table.{members-whole}
use Rattle.tally.specs.Tally.{add_all}
use Rattle.tally.proofs.Adding.{few, add_append, room_less, room_add}
use Rattle.tally.proofs.add.Goals as goal

pub loop-i-init : goal.loop-i-init
loop-i-init c =
    let a = c.args in
    record { room = room_less (few a.set.now (omega arith)) c.requires.1; adds = ap (λ ks. add_all a.count ks a.sums.now) (from_start _) }

pub add_word-requires : goal.add_word-requires
add_word-requires c =
    let l = c.loop-i in
    let turn = count-drop c.args.set.now l.i (omega arith) (c.fits-set l.i) in
    (c.requires.0, omega arith, room_less (omega (arith, turn)) l.invariant.room)

pub loop-i-preserved : goal.loop-i-preserved
loop-i-preserved c =
    let l = c.loop-i in
    let ws = c.args.set.now in
    let small = c.fits-set l.i in
    let turn = count-drop ws l.i (omega arith) small in
    let told = c.add_word.ensures in
    record {
      room = rw told (room_add c.args.count _ _ _ l.sums c.requires.0 (rw length-map (omega (arith, turn))) l.invariant.room);
      adds = rw told (rw (members-drop ws l.i (omega arith) small, add_append) at l.invariant.adds);
    }

pub returns : goal.returns
unfolding add_all members_of members those
returns c =
    let ws = c.args.set.now in
    let long : length ws ≡ row_words = omega arith in
    let past : length ws ≤ c.loop-i.i = omega arith in
    rw (drop_of_length-le ws past, members-whole ws long) at c.loop-i.invariant.adds
