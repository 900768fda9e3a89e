-- There is room for a word's pairs, which are then written; past the last word none are left.
use Rattle.std.proofs.Common.{arith, ◌≤◌, ◌+◌, ◌*◌, ◌∙◌, length, get_or}
use Rattle.sets.specs.Sets.{members, reports as pairs}
use Rattle.sets.proofs.InWords.{count-drop}
use Rattle.walk.proofs.Rows.{none_left, words_stored}
use Rattle.walk.proofs.report.Goals as goal

pub loop-i-preserved : goal.loop-i-preserved
loop-i-preserved c =
    let a = c.args in
    let l = c.loop-i in
    let w = c.write_members-to in
    let small = (c.type_inv.set l.i).fits in
    let turn = count-drop a.set.now l.i c.loop-i-test.true small in
    let room : l.to + 2 * length (members 64 (get_or a.set.now l.i 0)) ≤ length l.reports =
    omega (arith, turn, l.invariant.0, l.invariant.1, c.requires.1) in
    let s = words_stored a.set.now l.i c.loop-i-test.true small a.end l.to _ l.reports _ room w.ensures.moved w.ensures.wrote in
    (omega arith, omega (arith, turn, s.0, l.invariant.1), s.1 ∙ l.invariant.2)

pub returns : goal.returns
unfolding pairs
returns c =
    let none = none_left c.args.set.now c.loop-i.i c.loop-i-test.false in
    let to = rw none at c.loop-i.invariant.1 in
    (omega (arith, to), rw none at c.loop-i.invariant.2)
