-- A word's members are counted, and past the last word none are left.
use Rattle.std.proofs.Common.{arith, ap, ◌≤◌, length}
use Rattle.sets.proofs.InWords.{count-drop}
use Rattle.sets.proofs.Members.{members-le}
use Rattle.walk.proofs.Rows.{none_left}
use Rattle.walk.proofs.many.Goals as goal

pub loop-word-preserved : goal.loop-word-preserved
loop-word-preserved c =
    let l = c.loop-word in
    let few : c.size.result ≤ 64 = rw c.size.ensures (members-le 64 _) in
    let turn = count-drop c.args.set.now l.word-index c.loop-word-test.true (c.type_inv.set l.word-index).fits in
    (omega arith, omega (arith, turn, c.size.ensures, l.invariant.1))

pub returns : goal.returns
returns c = let none = ap length (none_left c.args.set.now c.loop-word.word-index c.loop-word-test.false) in (omega (arith, none, c.loop-word.invariant.1), omega arith)
