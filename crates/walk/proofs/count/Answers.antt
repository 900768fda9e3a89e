-- A fall leaves the move from the lower row; a byte's move goes on with the run or, where it is lost, stops it.
use Rattle.std.proofs.Common.{arith, sym, ◌∙◌, None}
use Rattle.one_byte.specs.Move.{reached}
use Rattle.one_byte.proofs.Laws.{by_go, by_fall, by_wrong}
use Rattle.walk.proofs.Laws.{run_end, run-move}
use Rattle.walk.proofs.count.Goals as goal
use Rattle.walk.proofs.count.Goals.{else-bytes-test, then-bytes-test+in-Wrong}

pub falls-smaller : goal.falls-smaller
falls-smaller c =
    let f = by_fall _ _ _ _ _ c.falls.falls c.in-Fall.ensures.look in
    omega (arith, f.0, c.in-Fall.ensures.row)

pub falls-preserved : goal.falls-preserved
falls-preserved c =
    let i = c.falls.invariant in
    let e = c.in-Fall.ensures in
    let f = by_fall _ _ _ _ _ c.falls.falls (rw i.0 at e.look) in
    (e.same ∙ i.0, omega (arith, f.0, e.row), i.2, rw e.row (sym f.1 ∙ i.3))

pub bytes-preserved : goal.bytes-preserved
bytes-preserved c =
    let b = c.bytes in
    let f = c.falls in
    let e = c.in-Go.ensures in
    let go = by_go _ _ _ _ _ _ (rw f.invariant.0 at e.look) in
    let run = run-move _ _ _ _ _ b.at b.run.row b.run.falls b.run.made (reached c.in-Go.row f.falls) c.bytes-test.true (rw b.invariant.1 at (sym f.invariant.3 ∙ go.1)) in
    (e.same ∙ f.invariant.0, e.row, omega arith, omega arith, f.invariant.2, rw (c.many.ensures.0, c.ending.ensures.members) (sym run ∙ b.invariant.5))

pub returns-in-None : goal.returns-in-None
returns-in-None c =
    elim c.bytes-test.branch [
      | else-bytes-test w ↦ sym (run_end _ _ _ _ _ _ _ _ _ w.bytes-test.false) ∙ c.bytes.invariant.5
      | then-bytes-test+in-Wrong w ↦ cc
    ]

pub returns-in-Some : goal.returns-in-Some
returns-in-Some c =
    elim c.bytes-test.branch [
      | else-bytes-test w ↦ cc
      | then-bytes-test+in-Wrong w ↦
          let f = w.falls.invariant in
          let b = c.bytes in
          let wrong = by_wrong _ _ _ _ _ _ (rw f.0 at w.in-Wrong.ensures.look) in
          let run = run-move _ _ c.args.tables.now.out.now _ _ b.at b.run.row b.run.falls b.run.made None w.bytes-test.true (rw b.invariant.1 at (sym f.3 ∙ wrong)) in
          cc (run, b.invariant.5)
    ]
