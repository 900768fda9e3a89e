-- A move's part in the walk, where the walk goes on and where it is lost.
use Rattle.std.proofs.Common.{arith, ◌≡◌, ◌+◌, drop, refl, sym, ◌∙◌}
use Rattle.std.proofs.lemmas.Grind.{common_steps}
use Rattle.one_byte.specs.Move.{move_of, on_move}
use Rattle.leaf.specs.Leaf.{damaged, end_from, end_of}
use Rattle.leaf.proofs.Walks.{end_here, end_move}
use Rattle.leaf.proofs.walk_leaf.Goals as goal
use Rattle.leaf.proofs.walk_leaf.Goals.{After-move_on}

turn : (c : After-move_on) →
    let t = c.args.tables.now in
    let move = move_of t.goto.now t.fall.now t.rows in
    let at = c.loop-at.at in
    on_move c.move_on.result (λ to falls. end_from move (at + 1) to (drop (at + 1) c.args.leaf.now)) (damaged at) ≡ end_of move c.args.leaf.now
turn c = sym (end_move _ _ _ _ _ c.loop-at-test.true (sym c.move_on.ensures)) ∙ c.loop-at.invariant

pub loop-at-init : goal.loop-at-init
unfolding end_of
loop-at-init c = refl

pub returns-in_err-row-clause-row : goal.returns-in_err-row-clause-row
returns-in_err-row-clause-row c = let x = turn (goal.at.returns-in_err-row-clause-row c).After-move_on in grind (arith, common_steps)

pub loop-at-preserved : goal.loop-at-preserved
loop-at-preserved c = let x = turn (goal.at.loop-at-preserved c).After-move_on in grind (arith, common_steps)

pub returns-clause-row : goal.returns-clause-row
returns-clause-row c = sym (end_here _ _ _ _ c.loop-at-test.false) ∙ c.loop-at.invariant
