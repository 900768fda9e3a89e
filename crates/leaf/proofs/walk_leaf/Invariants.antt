-- The walk from here on ends where the whole walk does.
use Rattle.std.proofs.Common.{◌≡◌, drop}
use Rattle.one_byte.specs.Move.{move_of}
use Rattle.leaf.specs.Leaf.{end_from, end_of}
use Rattle.leaf.proofs.walk_leaf.Given as goal

abbrev pub invariant-loop-at : goal.invariant-loop-at
invariant-loop-at l =
    let move = move_of l.tables.goto.now l.tables.fall.now l.tables.rows in
    end_from move l.at l.row (drop l.at l.leaf) ≡ end_of move l.leaf
