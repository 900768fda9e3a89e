-- The move from here on is the byte's move, and each fall is to a lower row.
use Rattle.std.proofs.Common.{◌≡◌, ◌+◌, ◌≤◌}
use Rattle.one_byte.specs.Move.{move_from, move_of}
use Rattle.one_byte.proofs.move_on.Given as goal

abbrev pub invariant-loop-row : goal.invariant-loop-row
invariant-loop-row l = (l.walker.tables ≡ l.tables) × (l.falls + l.walker.row ≤ l.from) × (move_from l.tables.goto.now l.tables.fall.now l.tables.rows l.walker.row l.byte l.falls ≡ move_of l.tables.goto.now l.tables.fall.now l.tables.rows l.from l.byte)

abbrev pub decreases-loop-row : goal.decreases-loop-row
decreases-loop-row l = l.walker.row
