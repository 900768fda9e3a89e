-- Over bytes: the run from here on is the whole run. Over falls: the move from here on is the byte's move.
-- There is no damage inside both loops: where there is some, `bytes` is left from within.
use Rattle.std.proofs.Common.{◌≡◌, None, ◌+◌, ◌*◌, ◌≤◌, drop}
use Rattle.book.specs.Limits.{most_rules, most_rows}
use Rattle.one_byte.specs.Move.{move_from}
use Rattle.walk.specs.Walk.{run_from, run_of}
use Rattle.walk.proofs.count.Given as goal

abbrev pub invariant-falls : goal.invariant-falls
invariant-falls l = (l.walker.tables ≡ l.tables) × (l.falls + l.walker.row ≤ l.initial.walker.row) × (l.damage ≡ None)
    × (move_from l.tables.goto.now l.tables.fall.now l.tables.rows l.walker.row l.byte l.falls ≡ move_from l.tables.goto.now l.tables.fall.now l.tables.rows l.initial.walker.row l.byte 0)

abbrev pub decreases-falls : goal.decreases-falls
decreases-falls l = l.walker.row

abbrev pub invariant-bytes : goal.invariant-bytes
invariant-bytes l = (l.walker.tables ≡ l.tables) × (l.walker.row ≡ l.run.row) × (l.run.falls ≤ most_rows * l.at) × (l.run.made ≤ most_rules * l.at) × (l.damage ≡ None)
    × (run_from l.tables.goto.now l.tables.fall.now l.tables.out.now l.tables.rows l.at l.run.row l.run.falls l.run.made (drop l.at l.text) ≡ run_of l.tables.goto.now l.tables.fall.now l.tables.out.now l.tables.rows l.text)
