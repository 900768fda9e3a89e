-- The first pass counts the reports, and ends in one of the rows.
use Rattle.std.proofs.Common.{arith, refl, ◌<◌}
use Rattle.std.proofs.lemmas.Grind.{common_steps}
use Rattle.walk.proofs.Laws.{counted}
use Rattle.walk.proofs.walk.Goals as goal

pub write-requires-clause-room : goal.write-requires-clause-room
write-requires-clause-room c =
    let t = c.args.tables.now in
    let some : 0 < t.rows = grind (arith, common_steps) in
    let r = counted t.goto.now t.fall.now t.out.now t.rows c.args.text.now some c.in_ok-run.ensures refl in
    (omega (arith, r.1), omega arith)

pub bounds-tables-run : goal.bounds-tables-run
bounds-tables-run c =
    let t = c.args.tables.now in
    let some : 0 < t.rows = grind (arith, common_steps) in
    let r = counted t.goto.now t.fall.now t.out.now t.rows c.args.text.now some c.in_ok-run.ensures refl in
    let last : c.in_ok-run.run'.row < t.rows = omega (arith, r.0) in
    grind (arith, common_steps)
