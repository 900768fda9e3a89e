-- To store the reports of the rest of the text from here on is to store them all, and they fill the places that are left.
use Rattle.std.proofs.Common.{◌≡◌, ◌+◌, ◌<◌, length, drop}
use lib.Seq.{sets as stored}
use Rattle.walk.specs.Walk.{reports_from, reports_of, written}
use Rattle.walk.proofs.write.Given as goal

abbrev pub invariant-loop-at : goal.invariant-loop-at
invariant-loop-at l = (l.row < l.tables.rows) × (length l.reports ≡ length l.initial.reports) × (l.to + length (reports_from l.tables.goto.now l.tables.fall.now l.tables.out.now l.tables.rows l.at l.row (drop l.at l.text)) ≡ l.places)
    × (stored l.reports l.to (reports_from l.tables.goto.now l.tables.fall.now l.tables.out.now l.tables.rows l.at l.row (drop l.at l.text)) ≡ written (reports_of l.tables.goto.now l.tables.fall.now l.tables.out.now l.tables.rows l.text) l.initial.reports)
