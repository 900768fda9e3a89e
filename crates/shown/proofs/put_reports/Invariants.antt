-- The lines of the reports so far are put, and the rest are left.
use Rattle.std.proofs.Common.{◌≡◌}
use Rattle.shown.specs.Shown.{report_lines}
use Rattle.shown.proofs.Laws.{Front}
use Rattle.shown.proofs.put_reports.Given as goal

abbrev pub invariant-loop-report : goal.invariant-loop-report
invariant-loop-report l =
    (l.report-iterator.size ≡ 2)
    × Front (report_lines l.reports) (report_lines l.report-iterator.rest.now) l.fn.answer l.answer
