-- The line of the next report is put behind those in front of it, and at the end no report is left.
use Rattle.std.proofs.Common.{arith, ◌∙◌}
use Rattle.shown.proofs.Laws.{front_next, front_all, reports-next, reports_none}
use Rattle.shown.proofs.put_reports.Goals as goal

pub loop-report-preserved : goal.loop-report-preserved
loop-report-preserved c =
    let s = c.in-Some.ensures.steps in
    let line = rw (c.from.ensures, c.from-in-loop-report.ensures) at c.put_pair.ensures in
    let front = rw (reports-next _ _ _ s.1.0 (s.1.1 ∙ c.loop-report.invariant.0)) at c.loop-report.invariant.1 in
    (s.0 ∙ c.loop-report.invariant.0, front_next front line)

pub returns : goal.returns
returns c =
    let front = rw (reports_none c.loop-report.report-iterator.rest.now (omega (arith, c.in-None.ensures.steps.1.0))) at c.loop-report.invariant.1 in
    front_all front
