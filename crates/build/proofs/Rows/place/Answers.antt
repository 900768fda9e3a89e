-- Each way is one case of the definition.
use mathlib.Core.Path.{sym, ◌∙◌}
use borrow.Author.Tests.{eqb-true, eqb-false}
use Rattle.build.specs.Course.{root, none, some}
use Rattle.build.proofs.Rows.place.Goals as goal

pub returns-then-s-eq0-clause-course : goal.returns-then-s-eq0-clause-course
returns-then-s-eq0-clause-course c = root c.if-s-eq0.true (sym c.onward-live.ensures.0 ∙ eqb-true _ _ (sym c.is_empty.ensures ∙ c.if-is_empty.true))

pub returns-else-s-eq0-clause-course : goal.returns-else-s-eq0-clause-course
returns-else-s-eq0-clause-course c = none c.if-s-eq0.false (sym c.onward-live.ensures.0 ∙ eqb-true _ _ (sym c.is_empty.ensures ∙ c.if-is_empty.true))

pub returns-clause-course : goal.returns-clause-course
returns-clause-course c =
    let e = c.onward-live.ensures.0 in
    some (λ z. eqb-false _ _ (sym c.is_empty.ensures ∙ c.if-is_empty.false) (e ∙ z)) (rw e at c.row_of.ensures.course)
