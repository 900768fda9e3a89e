-- A look that goes to a row ends the move, one that finds what no build writes loses it, and a fall leaves the move from the lower row.
use Rattle.std.proofs.Common.{sym, ◌∙◌, arith}
use Rattle.one_byte.proofs.Laws.{by_go, by_fall, by_wrong, move-lent}
use Rattle.one_byte.proofs.move_on.Goals as goal

pub loop-row-init : goal.loop-row-init
loop-row-init c =
    let a = c.args in
    let w = c.in_ok-walker in
    let s = w.ensures.stands in
    (s.0, omega arith, rw s.1 (sym (move-lent _ _ _ _ a.byte (rw s.0 at w.walker.lent) (rw (s.0, s.1) at w.walker.row_in))))

pub returns-in-Go : goal.returns-in-Go
returns-in-Go c = let i = c.loop-row.invariant in let go = by_go _ _ _ _ _ _ (rw i.0 at c.in-Go.ensures.look) in sym go.1 ∙ i.2

pub returns-in-Wrong : goal.returns-in-Wrong
returns-in-Wrong c = let i = c.loop-row.invariant in sym (by_wrong _ _ _ _ _ _ (rw i.0 at c.in-Wrong.ensures.look)) ∙ i.2

pub loop-row-smaller : goal.loop-row-smaller
loop-row-smaller c =
    let f = by_fall _ _ _ _ _ c.loop-row.falls c.in-Fall.ensures.look in
    omega (arith, f.0, c.in-Fall.ensures.row)

pub loop-row-preserved : goal.loop-row-preserved
loop-row-preserved c =
    let i = c.loop-row.invariant in
    let e = c.in-Fall.ensures in
    let f = by_fall _ _ _ _ _ c.loop-row.falls (rw i.0 at e.look) in
    (e.same ∙ i.0, omega (arith, f.0, e.row), rw e.row (sym f.1 ∙ i.2))
