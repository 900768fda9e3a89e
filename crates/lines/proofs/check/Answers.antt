-- The pass from here on is the whole pass: a turn takes in a line, as `read_line` has judged it.
use Rattle.std.proofs.Common.{arith, ◌≡◌, ◌≤◌, ◌<◌, ◌+◌, ◌∙◌, ℕ, List, length, drop, refl, sym}
use Rattle.std.proofs.lemmas.Grind.{common_steps}
use Rattle.std.specs.Prelude.{Option, Ok}
use Rattle.lines.specs.declared.Line.{Line}
use Rattle.lines.specs.Lines.{lf, mark_from, bad_at, on_line, on_pass, lines_of, line_of, pass_over, line_check, check_of}
use Rattle.lines.proofs.Lines.{piece, lines_end, lines_pass_lem}
use Rattle.lines.proofs.check.Goals as goal

-- a line's part in the pass, where the line is q
turn : (s : List ℕ) (at end : ℕ) (q : Option Line) → at < length s → end ≡ mark_from lf at s → end ≤ length s → q ≡ line_of (piece s at end)
    → pass_over line_check at (lines_of (drop at s)) ≡ check_of s
    → on_pass (on_line q (λ stack count. Ok tt) (bad_at at)) (pass_over line_check (end + 1) (lines_of (drop (end + 1) s))) ≡ check_of s
unfolding line_check
turn s at end q t f l e h = rw (← e) at (sym (lines_pass_lem line_check s at end t f l) ∙ h)

pub loop-at-init : goal.loop-at-init
unfolding check_of
loop-at-init c = (omega arith, refl)

pub returns-in_err-ok_or : goal.returns-in_err-ok_or
returns-in_err-ok_or c =
    let f = c.find-end.ensures in
    let t = c.loop-at-test.true in
    let x = turn _ _ _ _ t f.0 (omega (arith, t, f.1)) c.read_line.ensures c.loop-at.invariant.1 in
    grind (arith, common_steps)

pub loop-at-preserved : goal.loop-at-preserved
loop-at-preserved c =
    let f = c.find-end.ensures in
    let t = c.loop-at-test.true in
    let x = turn _ _ _ _ t f.0 (omega (arith, t, f.1)) c.read_line.ensures c.loop-at.invariant.1 in
    (omega arith, grind (arith, common_steps))

pub returns : goal.returns
returns c = rw (lines_end _ _ _ c.loop-at-test.false) at c.loop-at.invariant.1
