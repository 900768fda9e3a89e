-- A line's part in the pass and in what is counted, by what its leaf comes to.
use Rattle.std.proofs.Common.{arith, rules, refl, ap, ◌∙◌, ◌≡◌, ◌+◌, ◌≤◌, MatchResult, Ok, length}
use Rattle.book.specs.Limits.{most_rules}
use Rattle.leaf.specs.Leaf.{damaged}
use Rattle.leaves.specs.Totals.{leaves_pass}
use Rattle.leaves.proofs.Counting.{counted_none, counted-all, count_fits, counted_next, leaf_turn, leaf_ends, leaves_end}
use Rattle.leaves.proofs.count_lines.Goals as goal

pub loop-at-init : goal.loop-at-init
unfolding leaves_pass
loop-at-init c = (omega arith, refl, counted_none _ _ _)

pub overflow_add-parts : goal.overflow_add-parts
overflow_add-parts c =
    let f = c.find-end.ensures in
    let w : Ok c.in_ok-place.field-0 ≡ c.of_line.result = search rules in
    let p : c.in_ok-place.field-0.place ≤ most_rules = search rules in
    omega (
      arith,
      count_fits _ _ _ c.loop-at-test.true f.0 (omega (arith, f.1, c.loop-at-test.true)) (w ∙ c.of_line.ensures.leaf) (omega (arith, p)) c.requires c.loop-at.invariant.2,
    )

pub loop-at-preserved : goal.loop-at-preserved
loop-at-preserved c =
    let f = c.find-end.ensures in
    let t = c.loop-at-test.true in
    let e : c.find-end.result ≤ length c.args.profile.now = omega (arith, f.1, t) in
    let w : Ok c.in_ok-place.field-0 ≡ c.of_line.result = search rules in
    let p : c.in_ok-place.field-0.place ≤ most_rules = search rules in
    let k = w ∙ c.of_line.ensures.leaf in
    (omega arith, leaf_turn _ _ _ t f.0 e _ k c.loop-at.invariant.1, counted_next _ _ _ t f.0 e k (omega (arith, p)) c.loop-at.invariant.2)

pub returns-in_err-place : goal.returns-in_err-place
returns-in_err-place c =
    let f = c.find-end.ensures in
    let t = c.loop-at-test.true in
    let w : MatchResult c.of_line.result (λ l. ⊥) (λ d. c.from_residual.result ≡ damaged (c.loop-at.at + d.at)) = search rules in
    leaf_ends _ _ _ t f.0 (omega (arith, f.1, t)) _ c.of_line.ensures.leaf c.loop-at.invariant.1 w

pub returns : goal.returns
returns c = let t = c.loop-at-test.false in rw (← leaves_end _ _ _ t c.loop-at.invariant.1) (ap Ok (counted-all _ _ _ t c.loop-at.invariant.2))
