-- By what the line is, and by where the leaf's walk ends: the line's stack is a part of it, and the leaf starts in it.
use Rattle.std.proofs.Common.{arith, sym, rules, ◌≡◌, ◌∙◌, ◌+◌, MatchResult, Ok}
use lib.Seq.{length-take-le}
use Rattle.lines.proofs.Lines.{stack_within}
use Rattle.leaf.specs.Leaf.{damaged}
use Rattle.leaf.proofs.Lines.{leaf_broken, leaf_counts, leaf_stops}
use Rattle.leaf.proofs.of_line.Goals as goal

pub returns-in_default-clause-leaf : goal.returns-in_default-clause-leaf
returns-in_default-clause-leaf c = leaf_broken _ _ _ c.in_default.ensures

pub slice_bounds-leaf_start-end : goal.slice_bounds-leaf_start-end
slice_bounds-leaf_start-end c = let l = stack_within c.args.line.now _ c.in-Some.ensures in sym (length-take-le _ _ (omega arith))

pub returns-in_err-row-clause-leaf : goal.returns-in_err-row-clause-leaf
returns-in_err-row-clause-leaf c =
    let w : MatchResult c.walk_leaf.result (λ row. ⊥) (λ d. c.from_residual.result ≡ damaged (c.leaf_start-start.result + d.at)) = search rules in
    leaf_stops _ _ _ (sym c.in-Some.ensures) (stack_within _ _ c.in-Some.ensures) c.leaf_start-start.ensures.place _ c.walk_leaf.ensures.row w

pub returns-clause-leaf : goal.returns-clause-leaf
returns-clause-leaf c =
    let w : Ok c.in_ok-row.row ≡ c.walk_leaf.result = search rules in
    leaf_counts _ _ _ (sym c.in-Some.ensures) (stack_within _ _ c.in-Some.ensures) c.leaf_start-start.ensures.place (w ∙ c.walk_leaf.ensures.row) c.family.ensures
