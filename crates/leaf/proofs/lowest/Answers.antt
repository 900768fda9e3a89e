-- The first of what is in both words is the lowest; where nothing is, the lowest is behind them.
use Rattle.std.proofs.Common.{sym, ap, ap₂, ◌∙◌, ◌+◌, ◌*◌, get_or, bit_and}
use Rattle.sets.specs.Sets.{members}
use Rattle.leaf.proofs.InBoth.{lowest_start, lowest_end, lowest_here, lowest_next}
use Rattle.leaf.proofs.lowest.Goals as goal

pub loop-i-init : goal.loop-i-init
loop-i-init c = lowest_start _ _

pub returns-then-both-ne0 : goal.returns-then-both-ne0
returns-then-both-ne0 c =
    let i = c.loop-i.i in
    let both = ap₂ bit_and c.word.ensures c.word-in-loop-i.ensures in
    let here = lowest_here c.args.live.now c.args.out.now (λ j. (c.type_inv.live j).fits) (λ j. (c.type_inv.out j).fits) i c.loop-i-test.true (λ z. c.if-both-ne0.true (both ∙ z)) in
    ap (λ x. 64 * i + x) (c.first.ensures ∙ ap (λ x. get_or (members 64 x) 0 64) both) ∙ sym here ∙ c.loop-i.invariant

pub loop-i-preserved : goal.loop-i-preserved
loop-i-preserved c =
    let i = c.loop-i.i in
    let both = ap₂ bit_and c.word.ensures c.word-in-loop-i.ensures in
    let next = lowest_next c.args.live.now c.args.out.now (λ j. (c.type_inv.live j).fits) (λ j. (c.type_inv.out j).fits) i c.loop-i-test.true (sym both ∙ c.if-both-ne0.false) in
    sym next ∙ c.loop-i.invariant

pub returns : goal.returns
returns c = sym (lowest_end _ _ c.loop-i.i c.loop-i-test.false) ∙ c.loop-i.invariant
