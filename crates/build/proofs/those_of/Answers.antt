-- The words passed are all.
use native.Mathlib.Omega.{arith}
use Rattle.build.proofs.Laws.{set_of_those}
use Rattle.build.proofs.those_of.Goals as goal

pub returns-clause-passed : goal.returns-clause-passed
returns-clause-passed g c = λ p h.
    let inv = c.loop-i.invariant in
    set_of_those c.args.rules p c.args.set.now c.loop-i.those (λ j. (c.type_inv.set j).fits) inv.words inv.long c.requires.few (λ i b m l. inv.passed p h i b (omega arith) l)
