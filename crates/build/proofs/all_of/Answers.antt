-- The words have every rule.
use native.Mathlib.Omega.{arith}
use Rattle.build.proofs.Laws.{in-all}
use Rattle.build.proofs.all_of.Goals as goal

pub returns-clause-all : goal.returns-clause-all
returns-clause-all c = λ k l.
    let inv = c.loop-i.invariant in
    in-all c.args.rules c.loop-i.all inv.words c.requires (λ i b m h g. inv.every i b (omega arith) h g) k l
