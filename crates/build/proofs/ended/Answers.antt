-- By the test of each rule.
use mathlib.Core.Path.{◌∙◌}
use lib.Dec.{eqb}
use lib.ListN.{get_or}
use Rattle.std.proofs.Common.{rules}
use Rattle.sets.specs.Sets.{set_of}
use Rattle.build.proofs.Laws.{finished_in}
use Rattle.build.proofs.ended.Goals as goal

pub returns : goal.returns
returns c =
    let a = c.args in
    (c.those_of.ensures.passed (λ k. eqb (get_or a.book.now.lengths k 0) a.held) (λ k t l q. search rules) ∙ finished_in a.book.now a.held (set_of a.set.now), c.those_of.ensures.long)
