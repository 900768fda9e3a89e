-- By the test of each rule of the set.
use Rattle.std.proofs.Common.{rules}
use Rattle.meaning.specs.Rules.{fits_at}
use Rattle.book.specs.Meant.{rules_held}
use Rattle.build.proofs.fitting.Goals as goal

pub returns : goal.returns
returns c =
    let a = c.args in
    (c.those_of.ensures.passed (λ k. fits_at (rules_held a.book.now) a.byte k a.held) (λ k t l q. search rules), c.those_of.ensures.long)
