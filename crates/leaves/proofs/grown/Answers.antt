-- Within the limit the record grows by what was counted.
use Rattle.std.proofs.Common.{arith}
use Rattle.leaves.proofs.Answers.{grown_within}
use Rattle.leaves.proofs.grown.Goals as goal

pub returns : goal.returns
returns c =
    let before = rw c.totals_of.ensures at c.total-before.ensures in
    grown_within _ _ _ _ c.if-old-ge-PROFILES.false c.if-profile-gt-TEXT.false c.if-not-has_rows.ensures c.in_ok-check.ensures c.in_ok-parts.ensures
    (omega (arith, before, c.total-more.ensures, c.if-before-more-gt-LIMIT.false)) c.with_parts.ensures
