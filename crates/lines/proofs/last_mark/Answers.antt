-- The mark that `rposition` finds is the last.
use Rattle.std.proofs.Common.{rules}
use Rattle.lines.proofs.Written.{LastAt, last_is}
use Rattle.lines.proofs.last_mark.Goals as goal

pub returns-clause-place : goal.returns-clause-place
returns-clause-place c = let h : LastAt c.args.mark c.args.text.now c.rposition.result = search rules in last_is _ _ _ h
