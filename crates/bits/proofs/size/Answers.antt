-- The ones of a set are as many as its members.
use Rattle.std.proofs.Common.{sym, ap, ◌∙◌, length}
use Rattle.sets.specs.Sets.{members}
use Rattle.sets.proofs.Members.{ones_members, members-empty}
use Rattle.bits.proofs.size.Goals as goal

pub returns-else-set-eq0 : goal.returns-else-set-eq0
returns-else-set-eq0 c = ones_members 64 c.args.set c.ranges.set.fits

pub returns-then-set-eq0 : goal.returns-then-set-eq0
returns-then-set-eq0 c = sym (ap (λ s. length (members 64 s)) c.if-set-eq0.true ∙ ap length (members-empty 64))
