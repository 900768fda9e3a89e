-- 2 ^ n is a word, where n is below 64, and the full word is 2 ^ 64 - 1.
use Prim.Native.Nat.{◌^◌}
use native.Mathlib.Nat.{one-mul, mod-eq_of_lt}
use lib.Pow.{pow-lt}
use Rattle.build.proofs.Laws.{in_full}
use Rattle.build.proofs.below.Goals as goal

pub returns-then-n-lt64 : goal.returns-then-n-lt64
returns-then-n-lt64 c = λ b h l. rw (one-mul (2 ^ c.args.n), mod-eq_of_lt (pow-lt c.if-n-lt64.true)) (in_full c.args.n b l)

pub returns-else-n-lt64 : goal.returns-else-n-lt64
returns-else-n-lt64 c = λ b h l. in_full 64 b h
