-- `1 << k` is 2 ^ k, since nothing is shifted out.
use Rattle.std.proofs.Common.{arith, sym, ap, ◌∙◌}
use Prim.Native.Nat.{◌^◌}
use native.Mathlib.Nat.{one-mul}
use Rattle.std.specs.Int.Bits.{bit_or}
use lib.Pow.{shl_exact}
use Rattle.sets.proofs.Laws.{adding_with, adding-past}
use Rattle.bits.proofs.with.Goals as goal

pub returns-then-k-lt64 : goal.returns-then-k-lt64
returns-then-k-lt64 c =
    let a = c.args in
    ap (bit_or a.set) (shl_exact 1 a.k 64 (omega arith) (omega arith) ∙ one-mul (2 ^ a.k))
    ∙ sym (adding_with 64 a.set a.k c.ranges.set.fits (omega arith))

pub returns-else-k-lt64 : goal.returns-else-k-lt64
returns-else-k-lt64 c = sym (adding-past 64 c.args.set c.args.k c.ranges.set.fits (omega arith))
