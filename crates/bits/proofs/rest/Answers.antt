-- The empty set has no members to drop, and `set & (set - 1)` is without the least.
use Rattle.std.proofs.Common.{◌≡◌, ◌-◌, ◌<◌, ◌^◌, ℕ, arith, sym, ap, drop, bit_and}
use native.Mathlib.Decide.{dec_lt}
use Rattle.sets.specs.Sets.{members}
use Rattle.sets.proofs.Members.{members-empty, members_step}
use Rattle.bits.proofs.rest.Goals as goal

without_least : (s : ℕ) → s < 2 ^ 64 → members 64 (bit_and s (s - 1)) ≡ drop 1 (members 64 s)
without_least s h =
    elim (dec_lt 0 s) [
      | yes p ↦ sym (ap (drop 1) (members_step 64 s p h))
      | no n ↦ let e : s ≡ 0 = omega arith in rw (e, members-empty 64)
    ]

pub returns : goal.returns
returns c = rw c.saturating_sub.ensures (without_least c.args.set c.ranges.set.fits)
