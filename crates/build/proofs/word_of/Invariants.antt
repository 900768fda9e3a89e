-- What is kept, with those that pass of what is left, is what is to be kept.
use Prim.Native.Nat.{ℕ, ◌+◌, ◌<◌}
use mathlib.Core.Path.{◌≡◌}
use mathlib.Core.Bool.{Bool, ◌&&◌, ◌||◌}
use lib.Dec.{ltb}
use Rattle.sets.specs.Sets.{has, among, members}
use Rattle.build.proofs.word_of.Given as goal

abbrev pub invariant-loop-bit : goal.invariant-loop-bit
invariant-loop-bit g l = (p : ℕ → Bool) → ((k : ℕ) (t : Bool) → k < l.rules → goal.F-post g l.test k t → t ≡ p k) → (b : ℕ) → b < 64
    → (has l.those b || (ltb (l.base + b) l.rules && p (l.base + b) && among b (members 64 l.bit-iterator.0))) ≡ (ltb (l.base + b) l.rules && p (l.base + b) && has l.word b)
