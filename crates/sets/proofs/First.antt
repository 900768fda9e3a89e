-- The first of those with a test. Assumes nothing.
use mathlib.Core.Bool.{Bool, true, false}
use mathlib.Core.Logic.{⊎_elim}
use mathlib.Core.Path.{◌≡◌, refl}
use Prim.Native.Nat.{ℕ, zero, suc, ◌+◌, ◌≤◌, ◌<◌}
use native.Mathlib.Nat.{eq-or-lt_of_le}
use native.Mathlib.Omega.{arith}
use lib.ListN.{get_or}
use Rattle.sets.specs.Sets.{keep, those}

-- x is the first with p from i on, or the end e where there is none
pub record LowestFrom (p : ℕ → Bool) (i e x : ℕ) : Type 0 where
  pub within : x ≤ e
  pub passes : x < e → p x ≡ true
  pub before : (k : ℕ) → i ≤ k → k < x → p k ≡ false

pub first-those : (p : ℕ → Bool) (i n e : ℕ) → e ≡ i + n → LowestFrom p i e (get_or (those p i n) 0 e)
unfolding those
first-those p i zero e q = record { within = omega arith; passes = λ l. absurd (omega arith); before = λ k h l. absurd (omega arith) }
first-those p i (suc n) e q = go (p i) refl (first-those p (suc i) n e (omega arith))
  where
    go : (b : Bool) → p i ≡ b → LowestFrom p (suc i) e (get_or (those p (suc i) n) 0 e) → LowestFrom p i e (get_or (keep b i (those p (suc i) n)) 0 e)
    go true h r = record { within = omega arith; passes = λ l. h; before = λ k g l. absurd (omega arith) }
    go false h r = record {
      within = r.within;
      passes = r.passes;
      before = λ k g l. ⊎_elim (λ (z : i ≡ k). rw (← z) h) (λ (z : i < k). r.before k z l) (eq-or-lt_of_le g);
    }
