-- When n rows are there and lent, and what it is to be lent. Assumes nothing.
use mathlib.Core.Bool.{true, false, true≢false}
use mathlib.Core.Logic.{◌≢◌}
use mathlib.Core.Path.{◌≡◌, sym, ◌∙◌}
use Prim.Native.Nat.{ℕ, ◌≤◌, ◌<◌}
use native.Mathlib.Omega.{arith}
use native.Mathlib.Decide.{dec_lt}
use borrow.Author.Tests.{lt-leb, le-leb, eq-eqb, ne_eqb}
use Rattle.meaning.specs.Tables.{Five}
use Rattle.lent.specs.Lent.{lent, LentIs, has_rows}

pub lent_is : LentIs
lent_is b n = (
  λ h. record { gotos = omega arith; falls = omega arith; helds = omega arith; lives = omega arith; outs = omega arith; most = omega arith },
  λ x. omega (arith, x.gotos, x.falls, x.helds, x.lives, x.outs, x.most),
)

module _ (b : Five) (n : ℕ) where
  pub rows-lent : n ≢ 0 → n ≤ lent b → has_rows b n ≡ true
  rows-lent ne h = rw (ne_eqb n 0 ne, le-leb n (lent b) h)

  pub no_rows : n ≡ 0 → has_rows b n ≡ false
  no_rows q = rw (eq-eqb n 0 q)

  pub few-lent : n ≢ 0 → lent b < n → has_rows b n ≡ false
  few-lent ne h = rw (ne_eqb n 0 ne, lt-leb n (lent b) h)

  pub has-rows : has_rows b n ≡ true → (n ≢ 0) × (n ≤ lent b)
  has-rows e =
      elim (dec_lt 0 n) [
        | no g ↦ absurd (true≢false (sym e ∙ no_rows (omega arith)))
        | yes p ↦
            let ne : n ≢ 0 = omega arith in
            elim (dec_lt (lent b) n) [ yes l ↦ absurd (true≢false (sym e ∙ few-lent ne l)) | no g ↦ (ne, omega arith) ]
      ]
