-- A rule fits a whole frame just where it occurs there, ends with the frame and is as long. Assumes nothing.
use mathlib.Core.Bool.{true}
use mathlib.Core.Path.{◌≡◌, sym, subst}
use Prim.Native.Nat.{ℕ, ◌+◌, ◌-◌}
use native.Mathlib.Omega.{arith}
use lib.ListN.{length, get_or}
use Rattle.meaning.specs.Rules.{size, symbol, fits}
use Rattle.meaning.specs.Occurrences.{WholeOccurs, NoneFitsEmpty}

pub whole_occurs : WholeOccurs
whole_occurs r frame k = (
  λ x. (
    record {
      rule = x.rule;
      some = x.some;
      starts = omega (arith, x.whole);
      ends = omega arith;
      each = λ i l. subst (At i) (sym (at i x.whole)) (x.each i l);
    },
    x.whole,
  ),
  λ (x, q). record { rule = x.rule; some = x.some; whole = q; each = λ i l. subst (At i) (at i q) (x.each i l) },
)
  where
    -- byte j fits symbol i
    At : ℕ → ℕ → Type 0
    At i j = fits r (get_or frame j 0) (symbol r k i) ≡ true

    -- the occurrence starts with the frame
    at : (i : ℕ) → size r k ≡ length frame → length frame - size r k + i ≡ i
    at i q = omega arith

pub none-fits-empty : NoneFitsEmpty
none-fits-empty r k x = omega (arith, x.some, x.whole)
