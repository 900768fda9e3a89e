-- The rules that end where a text ends: they are known from the standing, and are those of the live set that have the held length, with those of
-- the standing without the pairs of the held length. Assumes nothing.
use mathlib.Core.Path.{◌≡◌, refl, sym, ◌∙◌}
use mathlib.Core.Bool.{false, ◌&&◌, ◌||◌, and-false, or-false}
use mathlib.Core.List.{List}
use Prim.Native.Nat.{ℕ, zero, suc, ◌<◌}
use native.Mathlib.Omega.{arith}
use lib.Bits.{bit_or}
use lib.Dec.{ltb, eqb}
use borrow.Author.Tests.{lt-ltb, eq-eqb, ne_eqb}
use Rattle.sets.specs.Sets.{has}
use Rattle.meaning.specs.Rules.{Rules, count, size, stands}
use Rattle.meaning.specs.Standing.{level, Same, held, live, ends, out}
use Rattle.meaning.specs.Step.{finished}
use Rattle.rows.proofs.Compare.{Order, less, equal, more, order}
use Rattle.sets.proofs.Laws.{has_in, has-empty, set_where-ext, set_where-none, set_where_or}
use Rattle.meaning.proofs.Levels.{same-level}
use Rattle.meaning.proofs.Held.{held_above, live-level}
use Rattle.meaning.proofs.Shorter.{shorter, shorter-low, shorter_high}

-- (k, j) is in the standing just where k is in level j
pub has-level : (r : Rules) (t : List ℕ) (k j : ℕ) → k < count r → has (level r t j) k ≡ stands r t k j
unfolding level
has-level r t k j h = has_in (count r) k (λ i. stands r t i j) h

ends-level : (r : Rules) (t : List ℕ) (k : ℕ) → k < count r → ends r t k ≡ (ltb 0 (size r k) && has (level r t (size r k)) k)
unfolding ends
ends-level r t k h = rw (has-level r t k (size r k) h)

pub same_out : {r : Rules} {t u : List ℕ} → Same r t u → out r t ≡ out r u
unfolding out
same_out {r} {t} {u} s =
    set_where-ext (count r) _ _ (λ k h. ends-level r t k h ∙ rw (same-level s (size r k)) (sym (ends-level r u k h)))

-- as a builder makes it
pub out_or : (r : Rules) (t : List ℕ) → 0 < held r t → out r t ≡ bit_or (finished r (held r t) (live r t)) (out r (shorter r t))
unfolding out finished
out_or r t p =
    set_where-ext (count r) _ (λ k. eqb (size r k) (held r t) && has (live r t) k || ends r (shorter r t) k) (λ k h.
    ends-level r t k h ∙ go k (size r k) (order (size r k) (held r t)) ∙ rw (ends-level r (shorter r t) k h))
    ∙ sym (set_where_or (count r) _ _)
  where
    go : (k z : ℕ) → Order z (held r t)
        → (ltb 0 z && has (level r t z) k) ≡ ((eqb z (held r t) && has (live r t) k) || (ltb 0 z && has (level r (shorter r t) z) k))
    go k z (less d) = rw (ne_eqb z (held r t) (omega arith), shorter-low r t z d)
    go k z (equal d) =
        rw (eq-eqb z (held r t) d, shorter_high r t z (omega arith) (omega arith), has-empty k, and-false, or-false, lt-ltb 0 z (omega arith), d, live-level r t p)
    go k z (more d) =
        rw (ne_eqb z (held r t) (omega arith), shorter_high r t z (omega arith) (omega arith), held_above r t z d)

pub out_none : (r : Rules) (t : List ℕ) → held r t ≡ 0 → out r t ≡ 0
unfolding out
out_none r t h = set_where-none (count r) _ (λ k l. ends-level r t k l ∙ go k (size r k))
  where
    go : (k z : ℕ) → (ltb 0 z && has (level r t z) k) ≡ false
    go k zero = refl
    go k (suc z) = rw (held_above r t (suc z) (omega arith), has-empty k, and-false)
