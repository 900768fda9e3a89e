-- The standing without its pairs of the held length: it is that of a text, the last bytes, one fewer than the held length. And a standing is known by
-- its held length, its live set and the standing without those pairs. Assumes nothing.
use mathlib.Core.Path.{◌≡◌, sym, ◌∙◌}
use mathlib.Core.Bool.{cond}
use mathlib.Core.List.{List, []}
use Prim.Native.Nat.{ℕ, suc, pred, ◌≤◌, ◌<◌}
use native.Mathlib.Omega.{arith}
use lib.Dec.{eqb}
use lib.ListN.{length, take, length-take}
use lib.Seq.{take-nil}
use borrow.Author.Tests.{eq-eqb, ne_eqb}
use Rattle.rows.specs.Rows.{IsRow}
use Rattle.rows.proofs.Compare.{Order, less, equal, more, order}
use Rattle.meaning.specs.Rules.{Rules}
use Rattle.meaning.specs.Standing.{level, Same, held, live}
use Rattle.meaning.specs.Tables.{IsFall}
use Rattle.meaning.proofs.Levels.{level-take, level-take-over, same-level}
use Rattle.meaning.proofs.Held.{held-le, held_above, held-take, same-held, live-level}

unfoldable pub shorter : Rules → List ℕ → List ℕ
shorter r t = take (pred (held r t)) t

pub shorter-low : (r : Rules) (t : List ℕ) (j : ℕ) → j < held r t → level r (shorter r t) j ≡ level r t j
unfolding shorter
shorter-low r t j h = level-take r (pred (held r t)) t j (omega arith)

pub shorter_high : (r : Rules) (t : List ℕ) (j : ℕ) → 0 < j → held r t ≤ j → level r (shorter r t) j ≡ 0
unfolding shorter
shorter_high r t j p h = level-take-over r (pred (held r t)) t j (omega arith)

pub held-shorter : (r : Rules) (t : List ℕ) → 0 < held r t → held r (shorter r t) < held r t
unfolding shorter
held-shorter r t h = omega (arith, held-take r (pred (held r t)) t)

pub length-shorter : (r : Rules) (t : List ℕ) → 0 < held r t → length (shorter r t) < length t
unfolding shorter
length-shorter r t h = rw length-take (omega (arith, held-le r t))

pub shorter-nil : (r : Rules) → shorter r [] ≡ []
unfolding shorter
shorter-nil r = take-nil (pred (held r []))

-- ---- it is the standing without those pairs

shorter_at : (r : Rules) (t : List ℕ) (j : ℕ) → level r (shorter r t) (suc j) ≡ cond (eqb (suc j) (held r t)) 0 (level r t (suc j))
shorter_at r t j = go (order (suc j) (held r t))
  where
    go : Order (suc j) (held r t) → level r (shorter r t) (suc j) ≡ cond (eqb (suc j) (held r t)) 0 (level r t (suc j))
    go (less d) = rw (ne_eqb (suc j) (held r t) (omega arith)) (shorter-low r t (suc j) d)
    go (equal d) = rw (eq-eqb (suc j) (held r t) d) (shorter_high r t (suc j) (omega arith) (omega arith))
    go (more d) = rw (ne_eqb (suc j) (held r t) (omega arith), held_above r t (suc j) d) (shorter_high r t (suc j) (omega arith) (omega arith))

-- so a fall is the row of that text
pub fall_row : {r : Rules} {ts : List (List ℕ)} {t : List ℕ} {v : ℕ} → IsFall r ts t v → IsRow (Same r) ts (shorter r t) v
fall_row {r} {t = t} x = record { below = x.below; same = record { at = λ j. shorter_at r t j ∙ sym (x.shorter.at j) } }

pub row_fall : {r : Rules} {ts : List (List ℕ)} {t : List ℕ} {v : ℕ} → IsRow (Same r) ts (shorter r t) v → IsFall r ts t v
row_fall {r} {t = t} x = record { below = x.below; shorter = record { at = λ j. sym (x.same.at j) ∙ shorter_at r t j } }

-- ---- the key

pub same-shorter : {r : Rules} {t u : List ℕ} → Same r t u → Same r (shorter r t) (shorter r u)
same-shorter {r} {t} {u} s =
    record { at = λ j. shorter_at r t j ∙ rw (same-held s, s.at j) (sym (shorter_at r u j)) }

pub same_key : (r : Rules) (t u : List ℕ) → held r t ≡ held r u → live r t ≡ live r u → Same r (shorter r t) (shorter r u) → Same r t u
same_key r t u e l s = record { at = λ j. go (suc j) (omega arith) (order (suc j) (held r t)) }
  where
    go : (j : ℕ) → 0 < j → Order j (held r t) → level r t j ≡ level r u j
    go j p (less d) = sym (shorter-low r t j d) ∙ same-level s j ∙ shorter-low r u j (omega arith)
    go j p (equal d) = rw d (sym (live-level r t (omega arith)) ∙ l ∙ live-level r u (omega arith) ∙ rw e)
    go j p (more d) = held_above r t j d ∙ sym (held_above r u j (omega arith))
