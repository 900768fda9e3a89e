-- Rows that ascend from the empty text: row 0, and only row 0, holds nothing. Assumes nothing.
use mathlib.Core.Path.{◌≡◌}
use mathlib.Core.Logic.{inl, inr}
use mathlib.Core.List.{List, []}
use Prim.Native.Nat.{ℕ, zero, suc, ◌<◌}
use native.Mathlib.Nat.{eq-zero-or-pos}
use native.Mathlib.Omega.{arith}
use lib.ListN.{length, get_or}
use Rattle.rows.specs.Rows.{IsRow, Ascending}
use Rattle.rows.proofs.Order.{shorter as before_shorter}
use Rattle.rows.proofs.Rows.{row_before, row_own, row_same, one_row}
use Rattle.meaning.specs.Rules.{Rules}
use Rattle.meaning.specs.Standing.{Same, held}
use Rattle.meaning.specs.Tables.{IsFall}
use Rattle.meaning.proofs.Levels.{same_refl}
use Rattle.meaning.proofs.Held.{same-held, held-nil, held_none}
use Rattle.meaning.proofs.Shorter.{shorter, shorter-nil, length-shorter, fall_row}
use Rattle.meaning.proofs.Congruent.{congruence, bytes-shorter}

module _ {r : Rules} {ts : List (List ℕ)} (asc : Ascending (Same r) ts) (root : (0 < length ts) × (get_or ts 0 [] ≡ [])) where
  pub row_empty : IsRow (Same r) ts [] 0
  row_empty = record { below = root.0; same = rw root.1 (same_refl r []) }

  pub row_zero : (s : ℕ) (t : List ℕ) → IsRow (Same r) ts t s → held r t ≡ 0 → s ≡ 0
  row_zero s t x h = one_row (congruence r) asc x (row_same (congruence r) (held_none r t h) row_empty)

  pub row_pos : (s : ℕ) (t : List ℕ) → IsRow (Same r) ts t s → 0 < held r t → 0 < s
  row_pos zero t x p = absurd (omega (arith, same-held x.same, same-held row_empty.same, held-nil r))
  row_pos (suc s) t x p = omega arith

  pub held_pos : (s : ℕ) (t : List ℕ) → IsRow (Same r) ts t s → 0 < s → 0 < held r t
  held_pos s t x p = elim (eq-zero-or-pos (held r t)) [ inl d ↦ absurd (omega (arith, row_zero s t x d)) | inr d ↦ d ]

  -- a fall goes to a lower row
  pub fall-lower : (s v : ℕ) → s < length ts → 0 < s → IsFall r ts (get_or ts s []) v → v < s
  fall-lower s v l p x =
      let t = get_or ts s [] in
      row_before asc s l (bytes-shorter r t (asc.bytes s l)) (fall_row x)
      (before_shorter (shorter r t) t (length-shorter r t (held_pos s t (row_own (congruence r) ts s l) p)))

  -- row 0 falls to row 0
  pub fall-root : {v : ℕ} → IsFall r ts (get_or ts 0 []) v → v ≡ 0
  fall-root {v} x = row_zero v [] (rw (root.1, shorter-nil r) at (fall_row x)) (held-nil r)
