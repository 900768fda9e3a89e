-- The steps of `Build` put together, with no machine: where equality of standings is decided, there are more than n standings, or at most n.
-- Assumes nothing.
use mathlib.Core.Path.{◌≡◌, refl}
use mathlib.Core.Logic.{◌⊎◌, inl, inr}
use mathlib.Core.List.{List, [], ◌∷◌}
use Prim.Native.Nat.{ℕ, zero, suc, ◌+◌, ◌≤◌, ◌<◌}
use native.Mathlib.Omega.{arith}
use native.Mathlib.Decide.{dec_lt}
use lib.ListN.{length, get_or}
use Rattle.rows.specs.Rows.{HasRow, MoreThan, AtMost}
use Rattle.rows.specs.Unique.{Congruence, Exists}
use Rattle.rows.proofs.Build.{Partial, start, found, added, crowded, next, finish, length-snoc}

module _ {Same : List ℕ → List ℕ → Type 0} (S : Congruence Same) (decide : (t u : List ℕ) → Dec (Same t u)) where
  look : (ts : List (List ℕ)) (t : List ℕ) (k : ℕ) → k ≤ length ts → HasRow Same ts t ⊎ ((i : ℕ) → i < k → ¬ Same t (get_or ts i []))
  look ts t zero l = inr (λ i h. absurd (omega arith))
  look ts t (suc k) l =
      elim (decide t (get_or ts k [])) [
        | yes e ↦ inl (k, record { below = l; same = e })
        | no f ↦
            elim (look ts t k (omega arith)) [
              | inl r ↦ inl r
              | inr g ↦ inr (λ i h e. elim (dec_lt i k) [ yes b ↦ g i b e | no c ↦ let z : i ≡ k = omega arith in f (rw z at e) ])
            ]
      ]

  module _ (n : ℕ) where
    row : (k : ℕ) {ts : List (List ℕ)} {s c : ℕ} → c + k ≡ 256 → Partial Same ts s c → s < length ts → length ts ≤ n
        → MoreThan Same n ⊎ ((us : List (List ℕ)) × Partial Same us s 256 × (length us ≤ n))
    row zero {ts} {s} {c} e p l m = let z : c ≡ 256 = omega arith in inr (ts, rw z at p, m)
    row (suc k) {ts} {s} {c} e p l m =
        elim (look ts (c ∷ get_or ts s []) (length ts) (omega arith)) [
          | inl r ↦ row k (omega arith) (found S p r) l m
          | inr g ↦
              let unseen : ¬ HasRow Same ts (c ∷ get_or ts s []) = λ r. g r.0 r.1.below r.1.same in
              let len = length-snoc ts (c ∷ get_or ts s []) in
              elim (dec_lt (length ts) n) [
                | yes h ↦ row k (omega arith) (added S p l (omega arith) unseen) (omega arith) (omega arith)
                | no f ↦ let z : length ts ≡ n = omega arith in inl (rw z at (crowded S p l (omega arith) unseen))
              ]
        ]

    rows : (k : ℕ) {ts : List (List ℕ)} {s : ℕ} → s + k ≡ n → Partial Same ts s 0 → length ts ≤ n → MoreThan Same n ⊎ AtMost Same n
    rows zero {ts} e p m = inr (record { texts = ts; rows = finish S p (omega arith); few = m })
    rows (suc k) {ts} {s} e p m =
        elim (dec_lt s (length ts)) [
          | no f ↦ inr (record { texts = ts; rows = finish S p (omega arith); few = m })
          | yes l ↦
              elim (row 256 (omega arith) p l m) [ inl x ↦ inl x | inr y ↦ rows k (omega arith) (next S y.1) y.2 ]
        ]

  -- the empty text has a standing
  some_standing : MoreThan Same 0
  some_standing = record { texts = [] ∷ []; long = refl; bytes = (start S).ascending.bytes; different = λ i j l m. absurd (omega arith) }

pub exists : Exists
exists Same S decide zero = inl (some_standing S decide)
exists Same S decide (suc n) = rows S decide (suc n) (suc n) (omega arith) (start S) (omega arith)
