-- A list whose places are written one after another. Assumes nothing.
use mathlib.Core.Path.{◌≡◌, ◌∙◌}
use mathlib.Core.List.{List}
use Prim.Native.Nat.{ℕ, ◌+◌, ◌≤◌, ◌<◌}
use native.Mathlib.Decide.{dec_lt}
use native.Mathlib.Omega.{arith}
use lib.ListN.{length, get_or, set, length-set}
use lib.Seq.{get_or-set_same, get_or-set_other}

-- the i places of xs from b on are v 0, v 1, .. now, and the others as they were
pub record Writing (v : ℕ → ℕ) (xs : List ℕ) (b i : ℕ) (ys : List ℕ) : Type 0 where
  pub long : length ys ≡ length xs
  pub done : (j : ℕ) → j < i → get_or ys (b + j) 0 ≡ v j
  pub before : (j : ℕ) → j < b → get_or ys j 0 ≡ get_or xs j 0
  pub after : (j : ℕ) → b + i ≤ j → get_or ys j 0 ≡ get_or xs j 0

pub writing_next : {v : ℕ → ℕ} {xs ys : List ℕ} {b i x p : ℕ} → p ≡ b + i → p < length xs → x ≡ v i → Writing v xs b i ys → Writing v xs b (i + 1) (set ys p x)
writing_next {v} {xs} {ys} {b} {i} {x} {p} at h e w = record {
  long = length-set ys p x ∙ w.long;
  done = λ j l. elim (dec_lt j i) [
    | yes m ↦ other (b + j) (λ q. omega arith) ∙ w.done j m
    | no m ↦
        let q : j ≡ i = omega arith in
        rw (q, ← at) (get_or-set_same ys p x 0 (omega (arith, w.long)) ∙ e)
  ];
  before = λ j l. other j (λ q. omega arith) ∙ w.before j l;
  after = λ j l. other j (λ q. omega arith) ∙ w.after j (omega arith);
}
  where
    other : (j : ℕ) → (j ≡ p → ⊥) → get_or (set ys p x) j 0 ≡ get_or ys j 0
    other j n = get_or-set_other ys p j x 0 (λ q. n (omega arith))
