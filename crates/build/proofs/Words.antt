-- Laws on a set of rules that is made number by number, and word by word. Assumes nothing.
use Prim.Native.Nat.{ℕ, ◌+◌, ◌-◌, ◌*◌, ◌^◌, ◌≤◌, ◌<◌, min}
use mathlib.Core.Path.{◌≡◌, sym, ap, ◌∙◌}
use mathlib.Core.Bool.{Bool, true, false}
use mathlib.Core.List.{List}
use native.Mathlib.Nat.{le_of_lt, lt_of_lt_of_le, zero-add}
use native.Mathlib.Decide.{dec_lt}
use native.Mathlib.Numerals.{add-one}
use native.Mathlib.Omega.{arith}
use lib.Pow.{pow_mono}
use lib.ListN.{length, get_or, replicate, get_or-replicate}
use Rattle.sets.specs.Sets.{set_where, adding, set_of, word_where}
use Rattle.sets.specs.Table.{row_words}
use Rattle.sets.proofs.Laws.{set_where-lt, set_where_with, set_where_skip, adding_with}
use Rattle.sets.proofs.InWords.{set_of_where}
use Rattle.sets.proofs.Writing.{Writing}
use Rattle.book.specs.Limits.{most_rules}

-- a set of those below k, where k joins it, and where it does not
pub set_with : {k s x : ℕ} (p : ℕ → Bool) → s ≡ set_where k p → p k ≡ true → x ≡ adding 64 s k → k < 64 → x ≡ set_where (k + 1) p
set_with {k} {s} p e t q l =
    let small : s < 2 ^ 64 = rw e (lt_of_lt_of_le (set_where-lt k p) (pow_mono (le_of_lt l))) in
    q ∙ adding_with 64 s k small l ∙ rw (e, add-one) (set_where_with k p t)

pub set_same : {k s : ℕ} (p : ℕ → Bool) → s ≡ set_where k p → p k ≡ false → s ≡ set_where (k + 1) p
set_same {k} p e t = e ∙ rw add-one (set_where_skip k p t)

-- all words are made, as those past the last rule are empty
pub words-made : (n : ℕ) (p : ℕ → Bool) (i : ℕ) (ws : List ℕ) → n ≤ most_rules → n ≤ 64 * i → Writing (word_where n p) (replicate row_words 0) 0 i ws → (set_of ws ≡ set_where n p) × (length ws ≡ row_words)
unfolding set_where
words-made n p i ws few all w = (set_of_where n p ws (omega (arith, w.long)) at, w.long)
  where
    at : (j : ℕ) → j < length ws → get_or ws j 0 ≡ word_where n p j
    at j h =
        elim (dec_lt j i) [
          | yes l ↦ rw zero-add at (w.done j l)
          | no l ↦
              let none : min 64 (n - 64 * j) ≡ 0 = omega arith in
              w.after j (omega arith) ∙ get_or-replicate row_words j 0 0 (omega (arith, w.long)) ∙ sym (ap (λ m. set_where m (λ k. p (64 * j + k))) none)
        ]
