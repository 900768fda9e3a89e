-- The shares of n totals add to 1,000, whichever the totals. Assumes nothing.
use mathlib.Core.Path.{◌≡◌, refl, sym, ap, ap₂, ◌∙◌}
use mathlib.Core.Bool.{Bool, true, false}
use mathlib.Core.Logic.{◌⊎◌, inl, inr}
use Prim.Native.Nat.{ℕ, ◌+◌, ◌-◌, ◌*◌, ◌≤◌, ◌<◌}
use native.Mathlib.Nat.{add-zero, mul-add, mul-one, div-add-mod, mod-lt, le_of_mul-le-mul_left}
use native.Mathlib.Decide.{dec_lt}
use native.Mathlib.Omega.{arith}
use lib.Dec.{ltb}
use borrow.Author.Tests.{lt-ltb}
use Rattle.shares.specs.Below.{sum_below, one_if, count_below}
use Rattle.shares.specs.Ranks.{stands_before, rank}
use Rattle.shares.specs.Shares.{floor_of, remainder_of, missing, gets_one, share_in}
use Rattle.shares.proofs.Below.{sum_same, sum_le, sum_lt, sum_plus, sum_times, sum_few}
use Rattle.shares.proofs.Ranks.{one-most, under_yes, under_no, Before, larger, told, behind, itself, ahead, same, after, stands, ranks, rank_less}

-- the share by the numbers at hand: with one more, and without
module _ (t : ℕ → ℕ) (n whole i : ℕ) {down behind lacking : ℕ} (f : down ≡ floor_of whole (t i)) (r : behind ≡ rank (λ j. remainder_of whole (t j)) n i) (m : lacking ≡ missing t n whole) where
  pub share-more : behind < lacking → down + 1 ≡ share_in t n whole i
  share-more h = ap₂ ◌+◌ f (sym (under_yes (missing t n whole) (rank (λ j. remainder_of whole (t j)) n i) (omega arith)))

  pub share_down : lacking ≤ behind → down ≡ share_in t n whole i
  share_down h = f ∙ sym (add-zero (floor_of whole (t i))) ∙ ap (λ (x : ℕ). floor_of whole (t i) + x) (sym (under_no (missing t n whole) (rank (λ j. remainder_of whole (t j)) n i) (omega arith)))

-- n totals, of which one is not 0
module _ (t : ℕ → ℕ) (n : ℕ) (some : 0 < sum_below t n) where
  abbrev whole : ℕ
  whole = sum_below t n

  abbrev floors : ℕ
  floors = sum_below (λ i. floor_of whole (t i)) n

  abbrev rest : ℕ → ℕ
  rest i = remainder_of whole (t i)

  -- how many have a remainder
  abbrev broken : ℕ
  broken = count_below (λ i. ltb 0 (rest i)) n

  -- the floors and the remainders make the whole
  split : whole * floors + sum_below rest n ≡ 1000 * whole
  split =
      ap (λ (x : ℕ). x + sum_below rest n) (sym (sum_times whole (λ i. floor_of whole (t i)) n))
      ∙ sym (sum_plus (λ i. whole * floor_of whole (t i)) rest n)
      ∙ sum_same (λ i. whole * floor_of whole (t i) + rest i) (λ i. 1000 * t i) n (λ i h. div-add-mod (1000 * t i) whole)
      ∙ sum_times 1000 t n

  remainders : sum_below rest n ≤ whole * broken
  remainders = rw (← sum_times whole (λ i. one_if (ltb 0 (rest i))) n) (sum_le rest (λ i. whole * one_if (ltb 0 (rest i))) n (λ i h. within (rest i) (mod-lt (1000 * t i) some)))
    where
      within : (x : ℕ) → x < whole → x ≤ whole * one_if (ltb 0 x)
      within x h = elim (dec_lt 0 x) [
        | yes p ↦ rw (lt-ltb 0 x p, mul-one) (omega arith)
        | no p ↦ omega arith
      ]

  pub floors-most : floors ≤ 1000
  floors-most = le_of_mul-le-mul_left {k = whole} (omega (arith, split)) some

  whole_is : floors + missing t n whole ≡ 1000
  whole_is = omega (arith, floors-most)

  -- no more are missing than have a remainder
  missing-few : missing t n whole ≤ broken
  missing-few =
      let parts : whole * floors + whole * missing t n whole ≡ whole * 1000 = sym (mul-add whole floors (missing t n whole)) ∙ ap (λ (x : ℕ). whole * x) whole_is in
      le_of_mul-le-mul_left {k = whole} (omega (arith, split, remainders)) some

  -- The shares add to 1,000.
  pub shares_add : sum_below (share_in t n whole) n ≡ 1000
  shares_add =
      let few : missing t n whole ≤ n = omega (arith, missing-few, sum_few (λ i. one_if (ltb 0 (rest i))) n (λ i. one-most (ltb 0 (rest i)))) in
      sum_plus (λ i. floor_of whole (t i)) (λ i. one_if (gets_one t n whole i)) n ∙ ap (λ (x : ℕ). floors + x) (ranks rest n (missing t n whole) few) ∙ whole_is

  -- One that has no remainder gets none: all that have one stand before it.
  pub share_exact : (i : ℕ) → rest i ≡ 0 → share_in t n whole i ≡ floor_of whole (t i)
  share_exact i z =
      rw (under_no (missing t n whole) (rank rest n i) (omega (arith, missing-few, all))) (add-zero (floor_of whole (t i)))
    where
      ahead : (j : ℕ) → one_if (ltb 0 (rest j)) ≤ one_if (stands_before rest j i)
      ahead j = elim (dec_lt 0 (rest j)) [
        | yes h ↦ omega (arith, told rest j i (larger (omega arith)), one-most (ltb 0 (rest j)))
        | no h ↦ omega (arith, under_no (rest j) 0 (omega arith))
      ]

      all : broken ≤ rank rest n i
      all = sum_le (λ j. one_if (ltb 0 (rest j))) (λ j. one_if (stands_before rest j i)) n (λ j h. ahead j)

  -- Whatever is rounded down or one more, adds to 1,000, and gives one to what stands before one that gets one, is the shares.
  pub shares_only : (x : ℕ → ℕ) → sum_below x n ≡ 1000
      → ((i : ℕ) → i < n → (x i ≡ floor_of whole (t i)) ⊎ (x i ≡ floor_of whole (t i) + 1))
      → ((i j : ℕ) → i < n → j < n → Before rest i j → x j ≡ floor_of whole (t j) + 1 → x i ≡ floor_of whole (t i) + 1)
      → (i : ℕ) → i < n → x i ≡ share_in t n whole i
  shares_only x adds rounded largest i h = elim (rounded i h) [
    | inl e ↦ share_down t n whole i e refl refl (omega (arith, all, sum_le more (λ j. one_if (stands_before rest j i)) n (λ j l. least j l e)))
    | inr e ↦
        e
        ∙ share-more t n whole i refl refl refl
        (omega (arith, all, sum_lt (λ j. one_if (stands_before rest j i)) more n i (λ j l. most j l e) h (omega (arith, itself rest i))))
  ]
    where
      more : ℕ → ℕ
      more j = x j - floor_of whole (t j)

      all : sum_below more n ≡ missing t n whole
      all =
          let parts : sum_below x n ≡ floors + sum_below more n =
          sum_same x (λ j. floor_of whole (t j) + more j) n (λ j l. elim (rounded j l) [ inl e ↦ omega arith | inr e ↦ omega arith ])
          ∙ sum_plus (λ j. floor_of whole (t j)) more n in
          omega (arith, whole_is)

      -- where i gets none, only what stands before it does; where it gets one, all that does
      least : (j : ℕ) → j < n → x i ≡ floor_of whole (t i) → more j ≤ one_if (stands_before rest j i)
      least j l e = elim (rounded j l) [
        | inl a ↦ omega arith
        | inr a ↦
            elim (stands rest j i) [
              | ahead b ↦ omega (arith, told rest j i b)
              | same q ↦ absurd (omega (arith, ap x q, ap (λ (k : ℕ). floor_of whole (t k)) q))
              | after b ↦ absurd (omega (arith, largest i j h l b a))
            ]
      ]

      most : (j : ℕ) → j < n → x i ≡ floor_of whole (t i) + 1 → one_if (stands_before rest j i) ≤ more j
      most j l e = elim (stands rest j i) [
        | ahead b ↦ omega (arith, largest j i l h b e, one-most (stands_before rest j i))
        | same q ↦ rw q (omega (arith, itself rest i))
        | after b ↦ omega (arith, behind rest j i b)
      ]

-- rounded down, or one more
pub share_rounded : (t : ℕ → ℕ) (n whole i : ℕ) → (share_in t n whole i ≡ floor_of whole (t i)) ⊎ (share_in t n whole i ≡ floor_of whole (t i) + 1)
share_rounded t n whole i = by (gets_one t n whole i)
  where
    by : (b : Bool) → (floor_of whole (t i) + one_if b ≡ floor_of whole (t i)) ⊎ (floor_of whole (t i) + one_if b ≡ floor_of whole (t i) + 1)
    by true = inr refl
    by false = inl (add-zero (floor_of whole (t i)))

-- what stands before one that gets one gets one
pub share-ahead : (t : ℕ → ℕ) (n whole i j : ℕ) → i < n → Before (λ k. remainder_of whole (t k)) i j
    → share_in t n whole j ≡ floor_of whole (t j) + 1 → share_in t n whole i ≡ floor_of whole (t i) + 1
share-ahead t n whole i j h b e =
    elim (dec_lt (rank r n j) m) [
      | yes l ↦ ap (λ (x : ℕ). floor_of whole (t i) + x) (under_yes m (rank r n i) (omega (arith, rank_less r n i j h b)))
      | no l ↦ absurd (omega (arith, under_no m (rank r n j) (omega arith), e))
    ]
  where
    r : ℕ → ℕ
    r k = remainder_of whole (t k)

    m : ℕ
    m = missing t n whole
