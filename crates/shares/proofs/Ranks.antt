-- Of n numbers in any strict total order, exactly m have fewer than m before them, where m is at most n. Assumes nothing.
use mathlib.Core.Path.{◌≡◌, refl, sym, ◌∙◌}
use mathlib.Core.Bool.{Bool, true, false}
use mathlib.Core.Logic.{◌⊎◌, inl, inr, ⊎_elim, ◌≢◌}
use Prim.Native.Nat.{ℕ, zero, suc, ◌+◌, ◌-◌, ◌≤◌, ◌<◌, min}
use native.Mathlib.Nat.{min-eq_left}
use native.Mathlib.Decide.{dec_lt}
use native.Mathlib.Omega.{arith}
use lib.Dec.{ltb}
use borrow.Author.Tests.{lt-ltb, le-ltb, eq-eqb, ne_eqb}
use Rattle.shares.specs.Below.{sum_below, one_if}
use Rattle.shares.specs.Ranks.{stands_before, rank}
use Rattle.shares.proofs.Below.{sum_same, sum_le, sum_lt, sum_few}

-- b j i is 1 where j stands before i, and else 0
pub record Order (b : ℕ → ℕ → ℕ) : Type 0 where
  pub most : (j i : ℕ) → b j i ≤ 1
  pub self : (i : ℕ) → b i i ≡ 0
  pub either : (j i : ℕ) → j ≢ i → b j i + b i j ≡ 1
  pub through : (j i k : ℕ) → b j i + b i k ≤ 1 + b j k

pub one-most : (t : Bool) → one_if t ≤ 1
one-most true = omega arith
one-most false = omega arith

-- 1 where x is below m
abbrev pub under : ℕ → ℕ → ℕ
under m x = one_if (ltb x m)

pub under_yes : (m x : ℕ) → x < m → under m x ≡ 1
under_yes m x h = rw (lt-ltb x m h)

pub under_no : (m x : ℕ) → m ≤ x → under m x ≡ 0
under_no m x h = rw (le-ltb x m h)

under_same : (m x k y : ℕ) → (x < m → y < k) → (m ≤ x → k ≤ y) → under m x ≡ under k y
under_same m x k y p q = elim (dec_lt x m) [
  | yes h ↦ under_yes m x h ∙ sym (under_yes k y (p h))
  | no h ↦ under_no m x (omega arith) ∙ sym (under_no k y (q (omega arith)))
]

module _ (b : ℕ → ℕ → ℕ) (o : Order b) where
  -- what stands before k has fewer before it, and what stands behind has as many
  pub fewer : (n i k : ℕ) → i < n → b i k ≡ 1 → sum_below (λ j. b j i) n < sum_below (λ j. b j k) n
  fewer n i k h e = sum_lt (λ j. b j i) (λ j. b j k) n i (λ j l. omega (arith, o.through j i k)) h (omega (arith, o.self i))

  as_many : (n i k : ℕ) → b k i ≡ 1 → sum_below (λ j. b j k) n ≤ sum_below (λ j. b j i) n
  as_many n i k e = sum_le (λ j. b j k) (λ j. b j i) n (λ j l. omega (arith, o.through j k i))

  -- Exactly m of n have fewer than m before them, or all n where m is more. The number n comes to those below it; one that it stands before has one more before it.
  pub ranked : (n m : ℕ) → sum_below (λ i. under m (sum_below (λ j. b j i) n)) n ≡ min m n
  unfolding sum_below
  ranked zero m = omega arith
  ranked (suc n) m = elim (dec_lt (at n) m) [
    | yes h ↦
        let last : under m (at n + b n n) ≡ 1 = under_yes m (at n + b n n) (omega (arith, o.self n)) in
        let rest : sum_below (λ i. under m (at i + b n i)) n ≡ sum_below (λ i. under (m - 1) (at i)) n = sum_same _ _ n (λ i l. inside i l h) in
        omega (arith, ranked n (m - 1))
    | no h ↦
        let last : under m (at n + b n n) ≡ 0 = under_no m (at n + b n n) (omega arith) in
        let rest : sum_below (λ i. under m (at i + b n i)) n ≡ sum_below (λ i. under m (at i)) n = sum_same _ _ n (λ i l. outside i l (omega arith)) in
        omega (arith, ranked n m, sum_few (λ j. b j n) n (λ j. o.most j n))
  ]
    where
      at : ℕ → ℕ
      at i = sum_below (λ j. b j i) n

      inside : (i : ℕ) → i < n → at n < m → under m (at i + b n i) ≡ under (m - 1) (at i)
      inside i l h = elim (dec_lt (b i n) 1) [
        | yes z ↦ under_same m (at i + b n i) (m - 1) (at i) (λ p. omega (arith, o.either i n (λ e. omega arith))) (λ p. omega (arith, o.either i n (λ e. omega arith), o.most n i))
        | no z ↦
            let f : at i < at n = fewer n i n l (omega (arith, o.most i n)) in
            under_same m (at i + b n i) (m - 1) (at i) (λ p. omega arith) (λ p. omega (arith, o.either i n (λ e. omega arith)))
      ]

      outside : (i : ℕ) → i < n → m ≤ at n → under m (at i + b n i) ≡ under m (at i)
      outside i l h = elim (dec_lt (b i n) 1) [
        | yes z ↦
            let f : at n ≤ at i = as_many n i n (omega (arith, o.either i n (λ e. omega arith))) in
            under_same m (at i + b n i) m (at i) (λ p. omega arith) (λ p. omega arith)
        | no z ↦ under_same m (at i + b n i) m (at i) (λ p. omega arith) (λ p. omega (arith, o.either i n (λ e. omega arith)))
      ]

-- ---- the order of remainders

pub data Before (r : ℕ → ℕ) (j i : ℕ) : Type 0 where
  larger : r i < r j → Before r j i
  lower : r j ≡ r i → j < i → Before r j i

module _ (r : ℕ → ℕ) where
  by_way : {j i k : ℕ} → Before r j i → Before r i k → Before r j k
  by_way (larger h) (larger l) = larger (omega arith)
  by_way (larger h) (lower e l) = larger (omega arith)
  by_way (lower e h) (larger l) = larger (omega arith)
  by_way (lower e h) (lower d l) = lower (omega arith) (omega arith)

  -- the test tells it
  pub told : (j i : ℕ) → Before r j i → one_if (stands_before r j i) ≡ 1
  told j i (larger h) = rw (lt-ltb (r i) (r j) h)
  told j i (lower e h) = rw (le-ltb (r i) (r j) (omega arith), eq-eqb (r j) (r i) e, lt-ltb j i h)

  pub behind : (j i : ℕ) → Before r i j → one_if (stands_before r j i) ≡ 0
  behind j i (larger h) = rw (le-ltb (r i) (r j) (omega arith), ne_eqb (r j) (r i) (λ e. omega arith))
  behind j i (lower e h) = rw (le-ltb (r i) (r j) (omega arith), eq-eqb (r j) (r i) (sym e), le-ltb j i (omega arith))

  pub itself : (i : ℕ) → one_if (stands_before r i i) ≡ 0
  itself i = rw (le-ltb (r i) (r i) (omega arith), eq-eqb (r i) (r i) refl, le-ltb i i (omega arith))

  one_of : (j i : ℕ) → j ≢ i → Before r j i ⊎ Before r i j
  one_of j i n = elim (dec_lt (r i) (r j)) [
    | yes h ↦ inl (larger h)
    | no h ↦
        elim (dec_lt (r j) (r i)) [
          | yes l ↦ inr (larger l)
          | no l ↦
              elim (dec_lt j i) [
                | yes m ↦ inl (lower (omega arith) m)
                | no m ↦ inr (lower (omega arith) (omega arith))
              ]
        ]
  ]

  -- any two stand in one of three ways
  pub data Stands (j i : ℕ) : Type 0 where
    ahead : Before r j i → Stands j i
    same : j ≡ i → Stands j i
    after : Before r i j → Stands j i

  pub stands : (j i : ℕ) → Stands j i
  stands j i = elim (dec_lt j i) [
    | yes h ↦ ⊎_elim ahead after (one_of j i (λ e. omega arith))
    | no h ↦
        elim (dec_lt i j) [
          | yes l ↦ ⊎_elim ahead after (one_of j i (λ e. omega arith))
          | no l ↦ same (omega arith)
        ]
  ]

  seen : (j i : ℕ) → Before r j i ⊎ (one_if (stands_before r j i) ≡ 0)
  seen j i = elim (stands j i) [
    | ahead b ↦ inl b
    | same e ↦ inr (rw e (itself i))
    | after b ↦ inr (behind j i b)
  ]

  pub order : Order (λ j i. one_if (stands_before r j i))
  order = record {
    most = λ j i. one-most (stands_before r j i);
    self = itself;
    either = λ j i n. pair j i (one_of j i n);
    through = λ j i k. way j i k (seen j i) (seen i k);
  }
    where
      pair : (j i : ℕ) → Before r j i ⊎ Before r i j → one_if (stands_before r j i) + one_if (stands_before r i j) ≡ 1
      pair j i (inl b) = rw (told j i b, behind i j b)
      pair j i (inr b) = rw (behind j i b, told i j b)

      way : (j i k : ℕ) → Before r j i ⊎ (one_if (stands_before r j i) ≡ 0) → Before r i k ⊎ (one_if (stands_before r i k) ≡ 0)
          → one_if (stands_before r j i) + one_if (stands_before r i k) ≤ 1 + one_if (stands_before r j k)
      way j i k (inl a) (inl b) = omega (arith, told j i a, told i k b, told j k (by_way a b))
      way j i k (inl a) (inr z) = omega (arith, z, one-most (stands_before r j i))
      way j i k (inr z) b = omega (arith, z, one-most (stands_before r i k))

-- Of n, exactly m have a rank below m, where m is at most n.
pub ranks : (r : ℕ → ℕ) (n m : ℕ) → m ≤ n → sum_below (λ i. under m (rank r n i)) n ≡ m
ranks r n m h = ranked (λ j i. one_if (stands_before r j i)) (order r) n m ∙ min-eq_left h

-- what stands before has a lower rank
pub rank_less : (r : ℕ → ℕ) (n i k : ℕ) → i < n → Before r i k → rank r n i < rank r n k
rank_less r n i k h b = fewer (λ j i. one_if (stands_before r j i)) (order r) n i k h (told r i k b)
