-- Laws of `has` and `set_where` (`specs/Sets.antt`). In order: a set by its lowest bit and the others; sets with the same members are
-- one number; the operations on words; the sets of a test; a set with one more. Assumes nothing.
use mathlib.Core.Path.{◌≡◌, refl, sym, ap, ap₂, ◌∙◌}
use mathlib.Core.Logic.{⊎_elim}
use mathlib.Core.Bool.{Bool, true, false, cond, ◌&&◌, ◌||◌, true≢false, or-false, or_assoc, or_self, and-false, and-true}
use Prim.Native.Nat.{ℕ, zero, suc, ◌+◌, ◌*◌, ◌/◌, ◌%◌, ◌^◌, ◌≤◌, ◌<◌, suc-le-suc}
use native.Mathlib.Nat.{div-one, div-eq_of_lt, div-add-mod', mod-lt, zero-lt-suc, pow-suc, mul-mod_left, mul-div_cancel, le_of_suc-le-suc, eq-or-lt_of_le, add-zero}
use native.Mathlib.Decide.{dec_lt}
use native.Mathlib.Numerals.{add-one, one-add}
use native.Mathlib.Omega.{arith}
use lib.Dec.{eqb, ltb, eqb-zero-suc, eqb-suc-zero, eqb-suc-suc}
use lib.Arith.{lt-one}
use lib.Pow.{pow_pos, pow-lt, pow_mono, shr-shr, shr_lt}
use lib.Bits.{bit_and, bit_or, and_step, and_mask, or_shr, or_mod, or_lt, or_disjoint}
use borrow.Author.Tests.{eq-eqb, ne_eqb, lt-ltb, le-ltb}
use Rattle.sets.specs.Sets.{has, set_where, adding}

-- ---- a set by its lowest bit and the others

pub has-zero : (s : ℕ) → has s 0 ≡ eqb (s % 2) 1
unfolding has
has-zero s = rw div-one

pub has-suc : (s k : ℕ) → has s (suc k) ≡ has (s / 2) k
unfolding has
has-suc s k = rw (← one-add k, shr-shr s 1 k)

pub half_lt : {s : ℕ} (n : ℕ) → s < 2 ^ suc n → s / 2 < 2 ^ n
half_lt {s} n h = shr_lt n 1 (rw add-one h)

pub low : (s : ℕ) → s % 2 < 2
low s = mod-lt s (zero-lt-suc 1)

-- what holds of both digits holds of any, and so of two
pub digit : (P : ℕ → Type 0) → P 0 → P 1 → (x : ℕ) → x < 2 → P x
digit P a b zero h = a
digit P a b (suc zero) h = b
digit P a b (suc (suc x)) h = absurd (omega arith)

digits : (P : ℕ → ℕ → Type 0) → P 0 0 → P 0 1 → P 1 0 → P 1 1 → (x y : ℕ) → x < 2 → y < 2 → P x y
digits P a b c d x y h l = digit (λ x. P x y) (digit (P 0) a b y l) (digit (P 1) c d y l) x h

digit_eq : (x y : ℕ) → x < 2 → y < 2 → eqb x 1 ≡ eqb y 1 → x ≡ y
digit_eq =
    digits (λ x y. eqb x 1 ≡ eqb y 1 → x ≡ y) (λ e. refl) (λ e. absurd (true≢false (sym e))) (λ e. absurd (true≢false e)) (λ e. refl)

-- a number below 2 ^ n is known by its bits below n
pub ext : (n a b : ℕ) → a < 2 ^ n → b < 2 ^ n → ((k : ℕ) → k < n → has a k ≡ has b k) → a ≡ b
ext zero a b ha hb e = lt-one ha ∙ sym (lt-one hb)
ext (suc n) a b ha hb e =
    sym (div-add-mod' a 2)
    ∙ ap₂ (λ x y. x * 2 + y)
    (ext n (a / 2) (b / 2) (half_lt n ha) (half_lt n hb) (λ k h. sym (has-suc a k) ∙ e (suc k) (suc-le-suc h) ∙ has-suc b k))
    (digit_eq (a % 2) (b % 2) (low a) (low b) (sym (has-zero a) ∙ e 0 (zero-lt-suc n) ∙ has-zero b))
    ∙ div-add-mod' b 2

below_pow : (n : ℕ) → n < 2 ^ n
below_pow zero = pow_pos 0
below_pow (suc n) = rw pow-suc (omega (arith, below_pow n))

-- and any number by all of them
pub same : (a b : ℕ) → ((k : ℕ) → has a k ≡ has b k) → a ≡ b
same a b e = let h = below_pow (a + b) in ext (a + b) a b (omega arith) (omega arith) (λ k l. e k)

-- ---- what is in no set, and in the set of one

pub has_above : {s : ℕ} (n k : ℕ) → s < 2 ^ n → n ≤ k → has s k ≡ false
unfolding has
has_above {s} n k h l =
    let m = pow_mono l in
    let g : s < 2 ^ k = omega arith in
    rw (div-eq_of_lt g)

pub has-empty : (k : ℕ) → has 0 k ≡ false
has-empty k = has_above 0 k (pow_pos 0) (omega arith)

has_one : (k i : ℕ) → has (2 ^ k) i ≡ eqb i k
unfolding has
has_one zero zero = refl
has_one zero (suc i) = has-suc 1 i ∙ has-empty i ∙ sym (eqb-suc-zero i)
has_one (suc k) zero = has-zero (2 ^ suc k) ∙ rw (pow-suc, mul-mod_left, eqb-zero-suc k)
has_one (suc k) (suc i) = has-suc (2 ^ suc k) i ∙ rw (pow-suc, mul-div_cancel (2 ^ k) (zero-lt-suc 1), eqb-suc-suc) (has_one k i)

-- ---- the operations on words

pub has_or : (a b k : ℕ) → has (bit_or a b) k ≡ has a k || has b k
unfolding has
has_or a b k =
    let x = a / 2 ^ k in
    let y = b / 2 ^ k in
    ap (λ n. eqb (n % 2) 1) (or_shr a b k) ∙ ap (λ n. eqb n 1) (or_mod x y 1)
    ∙ digits (λ x y. eqb (bit_or x y) 1 ≡ eqb x 1 || eqb y 1) refl refl refl refl (x % 2) (y % 2) (low x) (low y)

pub union_assoc : (a b c : ℕ) → bit_or (bit_or a b) c ≡ bit_or a (bit_or b c)
union_assoc a b c = same _ _ (λ k. simp has_or (or_assoc (has a k) (has b k) (has c k)))

-- k is no member: to add 2 ^ k is to put k in
and_one : (s k : ℕ) → has s k ≡ false → bit_and s (2 ^ k) ≡ 0
and_one s zero e = and_mask s 1 ∙ digit_eq (s % 2) 0 (low s) (zero-lt-suc 1) (sym (has-zero s) ∙ e)
and_one s (suc k) e =
    let b = rw (pow-suc, mul-div_cancel (2 ^ k) (zero-lt-suc 1), mul-mod_left) at (and_step s (2 ^ suc k)) in
    rw pow-suc (omega (arith, b, and_one (s / 2) k (sym (has-suc s k) ∙ e)))

or_one : (s k : ℕ) → has s k ≡ false → bit_or s (2 ^ k) ≡ s + 2 ^ k
or_one s k e = or_disjoint s (2 ^ k) (and_one s k e)

has_with : (s k i : ℕ) → has (bit_or s (2 ^ k)) i ≡ has s i || eqb i k
has_with s k i = has_or s (2 ^ k) i ∙ ap (λ b. has s i || b) (has_one k i)

pub has-plus : (s k i : ℕ) → has s k ≡ false → has (s + 2 ^ k) i ≡ has s i || eqb i k
has-plus s k i e = rw (← or_one s k e) (has_with s k i)

-- ---- the sets of a test

pub set_where-lt : (n : ℕ) (p : ℕ → Bool) → set_where n p < 2 ^ n
unfolding set_where
set_where-lt zero p = pow_pos 0
set_where-lt (suc n) p = rw pow-suc (go (p n) (set_where-lt n p))
  where
    go : (b : Bool) → set_where n p < 2 ^ n → set_where n p + cond b (2 ^ n) 0 < 2 ^ n * 2
    go true h = omega arith
    go false h = omega arith

has-out : (n k : ℕ) (p : ℕ → Bool) → n ≤ k → has (set_where n p) k ≡ false
has-out n k p h = has_above n k (set_where-lt n p) h

pub has_in : (n k : ℕ) (p : ℕ → Bool) → k < n → has (set_where n p) k ≡ p k
unfolding set_where
has_in zero k p h = absurd (omega arith)
has_in (suc n) k p h =
    step (p n) ∙ ⊎_elim
    (λ (q : k ≡ n). rw (q, has-out n n p (omega arith), eq-eqb n n refl) (and-true (p n)))
    (λ (l : k < n). rw (has_in n k p l, ne_eqb k n (omega arith), and-false (p n)) (or-false (p k)))
    (eq-or-lt_of_le (le_of_suc-le-suc h))
  where
    step : (b : Bool) → has (set_where n p + cond b (2 ^ n) 0) k ≡ has (set_where n p) k || b && eqb k n
    step true = has-plus (set_where n p) n k (has-out n n p (omega arith))
    step false = rw add-zero (sym (or-false (has (set_where n p) k)))

pub has-set_where : (n k : ℕ) (p : ℕ → Bool) → has (set_where n p) k ≡ ltb k n && p k
has-set_where n k p = elim (dec_lt k n) [ yes h ↦ rw (lt-ltb k n h) (has_in n k p h) | no h ↦ let l : n ≤ k = omega arith in rw (le-ltb k n l) (has-out n k p l) ]

-- a number of n bits is the set of a test that its bits agree with
set_where_is : (n s : ℕ) (p : ℕ → Bool) → s < 2 ^ n → ((k : ℕ) → k < n → has s k ≡ p k) → s ≡ set_where n p
set_where_is n s p h e = ext n s (set_where n p) h (set_where-lt n p) (λ k l. e k l ∙ sym (has_in n k p l))

pub set_where-ext : (n : ℕ) (p q : ℕ → Bool) → ((k : ℕ) → k < n → p k ≡ q k) → set_where n p ≡ set_where n q
set_where-ext n p q e = set_where_is n (set_where n p) q (set_where-lt n p) (λ k h. has_in n k p h ∙ e k h)

pub set_where-none : (n : ℕ) (p : ℕ → Bool) → ((k : ℕ) → k < n → p k ≡ false) → set_where n p ≡ 0
set_where-none n p e = sym (set_where_is n 0 p (pow_pos n) (λ k h. has-empty k ∙ sym (e k h)))

pub set_where_or : (n : ℕ) (p q : ℕ → Bool) → bit_or (set_where n p) (set_where n q) ≡ set_where n (λ k. p k || q k)
set_where_or n p q =
    set_where_is n _ (λ k. p k || q k) (or_lt n _ _ (set_where-lt n p) (set_where-lt n q))
    (λ k h. has_or (set_where n p) (set_where n q) k ∙ ap₂ ◌||◌ (has_in n k p h) (has_in n k q h))

-- one more number is in the set where it has p, and else the set is as it was
pub set_where_with : (n : ℕ) (p : ℕ → Bool) → p n ≡ true → bit_or (set_where n p) (2 ^ n) ≡ set_where (suc n) p
unfolding set_where
set_where_with n p e = rw e (or_one (set_where n p) n (has-out n n p (omega arith)))

pub set_where_skip : (n : ℕ) (p : ℕ → Bool) → p n ≡ false → set_where n p ≡ set_where (suc n) p
unfolding set_where
set_where_skip n p e = rw e (sym (add-zero (set_where n p)))

-- ---- a set with one more

module _ (n s k : ℕ) where
  pub adding_with : s < 2 ^ n → k < n → adding n s k ≡ bit_or s (2 ^ k)
  unfolding adding
  adding_with h l = sym (set_where_is n _ _ (or_lt n s (2 ^ k) h (pow-lt l)) (λ i g. has_with s k i))

  pub adding-past : s < 2 ^ n → n ≤ k → adding n s k ≡ s
  unfolding adding
  adding-past h l = sym (set_where_is n s _ h (λ i g. sym (rw (ne_eqb i k (omega arith)) (or-false (has s i)))))

  -- what is in a set already
  pub adding_again : adding n (adding n s k) k ≡ adding n s k
  unfolding adding
  adding_again =
      set_where-ext n _ _
      (λ i h.
      rw (has_in n i (λ j. has s j || eqb j k) h)
      (or_assoc (has s i) (eqb i k) (eqb i k) ∙ ap (λ t. has s i || t) (or_self (eqb i k))))
