-- Laws of `members` and `reports` (`specs/Sets.antt`). In order: those of a test; how many members, and that they tell
-- the set; the least of them, which `count_trailing_zeros` finds and `s & (s - 1)` takes out; reports. Assumes nothing.
use mathlib.Core.Path.{◌≡◌, refl, sym, ap, ap₂, ◌∙◌}
use mathlib.Core.Logic.{⊎_elim}
use mathlib.Core.Bool.{Bool, true, false, ◌||◌, or-false}
use mathlib.Core.List.{List, [], ◌∷◌, ◌++◌, map}
use Prim.Native.Nat.{ℕ, zero, suc, ◌+◌, ◌-◌, ◌*◌, ◌/◌, ◌%◌, ◌^◌, ◌≤◌, ◌<◌, suc-le-suc}
use native.Mathlib.Nat.{eq-zero-or-pos, pow-suc, le_of_suc-le-suc, eq-or-lt_of_le, add-zero, zero-add, add-suc, suc-add}
use native.Mathlib.Numerals.{one-add}
use native.Mathlib.Omega.{arith}
use lib.Dec.{eqb}
use lib.Arith.{lt-one}
use lib.Bits.{bit_and, and_step, and_self}
use lib.Count.{ones, ones_step, under, count_trailing_zeros, trailing_of_zero}
use lib.ListN.{length, get_or, take, drop, set, length-map}
use lib.Seq.{sets, sets-eq}
use borrow.Author.Tests.{eq-eqb, ne_eqb}
use Rattle.sets.specs.Sets.{has, keep, those, members, reports}
use Rattle.sets.proofs.Laws.{has-zero, has-suc, half_lt, low, digit, has-empty, has-plus}

pub those-ext : (p q : ℕ → Bool) (i n : ℕ) → ((k : ℕ) → i ≤ k → k < i + n → p k ≡ q k) → those p i n ≡ those q i n
unfolding those
those-ext p q i zero e = refl
those-ext p q i (suc n) e = rw (e i (omega arith) (omega arith), those-ext p q (suc i) n (λ k h l. e k (omega arith) (omega arith)))

-- those from b on, counted from b
pub those_shift : (p : ℕ → Bool) (b i n : ℕ) → those p (b + i) n ≡ map (λ k. b + k) (those (λ k. p (b + k)) i n)
unfolding those
those_shift p b i zero = refl
those_shift p b i (suc n) = rw (← add-suc b i, those_shift p b (suc i) n) (go (p (b + i)) (those (λ k. p (b + k)) (suc i) n))
  where
    go : (t : Bool) (ks : List ℕ) → keep t (b + i) (map (λ k. b + k) ks) ≡ map (λ k. b + k) (keep t i ks)
    go true ks = refl
    go false ks = refl

-- they are at most n
those-le : (p : ℕ → Bool) (i n : ℕ) → length (those p i n) ≤ n
unfolding those
those-le p i zero = omega arith
those-le p i (suc n) = go (p i) (those-le p (suc i) n)
  where
    go : (t : Bool) → length (those p (suc i) n) ≤ n → length (keep t i (those p (suc i) n)) ≤ suc n
    go true h = omega arith
    go false h = omega arith

pub those-append : (p : ℕ → Bool) (i m n : ℕ) → those p i (m + n) ≡ those p i m ++ those p (i + m) n
unfolding those
those-append p i zero n = rw (zero-add, add-zero)
those-append p i (suc m) n = rw (suc-add, those-append p (suc i) m n, suc-add, ← add-suc i m) (go (p i))
  where
    go : (t : Bool) → keep t i (those p (suc i) m ++ those p (i + suc m) n) ≡ keep t i (those p (suc i) m) ++ those p (i + suc m) n
    go true = refl
    go false = refl

-- t is the first with p, and q is p but for t
those-first : (p q : ℕ → Bool) (t i n : ℕ) → i ≤ t → t < i + n → ((k : ℕ) → k < t → p k ≡ false) → p t ≡ true → q t ≡ false
    → ((k : ℕ) → (k ≡ t → ⊥) → p k ≡ q k) → those p i n ≡ t ∷ those q i n
unfolding those
those-first p q t i zero h l none at out e = absurd (omega arith)
those-first p q t i (suc n) h l none at out e =
    ⊎_elim
    (λ (z : i ≡ t). rw (z, at, out, those-ext p q (suc t) n (λ k g u. e k (omega arith))))
    (λ (z : i < t). rw (← e i (omega arith), none i z) (those-first p q t (suc i) n z (omega arith) none at out e))
    (eq-or-lt_of_le h)

pub members-empty : (n : ℕ) → members n 0 ≡ []
unfolding members those
members-empty n = go 0 n
  where
    go : (i m : ℕ) → those (has 0) i m ≡ []
    go i zero = refl
    go i (suc m) = rw (has-empty i) (go (suc i) m)

pub members-le : (n s : ℕ) → length (members n s) ≤ n
unfolding members
members-le n s = those-le (has s) 0 n

-- by the lowest bit and the others
members_half : (n s : ℕ) → members (suc n) s ≡ keep (eqb (s % 2) 1) 0 (map (λ k. 1 + k) (members n (s / 2)))
unfolding members those
members_half n s =
    ap₂ (λ b ks. keep b 0 ks) (has-zero s)
    (those_shift (has s) 1 0 n ∙ ap (map (λ k. 1 + k)) (those-ext (λ k. has s (1 + k)) (has (s / 2)) 0 n (λ k g l. rw one-add (has-suc s k))))

pub ones_members : (n s : ℕ) → s < 2 ^ n → ones s ≡ length (members n s)
unfolding members those ones
ones_members zero s h = ap ones (lt-one h)
ones_members (suc n) s h =
    let ks = members n (s / 2) in
    ones_step s ∙ rw (members_half n s, ones_members n (s / 2) (half_lt n h))
    (digit (λ d. d + length ks ≡ length (keep (eqb d 1) 0 (map (λ k. 1 + k) ks))) (simp length-map (omega arith)) (simp length-map (omega arith)) (s % 2) (low s))

-- a set is known by its members: it is the sum of their powers
total : List ℕ → ℕ
total [] = 0
total (k ∷ ks) = total ks + 2 ^ k

total-map : (ks : List ℕ) → total (map (λ k. 1 + k) ks) ≡ total ks * 2
unfolding total
total-map [] = refl
total-map (k ∷ ks) = rw (one-add, pow-suc) (omega (arith, total-map ks))

total-members : (n s : ℕ) → s < 2 ^ n → total (members n s) ≡ s
unfolding total members those
total-members zero s h = sym (lt-one h)
total-members (suc n) s h =
    let ks = members n (s / 2) in
    let e : total (map (λ k. 1 + k) ks) ≡ s / 2 * 2 = rw (total-map ks, total-members n (s / 2) (half_lt n h)) in
    rw (members_half n s)
    (digit (λ d. s % 2 ≡ d → total (keep (eqb d 1) 0 (map (λ k. 1 + k) ks)) ≡ s) (λ z. omega arith) (λ z. omega arith) (s % 2) (low s) refl)

pub members_inj : (n a b : ℕ) → a < 2 ^ n → b < 2 ^ n → members n a ≡ members n b → a ≡ b
members_inj n a b ha hb e = sym (total-members n a ha) ∙ ap total e ∙ total-members n b hb

-- ---- the least member

-- t is the least member of s and below n, and r is s without it
record Least (n s r t : ℕ) : Type 0 where
  small : t < n
  none : (k : ℕ) → k < t → has s k ≡ false
  out : has r t ≡ false
  plus : r + 2 ^ t ≡ s

least : (n s : ℕ) → 0 < s → s < 2 ^ n → Least n s (bit_and s (s - 1)) (count_trailing_zeros n s)
unfolding count_trailing_zeros
least zero s p h = absurd (omega arith)
least (suc n) s p h =
    digit (λ d. s % 2 ≡ d → Least (suc n) s r (under d t)) (λ e. even e (least n (s / 2) (omega arith) (half_lt n h))) odd (s % 2) (low s) refl
  where
    t : ℕ
    t = count_trailing_zeros n (s / 2)

    r : ℕ
    r = bit_and s (s - 1)

    even : s % 2 ≡ 0 → Least n (s / 2) (bit_and (s / 2) (s / 2 - 1)) t → Least (suc n) s r (suc t)
    even e l =
        let half : (s - 1) / 2 ≡ s / 2 - 1 = omega arith in
        let b = rw half at (and_step s (s - 1)) in
        let q : r / 2 ≡ bit_and (s / 2) (s / 2 - 1) = omega arith in
        record {
          small = suc-le-suc l.small;
          none = below;
          out = has-suc r t ∙ rw q l.out;
          plus = rw pow-suc (omega (arith, l.plus));
        }
      where
        below : (k : ℕ) → k < suc t → has s k ≡ false
        below zero g = has-zero s ∙ rw e
        below (suc k) g = has-suc s k ∙ l.none k (le_of_suc-le-suc g)

    odd : s % 2 ≡ 1 → Least (suc n) s r 0
    odd e =
        let half : (s - 1) / 2 ≡ s / 2 = omega arith in
        let b = rw (half, and_self (s / 2)) at (and_step s (s - 1)) in
        record {
          small = omega arith;
          none = λ k g. absurd (omega arith);
          out = has-zero r ∙ ne_eqb (r % 2) 1 (omega arith);
          plus = omega arith;
        }

-- a turn of the loop over the members
pub members_step : (n s : ℕ) → 0 < s → s < 2 ^ n → members n s ≡ count_trailing_zeros n s ∷ members n (bit_and s (s - 1))
unfolding members
members_step n s p h =
    those-first (has s) (has r) t 0 n (omega arith) (omega (arith, f.small)) f.none
    (put t ∙ rw (f.out, eq-eqb t t refl)) f.out (λ k g. put k ∙ rw (ne_eqb k t g) (or-false (has r k)))
  where
    t : ℕ
    t = count_trailing_zeros n s

    r : ℕ
    r = bit_and s (s - 1)

    f : Least n s r t
    f = least n s p h

    put : (k : ℕ) → has s k ≡ has r k || eqb k t
    put k = ap (λ x. has x k) (sym f.plus) ∙ has-plus r t k f.out

pub first_is : (n s : ℕ) → s < 2 ^ n → count_trailing_zeros n s ≡ get_or (members n s) 0 n
first_is n s h =
    ⊎_elim
    (λ (e : s ≡ 0). rw (e, members-empty n) (trailing_of_zero n))
    (λ (p : 0 < s). rw (members_step n s p h))
    (eq-zero-or-pos s)

pub first-lt : (n s : ℕ) → 0 < s → s < 2 ^ n → get_or (members n s) 0 n < n
first-lt n s p h = rw (members_step n s p h) (least n s p h).small

pub members-cons : (n s : ℕ) → 0 < s → s < 2 ^ n → members n s ≡ get_or (members n s) 0 n ∷ drop 1 (members n s)
members-cons n s p h = rw (members_step n s p h)

-- ---- reports

pub reports-length : (e : ℕ) (ks : List ℕ) → length (reports e ks) ≡ 2 * length ks
unfolding reports
reports-length e [] = refl
reports-length e (k ∷ ks) = omega (arith, reports-length e ks)

pub reports-append : (e : ℕ) (js ks : List ℕ) → reports e (js ++ ks) ≡ reports e js ++ reports e ks
unfolding reports
reports-append e [] ks = refl
reports-append e (j ∷ js) ks = ap (λ rs. e ∷ j ∷ rs) (reports-append e js ks)

-- the reports of ks stored from i on
pub reports_stored : (e : ℕ) (ks l : List ℕ) (i j : ℕ) → j ≡ i + 2 * length ks → j ≤ length l
    → sets l i (reports e ks) ≡ take i l ++ reports e ks ++ drop j l
reports_stored e ks l i j q h =
    let n : j ≡ i + length (reports e ks) = omega (arith, reports-length e ks) in
    rw n (sets-eq (reports e ks) l i (omega arith))

pub sets_append : (l us vs : List ℕ) (i : ℕ) → sets l i (us ++ vs) ≡ sets (sets l i us) (i + length us) vs
sets_append l [] vs i = rw add-zero
sets_append l (u ∷ us) vs i = rw (add-suc, ← suc-add) (sets_append (set l i u) us vs (suc i))
