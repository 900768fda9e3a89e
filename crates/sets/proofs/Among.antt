-- Whether k is among others, and that a set's members are just those in it, each once. Assumes nothing.
use mathlib.Core.Bool.{Bool, true, false, ◌||◌, or_assoc}
use mathlib.Core.List.{List, [], ◌∷◌, ◌++◌}
use mathlib.Core.Logic.{⊎_elim}
use mathlib.Core.Path.{◌≡◌, refl}
use Prim.Native.Nat.{ℕ, zero, suc, ◌+◌, ◌≤◌, ◌<◌}
use native.Mathlib.Nat.{eq-or-lt_of_le}
use native.Mathlib.Omega.{arith}
use borrow.Author.Tests.{eq-eqb, ne_eqb}
use Rattle.sets.specs.Sets.{has, keep, those, members, among}

pub among-append : (k : ℕ) (js ls : List ℕ) → among k (js ++ ls) ≡ among k js || among k ls
unfolding among
among-append k [] ls = refl
among-append k (j ∷ js) ls = rw (among-append k js ls, or_assoc)

-- none comes twice
abbrev pub Apart : List ℕ → Type 0
Apart [] = Unit {0}
Apart (k ∷ ks) = (among k ks ≡ false) × Apart ks

-- ---- those of a test

among_below : (p : ℕ → Bool) (k i n : ℕ) → k < i → among k (those p i n) ≡ false
unfolding those among
among_below p k i zero h = refl
among_below p k i (suc n) h = go (p i) (among_below p k (suc i) n (omega arith))
  where
    go : (t : Bool) → among k (those p (suc i) n) ≡ false → among k (keep t i (those p (suc i) n)) ≡ false
    go true r = rw (ne_eqb i k (omega arith)) r
    go false r = r

among-those : (p : ℕ → Bool) (k i n : ℕ) → i ≤ k → k < i + n → among k (those p i n) ≡ p k
unfolding those among
among-those p k i zero h l = absurd (omega arith)
among-those p k i (suc n) h l =
    ⊎_elim
    (λ (e : i ≡ k). rw e (here (p k) (among_below p k (suc k) n (omega arith))))
    (λ (g : i < k). there (p i) g (among-those p k (suc i) n g (omega arith)))
    (eq-or-lt_of_le h)
  where
    here : (t : Bool) → among k (those p (suc k) n) ≡ false → among k (keep t k (those p (suc k) n)) ≡ t
    here true r = rw (eq-eqb k k refl)
    here false r = r

    there : (t : Bool) → i < k → among k (those p (suc i) n) ≡ p k → among k (keep t i (those p (suc i) n)) ≡ p k
    there true g r = rw (ne_eqb i k (omega arith)) r
    there false g r = r

apart-those : (p : ℕ → Bool) (i n : ℕ) → Apart (those p i n)
unfolding those
apart-those p i zero = tt
apart-those p i (suc n) = go (p i) (apart-those p (suc i) n)
  where
    go : (t : Bool) → Apart (those p (suc i) n) → Apart (keep t i (those p (suc i) n))
    go true r = (among_below p i (suc i) n (omega arith), r)
    go false r = r

-- ---- the members of a set

pub among-members : (k n s : ℕ) → k < n → among k (members n s) ≡ has s k
unfolding members
among-members k n s h = among-those (has s) k 0 n (omega arith) (omega arith)

pub apart-members : (n s : ℕ) → Apart (members n s)
unfolding members
apart-members n s = apart-those (has s) 0 n
