-- What a profile adds to the places: each line's count goes to one place, so that the parts add up to the counts. Assumes nothing.
use mathlib.Core.Bool.{Bool, true, false, cond}
use mathlib.Core.List.{List, [], ◌∷◌}
use mathlib.Core.Path.{◌≡◌, refl, ap₂, ◌∙◌}
use Prim.Native.Nat.{ℕ, zero, suc, ◌+◌, ◌≤◌, ◌<◌}
use native.Mathlib.Decide.{dec_lt}
use native.Mathlib.Omega.{arith}
use borrow.Author.Tests.{eq-eqb, ne_eqb}
use lib.Dec.{eqb}
use lib.ListN.{length}
use Rattle.sets.specs.Sums.{sum_over}
use Rattle.sets.proofs.Sums.{sum_le}
use Rattle.meaning.specs.Tables.{Five}
use Rattle.std.specs.Prelude.{Result, Ok, Err}
use Rattle.answers.specs.declared.Damaged.{Damaged}
use Rattle.lines.specs.Lines.{lines_of, Pass, pass_over}
use Rattle.lines.specs.Profile.{count_in, counts}
use Rattle.lines.proofs.First.{both-through}
use Rattle.shares.specs.Below.{sum_below}
use Rattle.shares.specs.Shares.{all_places}
use Rattle.shares.proofs.Below.{sum_plus, zeros-below}
use Rattle.leaf.specs.declared.Leaf.{Leaf}
use Rattle.leaf.specs.Leaf.{damaged, line_leaf, on_leaf}
use Rattle.leaves.specs.Totals.{leaf_pass, leaves_pass, line_adds, profile_adds}
use Rattle.leaf.proofs.Place.{OnePlace, line_placed}

-- ---- no place has more than the counts

module _ (b : Five) (n : ℕ) where
  line_adds-within : (p : ℕ) (line : List ℕ) → line_adds b n p line ≤ count_in line
  unfolding line_adds
  line_adds-within p line = go (line_leaf b n line) (line_placed b n line)
    where
      some : (t : Bool) (c : ℕ) → cond t c 0 ≤ c
      some true c = omega arith
      some false c = omega arith

      go : (l : Result Leaf Damaged) → OnePlace (count_in line) l → on_leaf l (λ place count. cond (eqb place p) count 0) (λ i. 0) ≤ count_in line
      go (Ok l) h = omega (arith, some (eqb l.place p) l.count, h.1)
      go (Err d) h = omega arith

  pub adds-within : (p : ℕ) (profile : List ℕ) → profile_adds b n p profile ≤ counts profile
  unfolding profile_adds
  adds-within p profile = sum_le (line_adds b n p) count_in (line_adds-within p) (lines_of profile)

-- ---- sums over the places

module _ (q c : ℕ) where
  -- c at place q alone
  abbrev at_place : ℕ → ℕ
  at_place p = cond (eqb q p) c 0

  none_below : (n : ℕ) → n ≤ q → sum_below at_place n ≡ 0
  none_below n h = zeros-below at_place n (λ p l. rw (ne_eqb q p (λ z. omega arith)))

  one_below : (n : ℕ) → q < n → sum_below at_place n ≡ c
  unfolding sum_below
  one_below zero h = absurd (omega arith)
  one_below (suc n) h = elim (dec_lt q n) [
    | yes l ↦ rw (ne_eqb q n (λ z. omega arith)) (omega (arith, one_below n l))
    | no l ↦ rw (eq-eqb q n (omega arith)) (omega (arith, none_below n (omega arith)))
  ]

-- ---- a pass that gets through adds all the counts

module _ (b : Five) (n : ℕ) where
  line_adds-all : (at : ℕ) (line : List ℕ) → leaf_pass b n at line ≡ Ok tt → sum_below (λ p. line_adds b n p line) all_places ≡ count_in line
  unfolding leaf_pass line_adds
  line_adds-all at line = go (line_leaf b n line) (line_placed b n line)
    where
      go : (l : Result Leaf Damaged) → OnePlace (count_in line) l → on_leaf {A = Pass Damaged} l (λ place count. Ok tt) (λ i. damaged (at + i)) ≡ Ok tt
          → sum_below (λ p. on_leaf l (λ place count. cond (eqb place p) count 0) (λ i. 0)) all_places ≡ count_in line
      go (Ok l) h e = one_below l.place l.count all_places (omega (arith, h.0)) ∙ h.1
      go (Err d) h e = cc

  lines_add_all : (ls : List (List ℕ)) (at : ℕ) → pass_over (leaf_pass b n) at ls ≡ Ok tt → sum_below (λ p. sum_over (line_adds b n p) ls) all_places ≡ sum_over count_in ls
  unfolding pass_over sum_over
  lines_add_all [] at e = zeros-below (λ p. 0) all_places (λ p l. refl)
  lines_add_all (l ∷ ls) at e =
      let (here, rest) = both-through (leaf_pass b n at l) (pass_over (leaf_pass b n) (at + length l + 1) ls) e in
      sum_plus (λ p. line_adds b n p l) (λ p. sum_over (line_adds b n p) ls) all_places
      ∙ ap₂ ◌+◌ (line_adds-all at l here) (lines_add_all ls (at + length l + 1) rest)

  pub adds-to-counts : (profile : List ℕ) → leaves_pass b n profile ≡ Ok tt → sum_below (λ p. profile_adds b n p profile) all_places ≡ counts profile
  unfolding leaves_pass profile_adds
  adds-to-counts profile e = lines_add_all (lines_of profile) 0 e
