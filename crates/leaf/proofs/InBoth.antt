-- The lowest rule in two sets: the first of the first word in which both have one. Assumes nothing.
use Prim.Native.Nat.{ℕ, ◌+◌, ◌-◌, ◌*◌, ◌/◌, ◌%◌, ◌^◌, ◌≤◌, ◌<◌}
use mathlib.Core.Bool.{Bool, true, false, cond, ◌&&◌}
use mathlib.Core.List.{List, [], ◌∷◌}
use mathlib.Core.Logic.{◌≢◌}
use mathlib.Core.Path.{◌≡◌, refl, sym, ap, ap₂, ◌∙◌}
use native.Mathlib.Nat.{add-zero}
use native.Mathlib.Omega.{arith}
use lib.Bits.{bit_and, and_shr, and_mod, and_lt}
use lib.Dec.{eqb}
use lib.ListN.{get_or}
use Rattle.sets.specs.Sets.{has, those, members, set_of, plus_each}
use Rattle.sets.specs.Table.{row_words, rules_at}
use Rattle.sets.proofs.Laws.{low, digit}
use Rattle.sets.proofs.First.{LowestFrom, first-those}
use Rattle.sets.proofs.Members.{those-ext, those_shift, those-append, members-empty, members-cons}
use Rattle.sets.proofs.InWords.{Words, has_at}
use Rattle.book.specs.Limits.{most_rules}
use Rattle.leaf.specs.Leaf.{unnamed, lowest_of, family_at}

-- whether k is in both
abbrev in_both : ℕ → ℕ → ℕ → Bool
in_both live out k = has live k && has out k

-- ---- the lowest

pub lowest_first : (live out : ℕ) → LowestFrom (in_both live out) 0 most_rules (lowest_of live out)
unfolding lowest_of
lowest_first live out = first-those (in_both live out) 0 most_rules most_rules (omega arith)

pub family_within : (held live out : List ℕ) (row size : ℕ) → family_at held live out row size ≤ unnamed
unfolding family_at
family_within held live out row size = go (eqb (get_or held row 0) size)
  where
    go : (t : Bool) → cond t (lowest_of (rules_at live row) (rules_at out row)) unnamed ≤ unnamed
    go true = (lowest_first (rules_at live row) (rules_at out row)).within
    go false = omega arith

-- ---- what is in both of two words

has_and : (a b k : ℕ) → has (bit_and a b) k ≡ (has a k && has b k)
unfolding has
has_and a b k =
    let x = a / 2 ^ k in
    let y = b / 2 ^ k in
    ap (λ n. eqb (n % 2) 1) (and_shr a b k) ∙ ap (λ n. eqb n 1) (and_mod x y 1)
    ∙ digit (λ d. eqb (bit_and d (y % 2)) 1 ≡ (eqb d 1 && eqb (y % 2) 1))
    (digit (λ e. eqb (bit_and 0 e) 1 ≡ (eqb 0 1 && eqb e 1)) refl refl (y % 2) (low y))
    (digit (λ e. eqb (bit_and 1 e) 1 ≡ (eqb 1 1 && eqb e 1)) refl refl (y % 2) (low y))
    (x % 2) (low x)

-- ---- word by word

-- the lowest in both from word i on
unfoldable pub lowest_from : ℕ → ℕ → ℕ → ℕ
lowest_from live out i = get_or (those (in_both live out) (64 * i) (most_rules - 64 * i)) 0 unnamed

pub lowest_start : (live out : ℕ) → lowest_from live out 0 ≡ lowest_of live out
unfolding lowest_from lowest_of
lowest_start live out = refl

pub lowest_end : (live out i : ℕ) → row_words ≤ i → lowest_from live out i ≡ unnamed
unfolding lowest_from those
lowest_end live out i h = let e : most_rules - 64 * i ≡ 0 = omega arith in rw e

-- what is first of m numbers and n more
first_of : (p : ℕ → Bool) (i m n d k : ℕ) {ks : List ℕ} → those p i m ≡ k ∷ ks → get_or (those p i (m + n)) 0 d ≡ k
first_of p i m n d k e = rw (those-append p i m n, e)

first_past : (p : ℕ → Bool) (i m n d : ℕ) → those p i m ≡ [] → get_or (those p i (m + n)) 0 d ≡ get_or (those p (i + m) n) 0 d
first_past p i m n d e = rw (those-append p i m n, e)

module _ (us vs : List ℕ) (f : Words us) (g : Words vs) (i : ℕ) where
  -- what is in both words
  abbrev both_in : ℕ
  both_in = bit_and (get_or us i 0) (get_or vs i 0)

  -- of the n numbers from 64 * i on, those in both sets
  both_at : (n : ℕ) → n ≤ 64 → those (in_both (set_of us) (set_of vs)) (64 * i) n ≡ plus_each (64 * i) (members n both_in)
  unfolding members
  both_at n h =
      ap (λ b. those (in_both (set_of us) (set_of vs)) b n) (sym (add-zero (64 * i))) ∙ those_shift (in_both (set_of us) (set_of vs)) (64 * i) 0 n
      ∙ ap (plus_each (64 * i)) (those-ext (λ k. in_both (set_of us) (set_of vs) (64 * i + k)) (has both_in) 0 n
      (λ k a b. ap₂ ◌&&◌ (has_at us f i k (omega arith)) (has_at vs g i k (omega arith)) ∙ sym (has_and (get_or us i 0) (get_or vs i 0) k)))

  both-lt : both_in < 2 ^ 64
  both-lt = and_lt 64 (get_or us i 0) (get_or vs i 0) (f i) (g i)

  split_word : i < row_words → most_rules - 64 * i ≡ 64 + (most_rules - 64 * (i + 1))
  split_word h = omega arith

  pub lowest_here : i < row_words → both_in ≢ 0 → lowest_from (set_of us) (set_of vs) i ≡ 64 * i + get_or (members 64 both_in) 0 64
  unfolding lowest_from
  lowest_here h n =
      rw (split_word h)
      (first_of (in_both (set_of us) (set_of vs)) (64 * i) 64 (most_rules - 64 * (i + 1)) unnamed _
      (both_at 64 (omega arith) ∙ ap (plus_each (64 * i)) (members-cons 64 both_in (omega arith) both-lt)))

  pub lowest_next : i < row_words → both_in ≡ 0 → lowest_from (set_of us) (set_of vs) i ≡ lowest_from (set_of us) (set_of vs) (i + 1)
  unfolding lowest_from
  lowest_next h e =
      let b : 64 * (i + 1) ≡ 64 * i + 64 = omega arith in
      let z : plus_each (64 * i) (members 64 both_in) ≡ [] = rw (e, members-empty 64) in
      rw (split_word h, b) (first_past (in_both (set_of us) (set_of vs)) (64 * i) 64 (most_rules - (64 * i + 64)) unnamed (both_at 64 (omega arith) ∙ z))
