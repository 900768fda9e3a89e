-- The fallbacks of a text: how many one byte makes, and that all of them with the held length are at most the bytes read. Assumes nothing.
use mathlib.Core.Path.{◌≡◌, refl, sym, ap, ◌∙◌}
use mathlib.Core.Logic.{inl, inr}
use mathlib.Core.Bool.{Bool, true, false}
use mathlib.Core.List.{List, [], ◌∷◌}
use Prim.Native.Nat.{ℕ, zero, suc, pred, ◌+◌, ◌≤◌, ◌<◌, zero-le}
use native.Mathlib.Nat.{le_refl, eq-zero-or-pos}
use native.Mathlib.Omega.{arith}
use lib.ListN.{length, take}
use lib.Seq.{length-take-le, take-take}
use Rattle.meaning.specs.Rules.{Rules}
use Rattle.meaning.specs.Standing.{Same, opens, held, extends}
use Rattle.meaning.specs.Falls.{longest, next_longest, fits_with, falls_from, falls, falls_in}
use Rattle.meaning.proofs.Levels.{level-cons, level-cons-none, level-take}
use Rattle.meaning.proofs.Held.{held-le, held-top, held-nil, held-take, le-held, same-held}
use Rattle.meaning.proofs.Shorter.{shorter, held-shorter}
use Rattle.meaning.proofs.Next.{grows, extends-grows, fails_same}

-- ---- the longest ending that opens a rule

length-longest : (r : Rules) (t : List ℕ) → length (longest r t) ≡ held r t
unfolding longest
length-longest r t = length-take-le (held r t) t (held-le r t)

-- a proper ending has a turn fewer to go
length-next : (r : Rules) (b : ℕ) (u : List ℕ) → length (next_longest r (b ∷ u)) ≤ length u
unfolding next_longest
length-next r b u = rw (length-longest r (take (length u) (b ∷ u))) (held-take r (length u) (b ∷ u))

-- turns beyond the bytes of u change nothing
enough : (r : Rules) (c n m : ℕ) (u : List ℕ) → length u ≤ n → length u ≤ m → falls_from r c n u ≡ falls_from r c m u
unfolding falls_from
enough r c zero zero u h l = refl
enough r c zero (suc m) [] h l = refl
enough r c zero (suc m) (b ∷ u) h l = absurd (omega arith)
enough r c (suc n) zero [] h l = refl
enough r c (suc n) zero (b ∷ u) h l = absurd (omega arith)
enough r c (suc n) (suc m) [] h l = refl
enough r c (suc n) (suc m) (b ∷ u) h l =
    let d = length-next r b u in
    rw (enough r c n m (next_longest r (b ∷ u)) (omega arith) (omega arith))

-- ---- the fallbacks of one byte, from the held length

longest-grows : (r : Rules) (t : List ℕ) (c : ℕ) → fits_with r (longest r t) c ≡ grows r t c
unfolding fits_with opens longest
longest-grows r t c =
    rw (length-longest r t, level-cons r c (take (held r t) t) (held r t), level-take r (held r t) t (held r t) (le_refl (held r t)), level-cons r c t (held r t))

falls-first : (r : Rules) (t : List ℕ) (c : ℕ) → held r t ≡ 0 → falls r t c ≡ 0
unfolding falls longest falls_from
falls-first r t c h = rw h (enough r c (length t) zero [] zero-le zero-le)

falls-grows : (r : Rules) (t : List ℕ) (c : ℕ) → grows r t c ≡ true → falls r t c ≡ 0
unfolding falls falls_from
falls-grows r t c e = go (longest r t) refl (length t)
  where
    go : (v : List ℕ) → longest r t ≡ v → (n : ℕ) → falls_from r c n v ≡ 0
    go v q zero = refl
    go [] q (suc n) = refl
    go (b ∷ u) q (suc n) = rw (rw q at (longest-grows r t c), e)

-- without its oldest byte the longest ending is the shorter text
next-shorter : (r : Rules) (t : List ℕ) (b : ℕ) (u : List ℕ) → longest r t ≡ b ∷ u → next_longest r (b ∷ u) ≡ longest r (shorter r t)
unfolding next_longest longest shorter
next-shorter r t b u q =
    let n : suc (length u) ≡ held r t = ap length (sym q) ∙ length-longest r t in
    let m : length u ≡ pred (held r t) = omega arith in
    ap (longest r) (ap (take (length u)) (sym q) ∙ take-take (length u) (held r t) t (omega arith) ∙ ap (λ (x : ℕ). take x t) m)

falls_fails : (r : Rules) (t : List ℕ) (c : ℕ) → grows r t c ≡ false → 0 < held r t → falls r t c ≡ suc (falls r (shorter r t) c)
unfolding falls falls_from
falls_fails r t c e h = go (longest r t) refl (length t) refl
  where
    w : List ℕ
    w = shorter r t

    go : (v : List ℕ) → longest r t ≡ v → (n : ℕ) → length t ≡ n → falls_from r c n v ≡ suc (falls_from r c (length w) (longest r w))
    go v q zero d = absurd (omega (arith, held-le r t))
    go [] q (suc n) d = absurd (omega (arith, ap length q, length-longest r t))
    go (b ∷ u) q (suc n) d =
        rw (rw q at (longest-grows r t c), e, next-shorter r t b u q)
        (ap suc (enough r c n (length w) (longest r w)
        (omega (arith, length-longest r w, held-shorter r t h, held-le r t)) (omega (arith, length-longest r w, held-le r w))))

-- ---- the three ways of a byte

pub data Move (r : Rules) (t : List ℕ) (c : ℕ) : Type 0 where
  -- nothing is held
  first : held r t ≡ 0 → falls r t c ≡ 0 → Move r t c
  -- the byte extends a pair of the held length
  on : 0 < held r t → extends r t c ≡ true → falls r t c ≡ 0 → Move r t c
  -- it extends none: it leads where it leads after the shorter text, with one fallback more
  back : 0 < held r t → extends r t c ≡ false → Same r (c ∷ t) (c ∷ shorter r t) → falls r t c ≡ suc (falls r (shorter r t) c) → Move r t c

pub move : (r : Rules) (t : List ℕ) (c : ℕ) → Move r t c
move r t c = elim (eq-zero-or-pos (held r t)) [ inl d ↦ first d (falls-first r t c d) | inr d ↦ go (grows r t c) refl d ]
  where
    go : (b : Bool) → grows r t c ≡ b → 0 < held r t → Move r t c
    go true e d = on d (extends-grows r t c d ∙ e) (falls-grows r t c e)
    go false e d = back d (extends-grows r t c d ∙ e) (fails_same r t c e d) (falls_fails r t c e d)

-- ---- the bound

held-cons-le : (r : Rules) (t : List ℕ) (c : ℕ) → held r (c ∷ t) ≤ suc (held r t)
held-cons-le r t c = go (held r (c ∷ t)) refl
  where
    go : (g : ℕ) → held r (c ∷ t) ≡ g → g ≤ suc (held r t)
    go zero q = omega arith
    go (suc g) q = omega (arith, le-held r t g (λ z. held-top r (c ∷ t) (omega arith) (rw q (level-cons-none r c t g z))))

falls-le_in : (n : ℕ) (r : Rules) (t : List ℕ) (c : ℕ) → held r t ≤ n → falls r t c + held r (c ∷ t) ≤ suc (held r t)
falls-le_in zero r t c h = omega (arith, falls-first r t c (omega arith), held-cons-le r t c)
falls-le_in (suc n) r t c h =
    let ih = falls-le_in n r (shorter r t) c in
    elim (move r t c) [
      | first d z ↦ omega (arith, held-cons-le r t c)
      | on d e z ↦ omega (arith, held-cons-le r t c)
      | back d e s z ↦ let q = held-shorter r t d in omega (arith, same-held s, ih (omega arith))
    ]

falls-le : (r : Rules) (t : List ℕ) (c : ℕ) → falls r t c + held r (c ∷ t) ≤ suc (held r t)
falls-le r t c = falls-le_in (held r t) r t c (le_refl (held r t))

pub falls_in-le : (r : Rules) (t : List ℕ) → falls_in r t + held r t ≤ length t
unfolding falls_in
falls_in-le r [] = omega (arith, held-nil r)
falls_in-le r (c ∷ t) = omega (arith, falls_in-le r t, falls-le r t c)
