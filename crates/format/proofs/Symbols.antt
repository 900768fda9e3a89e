-- A pair and a run of pairs, by what is said of them in plain words. Assumes nothing.
use Prim.Native.Nat.{ℕ, zero, suc, ◌+◌, ◌*◌, ◌<◌}
use mathlib.Core.Path.{◌≡◌, sym, subst}
use mathlib.Core.Logic.{inl, inr}
use mathlib.Core.List.{List, [], ◌∷◌}
use native.Mathlib.Omega.{arith}
use borrow.Author.Tests.{lt-ltb, le-ltb, eq-eqb, ne_eqb}
use lib.ListN.{length, get_or}
use Rattle.format.specs.declared.Refusal.{Refusal}
use Rattle.format.specs.Answers.{Answer}
use Rattle.std.specs.Prelude.{Ok, Err}
use Rattle.format.specs.Format.{judge_symbol, first_of, judge_symbols}
use Rattle.format.specs.Which.{IsSymbol, Amiss, unknown, undefined}
use Rattle.book.proofs.Cases.{by_lt, by_eq}
use Rattle.format.proofs.Answers.{never}

-- ---- a pair

-- what the answer to a pair says of it
pub data Told (p v k b : ℕ) : Answer → Type 0 where
  sound : IsSymbol p k b → Told p v k b (Ok tt)
  amiss : {r : Refusal} → Amiss p v k b r → Told p v k b (Err r)

module _ (p v k b : ℕ) where
  pub passes : IsSymbol p k b → judge_symbol p v k b ≡ Ok tt
  unfolding judge_symbol
  passes (inl e) = rw (eq-eqb k 0 e)
  passes (inr (e, h)) = rw (ne_eqb k 0 (omega arith), eq-eqb k 1 e, lt-ltb b p h)

  pub fails : {r : Refusal} → Amiss p v k b r → judge_symbol p v k b ≡ Err r
  unfolding judge_symbol
  fails (unknown h) = rw (ne_eqb k 0 (omega arith), ne_eqb k 1 (omega arith))
  fails (undefined e h) = rw (ne_eqb k 0 (omega arith), eq-eqb k 1 e, le-ltb b p h)

  pub told : Told p v k b (judge_symbol p v k b)
  told =
      by_eq k 0
      (λ x. good (inl x))
      (λ x.
      by_eq k 1
      (λ y. by_lt b p (λ z. good (inr (y, z))) (λ z. bad (undefined y z)))
      (λ y. bad (unknown (omega arith))))
    where
      good : IsSymbol p k b → Told p v k b (judge_symbol p v k b)
      good x = rw (passes x) (sound x)

      bad : {r : Refusal} → Amiss p v k b r → Told p v k b (judge_symbol p v k b)
      bad x = rw (fails x) (amiss x)

  pub is_symbol : judge_symbol p v k b ≡ Ok tt → IsSymbol p k b
  is_symbol e = go told e
    where
      go : {t : Answer} → Told p v k b t → t ≡ Ok tt → IsSymbol p k b
      go (sound x) q = x
      go (amiss x) q = never q

-- ---- a run of pairs

-- pair i of l, whose first stands at o, is the first that is no symbol
pub record First (p o : ℕ) (l : List ℕ) (r : Refusal) : Type 0 where
  pub i : ℕ
  pub inside : 2 * i + 1 < length l
  pub sound : (j : ℕ) → j < i → IsSymbol p (get_or l (2 * j) 0) (get_or l (2 * j + 1) 0)
  pub amiss : Amiss p (o + 2 * i) (get_or l (2 * i) 0) (get_or l (2 * i + 1) 0) r

-- pair i + 1 of a list is pair i after its first two
module _ (k b : ℕ) (l : List ℕ) (i : ℕ) where
  kind_after : get_or (k ∷ b ∷ l) (2 * suc i) 0 ≡ get_or l (2 * i) 0
  kind_after = let e : 2 * suc i ≡ suc (suc (2 * i)) = omega arith in rw e

  second_after : get_or (k ∷ b ∷ l) (2 * suc i + 1) 0 ≡ get_or l (2 * i + 1) 0
  second_after = let e : 2 * suc i + 1 ≡ suc (suc (2 * i + 1)) = omega arith in rw e

-- the first pair of a list, and those before pair n of the rest
each : {p : ℕ} (k b : ℕ) (l : List ℕ) (n : ℕ) → IsSymbol p k b → ((j : ℕ) → j < n → IsSymbol p (get_or l (2 * j) 0) (get_or l (2 * j + 1) 0))
    → (j : ℕ) → j < suc n → IsSymbol p (get_or (k ∷ b ∷ l) (2 * j) 0) (get_or (k ∷ b ∷ l) (2 * j + 1) 0)
each k b l n w f zero h = w
each k b l n w f (suc j) h = rw (kind_after k b l j, second_after k b l j) (f j (omega arith))

pub found : (p o : ℕ) (l : List ℕ) {r : Refusal} → judge_symbols p o l ≡ Err r → First p o l r
unfolding judge_symbols first_of
found p o [] e = never (sym e)
found p o (k ∷ []) e = never (sym e)
found p o (k ∷ b ∷ l) {r} e = go (judge_symbol p o k b) e (told p o k b) (λ x. found p (o + 2) l x)
  where
    go : (t : Answer) → first_of t (judge_symbols p (o + 2) l) ≡ Err r → Told p o k b t → (judge_symbols p (o + 2) l ≡ Err r → First p (o + 2) l r) → First p o (k ∷ b ∷ l) r
    go (Err x) q (amiss w) f =
        let z : x ≡ r = cc in
        let n : o + 2 * 0 ≡ o = omega arith in
        record { i = 0; inside = omega arith; sound = λ j h. absurd (omega arith); amiss = rw n (subst (Amiss p o k b) z w) }
    go (Ok tt) q (sound w) f =
        let x = f q in
        let n : o + 2 * suc x.i ≡ o + 2 + 2 * x.i = omega arith in
        record {
          i = suc x.i;
          inside = omega (arith, x.inside);
          sound = each k b l x.i w x.sound;
          amiss = rw (n, kind_after k b l x.i, second_after k b l x.i) x.amiss;
        }

pub is_first : (p o : ℕ) (l : List ℕ) {r : Refusal} (i : ℕ) → 2 * i + 1 < length l → ((j : ℕ) → j < i → IsSymbol p (get_or l (2 * j) 0) (get_or l (2 * j + 1) 0))
    → Amiss p (o + 2 * i) (get_or l (2 * i) 0) (get_or l (2 * i + 1) 0) r → judge_symbols p o l ≡ Err r
unfolding judge_symbols first_of
is_first p o [] i h f w = absurd (omega arith)
is_first p o (k ∷ []) i h f w = absurd (omega arith)
is_first p o (k ∷ b ∷ l) zero h f w =
    let n : o + 2 * 0 ≡ o = omega arith in
    rw (fails p o k b (rw n at w))
is_first p o (k ∷ b ∷ l) (suc i) h f w =
    let n : o + 2 * suc i ≡ o + 2 + 2 * i = omega arith in
    rw (passes p o k b (f 0 (omega arith)))
    (is_first p (o + 2) l i (omega arith) (λ j x. rw (kind_after k b l j, second_after k b l j) at (f (suc j) (omega arith))) (rw (n, kind_after k b l i, second_after k b l i) at w))
