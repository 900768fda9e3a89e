-- A turn of each loop, as a law of the definition that the loop computes. Assumes nothing.
use Prim.Native.Nat.{ℕ, ◌+◌, ◌*◌, ◌≤◌, ◌<◌}
use mathlib.Core.Path.{◌≡◌, refl, ◌∙◌}
use mathlib.Core.Bool.{cond}
use mathlib.Core.List.{List, [], ◌∷◌, ◌++◌}
use native.Mathlib.Omega.{arith}
use borrow.Author.Tests.{lt-ltb, le-ltb, eq-eqb, ne_eqb}
use lib.ListN.{length, get_or}
use lib.Dec.{eqb}
use Rattle.format.specs.declared.Field.TheVariants.{Picture, Rule}
use Rattle.format.specs.declared.Refusal.{Refusal}
use Rattle.format.specs.declared.Refusal.TheVariants.{Cut, OtherTag}
use Rattle.std.specs.Prelude.{Ok, Err}
use Rattle.format.specs.Format.{size_at, head_at, judge_symbol, first_of, judge_symbols}
use Rattle.format.specs.Which.{IsSymbol, Amiss}
use Rattle.format.proofs.Symbols.{passes, fails}

-- ---- a header

module _ (s : List ℕ) (at : ℕ) where
  pub head_short : length s < at + 3 → Err (Cut at) ≡ head_at s at
  unfolding head_at
  head_short h = rw (lt-ltb (length s) (at + 3) h)

  module _ (h : at + 3 ≤ length s) where
    pub head_cut : length s < at + 3 + size_at s at → Err (Cut at) ≡ head_at s at
    unfolding head_at
    head_cut k = rw (le-ltb (length s) (at + 3) h, lt-ltb (length s) (at + 3 + size_at s at) k)

    module _ (k : at + 3 + size_at s at ≤ length s) where
      tagged : head_at s at ≡ cond (eqb (get_or s at 0) 0x50) (Ok (Picture (at + 3) (at + 3 + size_at s at))) (cond (eqb (get_or s at 0) 0x52) (Ok (Rule (at + 3) (at + 3 + size_at s at))) (Err (OtherTag at)))
      unfolding head_at
      tagged = rw (le-ltb (length s) (at + 3) h, le-ltb (length s) (at + 3 + size_at s at) k)

      pub head_picture : get_or s at 0 ≡ 0x50 → Ok (Picture (at + 3) (at + 3 + size_at s at)) ≡ head_at s at
      head_picture e = rw (tagged, eq-eqb (get_or s at 0) 0x50 e)

      pub head_rule : (get_or s at 0 ≡ 0x50 → ⊥) → get_or s at 0 ≡ 0x52 → Ok (Rule (at + 3) (at + 3 + size_at s at)) ≡ head_at s at
      head_rule n e = rw (tagged, ne_eqb (get_or s at 0) 0x50 n, eq-eqb (get_or s at 0) 0x52 e)

      pub head_unknown : (get_or s at 0 ≡ 0x50 → ⊥) → (get_or s at 0 ≡ 0x52 → ⊥) → Err (OtherTag at) ≡ head_at s at
      head_unknown n m = rw (tagged, ne_eqb (get_or s at 0) 0x50 n, ne_eqb (get_or s at 0) 0x52 m)

-- ---- a rule's body

-- a pair is taken from what is left
module _ (p from j : ℕ) (l pair rest : List ℕ) (e : l ≡ pair ++ rest) (two : length pair ≡ 2) where
  judge_turn : judge_symbols p (from + 2 * j) l ≡ first_of (judge_symbol p (from + 2 * j) (get_or pair 0 0) (get_or pair 1 0)) (judge_symbols p (from + 2 * (j + 1)) rest)
  unfolding judge_symbols
  judge_turn = let x : from + 2 * (j + 1) ≡ from + 2 * j + 2 = omega arith in rw (e, x) (go pair two)
    where
      go : (m : List ℕ) → length m ≡ 2 → judge_symbols p (from + 2 * j) (m ++ rest) ≡ first_of (judge_symbol p (from + 2 * j) (get_or m 0 0) (get_or m 1 0)) (judge_symbols p (from + 2 * j + 2) rest)
      go (k ∷ b ∷ []) h = refl
      go (k ∷ b ∷ c ∷ m) h = absurd (omega arith)
      go (k ∷ []) h = absurd (omega arith)
      go [] h = absurd (omega arith)

  pub judge_stops : {r : Refusal} → Amiss p (from + 2 * j) (get_or pair 0 0) (get_or pair 1 0) r → judge_symbols p (from + 2 * j) l ≡ Err r
  unfolding first_of
  judge_stops w = judge_turn ∙ rw (fails p (from + 2 * j) (get_or pair 0 0) (get_or pair 1 0) w)

  pub judge_goes : IsSymbol p (get_or pair 0 0) (get_or pair 1 0) → judge_symbols p (from + 2 * j) l ≡ judge_symbols p (from + 2 * (j + 1)) rest
  unfolding first_of
  judge_goes w = judge_turn ∙ rw (passes p (from + 2 * j) (get_or pair 0 0) (get_or pair 1 0) w)

-- no pair is left
pub judge_ends : (p o : ℕ) (l : List ℕ) → length l < 2 → judge_symbols p o l ≡ Ok tt
unfolding judge_symbols
judge_ends p o [] h = refl
judge_ends p o (k ∷ []) h = refl
judge_ends p o (k ∷ b ∷ l) h = absurd (omega arith)
