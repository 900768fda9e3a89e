-- Whether two texts have one standing is decided, by a test that computes. Assumes nothing.
use mathlib.Core.Path.{◌≡◌, sym, ◌∙◌}
use mathlib.Core.Bool.{Bool, true, false, ◌&&◌}
use mathlib.Core.List.{List}
use Prim.Native.Nat.{ℕ, zero, suc, ◌+◌, ◌≤◌, ◌<◌}
use native.Mathlib.Omega.{arith}
use native.Mathlib.Decide.{dec_lt}
use lib.Dec.{T, eqb, eqb→eq, eqb_refl}
use lib.Ieee.Fits.{and_i, and_l, and_r}
use lib.ListN.{length}
use Rattle.meaning.specs.Rules.{Rules}
use Rattle.meaning.specs.Standing.{level, Same}
use Rattle.meaning.proofs.Levels.{level-over}

-- f at every number below n
unfoldable pub below : ℕ → (ℕ → Bool) → Bool
below zero f = true
below (suc n) f = let rest = below n f in f n && rest

pub below_at : (n : ℕ) (f : ℕ → Bool) → T (below n f) → (k : ℕ) → k < n → T (f k)
unfolding below
below_at zero f t k h = absurd (omega arith)
below_at (suc n) f t k h =
    let ih = below_at n f (and_r (f n) (below n f) t) k in
    elim (dec_lt k n) [ yes d ↦ ih d | no g ↦ let e : k ≡ n = omega arith in rw e (and_l (f n) (below n f) t) ]

below_all : (n : ℕ) (f : ℕ → Bool) → ((k : ℕ) → T (f k)) → T (below n f)
unfolding below
below_all zero f e = tt
below_all (suc n) f e = and_i (f n) (below n f) (e n) (below_all n f e)

-- the levels up to m of two texts are equal
abbrev pub alike : Rules → ℕ → List ℕ → List ℕ → Bool
alike r m t u = below m (λ j. eqb (level r t (suc j)) (level r u (suc j)))

-- which is enough where they have at most m bytes
pub alike_same : {r : Rules} {m : ℕ} {t u : List ℕ} → length t ≤ m → length u ≤ m → T (alike r m t u) → Same r t u
alike_same {r} {m} {t} {u} ht hu x = record {
  at = λ j. elim (dec_lt j m) [
    | yes h ↦ eqb→eq _ _ (below_at m (λ j. eqb (level r t (suc j)) (level r u (suc j))) x j h)
    | no g ↦ level-over r t (suc j) (omega arith) ∙ sym (level-over r u (suc j) (omega arith))
  ];
}

pub same_alike : {r : Rules} {t u : List ℕ} (m : ℕ) → Same r t u → T (alike r m t u)
same_alike {r} {t} {u} m s = below_all m _ (λ j. rw (s.at j) (eqb_refl (level r u (suc j))))

pub same_decided : (r : Rules) (t u : List ℕ) → Dec (Same r t u)
same_decided r t u = go (alike r m t u) (alike_same (omega arith) (omega arith)) (same_alike m)
  where
    m : ℕ
    m = length t + length u

    go : (b : Bool) → (T b → Same r t u) → (Same r t u → T b) → Dec (Same r t u)
    go true f g = yes (f tt)
    go false f g = no g
