-- The standing after one byte more: where the held bytes followed by the byte fit an opening, and where they do not. Assumes nothing.
use mathlib.Core.Path.{◌≡◌, refl, sym, ap, ◌∙◌}
use mathlib.Core.Logic.{◌≢◌}
use mathlib.Core.Bool.{Bool, true, false, ◌&&◌}
use mathlib.Core.List.{List, [], ◌∷◌}
use Prim.Native.Nat.{ℕ, zero, suc, ◌<◌}
use native.Mathlib.Nat.{suc-pred-eq_of_pos}
use native.Mathlib.Omega.{arith}
use lib.Dec.{eqb-suc-zero}
use lib.ListN.{take}
use Rattle.sets.specs.Sets.{has}
use Rattle.sets.proofs.Laws.{set_where-ext}
use Rattle.rows.proofs.Compare.{Order, less, equal, more, order}
use Rattle.meaning.specs.Rules.{Rules, count, fits_at, stands}
use Rattle.meaning.specs.Standing.{level, Same, opens, held, live, going_on, extends}
use Rattle.meaning.specs.Step.{next_live}
use Rattle.meaning.proofs.Levels.{level-cons, level-cons-none}
use Rattle.meaning.proofs.Held.{opens-some, opens-none, some-opens, none-opens, held_is, held_above, held_none, same-held, same_live, live-level}
use Rattle.meaning.proofs.Shorter.{shorter, shorter-low, shorter_high}

-- the held bytes of the text followed by the byte c fit an opening
abbrev pub grows : Rules → List ℕ → ℕ → Bool
grows r t c = opens r (c ∷ t) (suc (held r t))

-- where something is held, that is what the tables ask of a row
pub extends-grows : (r : Rules) (t : List ℕ) (c : ℕ) → 0 < held r t → extends r t c ≡ grows r t c
unfolding extends opens
extends-grows r t c h = rw (live-level r t h, level-cons r c t (held r t))

pub same-extends : {r : Rules} {t u : List ℕ} (c : ℕ) → Same r t u → extends r t c ≡ extends r u c
unfolding extends
same-extends c s = rw (same-held s, same_live s)

-- ---- they do

-- the new held length is one more
pub grows-held : (r : Rules) (t : List ℕ) (c : ℕ) → grows r t c ≡ true → held r (c ∷ t) ≡ suc (held r t)
grows-held r t c e = held_is (record { above = go; top = λ _. opens-some r (c ∷ t) (suc (held r t)) e })
  where
    go : (j : ℕ) → suc (held r t) < j → level r (c ∷ t) j ≡ 0
    go zero h = absurd (omega arith)
    go (suc j) h = level-cons-none r c t j (held_above r t j (omega arith))

-- and without its longest pairs it is the standing of the byte after the shorter text
pub grows-shorter : (r : Rules) (t : List ℕ) (c : ℕ) → grows r t c ≡ true → 0 < held r t → shorter r (c ∷ t) ≡ c ∷ shorter r t
unfolding shorter
grows-shorter r t c e h = rw (grows-held r t c e) (ap (λ (m : ℕ). take m (c ∷ t)) (sym (suc-pred-eq_of_pos h)))

pub grows-shorter-first : (r : Rules) (t : List ℕ) (c : ℕ) → grows r t c ≡ true → held r t ≡ 0 → shorter r (c ∷ t) ≡ []
unfolding shorter
grows-shorter-first r t c e h = rw (grows-held r t c e, h)

-- ---- they do not

-- the standing is that of the byte after the shorter text
pub fails_same : (r : Rules) (t : List ℕ) (c : ℕ) → grows r t c ≡ false → 0 < held r t → Same r (c ∷ t) (c ∷ shorter r t)
fails_same r t c e h = record { at = λ j. go j (order j (held r t)) }
  where
    go : (j : ℕ) → Order j (held r t) → level r (c ∷ t) (suc j) ≡ level r (c ∷ shorter r t) (suc j)
    go j (less d) = level-cons r c t j ∙ ap (going_on r c j) (sym (shorter-low r t j d)) ∙ sym (level-cons r c (shorter r t) j)
    go j (equal d) =
        rw d (opens-none r (c ∷ t) (suc (held r t)) e ∙ sym (level-cons-none r c (shorter r t) (held r t) (shorter_high r t _ h (omega arith))))
    go j (more d) =
        level-cons-none r c t j (held_above r t j d) ∙ sym (level-cons-none r c (shorter r t) j (shorter_high r t j (omega arith) (omega arith)))

-- where nothing is held it is the empty one
pub fails_first : (r : Rules) (t : List ℕ) (c : ℕ) → grows r t c ≡ false → held r t ≡ 0 → Same r (c ∷ t) []
fails_first r t c e h = held_none r (c ∷ t) (held_is (record { above = go; top = λ p. absurd (omega arith) }))
  where
    go : (j : ℕ) → 0 < j → level r (c ∷ t) j ≡ 0
    go zero d = absurd (omega arith)
    go (suc zero) d = rw h at (opens-none r (c ∷ t) (suc (held r t)) e)
    go (suc (suc j)) d = level-cons-none r c t (suc j) (held_above r t (suc j) (omega arith))

-- ---- the live set after the byte, as a builder computes it

next-live : (r : Rules) (t : List ℕ) (c : ℕ) → next_live r (held r t) (live r t) c ≡ level r (c ∷ t) (suc (held r t))
unfolding next_live going_on level stands
next-live r t c = go (held r t) refl
  where
    go : (h : ℕ) → held r t ≡ h → next_live r h (live r t) c ≡ level r (c ∷ t) (suc h)
    go zero q = refl
    go (suc h) q =
        set_where-ext (count r) _ (λ k. fits_at r c k (suc h) && has (live r t) k) (λ k _. rw (eqb-suc-zero h))
        ∙ ap (going_on r c (suc h)) (live-level r t (omega arith) ∙ ap (level r t) q) ∙ sym (level-cons r c t (suc h))

-- so the test is that it is not empty
pub grows_some : (r : Rules) (t : List ℕ) (c : ℕ) → next_live r (held r t) (live r t) c ≢ 0 → grows r t c ≡ true
grows_some r t c n = some-opens r (c ∷ t) (suc (held r t)) (λ e. n (next-live r t c ∙ e))

pub grows_none : (r : Rules) (t : List ℕ) (c : ℕ) → next_live r (held r t) (live r t) c ≡ 0 → grows r t c ≡ false
grows_none r t c n = none-opens r (c ∷ t) (suc (held r t)) (sym (next-live r t c) ∙ n)

pub grows-live : (r : Rules) (t : List ℕ) (c : ℕ) → grows r t c ≡ true → live r (c ∷ t) ≡ next_live r (held r t) (live r t) c
grows-live r t c e =
    let h = grows-held r t c e in
    live-level r (c ∷ t) (omega (arith, h)) ∙ ap (level r (c ∷ t)) h ∙ sym (next-live r t c)
