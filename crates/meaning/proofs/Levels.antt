-- The levels of a standing: of a text with one byte more, and of the last m bytes of a text. Assumes nothing.
use mathlib.Core.Path.{◌≡◌, refl, sym, ap, ◌∙◌}
use mathlib.Core.Bool.{false, and-false}
use mathlib.Core.List.{List, [], ◌∷◌}
use Prim.Native.Nat.{ℕ, zero, suc, ◌≤◌, ◌<◌}
use native.Mathlib.Omega.{arith}
use native.Mathlib.Decide.{dec_lt}
use lib.ListN.{length, take, length-take}
use Rattle.meaning.specs.Rules.{Rules, count, stands}
use Rattle.meaning.specs.Standing.{level, Same, going_on}
use Rattle.sets.proofs.Laws.{has_in, has-empty, set_where-ext, set_where-none}

-- ---- one byte more

pub level-cons : (r : Rules) (c : ℕ) (t : List ℕ) (j : ℕ) → level r (c ∷ t) (suc j) ≡ going_on r c j (level r t j)
unfolding level stands going_on
level-cons r c t j =
    set_where-ext (count r) _ _ (λ k h. rw (has_in (count r) k (λ i. stands r t i j) h))

going_on-none : (r : Rules) (c j : ℕ) → going_on r c j 0 ≡ 0
unfolding going_on
going_on-none r c j =
    set_where-none (count r) _ (λ k h. simp (has-empty, and-false))

pub level-cons-none : (r : Rules) (c : ℕ) (t : List ℕ) (j : ℕ) → level r t j ≡ 0 → level r (c ∷ t) (suc j) ≡ 0
level-cons-none r c t j h = level-cons r c t j ∙ ap (going_on r c j) h ∙ going_on-none r c j

-- ---- equal standings

-- level 0, all the rules, is no part of a standing, and no text has another
level-zero : (r : Rules) (t u : List ℕ) → level r t 0 ≡ level r u 0
unfolding level stands
level-zero r t u = refl

pub same-level : {r : Rules} {t u : List ℕ} → Same r t u → (j : ℕ) → level r t j ≡ level r u j
same-level {r} {t} {u} s zero = level-zero r t u
same-level s (suc j) = s.at j

pub same_refl : (r : Rules) (t : List ℕ) → Same r t t
same_refl r t = record { at = λ j. refl }

pub same_sym : {r : Rules} {t u : List ℕ} → Same r t u → Same r u t
same_sym s = record { at = λ j. sym (s.at j) }

pub same_trans : {r : Rules} {t u v : List ℕ} → Same r t u → Same r u v → Same r t v
same_trans s s' = record { at = λ j. s.at j ∙ s'.at j }

pub same-cons : {r : Rules} {t u : List ℕ} (c : ℕ) → Same r t u → Same r (c ∷ t) (c ∷ u)
same-cons {r} {t} {u} c s =
    record { at = λ j. level-cons r c t j ∙ ap (going_on r c j) (same-level s j) ∙ sym (level-cons r c u j) }

-- ---- the last m bytes

stands-take : (r : Rules) (m : ℕ) (t : List ℕ) (k j : ℕ) → j ≤ m → stands r (take m t) k j ≡ stands r t k j
unfolding stands
stands-take r m t k zero h = refl
stands-take r zero t k (suc j) h = absurd (omega arith)
stands-take r (suc m) [] k (suc j) h = refl
stands-take r (suc m) (c ∷ t) k (suc j) h =
    rw (stands-take r m t k j (omega arith))

stands-over : (r : Rules) (t : List ℕ) (k j : ℕ) → length t < j → stands r t k j ≡ false
unfolding stands
stands-over r t k zero h = absurd (omega arith)
stands-over r [] k (suc j) h = refl
stands-over r (c ∷ t) k (suc j) h = rw (stands-over r t k j (omega arith), and-false)

pub level-take : (r : Rules) (m : ℕ) (t : List ℕ) (j : ℕ) → j ≤ m → level r (take m t) j ≡ level r t j
unfolding level
level-take r m t j h = set_where-ext (count r) _ _ (λ k _. stands-take r m t k j h)

pub level-over : (r : Rules) (t : List ℕ) (j : ℕ) → length t < j → level r t j ≡ 0
unfolding level
level-over r t j h = set_where-none (count r) _ (λ k _. stands-over r t k j h)

pub level-take-over : (r : Rules) (m : ℕ) (t : List ℕ) (j : ℕ) → m < j → level r (take m t) j ≡ 0
level-take-over r m t j h = level-over r (take m t) j (rw length-take (omega arith))

-- where no pair is longer than m, the last m bytes have the standing
pub same-take : (r : Rules) (m : ℕ) (t : List ℕ) → ((j : ℕ) → m < j → level r t j ≡ 0) → Same r t (take m t)
same-take r m t above = record {
  at = λ j. elim (dec_lt m (suc j)) [ yes h ↦ above (suc j) h ∙ sym (level-take-over r m t (suc j) h) | no g ↦ sym (level-take r m t (suc j) (omega arith)) ];
}
