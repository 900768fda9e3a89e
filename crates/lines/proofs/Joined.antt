-- Pieces without the mark, joined and split again, are the pieces. Assumes nothing.
use Prim.Native.Nat.{ℕ, suc, ◌≤◌, ◌<◌}
use mathlib.Core.List.{List, [], ◌∷◌, ◌++◌, append_assoc}
use mathlib.Core.Logic.{◌≢◌}
use mathlib.Core.Path.{◌≡◌, refl, ap, ◌∙◌}
use native.Mathlib.Omega.{arith}
use borrow.Author.Tests.{eq-eqb, ne_eqb}
use lib.ListN.{length, get_or}
use Rattle.lines.specs.Lines.{lf, semicolon, joined, split}
use Rattle.lines.specs.Written.{join, Without, LastSome, LinesOfEnded, LinesOfJoined, FramesOfJoined}

-- ---- a piece without the mark

pub data Free (mark : ℕ) : List ℕ → Type 0 where
  none : Free mark []
  more : {c : ℕ} {s : List ℕ} → c ≢ mark → Free mark s → Free mark (c ∷ s)

module _ {mark : ℕ} where
  pub free_from : (p : List ℕ) → ((j : ℕ) → j < length p → get_or p j 0 ≢ mark) → Free mark p
  free_from [] n = none
  free_from (c ∷ p) n = more (n 0 (omega arith)) (free_from p (λ j h. n (suc j) (omega arith)))

-- ---- a text's first piece

module _ {mark : ℕ} (over : List (List ℕ)) where
  pub split-next : {p : List ℕ} (t : List ℕ) → Free mark p → split mark over (p ++ mark ∷ t) ≡ p ∷ split mark over t
  unfolding split
  split-next t none = rw (eq-eqb mark mark refl)
  split-next t (more {c = c} e f) = rw (ne_eqb c mark e, split-next t f)

  -- the only one
  pub split-last : ((c : ℕ) → joined c over ≡ (c ∷ []) ∷ []) → (c : ℕ) (p : List ℕ) → c ≢ mark → Free mark p → split mark over (c ∷ p) ≡ (c ∷ p) ∷ []
  unfolding split
  split-last same c [] e f = rw (ne_eqb c mark e) (same c)
  split-last same c (d ∷ p) e (more g f) = rw (ne_eqb c mark e, split-last same d p g f)

-- ---- a text and its pieces, where an empty rest has none

pub data Text (mark : ℕ) : List ℕ → List (List ℕ) → Type 0 where
  empty : Text mark [] []
  last : {c : ℕ} {p : List ℕ} → c ≢ mark → Free mark p → Text mark (c ∷ p) ((c ∷ p) ∷ [])
  next : {p t : List ℕ} {ps : List (List ℕ)} → Free mark p → Text mark t ps → Text mark (p ++ mark ∷ t) (p ∷ ps)

module _ {mark : ℕ} where
  pub text_split : {t : List ℕ} {ps : List (List ℕ)} → Text mark t ps → split mark [] t ≡ ps
  unfolding split
  text_split empty = refl
  text_split (last {c} {p} e f) = split-last [] (λ c. refl) c p e f
  text_split (next {p} {t} {ps} f v) = split-next [] t f ∙ ap (λ qs. p ∷ qs) (text_split v)

-- ---- pieces joined, and split again

module _ (mark : ℕ) where
  first_free : (p : List ℕ) (ps : List (List ℕ)) → Without mark (p ∷ ps) → Free mark p
  first_free p ps w = free_from p (λ j h. w 0 j (omega arith) h)

  rest_free : (p : List ℕ) (ps : List (List ℕ)) → Without mark (p ∷ ps) → Without mark ps
  rest_free p ps w i j h g = w (suc i) j (omega arith) g

  text_ended : (ps : List (List ℕ)) → 1 ≤ length ps → Without mark ps → Text mark (join mark ps ++ mark ∷ []) ps
  unfolding join
  text_ended [] h w = absurd (omega arith)
  text_ended (p ∷ []) h w = next (first_free p [] w) empty
  text_ended (p ∷ q ∷ ps) h w = rw append_assoc (next (first_free p (q ∷ ps) w) (text_ended (q ∷ ps) (omega arith) (rest_free p (q ∷ ps) w)))

  text_open : (ps : List (List ℕ)) → LastSome ps → Without mark ps → Text mark (join mark ps) ps
  unfolding join
  text_open [] s w = empty
  text_open ([] ∷ []) s w = absurd (omega (arith, s 0 refl))
  text_open ((c ∷ p) ∷ []) s w = go (first_free (c ∷ p) [] w)
    where
      go : Free mark (c ∷ p) → Text mark (c ∷ p) ((c ∷ p) ∷ [])
      go (more e f) = last e f
  text_open (p ∷ q ∷ ps) s w = next (first_free p (q ∷ ps) w) (text_open (q ∷ ps) (λ i h. s (suc i) (omega arith)) (rest_free p (q ∷ ps) w))

  pub joined-split : (ps : List (List ℕ)) → 1 ≤ length ps → Without mark ps → split mark ([] ∷ []) (join mark ps) ≡ ps
  unfolding join split
  joined-split [] h w = absurd (omega arith)
  joined-split (p ∷ []) h w = go p (first_free p [] w)
    where
      go : (p : List ℕ) → Free mark p → split mark ([] ∷ []) p ≡ p ∷ []
      go [] f = refl
      go (c ∷ p) (more e f) = split-last ([] ∷ []) (λ c. refl) c p e f
  joined-split (p ∷ q ∷ ps) h w =
      split-next ([] ∷ []) (join mark (q ∷ ps)) (first_free p (q ∷ ps) w) ∙ ap (λ qs. p ∷ qs) (joined-split (q ∷ ps) (omega arith) (rest_free p (q ∷ ps) w))

pub lines_of_ended : LinesOfEnded
lines_of_ended ls h w = text_split (text_ended lf ls h w)

pub lines_of_joined : LinesOfJoined
lines_of_joined ls s w = text_split (text_open lf ls s w)

pub frames_of_joined : FramesOfJoined
frames_of_joined fs h w = joined-split semicolon fs h w
