-- Passes over pieces, by the first that ends: the first pass ends at the first line that breaks the rules. Assumes nothing.
use Prim.Native.Nat.{ℕ, zero, suc, ◌+◌, ◌<◌}
use mathlib.Core.Bool.{Bool, true, false, false≢true}
use mathlib.Core.List.{List, [], ◌∷◌}
use mathlib.Core.Logic.{◌≢◌}
use mathlib.Core.Path.{◌≡◌, refl}
use native.Mathlib.Omega.{arith}
use lib.ListN.{length, get_or}
use Rattle.std.specs.Prelude.{Option, Some, None, Ok, Err}
use Rattle.lines.specs.declared.Line.{Line}
use Rattle.lines.specs.Lines.{lines_of, Pass, on_pass, pass_over, line_of, on_line, bad_at, line_check, check_of}
use Rattle.lines.specs.Written.{start_of}
use Rattle.lines.specs.Profile.{AllSound, FirstBroken}

module _ {E : Type 0} where
  pub both-through : (a b : Pass E) → on_pass a b ≡ Ok tt → (a ≡ Ok tt) × (b ≡ Ok tt)
  both-through (Ok u) b e = (refl, e)
  both-through (Err at) b e = cc

module _ {E : Type 0} (each : ℕ → List ℕ → Pass E) where
  -- piece i lets the pass through
  abbrev Lets : ℕ → List (List ℕ) → ℕ → Type 0
  Lets at ps i = each (start_of at ps i) (get_or ps i []) ≡ Ok tt

  pub pass_through : (ps : List (List ℕ)) (at : ℕ) → ((i : ℕ) → i < length ps → Lets at ps i) → pass_over each at ps ≡ Ok tt
  unfolding pass_over start_of
  pass_through [] at h = refl
  pass_through (p ∷ ps) at h = rw (h 0 (omega arith)) (pass_through ps (at + length p + 1) (λ i l. h (suc i) (omega arith)))

  pub pass_first : (ps : List (List ℕ)) (at i : ℕ) {e : E} → i < length ps → each (start_of at ps i) (get_or ps i []) ≡ Err e → ((j : ℕ) → j < i → Lets at ps j)
      → pass_over each at ps ≡ Err e
  unfolding pass_over start_of
  pass_first [] at i l q h = absurd (omega arith)
  pass_first (p ∷ ps) at zero l q h = rw q
  pass_first (p ∷ ps) at (suc i) l q h = rw (h 0 (omega arith)) (pass_first ps (at + length p + 1) i (omega arith) q (λ j m. h (suc j) (omega arith)))

-- ---- lines

line_through : (at : ℕ) (line : List ℕ) → line_of line ≢ None → line_check at line ≡ Ok tt
unfolding line_check
line_through at line h = go (line_of line) h
  where
    go : (l : Option Line) → l ≢ None → on_line l (λ stack count. Ok tt) (bad_at at) ≡ Ok tt
    go (Some l) h = refl
    go None h = absurd (h refl)

-- whether all lines are sound, by computing
unfoldable pub are_sound : List (List ℕ) → Bool
are_sound [] = true
are_sound (line ∷ ls) = on_line (line_of line) (λ stack count. are_sound ls) false

pub are_sound_lem : (ls : List (List ℕ)) → are_sound ls ≡ true → AllSound ls
unfolding are_sound
are_sound_lem [] x = λ i l q. omega arith
are_sound_lem (line ∷ ls) x = go (line_of line) refl x (are_sound_lem ls)
  where
    go : (k : Option Line) → line_of line ≡ k → on_line k (λ stack count. are_sound ls) false ≡ true → (are_sound ls ≡ true → AllSound ls) → AllSound (line ∷ ls)
    go (Some m) e y rest zero l q = let z : ◌≡◌ {A = ℕ} 0 1 = cc in omega arith
    go (Some m) e y rest (suc i) l q = rest y i (omega arith) q
    go None e y rest i l q = false≢true y

pub checked : (profile : List ℕ) → AllSound (lines_of profile) → check_of profile ≡ Ok tt
unfolding check_of
checked profile h = pass_through line_check (lines_of profile) 0 (λ i l. line_through _ _ (h i l))

pub broken_at : (profile : List ℕ) (i : ℕ) → FirstBroken (lines_of profile) i → check_of profile ≡ bad_at (start_of 0 (lines_of profile) i)
unfolding check_of line_check
broken_at profile i f = pass_first line_check (lines_of profile) 0 i f.below (rw f.broken) (λ j l. line_through _ _ (f.before j l))
