-- Equal words make one set: the sets are one where the first words are the same and the others make one.
use Rattle.std.proofs.Common.{◌≡◌, ◌≢◌, ◌&&◌, ◌∙◌, ℕ, suc, List, [], ◌∷◌, arith, eq-eqb, eqb, length, refl, sym}
use Prim.Native.Nat.compare.{suc-suc}
use Rattle.std.proofs.Math.Bool.{and-false}
use Rattle.std.proofs.Math.Decide.{ℕ_discrete}
use borrow.Author.Tests.{ne_eqb}
use lib.Pointwise.{pointwise}
use Rattle.sets.specs.Sets.{set_of}
use Rattle.sets.proofs.InWords.{Words, same-cons, not_same}
use Rattle.words.proofs.same.Goals as goal

one_set : (us vs : List ℕ) → Words us → Words vs → pointwise eqb us vs ≡ (eqb (length us) (length vs) && eqb (set_of us) (set_of vs))
one_set [] [] f g = sym (eq-eqb (set_of []) (set_of []) refl)
one_set [] (v ∷ vs) f g = let ne : 0 ≢ suc (length vs) = omega arith in rw (ne_eqb 0 (suc (length vs)) ne)
one_set (u ∷ us) [] f g = let ne : suc (length us) ≢ 0 = omega arith in rw (ne_eqb (suc (length us)) 0 ne)
one_set (u ∷ us) (v ∷ vs) f g =
    elim (ℕ_discrete u v) [
      | yes e ↦ rw (e, eq-eqb v v refl, same-cons v us vs, suc-suc) (one_set us vs (λ i. f (suc i)) (λ i. g (suc i)))
      | no ne ↦ rw (ne_eqb u v ne, not_same u v us vs (f 0) (g 0) ne) (sym (and-false _))
    ]

pub returns : goal.returns
returns c = c.eq.ensures ∙ one_set _ _ (λ i. (c.type_inv.a i).fits) (λ i. (c.type_inv.b i).fits)
