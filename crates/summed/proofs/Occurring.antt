-- Whether a rule occurs in a text, as demand 2 has it, is told byte by byte. Assumes nothing.
use mathlib.Core.Bool.{Bool, true, false, ◌||◌, true≢false, or-true}
use mathlib.Core.List.{List, [], ◌∷◌}
use mathlib.Core.Logic.{inl, inr, ◌↔◌, ⊎_elim}
use mathlib.Core.Path.{◌≡◌, refl, sym}
use Prim.Native.Nat.{ℕ, ◌+◌, ◌≤◌}
use native.Mathlib.Omega.{arith}
use Rattle.sets.specs.Sets.{has}
use Rattle.meaning.specs.Rules.{Rules, count}
use Rattle.meaning.specs.Standing.{out}
use Rattle.book.specs.Limits.{most_rules}
use Rattle.meaning.specs.Occurrences.{Occurs}
use Rattle.meaning.proofs.Occurrences.{Ending, has-out, ending-cons, ending_occurs}
use Rattle.summed.specs.Totals.{ends_from, occurs_in}

module _ (r : Rules) (few : count r ≤ most_rules) (k : ℕ) where
  -- an end to come: after t, `at` bytes, the text is still to be read
  abbrev Comes : ℕ → List ℕ → List ℕ → Type 0
  Comes at t text = (e : ℕ) × Ending r at t text e k

  comes : (text : List ℕ) (at : ℕ) (t : List ℕ) → (ends_from r k t text ≡ true) ↔ Comes at t text
  unfolding ends_from
  comes [] at t = (λ z. absurd (true≢false (sym z)), λ (e, x). absurd (omega (arith, x.past, x.within)))
  comes (c ∷ text) at t = let rest = comes text (at + 1) (c ∷ t) in (to (has (out r (c ∷ t)) k) refl rest.0, from rest.1)
    where
      to : (b : Bool) → has (out r (c ∷ t)) k ≡ b → (ends_from r k (c ∷ t) text ≡ true → Comes (at + 1) (c ∷ t) text)
          → b || ends_from r k (c ∷ t) text ≡ true → Comes at t (c ∷ text)
      to true h rest z = (at + 1, (ending-cons r few at c t text (at + 1) k).0 (inl (refl, omega (arith, ((has-out r (c ∷ t) k).0 h).0), h)))
      to false h rest z = let (e, x) = rest z in (e, (ending-cons r few at c t text e k).0 (inr x))

      from : (Comes (at + 1) (c ∷ t) text → ends_from r k (c ∷ t) text ≡ true) → Comes at t (c ∷ text) → has (out r (c ∷ t)) k || ends_from r k (c ∷ t) text ≡ true
      from rest (e, x) = ⊎_elim (λ y. rw y.2) (λ y. rw (rest (e, y)) (or-true (has (out r (c ∷ t)) k))) ((ending-cons r few at c t text e k).1 x)

  pub occurrences : (text : List ℕ) → (occurs_in r k text ≡ true) ↔ ((e : ℕ) × Occurs r text e k)
  occurrences text =
      let x = comes text 0 [] in (
        λ h. let (e, y) = x.0 h in (e, (ending_occurs r text e k).0 y),
        λ (e, y). x.1 (e, (ending_occurs r text e k).1 y),
      )
