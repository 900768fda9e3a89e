-- `Before` is a strict total order on texts, and it is the order that the paper states: `shortlex`. Assumes nothing.
use mathlib.Core.Path.{◌≡◌, refl, sym, ap, ◌∙◌}
use mathlib.Core.Logic.{◌⊎◌, inl, inr}
use mathlib.Core.List.{List, [], ◌∷◌, ◌++◌, append_assoc, reverse, reverse-cons, reverse-append, reverse-reverse}
use Prim.Native.Nat.{ℕ, ◌<◌}
use native.Mathlib.Omega.{arith}
use lib.ListN.{length, length-reverse}
use Rattle.rows.proofs.Compare.{less, equal, more, order}
use Rattle.rows.specs.Rows.{Before, none, earlier, last}
use Rattle.rows.specs.Shortlex.{Smaller, Shortlex, Total}

apart : {t u : List ℕ} → Before t u → ¬ (t ≡ u)
apart none e = let z : ◌≡◌ {A = ℕ} 0 1 = cc in omega arith
apart (earlier b) e = apart b (cc)
apart (last {c} {d} l) e = let z : c ≡ d = cc in omega arith

behind-some : {t u : List ℕ} → Before t u → 0 < length u
behind-some none = omega arith
behind-some (earlier b) = omega arith
behind-some (last l) = omega arith

pub before_nil : {t : List ℕ} → ¬ Before t []
before_nil b = omega (arith, behind-some b)

pub before_irrefl : {t : List ℕ} → ¬ Before t t
before_irrefl b = apart b refl

pub before_trans : {t u v : List ℕ} → Before t u → Before u v → Before t v
before_trans none (earlier b) = none
before_trans none (last l) = none
before_trans (earlier a) (earlier b) = earlier (before_trans a b)
before_trans (earlier a) (last l) = earlier a
before_trans (last l) (earlier b) = earlier b
before_trans (last {c} l) (last {d = d} m) = last {c = c} {d = d} (omega arith)

pub before_total : Total
before_total [] [] = inr (inl refl)
before_total [] (d ∷ u) = inl none
before_total (c ∷ t) [] = inr (inr none)
before_total (c ∷ t) (d ∷ u) =
    elim (before_total t u) [
      | inl b ↦ inl (earlier b)
      | inr (inl e) ↦
          elim (order c d) [
            | less l ↦ inl (rw e (last {c = c} {d = d} (omega arith)))
            | equal f ↦ inr (inl (cc))
            | more l ↦ inr (inr (rw e (last {c = d} {d = c} (omega arith))))
          ]
      | inr (inr b) ↦ inr (inr (earlier b))
    ]

pub shorter : (t u : List ℕ) → length t < length u → Before t u
shorter t [] l = absurd (omega arith)
shorter [] (d ∷ u) l = none
shorter (c ∷ t) (d ∷ u) l = earlier (shorter t u (omega arith))

pub before_cons : (c : ℕ) (t : List ℕ) → Before t (c ∷ t)
before_cons c t = shorter t (c ∷ t) (omega arith)

reverse_middle : (x y : List ℕ) (a : ℕ) → reverse (x ++ a ∷ y) ≡ reverse y ++ a ∷ reverse x
reverse_middle x y a = reverse-append x (a ∷ y) ∙ ap (λ (l : List ℕ). l ++ reverse x) (reverse-cons a y) ∙ append_assoc (reverse y) (a ∷ []) (reverse x)

differ : (x y p : List ℕ) (a b : ℕ) → a < b → length x ≡ length y → Before (x ++ a ∷ p) (y ++ b ∷ p)
differ [] [] p a b l e = last l
differ [] (d ∷ y) p a b l e = absurd (omega arith)
differ (c ∷ x) [] p a b l e = absurd (omega arith)
differ (c ∷ x) (d ∷ y) p a b l e = earlier (differ x y p a b l (omega arith))

-- where two texts of one length first differ, seen from their ends
found : {t u : List ℕ} → Before t u → (length t < length u) ⊎ ((x y p : List ℕ) × (a b : ℕ) × (a < b) × (length x ≡ length y) × (t ≡ x ++ a ∷ p) × (u ≡ y ++ b ∷ p))
found none = inl (omega arith)
found (earlier {c} {d} l) =
    elim (found l) [
      | inl h ↦ inl (omega arith)
      | inr (x, y, p, a, b, h, e, q, q') ↦ inr (c ∷ x, d ∷ y, p, a, b, h, omega arith, cc, cc)
    ]
found (last {c} {d} {t} l) = inr ([], [], t, c, d, l, refl, refl, refl)

pub shortlex : Shortlex
shortlex t u = (to, from)
  where
    to : Before (reverse t) (reverse u) → (length t < length u) ⊎ Smaller t u
    to l =
        elim (found l) [
          | inl h ↦ inl (simp length-reverse at h)
          | inr (x, y, p, a, b, h, e, q, q') ↦
              inr
              (record {
                alike = reverse p;
                a = a;
                b = b;
                rest = reverse x;
                rest' = reverse y;
                less = h;
                long = simp length-reverse e;
                first = sym (reverse-reverse t) ∙ ap reverse q ∙ reverse_middle x p a;
                second = sym (reverse-reverse u) ∙ ap reverse q' ∙ reverse_middle y p b;
              })
        ]

    from : (length t < length u) ⊎ Smaller t u → Before (reverse t) (reverse u)
    from (inl l) = shorter (reverse t) (reverse u) (simp length-reverse l)
    from (inr s) =
        rw (s.first, s.second, reverse_middle s.alike s.rest s.a, reverse_middle s.alike s.rest' s.b)
        (differ (reverse s.rest) (reverse s.rest') (reverse s.alike) s.a s.b s.less (simp length-reverse s.long))
