-- The held length of a text: the one number above which every level is empty, and at which, if it is not 0, the level is not. Assumes nothing.
use mathlib.Core.Path.{◌≡◌, refl, sym, ap, ◌∙◌}
use mathlib.Core.Logic.{◌≢◌}
use mathlib.Core.Bool.{Bool, true, false, cond}
use mathlib.Core.List.{List, []}
use Prim.Native.Nat.{ℕ, zero, suc, ◌≤◌, ◌<◌, zero-le}
use native.Mathlib.Omega.{arith}
use native.Mathlib.Decide.{dec_lt}
use lib.ListN.{length, take}
use borrow.Author.Tests.{eq-eqb, ne_eqb, eqb-true, eqb-false, not-true, not-false}
use Rattle.meaning.specs.Rules.{Rules}
use Rattle.meaning.specs.Standing.{level, Same, opens, largest, held, live}
use Rattle.rows.proofs.Compare.{Order, less, equal, more, order}
use Rattle.meaning.proofs.Levels.{level-over, level-take-over, same-level, same-take}

-- ---- `opens` and the level

pub opens-some : (r : Rules) (t : List ℕ) (j : ℕ) → opens r t j ≡ true → level r t j ≢ 0
unfolding opens
opens-some r t j e = eqb-false (level r t j) 0 (not-true _ e)

pub opens-none : (r : Rules) (t : List ℕ) (j : ℕ) → opens r t j ≡ false → level r t j ≡ 0
unfolding opens
opens-none r t j e = eqb-true (level r t j) 0 (not-false _ e)

pub some-opens : (r : Rules) (t : List ℕ) (j : ℕ) → level r t j ≢ 0 → opens r t j ≡ true
unfolding opens
some-opens r t j h = rw (ne_eqb (level r t j) 0 h)

pub none-opens : (r : Rules) (t : List ℕ) (j : ℕ) → level r t j ≡ 0 → opens r t j ≡ false
unfolding opens
none-opens r t j h = rw (eq-eqb (level r t j) 0 h)

-- ---- the largest number with a property

largest-le : (p : ℕ → Bool) (n : ℕ) → largest p n ≤ n
unfolding largest
largest-le p zero = zero-le
largest-le p (suc n) = go (p (suc n)) (largest-le p n)
  where
    go : (b : Bool) → largest p n ≤ n → cond b (suc n) (largest p n) ≤ suc n
    go true h = omega arith
    go false h = omega arith

largest_above : (p : ℕ → Bool) (n j : ℕ) → largest p n < j → j ≤ n → p j ≡ false
unfolding largest
largest_above p zero j h l = absurd (omega arith)
largest_above p (suc n) j h l = go (p (suc n)) refl h (largest_above p n j) (order j (suc n))
  where
    go : (b : Bool) → p (suc n) ≡ b → cond b (suc n) (largest p n) < j → (largest p n < j → j ≤ n → p j ≡ false) → Order j (suc n) → p j ≡ false
    go true e g ih o = absurd (omega arith)
    go false e g ih (less d) = ih g (omega arith)
    go false e g ih (equal d) = ap p d ∙ e
    go false e g ih (more d) = absurd (omega arith)

largest-top : (p : ℕ → Bool) (n : ℕ) → 0 < largest p n → p (largest p n) ≡ true
unfolding largest
largest-top p zero h = absurd (omega arith)
largest-top p (suc n) h = go (p (suc n)) refl h (largest-top p n)
  where
    go : (b : Bool) → p (suc n) ≡ b → 0 < cond b (suc n) (largest p n) → (0 < largest p n → p (largest p n) ≡ true) → p (cond b (suc n) (largest p n)) ≡ true
    go true e g ih = e
    go false e g ih = ih g

-- ---- the held length

-- every level above h is empty, and level h is not, unless h is 0
pub record Holds (r : Rules) (t : List ℕ) (h : ℕ) : Type 0 where
  pub above : (j : ℕ) → h < j → level r t j ≡ 0
  pub top : 0 < h → level r t h ≢ 0

pub held-le : (r : Rules) (t : List ℕ) → held r t ≤ length t
unfolding held
held-le r t = largest-le (opens r t) (length t)

held_holds : (r : Rules) (t : List ℕ) → Holds r t (held r t)
unfolding held
held_holds r t = record {
  above = λ j h.
      elim (dec_lt (length t) j) [ yes d ↦ level-over r t j d | no g ↦ opens-none r t j (largest_above (opens r t) (length t) j h (omega arith)) ];
  top = λ h. opens-some r t _ (largest-top (opens r t) (length t) h);
}

holds_only : {r : Rules} {t : List ℕ} {h g : ℕ} → Holds r t h → Holds r t g → h ≡ g
holds_only {h} {g} x y = go (order h g)
  where
    go : Order h g → h ≡ g
    go (less d) = absurd (y.top (omega arith) (x.above g d))
    go (equal d) = d
    go (more d) = absurd (x.top (omega arith) (y.above h d))

pub held_is : {r : Rules} {t : List ℕ} {h : ℕ} → Holds r t h → held r t ≡ h
held_is {r} {t} x = holds_only (held_holds r t) x

pub held_above : (r : Rules) (t : List ℕ) (j : ℕ) → held r t < j → level r t j ≡ 0
held_above r t = (held_holds r t).above

pub held-top : (r : Rules) (t : List ℕ) → 0 < held r t → level r t (held r t) ≢ 0
held-top r t = (held_holds r t).top

-- a level that is not empty is at most the held length
pub le-held : (r : Rules) (t : List ℕ) (j : ℕ) → level r t j ≢ 0 → j ≤ held r t
le-held r t j x = elim (dec_lt (held r t) j) [ yes d ↦ absurd (x (held_above r t j d)) | no g ↦ omega arith ]

-- ---- a standing has one held length, and one live set

pub same-held : {r : Rules} {t u : List ℕ} → Same r t u → held r t ≡ held r u
same-held {r} {t} {u} s =
    sym (held_is (record {
      above = λ j h. sym (same-level s j) ∙ held_above r t j h;
      top = λ h e. held-top r t h (same-level s (held r t) ∙ e);
    }))

pub same_live : {r : Rules} {t u : List ℕ} → Same r t u → live r t ≡ live r u
unfolding live
same_live {r} {t} {u} s = rw (same-held s, same-level s (held r u))

-- the live set: the level at the held length
pub live-level : (r : Rules) (t : List ℕ) → 0 < held r t → live r t ≡ level r t (held r t)
unfolding live
live-level r t h = rw (ne_eqb (held r t) 0 (omega arith))

pub live-none : (r : Rules) (t : List ℕ) → held r t ≡ 0 → live r t ≡ 0
unfolding live
live-none r t h = rw h

-- ---- the last bytes of a text

-- the last bytes of a text, as many as its held length, have its standing
same-held-take : (r : Rules) (t : List ℕ) → Same r t (take (held r t) t)
same-held-take r t = same-take r (held r t) t (held_above r t)

-- the longest ending of at most m bytes that opens a rule
pub held-take : (r : Rules) (m : ℕ) (t : List ℕ) → held r (take m t) ≤ m
held-take r m t =
    elim (dec_lt m (held r (take m t))) [ yes d ↦ absurd (held-top r (take m t) (omega arith) (level-take-over r m t _ d)) | no g ↦ omega arith ]

-- the empty standing
pub held_none : (r : Rules) (t : List ℕ) → held r t ≡ 0 → Same r t []
held_none r t e = rw e at (same-held-take r t)

pub held-nil : (r : Rules) → held r [] ≡ 0
held-nil r = omega (arith, held-le r [])
