-- The held length of a text is the length of its longest ending that fits the opening of a rule. Assumes nothing.
use mathlib.Core.Bool.{Bool, true, false, cond, true≢false}
use mathlib.Core.List.{List, reverse}
use mathlib.Core.Logic.{◌≢◌}
use mathlib.Core.Path.{◌≡◌, refl, sym, ap, ◌∙◌}
use Prim.Native.Nat.{ℕ, zero, suc, ◌+◌, ◌^◌, ◌≤◌, ◌<◌}
use native.Mathlib.Omega.{arith}
use lib.ListN.{length, length-reverse}
use Rattle.sets.specs.Sets.{has, set_where}
use Rattle.sets.proofs.Laws.{has_in, has-empty}
use Rattle.meaning.specs.Rules.{Rules, count, stands}
use Rattle.meaning.specs.Standing.{level, held}
use Rattle.meaning.proofs.Fitting.{stands_iff}
use Rattle.meaning.proofs.Held.{held-top, held_above}
use Rattle.listed.specs.Demands.{Opens, Longest}
use Rattle.meaning.proofs.Occurrences.{reverse_at}

-- a set that is not empty has a member
some_of : (n : ℕ) (p : ℕ → Bool) → set_where n p ≢ 0 → (k : ℕ) × (k < n) × (p k ≡ true)
unfolding set_where
some_of zero p ne = absurd (ne refl)
some_of (suc n) p ne = go (p n) refl (some_of n p) ne
  where
    go : (b : Bool) → p n ≡ b → (set_where n p ≢ 0 → (k : ℕ) × (k < n) × (p k ≡ true)) → set_where n p + cond b (2 ^ n) 0 ≢ 0 → (k : ℕ) × (k < suc n) × (p k ≡ true)
    go true e ih ne = (n, omega arith, e)
    go false e ih ne = let (k, l, x) = ih (λ z. ne (omega arith)) in (k, omega arith, x)

module _ (r : Rules) (text : List ℕ) where
  level-opens : (j : ℕ) → level r (reverse text) j ≢ 0 → Opens r text j
  unfolding level
  level-opens j ne =
      let (k, l, x) = some_of (count r) (λ k. stands r (reverse text) k j) ne in
      let f = (stands_iff r (reverse text) k j).0 x in
      let h : j ≤ length text = omega (arith, f.bytes, length-reverse text) in
      record { k = k; rule = l; symbols = f.symbols; bytes = h; each = λ i g. rw (reverse_at text j i g h) at (f.each i g) }

  opens-level : (j : ℕ) → Opens r text j → level r (reverse text) j ≢ 0
  unfolding level
  opens-level j x z =
      let s = (stands_iff r (reverse text) x.k j).1 (record {
        bytes = omega (arith, x.bytes, length-reverse text);
        symbols = x.symbols;
        each = λ i g. rw (reverse_at text j i g x.bytes) (x.each i g);
      }) in
      true≢false (sym s ∙ sym (has_in (count r) x.k (λ k. stands r (reverse text) k j) x.rule) ∙ ap (λ n. has n x.k) z ∙ has-empty x.k)

  pub held-longest : Longest r text (held r (reverse text))
  held-longest = record {
    opens = λ h. level-opens (held r (reverse text)) (held-top r (reverse text) h);
    none_longer = λ j h x. opens-level j x (held_above r (reverse text) j h);
  }
