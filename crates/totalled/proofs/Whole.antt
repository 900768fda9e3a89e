-- A rule fits a whole leaf just where the held length of the leaf is its length and the rule is both live and out. Assumes nothing.
use mathlib.Core.Bool.{true, true≢false}
use mathlib.Core.List.{List, reverse}
use mathlib.Core.Logic.{◌≢◌}
use mathlib.Core.Path.{◌≡◌, sym, ap, ◌∙◌}
use Prim.Native.Nat.{ℕ, suc, ◌+◌, ◌-◌, ◌≤◌, ◌<◌}
use native.Mathlib.Omega.{arith}
use native.Mathlib.Decide.{dec_lt}
use lib.ListN.{length, get_or, length-reverse}
use Rattle.sets.specs.Sets.{has}
use Rattle.sets.proofs.Laws.{has-empty}
use Rattle.meaning.specs.Rules.{Rules, count, size, Fits}
use Rattle.meaning.specs.Standing.{level, held, live, out}
use Rattle.meaning.specs.Occurrences.{FitsWhole}
use Rattle.meaning.proofs.Fitting.{stands_iff}
use Rattle.meaning.proofs.Held.{held-le, le-held, live-level}
use Rattle.meaning.proofs.Occurrences.{has-out, ends_iff, reverse_at}
use Rattle.meaning.proofs.Outs.{has-level}

-- byte i of the last j, where j is the whole leaf
whole_at : (leaf : List ℕ) (j i : ℕ) → i < j → j ≡ length leaf → get_or (reverse leaf) (j - suc i) 0 ≡ get_or leaf i 0
whole_at leaf j i l q = let z : length leaf - j + i ≡ i = omega arith in reverse_at leaf j i l (omega arith) ∙ rw z

module _ (r : Rules) (leaf : List ℕ) (k : ℕ) where
  abbrev read : List ℕ
  read = reverse leaf

  -- ---- a rule that is live and out

  -- a rule that is live has as many symbols as are held
  live_symbols : k < count r → has (live r read) k ≡ true → held r read ≤ size r k
  live_symbols l x =
      elim (dec_lt 0 (held r read)) [
        | yes h ↦ ((stands_iff r read k (held r read)).0 (sym (has-level r read k (held r read) l) ∙ rw (← live-level r read h) x)).symbols
        | no g ↦ omega arith
      ]

  pub both-fits : held r read ≡ length leaf → has (live r read) k ≡ true → has (out r read) k ≡ true → FitsWhole r leaf k
  both-fits h x y =
      let (l, z) = (has-out r read k).0 y in
      let (some, f) = (ends_iff r read k).0 z in
      let q : size r k ≡ length leaf = omega (arith, live_symbols l x, f.bytes, length-reverse leaf) in
      record { rule = l; some = some; whole = q; each = λ i g. rw (whole_at leaf (size r k) i g q) at (f.each i g) }

  -- ---- a rule that fits

  module _ (x : FitsWhole r leaf k) where
    fits_read : Fits r read k (size r k)
    fits_read = record {
      bytes = omega (arith, x.whole, length-reverse leaf);
      symbols = omega arith;
      each = λ i g. rw (whole_at leaf (size r k) i g x.whole) (x.each i g);
    }

    fits-level : has (level r read (size r k)) k ≡ true
    fits-level = has-level r read k (size r k) x.rule ∙ (stands_iff r read k (size r k)).1 fits_read

    level-some : level r read (size r k) ≢ 0
    level-some z = true≢false (sym fits-level ∙ ap (λ s. has s k) z ∙ has-empty k)

    held-size : held r read ≡ size r k
    held-size = omega (arith, le-held r read (size r k) level-some, held-le r read, x.whole, length-reverse leaf)

    pub fits-held : held r read ≡ length leaf
    fits-held = held-size ∙ x.whole

    pub fits-live : has (live r read) k ≡ true
    fits-live = rw (live-level r read (omega (arith, held-size, x.some)), held-size) fits-level

    pub fits_out : has (out r read) k ≡ true
    fits_out = (has-out r read k).1 (x.rule, (ends_iff r read k).1 (x.some, fits_read))
