-- The family of a leaf, and what a profile adds to each family, as computed from the rules alone. Assumes nothing.
use mathlib.Core.Bool.{Bool, true, false, cond, ◌&&◌, and-eq-true_iff, true≢false, false≢true}
use mathlib.Core.List.{List, [], ◌∷◌, map}
use mathlib.Core.Path.{◌≡◌, refl, sym, ap, ◌∙◌}
use Prim.Native.Nat.{ℕ, zero, suc, ◌≤◌, ◌<◌}
use native.Mathlib.Omega.{arith}
use native.Mathlib.Decide.{dec_lt}
use lib.Dec.{ltb, eqb}
use lib.ListN.{length, get_or, get_or-eq_default}
use borrow.Author.Tests.{lt-ltb, ltb-true}
use Rattle.rows.specs.Rows.{ByteText}
use Rattle.sets.specs.Sets.{those}
use Rattle.sets.specs.Sums.{sum_over}
use Rattle.sets.proofs.First.{LowestFrom, first-those}
use Rattle.meaning.specs.Rules.{Rules, count, size, fits}
use Rattle.meaning.specs.Tables.{Five, Tables}
use Rattle.meaning.specs.Occurrences.{FitsWhole}
use Rattle.book.specs.Limits.{most_rules}
use Rattle.lent.specs.Lent.{lent}
use Rattle.lines.specs.Lines.{lines_of}
use Rattle.lines.specs.Profile.{count_in}
use Rattle.lines.proofs.Bytes.{frame_bytes}
use Rattle.leaf.specs.Leaf.{unnamed}
use Rattle.totalled.specs.Adding.{leaf_in, family_over, counts_of}
use Rattle.totalled.specs.Families.{IsFamily}
use Rattle.totalled.proofs.Families.{one_family, is_family, families}

-- ---- a rule that fits a whole leaf

module _ (r : Rules) where
  -- the bytes fit the symbols, one for one
  unfoldable pub fits_all : List ℕ → List ℕ → Bool
  fits_all [] [] = true
  fits_all [] (s ∷ ss) = false
  fits_all (c ∷ cs) [] = false
  fits_all (c ∷ cs) (s ∷ ss) = fits r c s && fits_all cs ss

  -- the same by index
  record OneForOne (cs ss : List ℕ) : Type 0 where
    long : length ss ≡ length cs
    at : (i : ℕ) → i < length ss → fits r (get_or cs i 0) (get_or ss i 0) ≡ true

  all-each : (cs ss : List ℕ) → fits_all cs ss ≡ true → OneForOne cs ss
  unfolding fits_all
  all-each [] [] x = record { long = refl; at = λ i l. absurd (omega arith) }
  all-each [] (s ∷ ss) x = absurd (false≢true x)
  all-each (c ∷ cs) [] x = absurd (false≢true x)
  all-each (c ∷ cs) (s ∷ ss) x =
      let (a, b) = (and-eq-true_iff (fits r c s) (fits_all cs ss)).0 x in
      go a (all-each cs ss b)
    where
      go : fits r c s ≡ true → OneForOne cs ss → OneForOne (c ∷ cs) (s ∷ ss)
      go a e = record { long = ap suc e.long; at = at }
        where
          at : (i : ℕ) → i < suc (length ss) → fits r (get_or (c ∷ cs) i 0) (get_or (s ∷ ss) i 0) ≡ true
          at zero l = a
          at (suc i) l = e.at i (omega arith)

  each_all : (cs ss : List ℕ) → OneForOne cs ss → fits_all cs ss ≡ true
  unfolding fits_all
  each_all [] [] e = refl
  each_all [] (s ∷ ss) e = absurd (omega (arith, e.long))
  each_all (c ∷ cs) [] e = absurd (omega (arith, e.long))
  each_all (c ∷ cs) (s ∷ ss) e =
      (and-eq-true_iff (fits r c s) (fits_all cs ss)).1 (
        e.at 0 (omega arith),
        each_all cs ss (record { long = omega (arith, e.long); at = λ i l. e.at (suc i) (omega arith) }),
      )

  module _ (leaf : List ℕ) where
    -- rule k has symbols, and the leaf fits them
    abbrev pub fits_rule : ℕ → Bool
    fits_rule k = ltb 0 (size r k) && fits_all leaf (get_or r.rules k [])

    rule_fits : (k : ℕ) → fits_rule k ≡ true → FitsWhole r leaf k
    rule_fits k x =
        let (some, e) = (and-eq-true_iff (ltb 0 (size r k)) (fits_all leaf (get_or r.rules k []))).0 x in
        let y = all-each leaf (get_or r.rules k []) e in
        record { rule = below (ltb-true 0 (size r k) some); some = ltb-true 0 (size r k) some; whole = y.long; each = y.at }
      where
        -- there is no symbol past the last rule
        below : 0 < size r k → k < count r
        below some = elim (dec_lt k (count r)) [ yes l ↦ l | no g ↦ absurd (omega (arith, some, ap length (get_or-eq_default r.rules [] {n = k} (omega arith)))) ]

    fits-rule : (k : ℕ) → FitsWhole r leaf k → fits_rule k ≡ true
    fits-rule k x =
        (and-eq-true_iff (ltb 0 (size r k)) (fits_all leaf (get_or r.rules k []))).1 (
          lt-ltb 0 (size r k) x.some,
          each_all leaf (get_or r.rules k []) (record { long = x.whole; at = x.each }),
        )

    -- ---- the family

    -- the first rule that does, or `unnamed`
    unfoldable pub family_in : ℕ
    family_in = get_or (those fits_rule 0 most_rules) 0 unnamed

    first_is : LowestFrom fits_rule 0 most_rules family_in
    unfolding family_in
    first_is = first-those fits_rule 0 most_rules most_rules (omega arith)

    family_in_lem : count r ≤ most_rules → IsFamily r leaf family_in
    family_in_lem few =
        is_family few first_is.within (λ l. rule_fits family_in (first_is.passes l)) (λ k l x. true≢false (sym (fits-rule k x) ∙ first_is.before k (omega arith) l))

-- ---- what a profile adds

-- the place of a line and its count
pub record Filed : Type 0 where
  pub place : ℕ
  pub count : ℕ

-- those of each line
abbrev pub filed : Rules → List ℕ → List Filed
filed r profile = map (λ line. record { place = family_in r (leaf_in line); count = count_in line }) (lines_of profile)

-- what they add to place p
abbrev pub filed_at : ℕ → List Filed → ℕ
filed_at p fs = sum_over (λ (f : Filed). cond (eqb f.place p) f.count 0) fs

sum_filed : (f : List ℕ → ℕ) (g : Filed → ℕ) (h : List ℕ → Filed) (ls : List (List ℕ)) → ((i : ℕ) → i < length ls → f (get_or ls i []) ≡ g (h (get_or ls i [])))
    → sum_over f ls ≡ sum_over g (map h ls)
unfolding sum_over
sum_filed f g h [] e = refl
sum_filed f g h (l ∷ ls) e = rw (e 0 (omega arith), sum_filed f g h ls (λ i m. e (suc i) (omega arith)))

pub counts-filed : {r : Rules} {b : Five} {n : ℕ} → Tables r b n → n ≤ lent b → count r ≤ most_rules → (profile : List ℕ) → ByteText profile → (p : ℕ)
    → counts_of b n p profile ≡ filed_at p (filed r profile)
counts-filed {r} {b} {n} tables lends few profile bytes p = sum_filed _ _ _ (lines_of profile) (λ i l. rw (family_of (leaf_in (get_or (lines_of profile) i [])) (frame_bytes profile bytes i _)))
  where
    family_of : (leaf : List ℕ) → ByteText leaf → family_over b n leaf ≡ family_in r leaf
    family_of leaf t = one_family r leaf (family_over b n leaf) (family_in r leaf) (families r b n tables lends few leaf t) (family_in_lem r leaf few)
