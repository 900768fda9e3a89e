-- The occurrences of rules in a text, as a computed list: byte by byte, the rules that end there. The text that is read is kept latest byte first.
-- Assumes nothing.
use mathlib.Core.List.{List, [], ◌∷◌, ◌++◌, reverse, reverse_aux}
use mathlib.Core.Logic.{◌⊎◌, inl, inr, ◌↔◌}
use mathlib.Core.Bool.{true, and-eq-true_iff}
use mathlib.Core.Path.{◌≡◌, refl, sym, ◌∙◌}
use Prim.Native.Nat.{ℕ, suc, ◌+◌, ◌-◌, ◌*◌, ◌≤◌, ◌<◌}
use native.Mathlib.Nat.{zero-add, sub-zero}
use native.Mathlib.Omega.{arith}
use native.Mathlib.Decide.{dec_lt}
use lib.Dec.{ltb}
use lib.ListN.{length, get_or, take, length-append, length-reverse}
use lib.Seq.{get_or-take, length-take-le}
use borrow.Author.Tests.{lt-ltb, ltb-true}
use Rattle.rows.proofs.Compare.{less, equal, more, order}
use Rattle.sets.specs.Sets.{has, members, reports as pairs}
use Rattle.sets.proofs.Laws.{has-set_where}
use Rattle.sets.proofs.Members.{reports-length}
use Rattle.meaning.specs.Rules.{Rules, count, size, stands, Fits}
use Rattle.meaning.specs.Standing.{ends, out}
use Rattle.meaning.proofs.Fitting.{stands_iff}
use Rattle.meaning.specs.Occurrences.{Occurs, Lists}
use Rattle.meaning.proofs.Lists.{lists_iff, lists_none, lists_members}

-- the rules are at most n; after t, `at` bytes, the text is still to be read
unfoldable pub occurrences_from : ℕ → Rules → ℕ → List ℕ → List ℕ → List ℕ
occurrences_from n r at t [] = []
occurrences_from n r at t (c ∷ text) = pairs (at + 1) (members n (out r (c ∷ t))) ++ occurrences_from n r (at + 1) (c ∷ t) text

abbrev pub occurrences : ℕ → Rules → List ℕ → List ℕ
occurrences n r text = occurrences_from n r 0 [] text

-- ---- the pairs to come

pub record Ending (r : Rules) (at : ℕ) (t text : List ℕ) (e k : ℕ) : Type 0 where
  pub past : at < e
  pub within : e ≤ at + length text
  pub rule : k < count r
  pub here : ends r (reverse_aux (take (e - at) text) t) k ≡ true

pub has-out : (r : Rules) (t : List ℕ) (k : ℕ) → (has (out r t) k ≡ true) ↔ (k < count r) × (ends r t k ≡ true)
unfolding out
has-out r t k =
    let b = and-eq-true_iff (ltb k (count r)) (ends r t k) in (
      λ h. let (l, x) = b.0 (sym (has-set_where (count r) k (ends r t)) ∙ h) in (ltb-true k (count r) l, x),
      λ (l, x). has-set_where (count r) k (ends r t) ∙ b.1 (lt-ltb k (count r) l, x),
    )

-- a rule ends where all of its symbols fit
pub ends_iff : (r : Rules) (t : List ℕ) (k : ℕ) → (ends r t k ≡ true) ↔ (1 ≤ size r k) × Fits r t k (size r k)
unfolding ends
ends_iff r t k =
    let b = and-eq-true_iff (ltb 0 (size r k)) (stands r t k (size r k)) in
    let s = stands_iff r t k (size r k) in (
      λ h. let (some, x) = b.0 h in (ltb-true 0 (size r k) some, s.0 x),
      λ (some, f). b.1 (lt-ltb 0 (size r k) some, s.1 f),
    )

-- those of one byte, and those of the rest
abbrev pub Next : ℕ → Rules → ℕ → ℕ → List ℕ → List ℕ → ℕ → ℕ → Type 0
Next n r at c t text e k = ((at + 1 ≡ e) × (k < n) × (has (out r (c ∷ t)) k ≡ true)) ⊎ Ending r (at + 1) (c ∷ t) text e k

pub ending-cons : {n : ℕ} (r : Rules) → count r ≤ n → (at c : ℕ) (t text : List ℕ) (e k : ℕ) → Next n r at c t text e k ↔ Ending r at t (c ∷ text) e k
ending-cons {n} r few at c t text e k = (join, split)
  where
    join : Next n r at c t text e k → Ending r at t (c ∷ text) e k
    join (inl (q, _, h)) =
        let (l, x) = (has-out r (c ∷ t) k).0 h in
        let d : e - at ≡ 1 = omega arith in
        record { past = omega arith; within = omega arith; rule = l; here = rw d x }
    join (inr x) =
        let d : e - at ≡ suc (e - (at + 1)) = omega arith in
        record { past = omega arith; within = omega arith; rule = x.rule; here = rw d x.here }

    split : Ending r at t (c ∷ text) e k → Next n r at c t text e k
    split x =
        elim (order (at + 1) e) [
          | less l ↦
              let d : e - at ≡ suc (e - (at + 1)) = omega arith in
              inr (record { past = l; within = omega arith; rule = x.rule; here = rw d at x.here })
          | equal q ↦
              let d : e - at ≡ 1 = omega arith in
              inl (q, omega arith, (has-out r (c ∷ t) k).1 (x.rule, rw d at x.here))
          | more l ↦ absurd (omega arith)
        ]

-- ---- the list is theirs

-- all of a list are the pairs with P
pub record All (P : ℕ → ℕ → Type 0) (list : List ℕ) : Type 0 where
  pub m : ℕ
  pub long : length list ≡ 2 * m
  pub lists : Lists P list m

all_from : {n : ℕ} (r : Rules) → count r ≤ n → (text : List ℕ) (at : ℕ) (t : List ℕ) → All (Ending r at t text) (occurrences_from n r at t text)
unfolding occurrences_from
all_from r few [] at t = record { m = 0; long = refl; lists = lists_none (λ e k y. omega (arith, y.past, y.within)) }
all_from {n} r few (c ∷ text) at t =
    let rest = all_from r few text (at + 1) (c ∷ t) in
    let ks = members n (out r (c ∷ t)) in
    record {
      m = length ks + rest.m;
      long = simp (length-append, reports-length) (omega (arith, rest.long));
      lists = lists_iff (ending-cons r few at c t text) (lists_members n (out r (c ∷ t)) (at + 1) rest.lists (λ e k z. z.past));
    }

-- ---- an occurrence, in reading order and latest byte first

under-reverse : (u t : List ℕ) (j : ℕ) → get_or (reverse_aux u t) (length u + j) 0 ≡ get_or t j 0
under-reverse [] t j = rw zero-add
under-reverse (c ∷ u) t j = let q : suc (length u) + j ≡ length u + suc j = omega arith in rw q (under-reverse u (c ∷ t) (suc j))

get_or-reverse : (u t : List ℕ) (j : ℕ) → j < length u → get_or (reverse_aux u t) j 0 ≡ get_or u (length u - suc j) 0
get_or-reverse [] t j h = absurd (omega arith)
get_or-reverse (c ∷ u) t j h =
    elim (dec_lt j (length u)) [
      | yes l ↦ let q : suc (length u) - suc j ≡ suc (length u - suc j) = omega arith in rw q (get_or-reverse u (c ∷ t) j l)
      | no g ↦
          let q : suc (length u) - suc j ≡ 0 = omega arith in
          let z : j ≡ length u + 0 = omega arith in
          rw (q, z) (under-reverse u (c ∷ t) 0)
    ]

-- byte i of the last j
pub reverse_at : (text : List ℕ) (j i : ℕ) → i < j → j ≤ length text → get_or (reverse text) (j - suc i) 0 ≡ get_or text (length text - j + i) 0
reverse_at text j i l h =
    let q : length text - suc (j - suc i) ≡ length text - j + i = omega arith in
    get_or-reverse text [] (j - suc i) (omega arith) ∙ rw q

module _ (r : Rules) (text : List ℕ) (e k : ℕ) (h : e ≤ length text) where
  -- the first e bytes, the latest first
  abbrev back : List ℕ
  back = reverse (take e text)

  back-length : length back ≡ e
  back-length = length-reverse (take e text) ∙ length-take-le e text h

  back_at : (i : ℕ) → i < size r k → size r k ≤ e → get_or back (size r k - suc i) 0 ≡ get_or text (e - size r k + i) 0
  back_at i l s =
      let n : length (take e text) ≡ e = length-take-le e text h in
      reverse_at (take e text) (size r k) i l (omega arith) ∙ rw n (get_or-take e text (e - size r k + i) 0 (omega arith))

  occurs_ends : Occurs r text e k → ends r back k ≡ true
  occurs_ends x =
      (ends_iff r back k).1 (
        x.some,
        record { bytes = omega (arith, back-length, x.starts); symbols = omega arith; each = λ i l. rw (back_at i l x.starts) (x.each i l) },
      )

  ends_occurs : k < count r → ends r back k ≡ true → Occurs r text e k
  ends_occurs l x =
      let (some, f) = (ends_iff r back k).0 x in
      let s : size r k ≤ e = omega (arith, back-length, f.bytes) in
      record { rule = l; some = some; starts = s; ends = h; each = λ i l. rw (back_at i l s) at (f.each i l) }

pub ending_occurs : (r : Rules) (text : List ℕ) (e k : ℕ) → Ending r 0 [] text e k ↔ Occurs r text e k
ending_occurs r text e k = (
  λ x. let h : e ≤ length text = omega (arith, x.within) in ends_occurs r text e k h x.rule (rw sub-zero at x.here),
  λ x. record { past = omega (arith, x.some, x.starts); within = omega (arith, x.ends); rule = x.rule; here = rw sub-zero (occurs_ends r text e k x.ends x) },
)

pub all-occurrences : {n : ℕ} (r : Rules) → count r ≤ n → (text : List ℕ) → All (Occurs r text) (occurrences n r text)
all-occurrences r few text =
    let x = all_from r few text 0 [] in
    record { m = x.m; long = x.long; lists = lists_iff (ending_occurs r text) x.lists }
