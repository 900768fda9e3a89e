-- Laws of `Lists`: a list of reports grows at its front, a row's reports go before later ones, and no other list has the same pairs. Assumes nothing.
use mathlib.Core.Path.{◌≡◌, refl, sym, ◌∙◌}
use mathlib.Core.Logic.{◌⊎◌, inl, inr, ◌↔◌}
use mathlib.Core.Bool.{Bool, true, false, true≢false}
use mathlib.Core.List.{List, [], ◌∷◌, ◌++◌}
use Prim.Native.Nat.{ℕ, zero, suc, ◌+◌, ◌*◌, ◌≤◌, ◌<◌}
use native.Mathlib.Nat.{zero-add, suc-add}
use native.Mathlib.Omega.{arith}
use lib.ListN.{length, get_or, get_or-append}
use Rattle.rows.proofs.Compare.{less, equal, more, order}
use Rattle.sets.specs.Sets.{has, keep, those, members, reports as pairs}
use Rattle.meaning.specs.Occurrences.{end_at, rule_at, Listed, Earlier, Lists, OneList}

pub lists_iff : {P Q : ℕ → ℕ → Type 0} {list : List ℕ} {m : ℕ} → ((e k : ℕ) → P e k ↔ Q e k) → Lists P list m → Lists Q list m
lists_iff h l = record { listed = λ e k. (λ x. (h e k).0 ((l.listed e k).0 x), λ x. (l.listed e k).1 ((h e k).1 x)); ordered = l.ordered }

pub lists_none : {P : ℕ → ℕ → Type 0} → ((e k : ℕ) → ¬ P e k) → Lists P [] 0
lists_none h = record { listed = λ e k. (λ (i, l, _, _). absurd (omega arith), λ x. absurd (h e k x)); ordered = λ i j l h. absurd (omega arith) }

-- ---- one report in front

module _ (e k : ℕ) (list : List ℕ) where
  end_next : (i : ℕ) → end_at (e ∷ k ∷ list) (suc i) ≡ end_at list i
  end_next i = let q : 2 * suc i ≡ suc (suc (2 * i)) = omega arith in rw q

  rule-next : (i : ℕ) → rule_at (e ∷ k ∷ list) (suc i) ≡ rule_at list i
  rule-next i = let q : 2 * suc i + 1 ≡ suc (suc (2 * i + 1)) = omega arith in rw q

  pub lists_cons : {P : ℕ → ℕ → Type 0} {m : ℕ} → Lists P list m → ((e' k' : ℕ) → P e' k' → Earlier e k e' k')
      → Lists (λ e' k'. ((e ≡ e') × (k ≡ k')) ⊎ P e' k') (e ∷ k ∷ list) (suc m)
  lists_cons {P} {m} l before = record { listed = λ e' k'. (there e' k', back e' k'); ordered = ordered }
    where
      there : (e' k' : ℕ) → Listed (e ∷ k ∷ list) (suc m) e' k' → ((e ≡ e') × (k ≡ k')) ⊎ P e' k'
      there e' k' (zero, h, p, q) = inl (p, q)
      there e' k' (suc i, h, p, q) = inr ((l.listed e' k').0 (i, omega arith, sym (end_next i) ∙ p, sym (rule-next i) ∙ q))

      back : (e' k' : ℕ) → ((e ≡ e') × (k ≡ k')) ⊎ P e' k' → Listed (e ∷ k ∷ list) (suc m) e' k'
      back e' k' (inl (p, q)) = (0, omega arith, p, q)
      back e' k' (inr x) = let (i, h, p, q) = (l.listed e' k').1 x in (suc i, omega arith, end_next i ∙ p, rule-next i ∙ q)

      ordered : (i j : ℕ) → i < j → j < suc m
          → Earlier (end_at (e ∷ k ∷ list) i) (rule_at (e ∷ k ∷ list) i) (end_at (e ∷ k ∷ list) j) (rule_at (e ∷ k ∷ list) j)
      ordered i zero h g = absurd (omega arith)
      ordered zero (suc j) h g = rw (end_next j, rule-next j) (before _ _ ((l.listed _ _).0 (j, omega arith, refl, refl)))
      ordered (suc i) (suc j) h g = rw (end_next i, rule-next i, end_next j, rule-next j) (l.ordered i j (omega arith) (omega arith))

-- ---- the reports of one end, before those of later ends

module _ (p : ℕ → Bool) (e : ℕ) {Q : ℕ → ℕ → Type 0} {list : List ℕ} {m : ℕ} (l : Lists Q list m) (later : (e' k' : ℕ) → Q e' k' → e < e') where
  -- the rules k from i on, c numbers far, with p
  abbrev Or : ℕ → ℕ → ℕ → ℕ → Type 0
  Or i c e' k = ((e ≡ e') × (i ≤ k) × (k < i + c) × (p k ≡ true)) ⊎ Q e' k

  pub lists_those : (i c : ℕ) → Lists (Or i c) (pairs e (those p i c) ++ list) (length (those p i c) + m)
  unfolding those pairs
  lists_those i zero = rw zero-add (lists_iff (λ e' k. (inr, λ x. elim x [ inl (_, h, g, _) ↦ absurd (omega arith) | inr q ↦ q ])) l)
  lists_those i (suc c) = go (p i) refl (lists_those (suc i) c)
    where
      skip : p i ≡ false → (e' k : ℕ) → Or i (suc c) e' k → Or (suc i) c e' k
      skip b e' k (inl (q, h, g, x)) =
          elim (order i k) [
            | less d ↦ inl (q, d, omega arith, x)
            | equal d ↦ absurd (true≢false (sym x ∙ rw (← d) b))
            | more d ↦ absurd (omega arith)
          ]
      skip b e' k (inr q) = inr q

      put : p i ≡ true → (e' k : ℕ) → ((e ≡ e') × (i ≡ k)) ⊎ Or (suc i) c e' k → Or i (suc c) e' k
      put b e' k (inl (q, d)) = inl (q, omega arith, omega arith, rw (← d) b)
      put b e' k (inr (inl (q, h, g, x))) = inl (q, omega arith, omega arith, x)
      put b e' k (inr (inr q)) = inr q

      take_out : (e' k : ℕ) → Or i (suc c) e' k → ((e ≡ e') × (i ≡ k)) ⊎ Or (suc i) c e' k
      take_out e' k (inl (q, h, g, x)) =
          elim (order i k) [
            | less d ↦ inr (inl (q, d, omega arith, x))
            | equal d ↦ inl (q, d)
            | more d ↦ absurd (omega arith)
          ]
      take_out e' k (inr q) = inr (inr q)

      widen : (e' k : ℕ) → Or (suc i) c e' k → Or i (suc c) e' k
      widen e' k (inl (q, h, g, x)) = inl (q, omega arith, omega arith, x)
      widen e' k (inr q) = inr q

      before : (e' k : ℕ) → Or (suc i) c e' k → Earlier e i e' k
      before e' k (inl (q, h, _, _)) = inr (q, h)
      before e' k (inr q) = inl (later e' k q)

      go : (b : Bool) → p i ≡ b → Lists (Or (suc i) c) (pairs e (those p (suc i) c) ++ list) (length (those p (suc i) c) + m)
          → Lists (Or i (suc c)) (pairs e (keep b i (those p (suc i) c)) ++ list) (length (keep b i (those p (suc i) c)) + m)
      go true b r = rw suc-add (lists_iff (λ e' k. (put b e' k, take_out e' k)) (lists_cons e i _ r before))
      go false b r = lists_iff (λ e' k. (widen e' k, skip b e' k)) r

-- of a set of rules
pub lists_members : (n s e : ℕ) {Q : ℕ → ℕ → Type 0} {list : List ℕ} {m : ℕ} → Lists Q list m → ((e' k : ℕ) → Q e' k → e < e')
    → Lists (λ e' k. ((e ≡ e') × (k < n) × (has s k ≡ true)) ⊎ Q e' k) (pairs e (members n s) ++ list) (length (members n s) + m)
unfolding members
lists_members n s e l later =
    lists_iff (λ e' k. (
      λ x. elim x [ inl (q, _, h, g) ↦ inl (q, omega arith, g) | inr y ↦ inr y ],
      λ x. elim x [ inl (q, h, g) ↦ inl (q, omega arith, omega arith, g) | inr y ↦ inr y ],
    )) (lists_those (has s) e l later 0 n)

-- ---- what stands after the reports does not matter

pub lists_append : {P : ℕ → ℕ → Type 0} {list : List ℕ} {m : ℕ} (rest : List ℕ) → 2 * m ≤ length list → Lists P list m → Lists P (list ++ rest) m
lists_append {P} {list} {m} rest h l = record {
  listed = λ e k. (
    λ (i, g, p, q). (l.listed e k).0 (i, g, sym (at (2 * i) (omega arith)) ∙ p, sym (at (2 * i + 1) (omega arith)) ∙ q),
    λ x. let (i, g, p, q) = (l.listed e k).1 x in (i, g, at (2 * i) (omega arith) ∙ p, at (2 * i + 1) (omega arith) ∙ q),
  );
  ordered = λ i j g f.
      rw (at (2 * i) (omega arith), at (2 * i + 1) (omega arith), at (2 * j) (omega arith), at (2 * j + 1) (omega arith)) (l.ordered i j g f);
}
  where
    at : (i : ℕ) → i < length list → get_or (list ++ rest) i 0 ≡ get_or list i 0
    at i g = get_or-append list rest 0 i g

-- ---- no two lists have the same pairs

earlier_trans : {a b c d e f : ℕ} → Earlier a b c d → Earlier c d e f → Earlier a b e f
earlier_trans (inl h) (inl g) = inl (omega arith)
earlier_trans (inl h) (inr (q, g)) = inl (omega arith)
earlier_trans (inr (p, h)) (inl g) = inl (omega arith)
earlier_trans (inr (p, h)) (inr (q, g)) = inr (omega arith, omega arith)

earlier-apart : {a b c d : ℕ} → Earlier a b c d → a ≡ c → b ≡ d → ⊥
earlier-apart (inl h) p q = omega arith
earlier-apart (inr (_, h)) p q = omega arith

-- report i of one list is report j of the other
abbrev SameAt : List ℕ → List ℕ → ℕ → ℕ → Type 0
SameAt xs ys i j = (end_at xs i ≡ end_at ys j) × (rule_at xs i ≡ rule_at ys j)

module _ {P : ℕ → ℕ → Type 0} {xs ys : List ℕ} {m n : ℕ} (a : Lists P xs m) (b : Lists P ys n) where
  found : (i : ℕ) → i < m → (j : ℕ) × (j < n) × SameAt xs ys i j
  found i h = let (j, g, p, q) = (b.listed _ _).1 ((a.listed _ _).0 (i, h, refl, refl)) in (j, g, (sym p, sym q))

  -- where the reports before i agree, it is found no earlier than at i
  not-before : (i j : ℕ) → i < m → j < i → SameAt xs ys j j → SameAt xs ys i j → ⊥
  not-before i j h l (p, q) (p', q') = earlier-apart (a.ordered j i l h) (p ∙ sym p') (q ∙ sym q')

module _ {P : ℕ → ℕ → Type 0} {xs ys : List ℕ} {m n : ℕ} (a : Lists P xs m) (b : Lists P ys n) where
  same_next : (i : ℕ) → i < m → ((j : ℕ) → j < i → SameAt xs ys j j) → (i < n) × SameAt xs ys i i
  same_next i h ih =
      let (j, g, s) = found a b i h in
      elim (order j i) [
        | less d ↦ absurd (not-before a b i j h d (ih j d) s)
        | equal d ↦ (rw d at g, rw d at s)
        | more d ↦
            let (l, f, t) = found b a i (omega arith) in
            elim (order l i) [
              | less c ↦ let (p, q) = ih l c in absurd (not-before b a i l (omega arith) c (sym p, sym q) t)
              | equal c ↦ absurd (earlier-apart (b.ordered i j d g) (t.0 ∙ rw c s.0) (t.1 ∙ rw c s.1))
              | more c ↦
                  absurd (earlier-apart (earlier_trans (b.ordered i j d g) (rw (s.0, s.1) at (a.ordered i l c f))) t.0 t.1)
            ]
      ]

  lists_same : (i : ℕ) → i ≤ m → (i ≤ n) × ((j : ℕ) → j < i → SameAt xs ys j j)
  lists_same zero h = (omega arith, λ j l. absurd (omega arith))
  lists_same (suc i) h =
      let (_, ih) = lists_same i (omega arith) in
      let (g, s) = same_next i h ih in
      (g, λ j l. elim (order j i) [ less d ↦ ih j d | equal d ↦ rw d s | more d ↦ absurd (omega arith) ])

pub lists_one : {P : ℕ → ℕ → Type 0} {xs ys : List ℕ} {m n : ℕ} → Lists P xs m → Lists P ys n
    → (m ≡ n) × ((i : ℕ) → i < m → (end_at xs i ≡ end_at ys i) × (rule_at xs i ≡ rule_at ys i))
lists_one {m} {n} a b =
    let (l, same) = lists_same a b m (omega arith) in
    let (g, _) = lists_same b a n (omega arith) in
    (omega arith, same)

pub one_list : OneList
one_list r text xs ys m n a b = lists_one a b
