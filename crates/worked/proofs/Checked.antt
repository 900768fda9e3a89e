-- The rows of a book that is written out, and their numbers, by one computed test: the texts ascend, their standings differ, each byte leads from each of
-- them to the standing of one that does not come after it, and each number is the one that its text has. Assumes nothing.
use mathlib.Core.Path.{◌≡◌, refl, sym, ap₂}
use mathlib.Core.Logic.{◌⊎◌, inl, inr}
use mathlib.Core.Bool.{Bool, true, false, ◌&&◌, ◌||◌, not, cond}
use mathlib.Core.List.{List, [], ◌∷◌}
use Prim.Native.Nat.{ℕ, suc, ◌≤◌, ◌<◌, max}
use native.Mathlib.Omega.{arith}
use native.Mathlib.Decide.{dec_lt}
use lib.Dec.{T, T_not, ltb, eqb, ltb→lt, eqb→eq}
use lib.Ieee.Fits.{and_l, and_r}
use lib.ListN.{length, get_or, get_or-eq_default}
use Rattle.rows.specs.Rows.{ByteText, Before, none, earlier, last, IsRow, IsRows}
use Rattle.rows.proofs.Compare.{less, equal, more, order}
use Rattle.rows.proofs.Order.{before_irrefl, before_trans}
use Rattle.meaning.specs.Rules.{Rules}
use Rattle.meaning.specs.Standing.{level, Same, held, live, out}
use Rattle.meaning.specs.Tables.{IsFall}
use Rattle.worked.specs.Books.{Written, Right}
use Rattle.meaning.proofs.Levels.{level-over, same_refl, same_sym, same_trans, same-cons}
use Rattle.meaning.proofs.Tested.{below, below_at, alike, alike_same, same_alike}

or_cases : (a b : Bool) → T (a || b) → T a ⊎ T b
or_cases true b x = inl tt
or_cases false b x = inr x

-- ---- texts in order

unfoldable pub same_text : List ℕ → List ℕ → Bool
same_text [] [] = true
same_text [] (d ∷ u) = false
same_text (c ∷ t) [] = false
same_text (c ∷ t) (d ∷ u) = eqb c d && same_text t u

same_text_lem : (t u : List ℕ) → T (same_text t u) → t ≡ u
unfolding same_text
same_text_lem [] [] x = refl
same_text_lem [] (d ∷ u) x = absurd x
same_text_lem (c ∷ t) [] x = absurd x
same_text_lem (c ∷ t) (d ∷ u) x =
    ap₂ (λ (h : ℕ) (l : List ℕ). h ∷ l) (eqb→eq c d (and_l (eqb c d) (same_text t u) x)) (same_text_lem t u (and_r (eqb c d) (same_text t u) x))

unfoldable pub is_before : List ℕ → List ℕ → Bool
is_before [] [] = false
is_before [] (d ∷ u) = true
is_before (c ∷ t) [] = false
is_before (c ∷ t) (d ∷ u) = is_before t u || (same_text t u && ltb c d)

is_before_lem : (t u : List ℕ) → T (is_before t u) → Before t u
unfolding is_before
is_before_lem [] [] x = absurd x
is_before_lem [] (d ∷ u) x = none
is_before_lem (c ∷ t) [] x = absurd x
is_before_lem (c ∷ t) (d ∷ u) x =
    elim (or_cases (is_before t u) (same_text t u && ltb c d) x) [
      | inl y ↦ earlier (is_before_lem t u y)
      | inr y ↦
          let e = same_text_lem t u (and_l (same_text t u) (ltb c d) y) in
          rw (← e) (last (ltb→lt c d (and_r (same_text t u) (ltb c d) y)))
    ]

abbrev NotAfter : List ℕ → List ℕ → Type 0
NotAfter t u = (t ≡ u) ⊎ Before t u

after_cons : (c : ℕ) {t u v : List ℕ} → NotAfter t u → NotAfter v (c ∷ t) → NotAfter v (c ∷ u)
after_cons c {t} {u} {v} (inl p) q = rw p at q
after_cons c {t} {u} {v} (inr p) (inl q) = inr (rw q (earlier p))
after_cons c {t} {u} {v} (inr p) (inr q) = inr (before_trans q (earlier p))

-- ---- the test

unfoldable pub any_of : (List ℕ → Bool) → List (List ℕ) → Bool
any_of f [] = false
any_of f (t ∷ ts) = let rest = any_of f ts in f t || rest

any_at : (f : List ℕ → Bool) (ts : List (List ℕ)) → T (any_of f ts) → (e : ℕ) × (e < length ts) × T (f (get_or ts e []))
unfolding any_of
any_at f [] x = absurd x
any_at f (t ∷ ts) x =
    elim (or_cases (f t) (any_of f ts) x) [
      | inl y ↦ (0, omega arith, y)
      | inr y ↦ let (e, l, z) = any_at f ts y in (suc e, omega arith, z)
    ]

-- more than the bytes of any text
unfoldable pub bound : List (List ℕ) → ℕ
bound [] = 1
bound (t ∷ ts) = max (suc (length t)) (bound ts)

module _ (w : Written) where
  abbrev r : Rules
  r = w.book

  abbrev ts : List (List ℕ)
  ts = w.rows

  abbrev m : ℕ
  m = bound w.rows

  abbrev at : ℕ → List ℕ
  at i = get_or w.rows i []

  abbrev is_text : List ℕ → Bool
  is_text t = ltb (length t) m && below (length t) (λ i. ltb (get_or t i 0) 256)

  abbrev apart : List ℕ → List ℕ → Bool
  apart t u = is_before t u && not (alike r m t u)

  -- the row of u is that of t, and u does not come after t
  abbrev reaches : List ℕ → List ℕ → Bool
  reaches t u = alike r m t u && (same_text u t || is_before u t)

  abbrev is_closed : ℕ → ℕ → Bool
  is_closed i c = any_of (reaches (c ∷ at i)) ts

  abbrev lower : List ℕ → ℕ → ℕ
  lower t j = cond (eqb (suc j) (held r t)) 0 (level r t (suc j))

  abbrev is_fall : List ℕ → ℕ → Bool
  is_fall t v = ltb v (length ts) && below m (λ j. eqb (level r (at v) (suc j)) (lower t j))

  pub record Passes : Type 0 where
    pub root : at 0 ≡ []
    pub some : T (ltb 0 (length ts))
    pub texts : T (below (length ts) (λ i. is_text (at i)))
    pub differ : T (below (length ts) (λ j. below j (λ i. apart (at i) (at j))))
    pub closed : T (below (length ts) (λ i. below 256 (is_closed i)))
    pub falls : T (below (length ts) (λ i. is_fall (at i) (get_or w.fall i 0)))
    pub helds : T (below (length ts) (λ i. eqb (get_or w.held i 0) (held r (at i))))
    pub lives : T (below (length ts) (λ i. eqb (get_or w.live i 0) (live r (at i))))
    pub outs : T (below (length ts) (λ i. eqb (get_or w.out i 0) (out r (at i))))

  module _ (x : Passes) where
    short : (i : ℕ) → i < length ts → length (at i) < m
    short i l =
        ltb→lt (length (at i)) m
        (and_l (ltb (length (at i)) m) (below (length (at i)) (λ k. ltb (get_or (at i) k 0) 256)) (below_at (length ts) (λ i. is_text (at i)) x.texts i l))

    bytes : (i : ℕ) → i < length ts → ByteText (at i)
    bytes i l k =
        let each = and_r (ltb (length (at i)) m) (below (length (at i)) (λ k. ltb (get_or (at i) k 0) 256)) (below_at (length ts) (λ i. is_text (at i)) x.texts i l) in
        elim (dec_lt k (length (at i))) [
          | yes h ↦ ltb→lt (get_or (at i) k 0) 256 (below_at (length (at i)) (λ k. ltb (get_or (at i) k 0) 256) each k h)
          | no g ↦ rw (get_or-eq_default (at i) 0 {n = k} (omega arith)) (omega arith)
        ]

    differs : (i j : ℕ) → i < j → j < length ts → Before (at i) (at j) × (¬ Same r (at i) (at j))
    differs i j l h =
        let y = below_at j (λ i. apart (at i) (at j)) (below_at (length ts) (λ j. below j (λ i. apart (at i) (at j))) x.differ j h) i l in
        let same = alike r m (at i) (at j) in
        (is_before_lem (at i) (at j) (and_l (is_before (at i) (at j)) (not same) y), λ s. T_not same (and_r (is_before (at i) (at j)) (not same) y) (same_alike m s))

    leads : (i c : ℕ) → i < length ts → c < 256 → (e : ℕ) × IsRow (Same r) ts (c ∷ at i) e × NotAfter (at e) (c ∷ at i)
    leads i c l h =
        let t = c ∷ at i in
        let y = below_at 256 (is_closed i) (below_at (length ts) (λ i. below 256 (is_closed i)) x.closed i l) c h in
        let (e, k, z) = any_at (reaches t) ts y in
        let same = alike r m t (at e) in
        let late = same_text (at e) t || is_before (at e) t in (
          e,
          record { below = k; same = alike_same (short i l) (omega (arith, short e k)) (and_l same late z) },
          elim (or_cases (same_text (at e) t) (is_before (at e) t) (and_r same late z)) [ inl q ↦ inl (same_text_lem (at e) t q) | inr q ↦ inr (is_before_lem (at e) t q) ],
        )

    reach : (u : List ℕ) → ByteText u → (e : ℕ) × IsRow (Same r) ts u e × NotAfter (at e) u
    reach [] b = (0, record { below = ltb→lt 0 (length ts) x.some; same = rw x.root (same_refl r []) }, inl x.root)
    reach (c ∷ u) b =
        let (i, p, o) = reach u (λ k. b (suc k)) in
        let (e, q, o') = leads i c p.below (b 0) in
        (e, record { below = q.below; same = same_trans (same-cons c p.same) q.same }, after_cons c o o')

    one : (i j : ℕ) → i < length ts → j < length ts → Same r (at i) (at j) → i ≡ j
    one i j l h s =
        elim (order i j) [
          | less d ↦ absurd ((differs i j d h).1 s)
          | equal d ↦ d
          | more d ↦ absurd ((differs j i d l).1 (same_sym s))
        ]

    are_rows : IsRows (Same r) ts
    are_rows = record {
      ascending = record {
        bytes = bytes;
        ordered = λ i j l h. (differs i j l h).0;
        least = λ i l {u} b s y.
            let (e, p, o) = reach u b in
            let z : e ≡ i = one e i p.below l (same_trans (same_sym p.same) s) in
            elim (rw z at o) [ inl q ↦ before_irrefl (rw q at y) | inr q ↦ before_irrefl (before_trans q y) ];
      };
      complete = λ u b. let (e, p, o) = reach u b in (e, p);
    }

    fall : (i : ℕ) → i < length ts → IsFall r ts (at i) (get_or w.fall i 0)
    fall i l =
        let v = get_or w.fall i 0 in
        let y = below_at (length ts) (λ i. is_fall (at i) (get_or w.fall i 0)) x.falls i l in
        let levels = below m (λ j. eqb (level r (at v) (suc j)) (lower (at i) j)) in
        let b = ltb→lt v (length ts) (and_l (ltb v (length ts)) levels y) in
        record { below = b; shorter = record { at = λ j. go j v b (and_r (ltb v (length ts)) levels y) } }
      where
        none : (b : Bool) → ◌≡◌ {A = ℕ} (cond b 0 0) 0
        none true = refl
        none false = refl

        -- past the bytes of both texts there is nothing
        over : (j v : ℕ) → v < length ts → m ≤ j → level r (at v) (suc j) ≡ lower (at i) j
        over j v b d = rw (level-over r (at v) (suc j) (omega (arith, short v b)), level-over r (at i) (suc j) (omega (arith, short i l))) (sym (none (eqb (suc j) (held r (at i)))))

        go : (j v : ℕ) → v < length ts → T (below m (λ j. eqb (level r (at v) (suc j)) (lower (at i) j))) → level r (at v) (suc j) ≡ lower (at i) j
        go j v b y =
            elim (dec_lt j m) [ yes d ↦ eqb→eq _ _ (below_at m (λ j. eqb (level r (at v) (suc j)) (lower (at i) j)) y j d) | no g ↦ over j v b (omega arith) ]

    number : (xs : List ℕ) (f : List ℕ → ℕ) → T (below (length ts) (λ i. eqb (get_or xs i 0) (f (at i)))) → (i : ℕ) → i < length ts → get_or xs i 0 ≡ f (at i)
    number xs f y i l = eqb→eq _ _ (below_at (length ts) (λ i. eqb (get_or xs i 0) (f (at i))) y i l)

    pub right : Right w
    right = record {
      rows = are_rows;
      numbers =
          record { fall_is = fall; held_is = number w.held (held r) x.helds; live_is = number w.live (live r) x.lives; out_is = number w.out (out r) x.outs };
    }
