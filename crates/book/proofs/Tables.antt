-- Laws of tables, of stores and of a list with one element more. Assumes nothing.
use Prim.Native.Nat.{ℕ, zero, suc, ◌+◌, ◌*◌, ◌/◌, ◌%◌, ◌≤◌, ◌<◌}
use mathlib.Core.Path.{◌≡◌, refl, sym, ap, ◌∙◌}
use mathlib.Core.List.{List, [], ◌∷◌, ◌++◌}
use native.Mathlib.Nat.{not-suc-le-zero, le_of_suc-le-suc, add-zero, mul_comm, mul-zero, suc-mul, mul-le-mul_right, div-add-mod', mod-lt}
use lib.Arith.{digits_lt, digits_div, digits_mod}
use native.Mathlib.Omega.{arith}
use lib.ListN.{length, get_or, set, replicate, length-set, length-append, get_or-append, get_or-eq_default}
use lib.Seq.{sets, length-sets, ext_get_or, get_or-set_same, get_or-set_other, get_or-append_seam}
use Rattle.book.specs.Content.{symbol_at, table, padded, sizes}
use Rattle.book.proofs.Cases.{by_lt, by_eq}

pub length_table : {A : Type 0} (n : ℕ) (f : ℕ → A) → length (table n f) ≡ n
unfolding table
length_table zero f = refl
length_table (suc n) f = ap suc (length_table n (λ k. f (suc k)))

pub get_or_table : {A : Type 0} (n : ℕ) (f : ℕ → A) (i : ℕ) (d : A) → i < n → get_or (table n f) i d ≡ f i
unfolding table
get_or_table zero f i d h = absurd (not-suc-le-zero h)
get_or_table (suc n) f zero d h = refl
get_or_table (suc n) f (suc i) d h = get_or_table n (λ k. f (suc k)) i d (le_of_suc-le-suc h)

pub table_constant : (n v : ℕ) (f : ℕ → ℕ) → ((i : ℕ) → f i ≡ v) → replicate n v ≡ table n f
unfolding table
table_constant zero v f h = refl
table_constant (suc n) v f h = λ i. sym (h zero) i ∷ table_constant n v (λ k. f (suc k)) (λ k. h (suc k)) i

-- a list is the table that it agrees with
pub is_table : (n : ℕ) (f : ℕ → ℕ) (l : List ℕ) → length l ≡ n → ((i : ℕ) → i < n → get_or l i 0 ≡ f i) → l ≡ table n f
is_table n f l e h =
    ext_get_or 0 l (table n f) (e ∙ sym (length_table n f))
    (λ i k. h i (omega arith) ∙ sym (get_or_table n f i 0 (omega arith)))

-- a run of stores, outside and inside the run
pub get_or_sets_out : (vs l : List ℕ) (i x : ℕ) → (i ≤ x → i + length vs ≤ x) → get_or (sets l i vs) x 0 ≡ get_or l x 0
get_or_sets_out [] l i x h = refl
get_or_sets_out (a ∷ vs) l i x h =
    get_or_sets_out vs (set l i a) (suc i) x (λ k. omega (arith, h (omega arith)))
    ∙ get_or-set_other l i x a 0 (λ e. omega (arith, h (omega arith)))

pub get_or_sets_in : (vs l : List ℕ) (i j : ℕ) → j < length vs → i + j < length l → get_or (sets l i vs) (i + j) 0 ≡ get_or vs j 0
get_or_sets_in [] l i j h k = absurd (not-suc-le-zero h)
get_or_sets_in (a ∷ vs) l i zero h k =
    rw add-zero (get_or_sets_out vs (set l i a) (suc i) i (λ n. absurd (not_self n)) ∙ get_or-set_same l i a 0 (omega arith))
  where
    not_self : suc i ≤ i → ⊥
    not_self n = omega arith
get_or_sets_in (a ∷ vs) l i (suc j) h k =
    let e : i + suc j ≡ suc i + j = omega arith in
    rw e (get_or_sets_in vs (set l i a) (suc i) j (le_of_suc-le-suc h) (rw length-set (omega arith)))

-- a list with one element more
module _ (rs : List (List ℕ)) (r : List ℕ) where
  pub snoc_here : get_or (rs ++ r ∷ []) (length rs) [] ≡ r
  snoc_here = get_or-append_seam rs r [] []

  pub snoc-other : (q : ℕ) → (q ≡ length rs → ⊥) → get_or (rs ++ r ∷ []) q [] ≡ get_or rs q []
  snoc-other q n =
      by_lt q (length rs)
      (λ h. get_or-append rs (r ∷ []) [] q h)
      (λ h. get_or-eq_default (rs ++ r ∷ []) [] (rw length-append (omega arith)) ∙ sym (get_or-eq_default rs [] h))

  pub length-snoc : length (rs ++ r ∷ []) ≡ length rs + 1
  length-snoc = length-append rs (r ∷ [])

  -- what holds of the new element and of the old ones
  pub at_snoc : (P : List ℕ → Type 0) (q : ℕ) → (q ≡ length rs → P r) → ((q ≡ length rs → ⊥) → P (get_or rs q [])) → P (get_or (rs ++ r ∷ []) q [])
  at_snoc P q f g =
      by_eq q (length rs)
      (λ e. rw (e, snoc_here) (f e))
      (λ n. rw (snoc-other q n) (g n))

-- ---- padded lists

pub get_or-padded : (n w : ℕ) (rs : List (List ℕ)) (k j : ℕ) → k < n → j < w → get_or (padded n w rs) (w * k + j) 0 ≡ symbol_at rs k j
unfolding padded
get_or-padded n w rs k j h i =
    let c : w * k ≡ k * w = mul_comm w k in
    rw c
    (get_or_table (n * w) (λ x. symbol_at rs (x / w) (x % w)) (k * w + j) 0 (digits_lt h i)
    ∙ rw (digits_div k i, digits_mod k i))

pub get_or-sizes : (n : ℕ) (rs : List (List ℕ)) (k : ℕ) → k < n → get_or (sizes n rs) k 0 ≡ length (get_or rs k [])
unfolding sizes
get_or-sizes n rs k h = get_or_table n (λ i. length (get_or rs i [])) k 0 h

-- list k, which was empty, is stored: the lists are the same but at k
module _ (n k : ℕ) (rs ss : List (List ℕ)) (r : List ℕ) (h : k < n) (none : get_or rs k [] ≡ []) (here : get_or ss k [] ≡ r)
    (other : (q : ℕ) → (q ≡ k → ⊥) → get_or ss q [] ≡ get_or rs q []) where
  list_at : (w x : ℕ) → length r ≤ w → x < n * w → get_or (sets (padded n w rs) (w * k) r) x 0 ≡ symbol_at ss (x / w) (x % w)
  unfolding padded
  list_at w x f m =
      let d : x / w * w + x % w ≡ x = div-add-mod' x w in
      let z : x % w < w = mod-lt x (by_eq w 0 (λ e. absurd (let y : x < n * 0 = rw e at m in omega (arith, mul-zero n))) (λ e. omega arith)) in
      let c : w * k ≡ k * w = mul_comm w k in
      by_eq (x / w) k
      (λ q.
      let y : w * k + x % w ≡ x = c' d q c in
      rw (q, here)
      (by_lt (x % w) (length r)
      (λ u. rw y at (get_or_sets_in r old (w * k) (x % w) u (rw (length_table, y) m)))
      (λ u.
      get_or_sets_out r old (w * k) x (λ v. omega arith)
      ∙ get_or_table (n * w) f' x 0 m
      ∙ rw (q, none) (sym (get_or-eq_default r 0 u)))))
      (λ q.
      rw (other (x / w) q)
      (get_or_sets_out r old (w * k) x (λ v.
      by_lt (x / w) k
      (λ u. omega (arith, mul-le-mul_right w u, suc-mul (x / w) w))
      (λ u. omega (arith, mul-le-mul_right {m = suc k} {n = x / w} w (omega arith), suc-mul k w))) ∙ get_or_table (n * w) f' x 0 m))
    where
      f' : ℕ → ℕ
      f' i = symbol_at rs (i / w) (i % w)

      old : List ℕ
      old = table (n * w) f'

      c' : x / w * w + x % w ≡ x → x / w ≡ k → w * k ≡ k * w → w * k + x % w ≡ x
      c' d q c = rw (c, ← q) d

  pub padded-set : (w : ℕ) → length r ≤ w → sets (padded n w rs) (w * k) r ≡ padded n w ss
  unfolding padded
  padded-set w f =
      is_table (n * w) (λ x. symbol_at ss (x / w) (x % w)) (sets (padded n w rs) (w * k) r)
      (length-sets (padded n w rs) (w * k) r ∙ length_table (n * w) (λ x. symbol_at rs (x / w) (x % w)))
      (λ x m. list_at w x f m)

  pub sizes-set : set (sizes n rs) k (length r) ≡ sizes n ss
  unfolding sizes
  sizes-set =
      is_table n (λ i. length (get_or ss i [])) (set (sizes n rs) k (length r))
      (length-set (sizes n rs) k (length r) ∙ length_table n (λ i. length (get_or rs i [])))
      (λ x m.
      by_eq x k
      (λ q. rw (q, here) (get_or-set_same (sizes n rs) k (length r) 0 (rw length_table h)))
      (λ q. rw (other x q) (get_or-set_other (sizes n rs) k x (length r) 0 q ∙ get_or_table n (λ i. length (get_or rs i [])) x 0 m)))
