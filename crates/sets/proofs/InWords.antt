-- Laws of a set in words (`set_of` of `specs/Sets.antt`), for any number of them. Assumes nothing.
use mathlib.Core.Path.{◌≡◌, refl, sym, ap, ap₂, ◌∙◌}
use mathlib.Core.Bool.{Bool, false, ◌||◌}
use mathlib.Core.List.{List, [], ◌∷◌, ◌++◌, map, map-append, map-map, map-id}
use Prim.Native.Nat.{ℕ, zero, suc, ◌+◌, ◌-◌, ◌*◌, ◌/◌, ◌%◌, ◌^◌, ◌≤◌, ◌<◌, min}
use native.Mathlib.Nat.{zero-add, add-zero, add_assoc, le_of_suc-le-suc}
use native.Mathlib.Decide.{dec_lt}
use native.Mathlib.Numerals.{one-add, add-one}
use native.Mathlib.Omega.{arith}
use lib.Dec.{eqb}
use lib.Pow.{pow_pos, pow_mono, high, shr-shr}
use lib.Bits.{bit_or, block_half, block_odd, or_lt, or_zero_r}
use lib.ListN.{length, get_or, drop, length-append, length-map, get_or-eq_default}
use lib.Seq.{get_or-drop, drop-cons}
use borrow.Author.Tests.{eq-eqb, ne_eqb}
use Rattle.sets.specs.Sets.{has, set_where, those, members, set_of, plus_each, word_where, united, members_of}
use Rattle.sets.proofs.Laws.{has-zero, has-suc, has-empty, has_above, has_in, has_or, set_where-lt, same}
use Rattle.sets.proofs.Members.{those-ext, those_shift, those-append}

-- ---- a number above j bits

has-low : (j a r k : ℕ) → k < j → has (a * 2 ^ j + r) k ≡ has r k
has-low zero a r k h = absurd (omega arith)
has-low (suc j) a r zero h = has-zero (a * 2 ^ suc j + r) ∙ rw (block_odd a j r) (sym (has-zero r))
has-low (suc j) a r (suc k) h =
    has-suc (a * 2 ^ suc j + r) k ∙ rw (block_half a j r) (has-low j a (r / 2) k (le_of_suc-le-suc h)) ∙ sym (has-suc r k)

has_high : (j a r k : ℕ) → r < 2 ^ j → has (a * 2 ^ j + r) (j + k) ≡ has a k
unfolding has
has_high j a r k h = rw (← shr-shr (a * 2 ^ j + r) j k, high a j h)

members_cat : (j n a r : ℕ) → r < 2 ^ j → members (j + n) (a * 2 ^ j + r) ≡ members j r ++ map (λ k. j + k) (members n a)
unfolding members
members_cat j n a r h =
    let s = a * 2 ^ j + r in
    those-append (has s) 0 j n
    ∙ ap₂ ◌++◌ (those-ext (has s) (has r) 0 j (λ k g l. has-low j a r k (omega arith)))
    (ap (λ i. those (has s) i n) (zero-add j ∙ sym (add-zero j)) ∙ those_shift (has s) j 0 n
    ∙ ap (map (λ k. j + k)) (those-ext (λ k. has s (j + k)) (has a) 0 n (λ k g l. has_high j a r k h)))

-- ---- words

-- each is a word of 64 bits
abbrev pub Words : List ℕ → Type 0
Words ws = (i : ℕ) → get_or ws i 0 < 2 ^ 64

pub has_at : (ws : List ℕ) → Words ws → (i k : ℕ) → k < 64 → has (set_of ws) (64 * i + k) ≡ has (get_or ws i 0) k
unfolding set_of
has_at [] f i k h = has-empty (64 * i + k) ∙ sym (has-empty k)
has_at (w ∷ ws) f zero k h = rw zero-add (has-low 64 (set_of ws) w k h)
has_at (w ∷ ws) f (suc i) k h =
    let e : 64 * suc i + k ≡ 64 + (64 * i + k) = omega arith in
    rw e (has_high 64 (set_of ws) w (64 * i + k) (f 0)) ∙ has_at ws (λ j. f (suc j)) i k h

pub has-set_of : (ws : List ℕ) → Words ws → (k : ℕ) → has (set_of ws) k ≡ has (get_or ws (k / 64) 0) (k % 64)
has-set_of ws f k =
    let e : k ≡ 64 * (k / 64) + k % 64 = omega arith in
    ap (has (set_of ws)) e ∙ has_at ws f (k / 64) (k % 64) (omega arith)

-- united word by word
pub set_of_or : (us vs ws : List ℕ) → Words us → Words vs → ((i : ℕ) → get_or ws i 0 ≡ bit_or (get_or us i 0) (get_or vs i 0)) → set_of ws ≡ bit_or (set_of us) (set_of vs)
set_of_or us vs ws f g e =
    let h : Words ws = λ i. rw (e i) (or_lt 64 (get_or us i 0) (get_or vs i 0) (f i) (g i)) in
    same (set_of ws) (bit_or (set_of us) (set_of vs))
    (λ k. has-set_of ws h k ∙ ap (λ w. has w (k % 64)) (e (k / 64)) ∙ has_or (get_or us (k / 64) 0) (get_or vs (k / 64) 0) (k % 64)
    ∙ sym (has_or (set_of us) (set_of vs) k ∙ ap₂ ◌||◌ (has-set_of us f k) (has-set_of vs g k)))

-- the members, word by word
members_of-cons : (w : ℕ) (ws : List ℕ) → w < 2 ^ 64 → members_of (w ∷ ws) ≡ members 64 w ++ map (λ k. 64 + k) (members_of ws)
unfolding members_of set_of
members_of-cons w ws h =
    let e : 64 * suc (length ws) ≡ 64 + 64 * length ws = omega arith in
    rw e (members_cat 64 (64 * length ws) (set_of ws) w h)

-- as many as in each word
count-cons : (w : ℕ) (ws : List ℕ) → w < 2 ^ 64 → length (members_of (w ∷ ws)) ≡ length (members 64 w) + length (members_of ws)
count-cons w ws h = simp (length-append, length-map) at (ap length (members_of-cons w ws h))

pub length-united : (us vs : List ℕ) → length (united us vs) ≡ length us
unfolding united
length-united [] vs = refl
length-united (u ∷ us) vs = ap suc (length-united us (drop 1 vs))

pub word_united : (us vs : List ℕ) (i : ℕ) → i < length us → get_or (united us vs) i 0 ≡ bit_or (get_or us i 0) (get_or vs i 0)
unfolding united
word_united [] vs i h = absurd (omega arith)
word_united (u ∷ us) vs zero h = refl
word_united (u ∷ us) vs (suc i) h = word_united us (drop 1 vs) i (le_of_suc-le-suc h) ∙ ap (bit_or (get_or us i 0)) (get_or-drop 1 vs i 0 ∙ ap (λ j. get_or vs j 0) (one-add i))

pub set_of-united : (us vs : List ℕ) → Words us → Words vs → length vs ≤ length us → set_of (united us vs) ≡ bit_or (set_of us) (set_of vs)
set_of-united us vs f g h = set_of_or us vs (united us vs) f g at
  where
    at : (i : ℕ) → get_or (united us vs) i 0 ≡ bit_or (get_or us i 0) (get_or vs i 0)
    at i =
        elim (dec_lt i (length us)) [
          | yes l ↦ word_united us vs i l
          | no l ↦
              let a : length us ≤ i = omega arith in
              let b : length vs ≤ i = omega arith in
              let c : length (united us vs) ≤ i = omega (arith, length-united us vs) in
              rw (get_or-eq_default us 0 a, get_or-eq_default vs 0 b, get_or-eq_default (united us vs) 0 c) (sym (or_zero_r 0))
        ]

-- ---- words, one by one

-- words that are the same at each place make one set, where a missing word is 0
pub set_of-ext : (us vs : List ℕ) → ((i : ℕ) → get_or us i 0 ≡ get_or vs i 0) → set_of us ≡ set_of vs
unfolding set_of
set_of-ext [] [] e = refl
set_of-ext [] (v ∷ vs) e = omega (arith, e 0, set_of-ext [] vs (λ i. e (suc i)))
set_of-ext (u ∷ us) [] e = omega (arith, e 0, set_of-ext us [] (λ i. e (suc i)))
set_of-ext (u ∷ us) (v ∷ vs) e = ap₂ (λ s w. s * 2 ^ 64 + w) (set_of-ext us vs (λ i. e (suc i))) (e 0)

-- the set of a test, made word by word
pub set_of_where : (n : ℕ) (p : ℕ → Bool) (ws : List ℕ) → n ≤ 64 * length ws → ((i : ℕ) → i < length ws → get_or ws i 0 ≡ word_where n p i) → set_of ws ≡ set_where n p
set_of_where n p ws room e = same (set_of ws) (set_where n p) (λ k. has-set_of ws words k ∙ at k (k / 64) (k % 64) (omega arith) (omega arith))
  where
    small : (i : ℕ) → word_where n p i < 2 ^ 64
    small i =
        let l = set_where-lt (min 64 (n - 64 * i)) (λ k. p (64 * i + k)) in
        let m : 2 ^ min 64 (n - 64 * i) ≤ 2 ^ 64 = pow_mono {j = 64} (omega arith) in
        omega arith

    words : Words ws
    words i =
        elim (dec_lt i (length ws)) [
          | yes h ↦ rw (e i h) (small i)
          | no g ↦ let l : length ws ≤ i = omega arith in rw (get_or-eq_default ws 0 l) (pow_pos 64)
        ]

    past : (k : ℕ) → n ≤ k → has (set_where n p) k ≡ false
    past k h = has_above n k (set_where-lt n p) h

    at : (k i j : ℕ) → k ≡ 64 * i + j → j < 64 → has (get_or ws i 0) j ≡ has (set_where n p) k
    at k i j q l =
        elim (dec_lt i (length ws)) [
          | yes h ↦ ap (λ w. has w j) (e i h) ∙ within
          | no g ↦
              let m : length ws ≤ i = omega arith in
              rw (get_or-eq_default ws 0 m) (has-empty j ∙ sym (past k (omega arith)))
        ]
      where
        within : has (word_where n p i) j ≡ has (set_where n p) k
        within =
            elim (dec_lt k n) [
              | yes h ↦ has_in (min 64 (n - 64 * i)) j (λ k. p (64 * i + k)) (omega arith) ∙ ap p (sym q) ∙ sym (has_in n k p h)
              | no g ↦ has_above (min 64 (n - 64 * i)) j (set_where-lt (min 64 (n - 64 * i)) (λ k. p (64 * i + k))) (omega arith) ∙ sym (past k (omega arith))
            ]

-- two tests for equality that say the same
eqb_both : (a b c d : ℕ) → (a ≡ b → c ≡ d) → (c ≡ d → a ≡ b) → eqb a b ≡ eqb c d
eqb_both a b c d f g =
    elim (dec_lt c d) [
      | yes h ↦ unequal (λ q. omega arith)
      | no h ↦ elim (dec_lt d c) [
        | yes l ↦ unequal (λ q. omega arith)
        | no l ↦ let q : c ≡ d = omega arith in eq-eqb a b (g q) ∙ sym (eq-eqb c d q)
      ]
    ]
  where
    unequal : (c ≡ d → ⊥) → eqb a b ≡ eqb c d
    unequal h = ne_eqb a b (λ q. h (f q)) ∙ sym (ne_eqb c d h)

-- whether words are 0, or two sets are one, by the first word and the others
pub empty-cons : (ws : List ℕ) → eqb (set_of (0 ∷ ws)) 0 ≡ eqb (set_of ws) 0
unfolding set_of
empty-cons ws = eqb_both (set_of ws * 2 ^ 64 + 0) 0 (set_of ws) 0 (λ q. omega arith) (λ q. omega arith)

pub not_empty : (w : ℕ) (ws : List ℕ) → (w ≡ 0 → ⊥) → eqb (set_of (w ∷ ws)) 0 ≡ false
unfolding set_of
not_empty w ws h = ne_eqb (set_of ws * 2 ^ 64 + w) 0 (omega arith)

pub same-cons : (w : ℕ) (us vs : List ℕ) → eqb (set_of (w ∷ us)) (set_of (w ∷ vs)) ≡ eqb (set_of us) (set_of vs)
unfolding set_of
same-cons w us vs = eqb_both (set_of us * 2 ^ 64 + w) (set_of vs * 2 ^ 64 + w) (set_of us) (set_of vs) (λ q. omega arith) (λ q. omega arith)

pub not_same : (v w : ℕ) (us vs : List ℕ) → v < 2 ^ 64 → w < 2 ^ 64 → (v ≡ w → ⊥) → eqb (set_of (v ∷ us)) (set_of (w ∷ vs)) ≡ false
unfolding set_of
not_same v w us vs a b h = ne_eqb (set_of us * 2 ^ 64 + v) (set_of vs * 2 ^ 64 + w) (λ q. h (omega arith))

-- the members counted from b on, word by word
members_from : (b w : ℕ) (ws : List ℕ) → w < 2 ^ 64 → plus_each b (members_of (w ∷ ws)) ≡ plus_each b (members 64 w) ++ plus_each (b + 64) (members_of ws)
members_from b w ws h =
    ap (map (λ k. b + k)) (members_of-cons w ws h)
    ∙ map-append (λ k. b + k) (members 64 w) (map (λ k. 64 + k) (members_of ws))
    ∙ ap (λ ks. plus_each b (members 64 w) ++ ks) (map-map (λ k. b + k) (λ k. 64 + k) (members_of ws) ∙ (λ i. map (λ k. sym (add_assoc b 64 k) i) (members_of ws)))

-- counted from 0 on
pub from_start : (ks : List ℕ) → plus_each (64 * 0) ks ≡ ks
from_start ks = (λ i. map (λ k. zero-add k i) ks) ∙ map-id ks

-- the members from word i on, with that word and without
module _ (ws : List ℕ) (i : ℕ) (h : i < length ws) (small : get_or ws i 0 < 2 ^ 64) where
  pub count-drop : length (members_of (drop i ws)) ≡ length (members 64 (get_or ws i 0)) + length (members_of (drop (i + 1) ws))
  count-drop = rw (drop-cons ws i 0 h, add-one) (count-cons (get_or ws i 0) (drop (suc i) ws) small)

  pub members-drop : plus_each (64 * i) (members_of (drop i ws)) ≡ plus_each (64 * i) (members 64 (get_or ws i 0)) ++ plus_each (64 * (i + 1)) (members_of (drop (i + 1) ws))
  members-drop =
      let e : 64 * (i + 1) ≡ 64 * i + 64 = omega arith in
      rw (drop-cons ws i 0 h, e, add-one) (members_from (64 * i) (get_or ws i 0) (drop (suc i) ws) small)
