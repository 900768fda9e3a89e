-- A table of sets is known by the sets of its rows, for any number of words a row; and a row's set by its words. Assumes nothing.
use mathlib.Core.Path.{◌≡◌, refl, sym, ap, ◌∙◌}
use mathlib.Core.List.{List, []}
use Prim.Native.Nat.{ℕ, zero, suc, ◌+◌, ◌-◌, ◌*◌, ◌/◌, ◌%◌, ◌≤◌, ◌<◌}
use native.Mathlib.Nat.{mod-lt, div-add-mod', div-lt_iff_lt-mul, mul_comm, zero-mul, zero-lt-suc}
use native.Mathlib.Omega.{arith}
use native.Mathlib.Decide.{dec_lt}
use lib.Pow.{pow_pos}
use lib.ListN.{length, get_or, take, drop, length-take, length-drop, drop_of_length-le, get_or-eq_default}
use lib.Seq.{get_or-take, get_or-drop, ext_get_or}
use Rattle.sets.specs.Sets.{has, members, set_of, members_of}
use Rattle.sets.specs.Table.{row_words, row_set, rules_at}
use Rattle.sets.proofs.Laws.{ext}
use Rattle.sets.proofs.InWords.{Words, has_at, set_of-ext}

-- the words of a set
same-words : (us vs : List ℕ) → Words us → Words vs → set_of us ≡ set_of vs → (i : ℕ) → get_or us i 0 ≡ get_or vs i 0
same-words us vs f g e i =
    ext 64 (get_or us i 0) (get_or vs i 0) (f i) (g i)
    (λ k h. sym (has_at us f i k h) ∙ ap (λ s. has s (64 * i + k)) e ∙ has_at vs g i k h)

pub words_row : (w : ℕ) (table : List ℕ) (i : ℕ) → Words table → Words (take w (drop (w * i) table))
words_row w table i f k =
    elim (dec_lt k w) [
      | yes h ↦ rw (get_or-take w (drop (w * i) table) k 0 h, get_or-drop) (f (w * i + k))
      | no g ↦
          let l : length (take w (drop (w * i) table)) ≤ k = rw length-take (omega arith) in
          rw (get_or-eq_default (take w (drop (w * i) table)) 0 l) (pow_pos 64)
    ]

-- the words of n rows
pub same_table : (w n : ℕ) (xs ys : List ℕ) → Words xs → Words ys → ((i : ℕ) → i < n → row_set w xs i ≡ row_set w ys i)
    → (j : ℕ) → j < w * n → get_or xs j 0 ≡ get_or ys j 0
unfolding row_set
same_table zero n xs ys f g e j h = absurd (omega (arith, rw zero-mul at h))
same_table (suc v) n xs ys f g e j h =
    let w = suc v in
    let i : j / w < n = (div-lt_iff_lt-mul (zero-lt-suc v)).1 (rw mul_comm at h) in
    let k : j % w < w = mod-lt j (zero-lt-suc v) in
    let q : w * (j / w) + j % w ≡ j = rw (mul_comm w (j / w)) (div-add-mod' j w) in
    let r = same-words _ _ (words_row w xs (j / w) f) (words_row w ys (j / w) g) (e (j / w) i) (j % w) in
    rw (get_or-take w (drop (w * (j / w)) xs) (j % w) 0 k, get_or-take w (drop (w * (j / w)) ys) (j % w) 0 k, get_or-drop (w * (j / w)) xs, get_or-drop (w * (j / w)) ys, q) at r

-- words are known by their set
pub words_inj : (us vs : List ℕ) → Words us → Words vs → length us ≡ length vs → set_of us ≡ set_of vs → us ≡ vs
words_inj us vs f g n e = ext_get_or 0 us vs n (λ i h. same-words us vs f g e i)

-- ---- a row's words, and its set

module _ (xs : List ℕ) (i : ℕ) where
  -- the words of row i
  abbrev pub row_of : List ℕ
  row_of = take row_words (drop (row_words * i) xs)

  pub rules-part : rules_at xs i ≡ set_of row_of
  unfolding rules_at row_set
  rules-part = refl

  -- the row, as it is lent
  pub part_row : take (row_words * i + row_words - row_words * i) (drop (row_words * i) xs) ≡ row_of
  part_row = let four : row_words * i + row_words - row_words * i ≡ row_words = omega arith in rw four

  pub row_word : (j : ℕ) → j < row_words → get_or row_of j 0 ≡ get_or xs (row_words * i + j) 0
  row_word j h = get_or-take row_words (drop (row_words * i) xs) j 0 h ∙ get_or-drop (row_words * i) xs j 0

  row_few : length row_of ≤ row_words
  row_few = rw length-take (omega arith)

  -- the set is known by the words, of which those left out are 0
  pub rules-words : (ws : List ℕ) → length ws ≤ row_words → ((j : ℕ) → j < row_words → get_or xs (row_words * i + j) 0 ≡ get_or ws j 0) → rules_at xs i ≡ set_of ws
  rules-words ws n e = rules-part ∙ set_of-ext row_of ws at
    where
      at : (j : ℕ) → get_or row_of j 0 ≡ get_or ws j 0
      at j =
          elim (dec_lt j row_words) [
            | yes h ↦ row_word j h ∙ e j h
            | no g ↦ get_or-eq_default row_of 0 (omega (arith, row_few)) ∙ sym (get_or-eq_default ws 0 (omega arith))
          ]

  pub rules-none : ((j : ℕ) → j < row_words → get_or xs (row_words * i + j) 0 ≡ 0) → rules_at xs i ≡ 0
  unfolding set_of
  rules-none e = rules-words [] (omega arith) e

  module _ (room : row_words * suc i ≤ length xs) where
    pub row_long : length row_of ≡ row_words
    row_long = rw (length-take, length-drop) (omega arith)

    pub row_end : (j : ℕ) → row_words ≤ j → drop j row_of ≡ []
    row_end j h = let l : length row_of ≤ j = omega (arith, row_long) in drop_of_length-le row_of l

-- the set is the same in tables with the same words there
pub rules-same : (xs ys : List ℕ) (i : ℕ) → ((j : ℕ) → j < row_words → get_or xs (row_words * i + j) 0 ≡ get_or ys (row_words * i + j) 0) → rules_at xs i ≡ rules_at ys i
rules-same xs ys i e = rules-words xs i (row_of ys i) (row_few ys i) (λ j h. e j h ∙ sym (row_word ys i j h)) ∙ sym (rules-part ys i)

-- the members of as many words as a row has
pub members-whole : (ws : List ℕ) → length ws ≡ row_words → members_of ws ≡ members (64 * row_words) (set_of ws)
unfolding members_of
members-whole ws e = rw e
