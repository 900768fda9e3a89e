-- Laws of lines, counts and pieces: what the loops go by. Assumes nothing.
use Prim.Native.Nat.{ℕ, suc, ◌+◌, ◌-◌, ◌*◌, ◌≤◌, ◌<◌}
use mathlib.Core.Bool.{Bool, true, false, cond, ◌&&◌}
use mathlib.Core.List.{List, [], ◌∷◌}
use mathlib.Core.Logic.{◌⊎◌, inl, inr, ⊎_elim}
use mathlib.Core.Path.{◌≡◌, refl, sym, ap}
use native.Mathlib.Nat.{zero-add, eq-or-lt_of_le}
use native.Mathlib.Numerals.{add-one}
use native.Mathlib.Omega.{arith}
use borrow.Author.Tests.{eq-eqb, ne_eqb, lt-ltb, le-ltb}
use lib.Dec.{leb, eqb}
use lib.ListN.{length, get_or, take, drop, length-append, length-take, length-drop, drop_of_length-le}
use lib.Seq.{drop-cons, drop-drop, take_all}
use Rattle.sets.specs.Sums.{sum_over}
use Rattle.std.specs.Prelude.{Option, Some, None, Ok, MatchOption, unwrap_or, ◌≢◌}
use Rattle.std.specs.Char.{is_ascii_digit}
use Rattle.std.specs.List.{AllWithin, HoldsAt}
use Rattle.std.proofs.lemmas.Iterator.{index_from_first}
use Rattle.lines.specs.declared.Line.{Line}
use Rattle.lines.specs.Lines.{lf, space, most_count, joined, split, lines_of, up_to, Pass, on_pass, pass_over, number_from, limited, count_of, line_of, on_line}
use Rattle.lines.specs.Profile.{count_in}
use Rattle.lines.proofs.Written.{LineTells, line_tells}

-- ---- the first mark

-- i is the first place of a mark, or no place is one
abbrev pub FirstAt : ℕ → List ℕ → Option ℕ → Type 0
FirstAt mark s r = MatchOption r (AllWithin (λ c. c ≢ mark) s 0 (length s)) (λ i. (i < length s) × HoldsAt (λ c. c ≡ mark) s i × AllWithin (λ c. c ≢ mark) s 0 i)

pub first_is : (mark : ℕ) (s : List ℕ) (r : Option ℕ) → FirstAt mark s r → unwrap_or r (length s) ≡ up_to mark s
unfolding up_to
first_is mark s r h =
    sym (
    index_from_first (up_to mark) (λ c. c ≡ mark) (λ c. c ≢ mark) refl (λ c s e. rw (eq-eqb c mark e)) (λ c s n. rw (ne_eqb c mark n, add-one (up_to mark s))) s r h
    )

pub up_le : (mark : ℕ) (s : List ℕ) → up_to mark s ≤ length s
unfolding up_to
up_le mark [] = omega arith
up_le mark (c ∷ s) = go (eqb c mark) (up_le mark s)
  where
    go : (b : Bool) → up_to mark s ≤ length s → cond b 0 (suc (up_to mark s)) ≤ suc (length s)
    go true h = omega arith
    go false h = omega arith

-- ---- a count

-- 1 to 10 bytes without a leading zero
pub judged : (s : List ℕ) → length s ≢ 0 → length s ≤ 10 → get_or s 0 0 ≢ 48 → count_of s ≡ limited (number_from 0 s)
unfolding count_of
judged s n h z = rw (ne_eqb _ _ n, le-ltb 10 _ h, ne_eqb _ _ z)

-- a number over the limit stays over it
pub over : (s : List ℕ) (so : ℕ) → most_count < so → limited (number_from so s) ≡ None
unfolding number_from
over [] so h = rw (lt-ltb _ _ h)
over (c ∷ s) so h = go (leb 48 c && leb c 57) (over s (10 * so + (c - 48)) (omega arith))
  where
    go : (b : Bool) → limited (number_from (10 * so + (c - 48)) s) ≡ None → limited (cond b (number_from (10 * so + (c - 48)) s) None) ≡ None
    go true h = h
    go false h = refl

module _ (s : List ℕ) (at so : ℕ) where
  pub number_end : length s ≤ at → number_from so (drop at s) ≡ Some so
  unfolding number_from
  number_end h = rw drop_of_length-le

  pub number_other : at < length s → is_ascii_digit (get_or s at 0) ≡ false → number_from so (drop at s) ≡ None
  unfolding number_from
  number_other h e = rw (drop-cons s at 0, e)

  pub number_more : at < length s → is_ascii_digit (get_or s at 0) ≡ true → number_from so (drop at s) ≡ number_from (10 * so + (get_or s at 0 - 48)) (drop (at + 1) s)
  unfolding number_from
  number_more h e = rw (drop-cons s at 0, e, add-one at)

-- ---- a line

-- a stack is a part of its line, which goes on, and its count a small one
abbrev pub Right : List ℕ → Option Line → Type 0
Right line (Some l) = (l.stack < length line) × (l.count ≤ most_count)
Right line None = Unit {0}

tells_right : (line : List ℕ) (l : Option Line) → LineTells line l → Right line l
tells_right line (Some l) (stack, digits, x, e) = (omega (arith, ap length x.whole, length-append stack (space ∷ digits)), x.count.small)
tells_right line None x = tt

line_right : (line : List ℕ) → Right line (line_of line)
line_right line = tells_right line (line_of line) (line_tells line)

-- what a line r that is q tells
pub line_is : (line : List ℕ) {r q : Option Line} → r ≡ line_of line → r ≡ q → Right line q × (line_of line ≡ q)
line_is line p q = (rw (← q, p) (line_right line), rw (← p) q)

-- a stack is shorter than its line
pub stack_within : (line : List ℕ) (l : Line) → Some l ≡ line_of line → l.stack < length line
stack_within line l e = (line_is line e refl).0.0

-- its count is small, and 0 where the line has no byte
pub count_right : (line : List ℕ) → (count_in line ≤ most_count) × (count_in line ≤ most_count * length line)
count_right line = go (line_of line) (line_right line)
  where
    go : (l : Option Line) → Right line l → (on_line l (λ stack count. count) 0 ≤ most_count) × (on_line l (λ stack count. count) 0 ≤ most_count * length line)
    go (Some l) w = (w.1, omega (arith, w.0, w.1))
    go None w = (omega arith, omega arith)

-- ---- pieces

-- the pieces have no more bytes than the text
abbrev pub bytes_in : List (List ℕ) → ℕ
bytes_in ps = sum_over length ps

pub split-bytes : (mark : ℕ) (none : List (List ℕ)) (text : List ℕ) → bytes_in (split mark none text) ≤ bytes_in none + length text
unfolding split sum_over
split-bytes mark none [] = omega arith
split-bytes mark none (c ∷ text) = go (eqb c mark) (split mark none text) (split-bytes mark none text)
  where
    go : (b : Bool) (ps : List (List ℕ)) → bytes_in ps ≤ bytes_in none + length text → bytes_in (cond b ([] ∷ ps) (joined c ps)) ≤ bytes_in none + suc (length text)
    go true ps h = omega arith
    go false [] h = omega arith
    go false (p ∷ ps) h = omega arith

-- a text's first piece, where a mark ends it
found : (mark : ℕ) (none : List (List ℕ)) (text : List ℕ) → up_to mark text < length text
    → split mark none text ≡ take (up_to mark text) text ∷ split mark none (drop (suc (up_to mark text)) text)
unfolding split up_to
found mark none [] h = absurd (omega arith)
found mark none (c ∷ text) h = go (eqb c mark) h (λ g. found mark none text g)
  where
    go : (b : Bool) → cond b 0 (suc (up_to mark text)) < suc (length text)
        → (up_to mark text < length text → split mark none text ≡ take (up_to mark text) text ∷ split mark none (drop (suc (up_to mark text)) text))
        → cond b ([] ∷ split mark none text) (joined c (split mark none text))
        ≡ take (cond b 0 (suc (up_to mark text))) (c ∷ text) ∷ split mark none (drop (suc (cond b 0 (suc (up_to mark text)))) (c ∷ text))
    go true g r = refl
    go false g r = rw (r (omega arith))

-- of `text` the pieces from `at` on are left, and the first ends before `end`
abbrev pub piece : List ℕ → ℕ → ℕ → List ℕ
piece text at end = take (end - at) (drop at text)

pub piece-length : (text : List ℕ) (at end : ℕ) → at ≤ end → end ≤ length text → length (piece text at end) ≡ end - at
piece-length text at end h l = simp (length-take, length-drop) (omega arith)

module _ (mark : ℕ) (none : List (List ℕ)) (same : (c : ℕ) → joined c none ≡ (c ∷ []) ∷ []) where
  -- a text's first piece, where no mark ends it
  alone : (c : ℕ) (text : List ℕ) → up_to mark (c ∷ text) ≡ length (c ∷ text) → split mark none (c ∷ text) ≡ (c ∷ text) ∷ []
  unfolding split up_to
  alone c [] h = go (eqb c mark) h
    where
      go : (b : Bool) → ◌≡◌ {A = ℕ} (cond b 0 1) 1 → cond b ([] ∷ none) (joined c none) ≡ (c ∷ []) ∷ []
      go true g = absurd (omega arith)
      go false g = same c
  alone c (d ∷ text) h = go (eqb c mark) h (λ g. alone d text g)
    where
      go : (b : Bool) → cond b 0 (suc (up_to mark (d ∷ text))) ≡ suc (suc (length text))
          → (up_to mark (d ∷ text) ≡ suc (length text) → split mark none (d ∷ text) ≡ (d ∷ text) ∷ [])
          → cond b ([] ∷ split mark none (d ∷ text)) (joined c (split mark none (d ∷ text))) ≡ (c ∷ d ∷ text) ∷ []
      go true g r = absurd (omega arith)
      go false g r = rw (r (omega arith))

  -- the first piece is followed by others, or is the last
  abbrev pub Step : List ℕ → ℕ → ℕ → Type 0
  Step text at end =
      (split mark none (drop at text) ≡ piece text at end ∷ split mark none (drop (end + 1) text))
      ⊎ (split mark none (drop at text) ≡ piece text at end ∷ []) × (drop (end + 1) text ≡ [])

  pub step : (text : List ℕ) (at end : ℕ) → at < length text → end ≡ at + up_to mark (drop at text) → end ≤ length text → Step text at end
  step text at end h e l =
      let u = up_to mark (drop at text) in
      let p : end - at ≡ u = omega arith in
      let r : end + 1 ≡ at + suc u = omega arith in
      let d = drop-cons text at 0 h in
      let n = length-drop at text in
      ⊎_elim
      (λ (z : end ≡ length text).
      inr (
        rw (take_all (end - at) (drop at text) (omega arith), d) (alone (get_or text at 0) (drop (suc at) text) (rw (← d) (omega (arith, ap length d)))),
        drop_of_length-le text {i = end + 1} (omega arith),
      ))
      (λ (z : end < length text). inl (rw (p, r, ← drop-drop (suc u) at text) (found mark none (drop at text) (omega arith))))
      (eq-or-lt_of_le l)

  module _ {E : Type 0} (each : ℕ → List ℕ → Pass E) (quiet : (i : ℕ) → pass_over each i none ≡ Ok tt) (text : List ℕ) where
    pub pieces_end : (i at : ℕ) → length text ≤ at → pass_over each i (split mark none (drop at text)) ≡ Ok tt
    unfolding split
    pieces_end i at h = rw drop_of_length-le (quiet i)

    pub pieces_pass : (base at end : ℕ) → at < length text → end ≡ at + up_to mark (drop at text) → end ≤ length text
        → pass_over each (base + at) (split mark none (drop at text))
        ≡ on_pass (each (base + at) (piece text at end)) (pass_over each (base + (end + 1)) (split mark none (drop (end + 1) text)))
    unfolding pass_over split
    pieces_pass base at end h e l = go (omega (arith, piece-length text at end (omega arith) l)) (step text at end h e l)
      where
        go : base + at + length (piece text at end) + 1 ≡ base + (end + 1) → Step text at end
            → pass_over each (base + at) (split mark none (drop at text))
            ≡ on_pass (each (base + at) (piece text at end)) (pass_over each (base + (end + 1)) (split mark none (drop (end + 1) text)))
        go n (inl s) = rw (s, n)
        go n (inr s) = rw (s.0, s.1, quiet (base + (end + 1)))

-- ---- lines

pub lines_step : (text : List ℕ) (at end : ℕ) → at < length text → end ≡ at + up_to lf (drop at text) → end ≤ length text
    → lines_of (drop at text) ≡ piece text at end ∷ lines_of (drop (end + 1) text)
unfolding split
lines_step text at end h e l = go (step lf [] (λ c. refl) text at end h e l)
  where
    go : Step lf [] (λ c. refl) text at end → lines_of (drop at text) ≡ piece text at end ∷ lines_of (drop (end + 1) text)
    go (inl s) = s
    go (inr s) = rw (s.0, s.1)

module _ {E : Type 0} (each : ℕ → List ℕ → Pass E) (text : List ℕ) where
  pub lines_end : (at : ℕ) → length text ≤ at → pass_over each at (lines_of (drop at text)) ≡ Ok tt
  unfolding pass_over
  lines_end at h = pieces_end lf [] (λ c. refl) each (λ i. refl) text at at h

  pub lines_pass_lem : (at end : ℕ) → at < length text → end ≡ at + up_to lf (drop at text) → end ≤ length text
      → pass_over each at (lines_of (drop at text)) ≡ on_pass (each at (piece text at end)) (pass_over each (end + 1) (lines_of (drop (end + 1) text)))
  unfolding pass_over
  lines_pass_lem at end h e l = simp zero-add at (pieces_pass lf [] (λ c. refl) each (λ i. refl) text 0 at end h e l)
