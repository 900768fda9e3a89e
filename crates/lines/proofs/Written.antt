-- A count and a line are what `Written` says in plain words. Assumes nothing.
use Prim.Native.Nat.{ℕ, zero, suc, ◌+◌, ◌-◌, ◌*◌, ◌≤◌, ◌<◌}
use mathlib.Core.Bool.{Bool, true, false, cond, ◌&&◌}
use mathlib.Core.List.{List, [], ◌∷◌, ◌++◌}
use mathlib.Core.Logic.{⊎_elim, ◌≢◌}
use mathlib.Core.Path.{◌≡◌, refl, sym, ap, ◌∙◌}
use native.Mathlib.Numerals.{add-one}
use native.Mathlib.Omega.{arith}
use borrow.Author.Tests.{eq-eqb, ne_eqb, eqb-true, eqb-false, le-ltb, ltb-false, le-leb, leb-true}
use lib.Dec.{ltb, leb, eqb}
use lib.ListN.{length, get_or, take, drop}
use lib.Seq.{split_at, length-take-le, drop-append-add}
use Rattle.std.specs.Prelude.{Option, Some, None, MatchOption, option_and_then, unwrap_or}
use Rattle.std.proofs.lemmas.Bool.{cases_lt}
use Rattle.std.proofs.Math.Nat.{eq-or-lt_of_le}
use Rattle.lines.specs.declared.Line.{Line}
use Rattle.lines.specs.Lines.{space, most_count, last_from, last_among, last_mark_of, number_from, limited, count_of, sound_line, counted, line_of}
use Rattle.lines.specs.Written.{decimal, Writes, CountIs, LastIs, IsLine, LineIs}

-- ---- a count

abbrev Digits : List ℕ → Type 0
Digits s = (i : ℕ) → i < length s → (48 ≤ get_or s i 0) × (get_or s i 0 ≤ 57)

-- what a number that was read tells
abbrev Reads : ℕ → List ℕ → Option ℕ → Type 0
Reads so s (Some k) = Digits s × (decimal so s ≡ k)
Reads so s None = Unit {0}

reads_more : (so c : ℕ) (s : List ℕ) → 48 ≤ c → c ≤ 57 → (k : Option ℕ) → Reads (10 * so + (c - 48)) s k → Reads so (c ∷ s) k
unfolding decimal
reads_more so c s h g None r = tt
reads_more so c s h g (Some k) r = (each, r.1)
  where
    each : Digits (c ∷ s)
    each zero l = (h, g)
    each (suc i) l = r.0 i (omega arith)

reads : (s : List ℕ) (so : ℕ) → Reads so s (number_from so s)
unfolding number_from decimal
reads [] so = (λ i h. absurd (omega arith), refl)
reads (c ∷ s) so = go (leb 48 c) (leb c 57) refl refl (reads s (10 * so + (c - 48)))
  where
    go : (a b : Bool) → leb 48 c ≡ a → leb c 57 ≡ b → Reads (10 * so + (c - 48)) s (number_from (10 * so + (c - 48)) s)
        → Reads so (c ∷ s) (cond (a && b) (number_from (10 * so + (c - 48)) s) None)
    go true true p q r = reads_more so c s (leb-true _ _ p) (leb-true _ _ q) (number_from (10 * so + (c - 48)) s) r
    go true false p q r = tt
    go false b p q r = tt

number_is : (s : List ℕ) (so : ℕ) → Digits s → number_from so s ≡ Some (decimal so s)
unfolding number_from decimal
number_is [] so d = refl
number_is (c ∷ s) so d =
    let h = d 0 (omega arith) in
    rw (le-leb 48 c h.0, le-leb c 57 h.1) (number_is s (10 * so + (c - 48)) (λ i l. d (suc i) (omega arith)))

lone-zero : (s : List ℕ) → length s ≡ 1 → get_or s 0 0 ≡ 48 → Writes s 0
unfolding decimal
lone-zero [] l e = absurd (omega arith)
lone-zero (c ∷ d ∷ s) l e = absurd (omega arith)
lone-zero (c ∷ []) l e = record {
  some = omega arith;
  most = omega arith;
  each = each;
  lead = λ z. refl;
  value = omega arith;
  small = omega arith;
}
  where
    each : Digits (c ∷ [])
    each zero h = (omega arith, omega arith)
    each (suc i) h = absurd (omega arith)

-- what a count tells
abbrev Tells : List ℕ → Option ℕ → Type 0
Tells s (Some k) = Writes s k
Tells s None = Unit {0}

limited_tells : (s : List ℕ) → 1 ≤ length s → length s ≤ 10 → get_or s 0 0 ≢ 48 → (k : Option ℕ) → Reads 0 s k → Tells s (limited k)
limited_tells s h g n None r = tt
limited_tells s h g n (Some k) r = go (ltb most_count k) refl
  where
    go : (b : Bool) → ltb most_count k ≡ b → Tells s (cond b None (Some k))
    go true e = tt
    go false e = record { some = h; most = g; each = r.0; lead = λ z. absurd (n z); value = r.1; small = ltb-false _ _ e }

count_tells : (s : List ℕ) → Tells s (count_of s)
unfolding count_of
count_tells s = go (eqb (length s) 0) (ltb 10 (length s)) (eqb (get_or s 0 0) 48) (eqb (length s) 1) refl refl refl refl
  where
    go : (a b d e : Bool) → eqb (length s) 0 ≡ a → ltb 10 (length s) ≡ b → eqb (get_or s 0 0) 48 ≡ d → eqb (length s) 1 ≡ e
        → Tells s (cond a None (cond b None (cond d (cond e (Some 0) None) (limited (number_from 0 s)))))
    go true b d e p q u v = tt
    go false true d e p q u v = tt
    go false false true true p q u v = lone-zero s (eqb-true _ _ v) (eqb-true _ _ u)
    go false false true false p q u v = tt
    go false false false e p q u v =
        let n : length s ≢ 0 = eqb-false _ _ p in
        limited_tells s (omega arith) (ltb-false _ _ q) (eqb-false _ _ u) (number_from 0 s) (reads s 0)

count_from : (s : List ℕ) (k : ℕ) → Writes s k → count_of s ≡ Some k
unfolding count_of
count_from s k w =
    let a = ne_eqb (length s) 0 (λ z. omega (arith, w.some)) in
    let b = le-ltb 10 (length s) w.most in
    rw (a, b) (go (eqb (get_or s 0 0) 48) refl)
  where
    go : (d : Bool) → eqb (get_or s 0 0) 48 ≡ d → cond d (cond (eqb (length s) 1) (Some 0) None) (limited (number_from 0 s)) ≡ Some k
    go true e =
        let z = eqb-true _ _ e in
        let l = w.lead z in
        rw (eq-eqb _ _ l) (ap Some (sym (lone-zero s l z).value ∙ w.value))
    go false e = rw (number_is s 0 w.each, w.value, le-ltb _ _ w.small)

pub count_is : CountIs
count_is s k = (λ e. rw e at (count_tells s), count_from s k)

-- ---- the last mark

module _ (mark : ℕ) where
  -- i is the last place of a mark, or no place is one
  abbrev pub LastAt : List ℕ → Option ℕ → Type 0
  LastAt s r =
      MatchOption r ((k : ℕ) → k < length s → get_or s k 0 ≢ mark)
      (λ i. (i < length s) × (get_or s i 0 ≡ mark) × ((k : ℕ) → i < k → k < length s → get_or s k 0 ≢ mark))

  last_more : (c : ℕ) (s : List ℕ) (b : Bool) (r : Option ℕ) → eqb c mark ≡ b → LastAt s r → LastAt (c ∷ s) (last_among b r)
  last_more c s b (Some i) e h = (omega arith, h.1, behind)
    where
      behind : (k : ℕ) → suc i < k → k < suc (length s) → get_or (c ∷ s) k 0 ≢ mark
      behind zero l m = absurd (omega arith)
      behind (suc k) l m = h.2 k (omega arith) (omega arith)
  last_more c s true None e h = (omega arith, eqb-true _ _ e, behind)
    where
      behind : (k : ℕ) → 0 < k → k < suc (length s) → get_or (c ∷ s) k 0 ≢ mark
      behind zero l m = absurd (omega arith)
      behind (suc k) l m = h k (omega arith)
  last_more c s false None e h = at
    where
      at : (k : ℕ) → k < suc (length s) → get_or (c ∷ s) k 0 ≢ mark
      at zero m = eqb-false _ _ e
      at (suc k) m = h k (omega arith)

  last_at : (s : List ℕ) → LastAt s (last_mark_of mark s)
  unfolding last_mark_of
  last_at [] = λ k h. absurd (omega arith)
  last_at (c ∷ s) = last_more c s (eqb c mark) (last_mark_of mark s) refl (last_at s)

  -- there is one last place at most
  pub last_is : (s : List ℕ) (r : Option ℕ) → LastAt s r → r ≡ last_mark_of mark s
  last_is s r h = go r (last_mark_of mark s) h (last_at s)
    where
      go : (q r : Option ℕ) → LastAt s q → LastAt s r → q ≡ r
      go None None h g = refl
      go None (Some i) h g = absurd (h i g.0 g.1)
      go (Some i) None h g = absurd (g i h.0 h.1)
      go (Some i) (Some j) h g = ap Some (⊎_elim (λ (l : i < j). absurd (h.2 j l g.0 g.1)) (λ (m : j ≤ i). ⊎_elim (λ (e : j ≡ i). sym e) (λ (l : j < i). absurd (g.2 i l h.0 h.1)) (eq-or-lt_of_le m)) (cases_lt i j))

-- a place told from `at` on, or `last` where there is none
abbrev told : ℕ → ℕ → Option ℕ → ℕ
told at last (Some i) = at + i
told at last None = last

told_more : (at last : ℕ) (b : Bool) (r : Option ℕ) → told (at + 1) (cond b at last) r ≡ told at last (last_among b r)
told_more at last b (Some i) = omega arith
told_more at last true None = omega arith
told_more at last false None = refl

told_from : (mark at last : ℕ) (s : List ℕ) → last_from mark at last s ≡ told at last (last_mark_of mark s)
unfolding last_from last_mark_of
told_from mark at last [] = refl
told_from mark at last (c ∷ s) = told_from mark (at + 1) (cond (eqb c mark) at last) s ∙ told_more at last (eqb c mark) (last_mark_of mark s)

pub last_is_told : LastIs
last_is_told mark s = told_from mark 0 (length s) s ∙ go (last_mark_of mark s)
  where
    go : (r : Option ℕ) → told 0 (length s) r ≡ unwrap_or r (length s)
    go (Some i) = omega arith
    go None = refl

-- ---- a line

-- what a line tells
abbrev pub LineTells : List ℕ → Option Line → Type 0
LineTells line (Some l) = (stack digits : List ℕ) × IsLine line stack digits l.count × (length stack ≡ l.stack)
LineTells line None = Unit {0}

counted_tells : (line : List ℕ) (n : ℕ) → 1 ≤ n → n < length line → get_or line n 0 ≡ space → (k : Option ℕ) → Tells (drop (n + 1) line) k
    → LineTells line (counted n k)
counted_tells line n h l e None w = tt
counted_tells line n h l e (Some k) w =
    let t = length-take-le n line (omega arith) in
    (take n line, drop (n + 1) line, record { whole = rw add-one (rw e at (split_at line n 0 l)); some = omega arith; count = w }, t)

pub line_tells : (line : List ℕ) → LineTells line (line_of line)
unfolding line_of
line_tells line = go (last_mark_of space line) (last_at space line)
  where
    go : (r : Option ℕ) → LastAt space line r → LineTells line (option_and_then (λ n. cond (eqb n 0) None (counted n (count_of (drop (n + 1) line)))) r)
    go None h = tt
    go (Some n) h = some (eqb n 0) refl
      where
        some : (b : Bool) → eqb n 0 ≡ b → LineTells line (cond b None (counted n (count_of (drop (n + 1) line))))
        some true e = tt
        some false e = let z : n ≢ 0 = eqb-false _ _ e in counted_tells line n (omega arith) h.0 h.1 (count_of (drop (n + 1) line)) (count_tells (drop (n + 1) line))

-- no digit is a space
line_last : (stack digits : List ℕ) (k : ℕ) → Writes digits k → last_mark_of space (stack ++ space ∷ digits) ≡ Some (length stack)
unfolding last_mark_of
line_last [] digits k w = rw (← last_is space digits None (λ i h z. omega (arith, w.each i h)))
line_last (c ∷ stack) digits k w = rw (line_last stack digits k w)

line_from : (stack digits : List ℕ) (k : ℕ) → 1 ≤ length stack → Writes digits k → line_of (stack ++ space ∷ digits) ≡ sound_line (length stack) k
unfolding line_of
line_from stack digits k h w =
    rw (
      line_last stack digits k w,
      ne_eqb (length stack) 0 (λ z. omega arith),
      drop-append-add stack (space ∷ digits) 1,
      count_from digits k w,
    )

pub line_is_written : LineIs
line_is_written line n k = (λ e. rw e at (line_tells line), λ s. rw (s.2.whole, ← s.3) (line_from s.0 s.1 k s.2.some s.2.count))
