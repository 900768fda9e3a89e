-- What a build that keeps its promise gives, of a refused book and of a book whose rows are written out. Assumes nothing.
use mathlib.Core.Path.{◌≡◌, refl, sym, ap, subst, ◌∙◌}
use mathlib.Core.List.{List}
use Prim.Native.Nat.{ℕ, ◌≤◌, ◌<◌}
use native.Mathlib.Omega.{arith}
use lib.ListN.{length, get_or, take}
use lib.Seq.{ext_get_or, get_or-take, length-take-le}
use Rattle.rows.specs.Rows.{AtMost}
use Rattle.rows.proofs.Rows.{one_row, unique, not_both}
use Rattle.meaning.specs.Standing.{Same}
use Rattle.meaning.specs.Tables.{Five, Numbers, columns, Tables}
use Rattle.worked.specs.Books.{Written, Right}
use Rattle.meaning.proofs.Congruent.{congruence}
use Rattle.meaning.proofs.Shorter.{fall_row}
use Rattle.format.specs.declared.Refusal.{Refusal}
use Rattle.format.specs.Answers.{number, value}
use Rattle.book.specs.Content.{Content}
use Rattle.format.specs.Format.{Meaning, refused, meaning_of}
use Rattle.book.specs.Limits.{most_rows}
use Rattle.book.specs.Meant.{rules_of}
use Rattle.lent.specs.Lent.{lent, zeroed}
use Rattle.promised.specs.Promise.{Builds, accepted, no_room, Answers, refuses}
use Rattle.promised.proofs.AsBefore.{of_sound}
use Rattle.numbers.specs.Cases.{found, cleared, tables, build, Holds}
use Rattle.numbers.proofs.Books.{Means}

-- ---- by what the bytes mean

refused_so : {why : Refusal} {m : Meaning} {old b : Five} {i v : ℕ} → m ≡ refused why → Answers old m b i v → (i ≡ number why) × (v ≡ value why) × (b ≡ old)
refused_so {why} {old = old} {b} {i} {v} e p = go (subst (λ (m : Meaning). Answers old m b i v) e p)
  where
    go : {b : Five} {i v : ℕ} → Answers old (refused why) b i v → (i ≡ number why) × (v ≡ value why) × (b ≡ old)
    go refuses = (refl, refl, refl)

-- a refused book, whichever rows are lent
pub refusing : (bytes : List ℕ) {why : Refusal} → meaning_of bytes ≡ refused why → Holds (build bytes 0 most_rows (number why) (value why) found)
refusing bytes e old b x l h p = let (n, v, same) = refused_so e p in record { number_is = n; value_is = v; leaves = same }

-- ---- by the rows

take_same : (xs ys : List ℕ) → length ys ≤ length xs → ((i : ℕ) → i < length ys → get_or xs i 0 ≡ get_or ys i 0) → take (length ys) xs ≡ ys
take_same xs ys l same =
    let k : length (take (length ys) xs) ≡ length ys = length-take-le (length ys) xs l in
    ext_get_or 0 (take (length ys) xs) ys k (λ i h. let m : i < length ys = omega arith in get_or-take (length ys) xs i 0 m ∙ same i m)

module _ (w : Written) (y : Right w) where
  abbrev rows : ℕ
  rows = length w.rows

  few : {n : ℕ} → rows ≤ n → AtMost (Same w.book) n
  few l = record { texts = w.rows; rows = y.rows; few = l }

  module _ {b : Five} {n : ℕ} (x : Tables w.book b n) where
    texts_are : x.texts ≡ w.rows
    texts_are = unique (congruence w.book) x.rows y.rows

    rows_are : n ≡ rows
    rows_are = sym x.count ∙ ap length texts_are

    numbers_are : Numbers w.book w.rows (columns b)
    numbers_are = rw texts_are at x.numbers

    held_are : rows ≤ length b.held → length w.held ≡ rows → take (length w.held) b.held ≡ w.held
    held_are l e = take_same b.held w.held (omega arith) (λ i h. let k : i < rows = omega arith in numbers_are.held_is i k ∙ sym (y.numbers.held_is i k))

    fall_are : rows ≤ length b.fall → length w.fall ≡ rows → take (length w.fall) b.fall ≡ w.fall
    fall_are l e =
        take_same b.fall w.fall (omega arith)
        (λ i h. let k : i < rows = omega arith in
        one_row (congruence w.book) y.rows.ascending (fall_row (numbers_are.fall_is i k)) (fall_row (y.numbers.fall_is i k)))

  builds-enough : {old b : Five} {i v : ℕ} → rows ≤ lent old → length w.held ≡ rows → length w.fall ≡ rows → Builds w.book old b i v
      → (i ≡ 0) × (v ≡ rows) × (take (length w.held) b.held ≡ w.held) × (take (length w.fall) b.fall ≡ w.fall)
  builds-enough l e f (accepted h t k) = (refl, rows_are t, held_are t (omega (arith, k.held_long)) e, fall_are t (omega (arith, k.fall_long)) f)
  builds-enough l e f (no_room m) = absurd (not_both (congruence w.book) (few l) m)

  builds_fewer : {old b : Five} {i v : ℕ} → lent old < rows → Builds w.book old b i v → (i ≡ 10) × (v ≡ lent old) × (b ≡ zeroed old)
  builds_fewer l (accepted h t k) = absurd (omega (arith, rows_are t))
  builds_fewer l (no_room m) = (refl, refl, refl)

module _ {a : Content} {w : Written} {bytes : List ℕ} (e : Means bytes a) (y : Right w) (q : w.book ≡ rules_of a) where
  -- with rows enough
  pub enough : length w.held ≡ length w.rows → length w.fall ≡ length w.rows
      → Holds (build bytes (length w.rows) most_rows 0 (length w.rows) (tables w.held w.fall))
  enough h f old b x l _ p =
      let t = rw (← q) at (of_sound a e.meant p) in
      let (n, v, hs, fs) = builds-enough w y l h f t in
      record { number_is = n; value_is = v; leaves = (hs, fs) }

  -- with n rows, which are fewer
  pub fewer : (n : ℕ) → n < length w.rows → Holds (build bytes n n 10 n cleared)
  fewer n f old b x l h p =
      let t = rw (← q) at (of_sound a e.meant p) in
      let k : lent old < length w.rows = omega arith in
      let (i, v, z) = builds_fewer w y k t in
      record { number_is = i; value_is = v ∙ omega arith; leaves = z }
