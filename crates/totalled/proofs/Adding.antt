-- What adding a profile comes to: its answer, the record after it, a run of profiles, and the shares. Assumes nothing.
use mathlib.Core.Bool.{Bool, true, false, cond}
use mathlib.Core.List.{List, [], ◌∷◌}
use mathlib.Core.Logic.{◌⊎◌, inl, inr, ◌≢◌}
use mathlib.Core.Path.{◌≡◌, refl, ap, ap₂, ◌∙◌}
use Prim.Native.Nat.{ℕ, ◌+◌, ◌≤◌, ◌<◌}
use native.Mathlib.Omega.{arith}
use borrow.Author.Tests.{lt-ltb, le-ltb, ltb-false, leb-false}
use lib.Dec.{leb, ltb, eqb}
use lib.ListN.{length}
use Rattle.sets.specs.Sums.{sum_over}
use Rattle.meaning.specs.Tables.{Five}
use Rattle.book.specs.Limits.{most_bytes}
use Rattle.lent.specs.Lent.{lent, has_rows}
use Rattle.lent.proofs.HasRows.{rows-lent, no_rows, few-lent}
use Rattle.std.specs.Prelude.{Ok, Err}
use Rattle.answers.specs.declared.Damaged.{Damaged}
use Rattle.lines.specs.declared.BadLine.{BadLine}
use Rattle.lines.specs.Lines.{lines_of, Pass, pass_over, check_of}
use Rattle.lines.specs.Profile.{AllSound, count_in, counts}
use Rattle.lines.proofs.First.{both-through, checked, broken_at}
use Rattle.shares.specs.Shares.{all_places, limit}
use Rattle.shares.proofs.Demands.{demands}
use Rattle.leaf_totals.specs.declared.LeafTotals.{LeafTotals}
use Rattle.leaf_totals.specs.declared.AddRefusal.{AddRefusal}
use Rattle.leaf_totals.specs.declared.AddRefusal.TheVariants as add
use Rattle.leaf_totals.specs.Record.{most_profiles, total_at, totals_in, whole_in}
use Rattle.leaf_totals.specs.Totalled.{number_of, value_of}
use Rattle.leaves.specs.Totals.{leaf_pass, leaves_pass, line_adds, profile_adds, with_parts, after_pass, add_answer, record_after}
use Rattle.leaves.proofs.EachPlace.{adds-to-counts}
use Rattle.leaves.proofs.Order.{is_full, is_long, is_rowless, is_passed}
use Rattle.totalled.specs.Adding.{AddCall, comes_to, record_left, AddAnswers, leaf_in, NoneFails, family_over, counts_of, Begins, AddRefuses, AddsUp, call_of, start, next, RunsAddUp, SharesFair}
use Rattle.totalled.proofs.Leaves.{line_adds_is}
use Rattle.totalled.proofs.Fails.{none_fails, fails_at}
use Rattle.totalled.proofs.Records.{joined_at, joined-whole, joined_profiles, empty-totals, empty-whole}

-- ---- what a profile adds, by the families of its leaves

module _ (b : Five) (n p : ℕ) where
  lines_add : (ls : List (List ℕ)) (at : ℕ) → pass_over (leaf_pass b n) at ls ≡ Ok tt
      → sum_over (line_adds b n p) ls ≡ sum_over (λ line. cond (eqb (family_over b n (leaf_in line)) p) (count_in line) 0) ls
  unfolding pass_over sum_over
  lines_add [] at e = refl
  lines_add (l ∷ ls) at e =
      let (here, rest) = both-through (leaf_pass b n at l) (pass_over (leaf_pass b n) (at + length l + 1) ls) e in
      ap₂ ◌+◌ (line_adds_is b n p at l here) (lines_add ls (at + length l + 1) rest)

  adds_are : (profile : List ℕ) → leaves_pass b n profile ≡ Ok tt → profile_adds b n p profile ≡ counts_of b n p profile
  unfolding leaves_pass profile_adds
  adds_are profile e = lines_add (lines_of profile) 0 e

-- ---- the ways of an answer

unaltered : (a : Pass AddRefusal) (t : LeafTotals) (part : ℕ → ℕ) → number_of a ≢ 0 → record_after a t part ≡ t
unaltered (Ok u) t part ne = absurd (ne refl)
unaltered (Err e) t part ne = refl

altered : (a : Pass AddRefusal) (t : LeafTotals) (part : ℕ → ℕ) → number_of a ≡ 0 → record_after a t part ≡ with_parts t part
altered (Ok u) t part e = refl
altered (Err add.Full) t part e = absurd (omega arith)
altered (Err add.TooLong) t part e = absurd (omega arith)
altered (Err (add.BadRows rows)) t part e = absurd (omega arith)
altered (Err (add.BadLine at)) t part e = absurd (omega arith)
altered (Err (add.Damaged at)) t part e = absurd (omega arith)
altered (Err add.Past) t part e = absurd (omega arith)

-- past the limit, or not
abbrev by_limit : Bool → Pass AddRefusal
by_limit past = cond past (Err add.Past) (Ok tt)

-- what an accepted call tells
record AcceptedCall (w : AddCall) : Type 0 where
  few : w.old.profiles < most_profiles
  passes : leaves_pass w.tables w.n w.profile ≡ Ok tt
  fits : whole_in w.old + counts w.profile ≤ limit

module _ (w : AddCall) where
  abbrev whole : ℕ
  whole = whole_in w.old + counts w.profile

  answers : {a : Pass AddRefusal} → (comes_to w).answer ≡ a → AddAnswers w (number_of a) (value_of a)
  answers e = record { number_is = rw e; value_is = rw e }

  -- ---- before the lines

  full : most_profiles ≤ w.old.profiles → AddAnswers w 21 most_profiles
  full h = answers {a = Err add.Full} (is_full w.tables w.n w.profile w.old h)

  too_long : w.old.profiles < most_profiles → most_bytes < length w.profile → AddAnswers w 11 most_bytes
  too_long h l = answers {a = Err add.TooLong} (is_long w.tables w.n w.profile w.old h l)

  rowless : w.old.profiles < most_profiles → length w.profile ≤ most_bytes → has_rows w.tables w.n ≡ false → AddAnswers w 12 w.n
  rowless h short e = answers {a = Err (add.BadRows w.n)} (is_rowless w.tables w.n w.profile w.old h short e)

  bad_rows : w.old.profiles < most_profiles → length w.profile ≤ most_bytes → (w.n ≡ 0) ⊎ (lent w.tables < w.n) → AddAnswers w 12 w.n
  bad_rows h short (inl q) = rowless h short (no_rows w.tables w.n q)
  bad_rows h short (inr l) = rowless h short (few-lent w.tables w.n (omega arith) l)

  -- ---- by the passes

  answer_is : Begins w → {q : Pass BadLine} {r : Pass Damaged} → check_of w.profile ≡ q → leaves_pass w.tables w.n w.profile ≡ r
      → (comes_to w).answer ≡ after_pass q (λ l. add.BadLine l.at) (after_pass r (λ d. add.Damaged d.at) (by_limit (ltb limit whole)))
  answer_is x e f = is_passed w.tables w.n w.profile w.old x.few x.short (rows-lent w.tables w.n x.some x.lends) e f

  not_damaged : (q : Pass BadLine) (t : Bool) → number_of (after_pass q (λ l. add.BadLine l.at) (by_limit t)) ≢ 13
  not_damaged (Err l) t = λ z. omega arith
  not_damaged (Ok u) true = λ z. omega arith
  not_damaged (Ok u) false = λ z. omega arith

  -- where no walk fails
  pub none_damaged : Begins w → NoneFails w → number_of (comes_to w).answer ≢ 13
  none_damaged x h = rw (answer_is x refl (none_fails w x h)) (not_damaged (check_of w.profile) (ltb limit whole))

  -- where the lines are sound and no walk fails, by whether the total is past the limit
  through : Begins w → AllSound (lines_of w.profile) → leaves_pass w.tables w.n w.profile ≡ Ok tt → {t : Bool} → ltb limit whole ≡ t
      → AddAnswers w (number_of (by_limit t)) (value_of (by_limit t))
  through x s e {t} f = answers {a = by_limit t} (answer_is x (checked w.profile s) e ∙ ap by_limit f)

  -- ---- an accepted call

  taken : AddAnswers w 0 0 → AcceptedCall w
  unfolding add_answer
  taken a =
      go (leb most_profiles w.old.profiles) (ltb most_bytes (length w.profile)) (has_rows w.tables w.n) (check_of w.profile) (leaves_pass w.tables w.n w.profile) (ltb limit whole)
      refl refl refl a.number_is
    where
      go : (s t u : Bool) (q : Pass BadLine) (r : Pass Damaged) (v : Bool) → leb most_profiles w.old.profiles ≡ s → leaves_pass w.tables w.n w.profile ≡ r → ltb limit whole ≡ v
          → number_of (cond s (Err add.Full) (cond t (Err add.TooLong) (cond u (after_pass q (λ l. add.BadLine l.at) (after_pass r (λ d. add.Damaged d.at) (by_limit v))) (Err (add.BadRows w.n))))) ≡ 0 → AcceptedCall w
      go true t u q r v d e f z = absurd (omega arith)
      go false true u q r v d e f z = absurd (omega arith)
      go false false false q r v d e f z = absurd (omega arith)
      go false false true (Err l) r v d e f z = absurd (omega arith)
      go false false true (Ok x) (Err y) v d e f z = absurd (omega arith)
      go false false true (Ok x) (Ok y) true d e f z = absurd (omega arith)
      go false false true (Ok x) (Ok y) false d e f z = record { few = leb-false _ _ d; passes = e; fits = ltb-false _ _ f }

  abbrev adds_at : ℕ → ℕ
  adds_at p = profile_adds w.tables w.n p w.profile

  left_is : AddAnswers w 0 0 → record_left w ≡ with_parts w.old adds_at
  left_is a = altered (comes_to w).answer w.old adds_at a.number_is

  totals_are : AddAnswers w 0 0 → (p : ℕ) → p < all_places → total_at (record_left w) p ≡ total_at w.old p + counts_of w.tables w.n p w.profile
  totals_are a p h =
      ap (λ (t : LeafTotals). total_at t p) (left_is a) ∙ joined_at w.old adds_at p h
      ∙ ap (λ (k : ℕ). total_at w.old p + k) (adds_are w.tables w.n p w.profile (taken a).passes)

  profiles_are : AddAnswers w 0 0 → (record_left w).profiles ≡ w.old.profiles + 1
  profiles_are a = ap (λ (t : LeafTotals). t.profiles) (left_is a) ∙ joined_profiles w.old adds_at

  whole_left : AddAnswers w 0 0 → whole_in (record_left w) ≡ whole
  whole_left a =
      ap whole_in (left_is a) ∙ joined-whole w.old adds_at
      ∙ ap (λ (k : ℕ). whole_in w.old + k) (adds-to-counts w.tables w.n w.profile (taken a).passes)

pub add_refuses : AddRefuses
add_refuses w = record {
  full = full w;
  too_long = too_long w;
  bad_rows = bad_rows w;
  bad_line = λ x i b. answers w (answer_is w x (broken_at w.profile i b) refl);
  damaged = λ x s i c f. answers w (answer_is w x (checked w.profile s) (fails_at w x i c f));
  past = λ x s h l. through w x s (none_fails w x h) (lt-ltb limit (whole w) l);
  accepted = λ x s h l. through w x s (none_fails w x h) (le-ltb limit (whole w) l);
  unaltered = unaltered (comes_to w).answer w.old (adds_at w);
  totals = totals_are w;
  profiles = profiles_are w;
}

pub adds_up : AddsUp
adds_up w a = (whole_left w a, omega (arith, whole_left w a, (taken w a).fits))

-- ---- a run

pub runs_add_up : RunsAddUp
unfolding sum_over
runs_add_up _ _ start = record { whole = empty-whole; each = λ p h. empty-totals p; profiles = refl; few = omega arith }
runs_add_up _ _ (next {ss} {t} s r a) =
    let so = runs_add_up ss t r in
    record {
      whole = whole_left (call_of s t) a ∙ omega (arith, so.whole);
      each = λ p h. totals_are (call_of s t) a p h ∙ omega (arith, so.each p h);
      profiles = profiles_are (call_of s t) a ∙ omega (arith, so.profiles);
      few = omega (arith, (taken (call_of s t) a).few, so.profiles);
    }

-- ---- shares

pub shares_fair : SharesFair
shares_fair t = demands (totals_in t)
