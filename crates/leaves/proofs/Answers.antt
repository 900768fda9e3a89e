-- What was counted, the record that grows by it, and what is handed back. Assumes nothing.
use mathlib.Core.List.{List}
use mathlib.Core.Bool.{true, cond}
use mathlib.Core.Path.{◌≡◌, refl, sym, ap, ◌∙◌}
use Prim.Native.Nat.{ℕ, ◌+◌, ◌≤◌, ◌<◌}
use borrow.Author.Tests.{lt-ltb, le-ltb}
use lib.Dec.{ltb}
use lib.ListN.{length}
use native.Mathlib.Omega.{arith}
use Rattle.std.specs.Prelude.{Ok, Err}
use Rattle.answers.specs.declared.Damaged.{Damaged}
use Rattle.meaning.specs.Tables.{Five}
use Rattle.book.specs.Limits.{most_rules, most_bytes}
use Rattle.lent.specs.Lent.{has_rows}
use Rattle.lines.specs.Lines.{Pass, check_of}
use Rattle.lines.specs.Profile.{counts}
use Rattle.book.specs.Content.{table}
use Rattle.shares.specs.Shares.{all_places, limit, amount_at, total_of}
use Rattle.book.proofs.Tables.{get_or_table}
use Rattle.shares.proofs.Tables.{table_same, total_table}
use Rattle.leaf_totals.specs.declared.LeafTotals.{LeafTotals}
use Rattle.leaf_totals.specs.declared.AddRefusal.{AddRefusal}
use Rattle.leaf_totals.specs.declared.AddRefusal.TheVariants as add
use Rattle.leaves.specs.declared.Handed.{Handed}
use Rattle.leaf.specs.Leaf.{unnamed}
use Rattle.leaf_totals.specs.Record.{most_profiles, total_at, whole_in}
use Rattle.leaves.specs.Totals.{leaves_pass, profile_adds, with_parts, record_after}
use Rattle.leaves.specs.Steps.{giving, counted_lines, grown_by}
use Rattle.leaves.proofs.Order.{is_passed}
use Rattle.leaves.proofs.EachPlace.{adds-to-counts}

-- ---- parts that agree

pub with-same : (t : LeafTotals) (f : ℕ → ℕ) → with_parts t (amount_at (table all_places f)) ≡ with_parts t f
unfolding with_parts
with-same t f =
    let each : (k : ℕ) → k < all_places → amount_at (table all_places f) k ≡ f k = λ k h. get_or_table all_places f k 0 h in
    let totals = table_same most_rules (λ k. total_at t k + amount_at (table all_places f) k) (λ k. total_at t k + f k) (λ k h. ap (λ x. total_at t k + x) (each k (omega arith))) in
    rw (totals, each unnamed (omega arith))

-- ---- what was counted

-- the pass got through, and these are the parts, which add up to the counts
pub record AllCounted (b : Five) (n : ℕ) (profile parts : List ℕ) : Type 0 where
  pub passes : leaves_pass b n profile ≡ Ok tt
  pub are : parts ≡ table all_places (λ p. profile_adds b n p profile)
  pub whole : total_of parts ≡ counts profile

pub all_counted : (b : Five) (n : ℕ) (profile parts : List ℕ) → Ok parts ≡ counted_lines b n profile → AllCounted b n profile parts
all_counted b n profile parts e = go (leaves_pass b n profile) refl e
  where
    go : (q : Pass Damaged) → leaves_pass b n profile ≡ q → Ok parts ≡ giving (table all_places (λ p. profile_adds b n p profile)) q → AllCounted b n profile parts
    go (Ok u) p h =
        let are : parts ≡ table all_places (λ p. profile_adds b n p profile) = cc in
        record { passes = p; are = are; whole = ap total_of are ∙ total_table (λ p. profile_adds b n p profile) ∙ adds-to-counts b n profile p }
    go (Err d) p h = cc

module _ (b : Five) (n : ℕ) (profile : List ℕ) (t : LeafTotals) (few : t.profiles < most_profiles) (short : length profile ≤ most_bytes)
    (rows : true ≡ has_rows b n) (sound : Ok tt ≡ check_of profile) {parts : List ℕ} (all : Ok parts ≡ counted_lines b n profile) where
  -- by the total, where all lines are sound and no walk fails
  by_total : grown_by b n profile t ≡ giving (with_parts t (amount_at parts)) (cond (ltb limit (whole_in t + total_of parts)) (Err add.Past) (Ok tt))
  by_total =
      let c = all_counted b n profile parts all in
      let same : with_parts t (amount_at parts) ≡ with_parts t (λ p. profile_adds b n p profile) = ap (λ l. with_parts t (amount_at l)) c.are ∙ with-same t (λ p. profile_adds b n p profile) in
      rw (is_passed b n profile t few short (sym rows) (sym sound) c.passes, c.whole, same)

  pub grown_past : limit < whole_in t + total_of parts → Err add.Past ≡ grown_by b n profile t
  grown_past h = rw (by_total, lt-ltb _ _ h)

  pub grown_within : whole_in t + total_of parts ≤ limit → {r : LeafTotals} → r ≡ with_parts t (amount_at parts) → Ok r ≡ grown_by b n profile t
  grown_within h e = rw (by_total, le-ltb _ _ h, e)

-- ---- what is handed back

pub handed_on : (t back : LeafTotals) (part : ℕ → ℕ) (a : Pass AddRefusal) → Ok back ≡ giving (with_parts t part) a
    → ◌≡◌ {A = Handed} (record { answer = Ok tt; back = back }) (record { answer = a; back = record_after a t part })
handed_on t back part (Ok u) e = let f : back ≡ with_parts t part = cc in rw f
handed_on t back part (Err w) e = cc

pub handed_back : (t : LeafTotals) (part : ℕ → ℕ) (why : AddRefusal) (a : Pass AddRefusal) → Err why ≡ giving (with_parts t part) a
    → ◌≡◌ {A = Handed} (record { answer = Err why; back = t }) (record { answer = a; back = record_after a t part })
handed_back t part why (Ok u) e = cc
handed_back t part why (Err w) e = cc
