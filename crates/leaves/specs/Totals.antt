-- Leaf totals: what a profile adds to each family, the record, and the answer of a call. Assumes nothing.
use Rattle.std.specs.Prelude.{cond, Ok, Err, List, ℕ, ◌+◌, leb, ltb, eqb, length}
use Rattle.sets.specs.Sums.{sum_over}
use Rattle.meaning.specs.Tables.{Five}
use Rattle.book.specs.Limits.{most_rules, most_bytes}
use Rattle.lent.specs.Lent.{has_rows}
use Rattle.answers.specs.declared.Damaged.{Damaged}
use Rattle.lines.specs.Lines.{lines_of, Pass, pass_over, check_of}
use Rattle.lines.specs.Profile.{counts}
use Rattle.shares.specs.declared.Shares.{Shares}
use Rattle.book.specs.Content.{table}
use Rattle.shares.specs.Shares.{limit, shares_of}
use Rattle.leaf_totals.specs.declared.LeafTotals.{LeafTotals}
use Rattle.leaf_totals.specs.declared.AddRefusal.{AddRefusal}
use Rattle.leaf_totals.specs.declared.AddRefusal.TheVariants as add
use Rattle.leaf_totals.specs.Record.{most_profiles, total_at, totals_in, whole_in}
use Rattle.leaves.specs.declared.Handed.{Handed}
use Rattle.leaf.specs.Leaf.{damaged, unnamed, line_leaf, on_leaf}

-- ---- a profile

module _ (b : Five) (n : ℕ) where
  -- A walk that fails ends the pass at the byte's offset in the profile.
  unfoldable pub leaf_pass : ℕ → List ℕ → Pass Damaged
  leaf_pass at line = on_leaf (line_leaf b n line) (λ place count. Ok tt) (λ i. damaged (at + i))

  unfoldable pub leaves_pass : List ℕ → Pass Damaged
  leaves_pass profile = pass_over leaf_pass 0 (lines_of profile)

  -- what a line adds to a place: its count, where its leaf belongs there
  unfoldable pub line_adds : ℕ → List ℕ → ℕ
  line_adds p line = on_leaf (line_leaf b n line) (λ place count. cond (eqb place p) count 0) (λ i. 0)

  -- The total of the counts of the lines whose leaf belongs at place p.
  unfoldable pub profile_adds : ℕ → List ℕ → ℕ
  profile_adds p profile = sum_over (line_adds p) (lines_of profile)

-- ---- the record

-- the record with so much more at each place, and one profile more
unfoldable pub with_parts : LeafTotals → (ℕ → ℕ) → LeafTotals
with_parts t part = record { totals = table most_rules (λ k. total_at t k + part k); unnamed = total_at t unnamed + part unnamed; profiles = t.profiles + 1 }

-- ---- a call

-- f of the end of a pass, or what is next
abbrev pub after_pass : {E : Type 0} → Pass E → (E → AddRefusal) → Pass AddRefusal → Pass AddRefusal
after_pass (Err e) f next = Err (f e)
after_pass (Ok u) f next = next

-- The answer: every line is judged before a leaf is walked, and every leaf is walked before the limit is asked for.
unfoldable pub add_answer : Five → ℕ → List ℕ → LeafTotals → Pass AddRefusal
add_answer b n profile t =
    cond (leb most_profiles t.profiles) (Err add.Full)
    (cond (ltb most_bytes (length profile)) (Err add.TooLong)
    (cond (has_rows b n)
    (after_pass (check_of profile) (λ l. add.BadLine l.at)
    (after_pass (leaves_pass b n profile) (λ d. add.Damaged d.at)
    (cond (ltb limit (whole_in t + counts profile)) (Err add.Past) (Ok tt))))
    (Err (add.BadRows n))))

-- The record after an answer: a refusal hands it back as it was.
abbrev pub record_after : Pass AddRefusal → LeafTotals → (ℕ → ℕ) → LeafTotals
record_after (Ok u) t part = with_parts t part
record_after (Err e) t part = t

abbrev pub add_of : Five → ℕ → List ℕ → LeafTotals → Handed
add_of b n profile t =
    record { answer = add_answer b n profile t; back = record_after (add_answer b n profile t) t (λ p. profile_adds b n p profile) }

-- The shares of a record: those of its totals, unnamed last.
abbrev pub shares_in : LeafTotals → Shares
shares_in t = shares_of (totals_in t)
