-- What is asked first: the answer of a call, refusal by refusal. Assumes nothing.
use mathlib.Core.Bool.{true, false, cond}
use mathlib.Core.List.{List}
use mathlib.Core.Path.{◌≡◌}
use Prim.Native.Nat.{ℕ, ◌+◌, ◌≤◌, ◌<◌}
use borrow.Author.Tests.{lt-ltb, le-ltb, le-leb, lt-leb}
use lib.Dec.{ltb}
use lib.ListN.{length}
use Rattle.meaning.specs.Tables.{Five}
use Rattle.book.specs.Limits.{most_bytes}
use Rattle.lent.specs.Lent.{has_rows}
use Rattle.std.specs.Prelude.{Ok, Err}
use Rattle.answers.specs.declared.Damaged.{Damaged}
use Rattle.lines.specs.declared.BadLine.{BadLine}
use Rattle.lines.specs.Lines.{Pass, check_of}
use Rattle.lines.specs.Profile.{counts}
use Rattle.shares.specs.Shares.{limit}
use Rattle.leaf_totals.specs.declared.LeafTotals.{LeafTotals}
use Rattle.leaf_totals.specs.declared.AddRefusal.TheVariants as add
use Rattle.leaf_totals.specs.Record.{most_profiles, whole_in}
use Rattle.leaves.specs.Totals.{leaves_pass, after_pass, add_answer}

module _ (b : Five) (n : ℕ) (profile : List ℕ) (t : LeafTotals) where
  pub is_full : most_profiles ≤ t.profiles → add_answer b n profile t ≡ Err add.Full
  unfolding add_answer
  is_full h = rw (le-leb most_profiles t.profiles h)

  module _ (few : t.profiles < most_profiles) where
    pub is_long : most_bytes < length profile → add_answer b n profile t ≡ Err add.TooLong
    unfolding add_answer
    is_long h = rw (lt-leb most_profiles t.profiles few, lt-ltb most_bytes (length profile) h)

    module _ (short : length profile ≤ most_bytes) where
      pub is_rowless : has_rows b n ≡ false → add_answer b n profile t ≡ Err (add.BadRows n)
      unfolding add_answer
      is_rowless e = rw (lt-leb most_profiles t.profiles few, le-ltb most_bytes (length profile) short, e)

      -- by what the two passes over the lines come to
      pub is_passed : has_rows b n ≡ true → {q : Pass BadLine} {r : Pass Damaged} → check_of profile ≡ q → leaves_pass b n profile ≡ r
          → add_answer b n profile t ≡ after_pass q (λ l. add.BadLine l.at) (after_pass r (λ d. add.Damaged d.at) (cond (ltb limit (whole_in t + counts profile)) (Err add.Past) (Ok tt)))
      unfolding add_answer
      is_passed e p l = rw (lt-leb most_profiles t.profiles few, le-ltb most_bytes (length profile) short, e, p, l)
