-- An accepted walk's reports are within the buffer that was lent. Assumes nothing.
use Prim.Native.Nat.{ℕ, ◌*◌, ◌/◌, ◌≤◌}
use mathlib.Core.Bool.{Bool, true, false, cond}
use Rattle.std.specs.Prelude.{Result, Ok, Err}
use mathlib.Core.List.{List}
use mathlib.Core.Path.{◌≡◌, sym, subst, ◌∙◌}
use native.Mathlib.Omega.{arith}
use Rattle.std.proofs.lemmas.Grind.{common_steps}
use lib.Dec.{ltb}
use lib.ListN.{length}
use Rattle.book.specs.Limits.{most_bytes}
use Rattle.lent.specs.Lent.{five, has_rows}
use Rattle.walk.specs.Walk.{run_of, answer_of, walk_of}
use Rattle.walk.specs.declared.Run.{Run}
use Rattle.answers.specs.declared.Walked.{Walked}
use Rattle.answers.specs.declared.Damaged.{Damaged}
use Rattle.answers.specs.declared.WalkRefusal.{WalkRefusal}
use Rattle.answers.specs.declared.WalkRefusal.TheVariants.{TooLong, BadRows}

-- the reports of an accepted walk, two numbers each, are at most so many places
abbrev Within : Result Walked WalkRefusal → ℕ → Type 0
Within (Ok w) places = 2 * w.reports ≤ places
Within (Err e) places = Unit {0}

answer_within : (held : List ℕ) (space : ℕ) (x : Result Run Damaged) → Within (answer_of held (space / 2) x) space
answer_within held space (Ok r) = grind (arith, common_steps)
answer_within held space (Err d) = tt

pub accepted-within :
    (goto fall held live out text : List ℕ) (n : ℕ) {space places : ℕ} {r : Result Walked WalkRefusal} {w : Walked} → places ≡ space
    → r ≡ walk_of (five goto fall held live out) n text space → r ≡ Ok w → 2 * w.reports ≤ places
accepted-within goto fall held live out text n {space} {w = w} p e q =
    subst (λ k. 2 * w.reports ≤ k) (sym p) (subst (λ r. Within r space) (sym e ∙ q) (go (ltb most_bytes (length text)) (has_rows (five goto fall held live out) n)))
  where
    go : (long rows : Bool) → Within (cond long (Err TooLong) (cond rows (answer_of held (space / 2) (run_of goto fall out n text)) (Err (BadRows n)))) space
    go true rows = tt
    go false true = answer_within held space (run_of goto fall out n text)
    go false false = tt
