-- Each fall is lower, and what it leads to its row leads to.
use Prim.Native.Nat.{ℕ, suc, ◌+◌, ◌*◌, ◌≤◌, ◌<◌}
use mathlib.Core.Path.{◌≡◌, ap, subst, ◌∙◌}
use mathlib.Core.List.{List}
use native.Mathlib.Nat.{zero-add}
use native.Mathlib.Omega.{arith}
use lib.ListN.{get_or}
use Rattle.meaning.specs.Tables.{no_entry}
use Rattle.meaning.specs.Step.{goes, falls}
use Rattle.build.specs.Course.{Descends}
use Rattle.build.proofs.follow.Goals as goal

lower : (goto fall : List ℕ) (row c r : ℕ) → Descends goto fall row → c < 256 → r ≤ row → get_or goto (256 * r + c) 0 ≡ no_entry → get_or fall r 0 < r
lower goto fall row c r d l h e = d.down r h (λ z. d.last c l (subst (λ (n : ℕ). get_or goto n 0 ≡ no_entry) (ap (λ (n : ℕ). 256 * n + c) z ∙ zero-add c) e))

pub loop-r-preserved : goal.loop-r-preserved
loop-r-preserved c = (
  omega (arith, lower _ _ _ _ _ c.requires.descends c.requires.is_byte c.loop-r.invariant.0 c.loop-r-test.true),
  λ e f. c.loop-r.invariant.1 e (record { falls_made = suc f.falls_made; way = falls c.loop-r-test.true (rw c.from-r-in-loop-r.ensures at f.way) }),
)

pub returns : goal.returns
returns c = c.loop-r.invariant.1 _ (record { falls_made = 0; way = goes c.loop-r-test.false })
