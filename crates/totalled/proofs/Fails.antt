-- The pass over the leaves ends at the first leaf whose walk is refused with 13, at that byte, and gets through where there is none. Assumes nothing.
use Prim.Native.Nat.{ℕ, ◌+◌, ◌-◌}
use mathlib.Core.Logic.{◌≢◌}
use mathlib.Core.Path.{◌≡◌, ◌∙◌}
use native.Mathlib.Nat.{add_assoc}
use native.Mathlib.Omega.{arith}
use lib.ListN.{length}
use Rattle.answers.specs.Walked.{number_of}
use Rattle.std.specs.Prelude.{Ok}
use Rattle.leaf.specs.Leaf.{damaged}
use Rattle.lines.specs.Lines.{lines_of}
use Rattle.lines.specs.Written.{start_of}
use Rattle.lines.specs.Profile.{frames_in}
use Rattle.lines.proofs.Sizes.{frame_le}
use Rattle.lines.proofs.First.{pass_through, pass_first}
use Rattle.leaves.specs.Totals.{leaf_pass, leaves_pass}
use Rattle.totalled.specs.Adding.{AddCall, leaf_in, leaf_from, line_at, leaf_walk, FirstFails, NoneFails, Begins}
use Rattle.totalled.proofs.Leaves.{pass_by_end}
use Rattle.totalled.proofs.Walked.{leaf_fails, leaf_kept}

module _ (w : AddCall) (x : Begins w) where
  -- a line whose leaf's walk is not refused with 13
  keeps : (i at : ℕ) → number_of (leaf_walk w i) ≢ 13 → leaf_pass w.tables w.n at (line_at w i) ≡ Ok tt
  keeps i at ne =
      pass_by_end w.tables w.n at (line_at w i)
      ∙ leaf_kept w.tables w.n x.lends x.some (leaf_in (line_at w i)) (omega (arith, frame_le w.profile i (length (frames_in (line_at w i)) - 1), x.short)) _ ne

  pub none_fails : NoneFails w → leaves_pass w.tables w.n w.profile ≡ Ok tt
  unfolding leaves_pass
  none_fails h = pass_through (leaf_pass w.tables w.n) (lines_of w.profile) 0 (λ i l. keeps i _ (h i l))

  pub fails_at : (i c : ℕ) → FirstFails w i c → leaves_pass w.tables w.n w.profile ≡ damaged (start_of 0 (lines_of w.profile) i + leaf_from (line_at w i) + c)
  unfolding leaves_pass
  fails_at i c f =
      let lines = lines_of w.profile in
      let s = start_of 0 lines i in
      let line = line_at w i in
      let here = leaf_fails w.tables w.n x.lends x.some (leaf_in line) (omega (arith, frame_le w.profile i (length (frames_in (line_at w i)) - 1), x.short)) (λ k. damaged (s + (leaf_from line + k))) c f.fails f.byte in
      pass_first (leaf_pass w.tables w.n) lines 0 i f.line (pass_by_end w.tables w.n s line ∙ here) (λ k m. keeps k _ (f.before k m))
      ∙ rw add_assoc
