-- The second pass ends at the first frame whose walk is refused with 13, at that byte, and gets through where there is none. Assumes nothing.
use Prim.Native.Nat.{ℕ, ◌+◌, ◌<◌}
use mathlib.Core.List.{[]}
use mathlib.Core.Logic.{◌≢◌}
use mathlib.Core.Path.{◌≡◌, ap, ◌∙◌}
use native.Mathlib.Omega.{arith}
use lib.ListN.{length, get_or}
use Rattle.std.specs.Prelude.{Ok}
use Rattle.answers.specs.Walked.{number_of}
use Rattle.lines.specs.Lines.{lines_of}
use Rattle.lines.specs.Written.{start_of}
use Rattle.tally.specs.Tally.{lost_at, frame_pass, line_pass, lines_pass, move_by}
use Rattle.lines.specs.Profile.{frames_in, frame_at}
use Rattle.summed.specs.Totals.{TallyCall, Ready, walk_over, FirstLost, NoneLost}
use Rattle.lines.proofs.Sizes.{frame_le}
use Rattle.lines.proofs.Pieces.{start_from}
use Rattle.lines.proofs.First.{pass_through, pass_first}
use Rattle.tally.proofs.Walks.{frames_pass}
use Rattle.summed.proofs.Walked.{frame_lost, frame_kept}

module _ (w : TallyCall) (x : Ready w) where
  -- a frame whose walk is not refused with 13
  keeps : (i j at : ℕ) → number_of (walk_over w i j) ≢ 13 → frame_pass (move_by w.tables w.n) at (frame_at w.profile i j) ≡ Ok tt
  keeps i j at ne = frame_kept w.tables w.n x.lends x.some (frame_at w.profile i j) at (omega (arith, frame_le w.profile i j, x.short)) ne

  -- a line with no other frame
  line_keeps : (i at : ℕ) → ((j : ℕ) → j < length (frames_in (get_or (lines_of w.profile) i [])) → number_of (walk_over w i j) ≢ 13)
      → line_pass (move_by w.tables w.n) at (get_or (lines_of w.profile) i []) ≡ Ok tt
  line_keeps i at h = frames_pass _ at _ ∙ pass_through (frame_pass (move_by w.tables w.n)) (frames_in (get_or (lines_of w.profile) i [])) at (λ j l. keeps i j _ (h j l))

  pub none_lost : NoneLost w → lines_pass (move_by w.tables w.n) w.profile ≡ Ok tt
  unfolding lines_pass
  none_lost h = pass_through (line_pass (move_by w.tables w.n)) (lines_of w.profile) 0 (λ i l. line_keeps i _ (h i l))

  pub first_lost : (i j b : ℕ) → FirstLost w i j b
      → lines_pass (move_by w.tables w.n) w.profile ≡ lost_at (start_of 0 (lines_of w.profile) i + start_of 0 (frames_in (get_or (lines_of w.profile) i [])) j + b)
  unfolding lines_pass
  first_lost i j b f =
      let move = move_by w.tables w.n in
      let lines = lines_of w.profile in
      let fs = frames_in (get_or lines i []) in
      let s = start_of 0 lines i in
      let here = frame_lost w.tables w.n x.lends x.some (frame_at w.profile i j) (start_of s fs j) b (omega (arith, frame_le w.profile i j, x.short)) f.lost f.byte in
      pass_first (line_pass move) lines 0 i f.line (frames_pass move s (get_or lines i []) ∙ pass_first (frame_pass move) fs s j f.frame here (λ l m. keeps i l _ (f.frames_before l m))) (λ k m. line_keeps k _ (f.lines_before k m))
      ∙ ap (λ k. lost_at (k + b)) (start_from fs s j)
