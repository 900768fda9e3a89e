-- The tally walks a frame as `walk` walks a text: it is lost where the walk is refused with 13, and reports the same rules. Assumes nothing.
use mathlib.Core.List.{List, [], ◌∷◌, ◌++◌}
use mathlib.Core.Logic.{◌≢◌}
use mathlib.Core.Path.{◌≡◌, refl, sym, ◌∙◌}
use Prim.Native.Nat.{ℕ, ◌+◌, ◌≤◌, ◌<◌}
use native.Mathlib.Nat.{add-zero}
use native.Mathlib.Omega.{arith}
use lib.Bits.{bit_or}
use lib.ListN.{length}
use Rattle.std.specs.Prelude.{Option, Some, None, Result, Ok}
use Rattle.sets.specs.Sets.{has, members, reports as pairs}
use Rattle.sets.specs.Table.{rules_at}
use Rattle.sets.proofs.Laws.{has-empty, has_or}
use Rattle.meaning.specs.Tables.{Five}
use Rattle.book.specs.Limits.{most_rules, most_bytes}
use Rattle.lent.specs.Lent.{lent}
use Rattle.walk.specs.declared.Run.{Run}
use Rattle.one_byte.specs.declared.Moved.{Moved}
use Rattle.answers.specs.declared.Damaged.{Damaged}
use Rattle.answers.specs.Walked.{number_of, value_of}
use Rattle.one_byte.specs.Move.{move_from, on_move}
use Rattle.walk.specs.Walk.{stopped, reported, run_from, run_of, reports_from, walk_of}
use Rattle.one_byte.proofs.Laws.{Within, move-within}
use Rattle.walk.proofs.Stops.{on_run, move_is, run-stops, run_ends}
use Rattle.lines.specs.Lines.{Pass}
use Rattle.tally.specs.Tally.{after_move, lost_at, pass_from, rules_from, frame_pass, frame_rules, move_by}
use Rattle.sets.specs.Sets.{among}
use Rattle.summed.specs.Totals.{rules_reported, reports_in}
use Rattle.sets.proofs.Among.{among-append, among-members}

rules_pairs : (e : ℕ) (ks rs : List ℕ) → rules_reported (pairs e ks ++ rs) ≡ ks ++ rules_reported rs
unfolding rules_reported pairs
rules_pairs e [] rs = refl
rules_pairs e (k ∷ ks) rs = rw (rules_pairs e ks rs)

reported_is : (out : List ℕ) (row : ℕ) → reported out row ≡ members most_rules (rules_at out row)
unfolding reported
reported_is out row = refl

-- where a run that starts at `base` ends
abbrev run_pass : ℕ → Result Run Damaged → Pass Damaged
run_pass base q = on_run q (λ row. Ok tt) (λ i. lost_at (base + i))

module _ (b : Five) (n : ℕ) (lends : n ≤ lent b) where
  abbrev moving : ℕ → ℕ → Option Moved
  moving row c = move_from b.goto b.fall n row c 0

  -- ---- a frame

  abbrev run : ℕ → ℕ → ℕ → ℕ → List ℕ → Result Run Damaged
  run = run_from b.goto b.fall b.out n

  abbrev reporting : ℕ → ℕ → List ℕ → List ℕ
  reporting = reports_from b.goto b.fall b.out n

  pass_is : (frame : List ℕ) (base at row falls made : ℕ) → row < n → pass_from (move_by b n) (base + at) row frame ≡ run_pass base (run at row falls made frame)
  unfolding pass_from run_from
  pass_is [] base at row falls made l = refl
  pass_is (c ∷ frame) base at row falls made l =
      rw (move_is b n lends row c l) (go (moving row c) (move-within b.goto b.fall n row c 0) (λ to f m h. pass_is frame base (at + 1) to f m h))
    where
      go : (m : Option Moved) → Within n m → ((to f m : ℕ) → to < n → pass_from (move_by b n) (base + (at + 1)) to frame ≡ run_pass base (run (at + 1) to f m frame))
          → after_move m (λ to. pass_from (move_by b n) (base + at + 1) to frame) (lost_at (base + at))
          ≡ run_pass base (on_move m (λ to more. run (at + 1) to (falls + more) (made + length (reported b.out to)) frame) (stopped at))
      go (Some m) w ih = let q : base + at + 1 ≡ base + (at + 1) = omega arith in rw q (ih m.row (falls + m.falls) (made + length (reported b.out m.row)) w)
      go None w ih = refl

  rules_are : (k : ℕ) → k < most_rules → (frame : List ℕ) (at row : ℕ) → row < n
      → among k (rules_reported (reporting at row frame)) ≡ has (rules_from (move_by b n) (rules_at b.out) row frame) k
  unfolding rules_from reports_from rules_reported among
  rules_are k small [] at row l = sym (has-empty k)
  rules_are k small (c ∷ frame) at row l =
      rw (move_is b n lends row c l) (go (moving row c) (move-within b.goto b.fall n row c 0) (λ to h. rules_are k small frame (at + 1) to h))
    where
      go : (m : Option Moved) → Within n m → ((to : ℕ) → to < n → among k (rules_reported (reporting (at + 1) to frame)) ≡ has (rules_from (move_by b n) (rules_at b.out) to frame) k)
          → among k (rules_reported (on_move m (λ to more. pairs (at + 1) (reported b.out to) ++ reporting (at + 1) to frame) []))
          ≡ has (after_move m (λ to. bit_or (rules_at b.out to) (rules_from (move_by b n) (rules_at b.out) to frame)) 0) k
      go (Some m) w ih = rw (rules_pairs, among-append, reported_is b.out m.row, among-members k most_rules (rules_at b.out m.row) small, ih m.row w, has_or)
      go None w ih = sym (has-empty k)

  module _ (some : n ≢ 0) (frame : List ℕ) where
    frame_run : (at : ℕ) → frame_pass (move_by b n) at frame ≡ run_pass at (run_of b.goto b.fall b.out n frame)
    unfolding frame_pass
    frame_run at = rw add-zero at (pass_is frame at 0 0 0 0 (omega arith))

    pub frame_lost : (at x : ℕ) → length frame ≤ most_bytes → number_of (walk_of b n frame 0) ≡ 13 → value_of (walk_of b n frame 0) ≡ x
        → frame_pass (move_by b n) at frame ≡ lost_at (at + x)
    frame_lost at x short e v = frame_run at ∙ run-stops b n lends some frame short (Ok tt) (λ i. lost_at (at + i)) x e v

    pub frame_kept : (at : ℕ) → length frame ≤ most_bytes → number_of (walk_of b n frame 0) ≢ 13 → frame_pass (move_by b n) at frame ≡ Ok tt
    frame_kept at short ne = frame_run at ∙ run_ends b n lends some frame short (Ok tt) (λ i. lost_at (at + i)) ne

    pub frame_reports : (k : ℕ) → k < most_rules → reports_in b n k frame ≡ has (frame_rules (move_by b n) (rules_at b.out) frame) k
    unfolding frame_rules
    frame_reports k small = rules_are k small frame 0 0 (omega arith)
