-- Laws of the walk of a frame, of the frames of a stack, and of lines. Assumes nothing.
use mathlib.Core.List.{List, [], ◌∷◌}
use mathlib.Core.Logic.{inl, inr}
use mathlib.Core.Path.{◌≡◌, refl, ◌∙◌}
use Prim.Native.Nat.{ℕ, ◌+◌, ◌-◌, ◌≤◌, ◌<◌}
use native.Mathlib.Numerals.{add-one}
use native.Mathlib.Omega.{arith}
use lib.Bits.{bit_or, or_zero_l, or_zero_r}
use lib.ListN.{length, get_or, take, drop, replicate, drop_of_length-le}
use lib.Seq.{drop-cons}
use Rattle.std.specs.Prelude.{Option, Some, None, Ok, Err}
use Rattle.sets.specs.Sets.{members, set_of}
use Rattle.sets.specs.Table.{row_words}
use Rattle.sets.proofs.Laws.{union_assoc}
use Rattle.sets.proofs.Members.{members-empty, members-le}
use Rattle.book.specs.Limits.{most_rules}
use Rattle.one_byte.specs.declared.Moved.{Moved}
use Rattle.answers.specs.declared.Damaged.{Damaged}
use Rattle.lines.specs.declared.Line.{Line}
use Rattle.lines.specs.Lines.{most_count, lf, semicolon, split, lines_of, frames_of, up_to, on_pass, pass_over, line_of, on_line}
use Rattle.tally.specs.Tally.{add_all, lost_at, pass_from, rules_from, frame_pass, frame_rules, rules_over, stack_pass, stack_rules, line_pass, line_sums, sums_over, lines_sums}
use Rattle.lines.specs.Profile.{frames_in, count_in}
use Rattle.tally.specs.Passes.{Room}
use Rattle.lines.proofs.Lines.{piece, Step, step, pieces_end, pieces_pass, lines_step, lines_pass_lem, lines_end, line_is, count_right}
use Rattle.tally.proofs.Adding.{length_add, room_less, room_add}

-- before any frame nothing is seen
pub none_seen : (ws : List ℕ) (s : ℕ) → ws ≡ replicate row_words 0 → bit_or (set_of ws) s ≡ s
unfolding set_of
none_seen ws s e = rw e (or_zero_l s)

-- the count of a line is small
pub count_within : (line : List ℕ) (l : Line) → Some l ≡ line_of line → l.count ≤ most_count
count_within line l e = (line_is line e refl).0.1

-- what has nothing more joins nothing
pub or_none : (s : ℕ) → bit_or s 0 ≡ s
or_none s = or_zero_r s

-- ---- passes

module _ (move : ℕ → ℕ → Option Moved) where
  module _ (frame : List ℕ) (at row : ℕ) where
    pub frame_end : (i : ℕ) → length frame ≤ at → pass_from move i row (drop at frame) ≡ Ok tt
    unfolding pass_from
    frame_end i h = rw drop_of_length-le

    -- a move that is lost, and one that is not
    pub frame_lost : (i : ℕ) → at < length frame → move row (get_or frame at 0) ≡ None → pass_from move i row (drop at frame) ≡ lost_at i
    unfolding pass_from
    frame_lost i h e = rw (drop-cons frame at 0, e)

    pub frame_more : (base : ℕ) (m : Moved) → at < length frame → move row (get_or frame at 0) ≡ Some m
        → pass_from move (base + at) row (drop at frame) ≡ pass_from move (base + (at + 1)) m.row (drop (at + 1) frame)
    unfolding pass_from
    frame_more base m h e = let on : base + at + 1 ≡ base + (at + 1) = omega arith in rw (drop-cons frame at 0, e, on, add-one at)

  -- an empty frame lets the pass through
  quiet : (i : ℕ) → pass_over (frame_pass move) i ([] ∷ []) ≡ Ok tt
  unfolding pass_over frame_pass pass_from
  quiet i = refl

  module _ (stack : List ℕ) where
    pub stack_end : (base at : ℕ) → length stack ≤ at → pass_over (frame_pass move) base (frames_of (drop at stack)) ≡ Ok tt
    stack_end base at h = pieces_end semicolon ([] ∷ []) (λ c. refl) (frame_pass move) quiet stack base at h

    pub stack_pass_lem : (base at end : ℕ) → at < length stack → end ≡ at + up_to semicolon (drop at stack) → end ≤ length stack
        → pass_over (frame_pass move) (base + at) (frames_of (drop at stack))
        ≡ on_pass (frame_pass move (base + at) (piece stack at end)) (pass_over (frame_pass move) (base + (end + 1)) (frames_of (drop (end + 1) stack)))
    stack_pass_lem base at end h e l = pieces_pass semicolon ([] ∷ []) (λ c. refl) (frame_pass move) quiet stack base at end h e l

    -- a frame whose walk is lost
    pub stack_lost : (base at end : ℕ) (e : Damaged) → at < length stack → end ≡ at + up_to semicolon (drop at stack) → end ≤ length stack
        → Err e ≡ frame_pass move (base + at) (take (end - at) (drop at stack)) → pass_over (frame_pass move) (base + at) (frames_of (drop at stack)) ≡ Err e
    stack_lost base at end e h f l q = rw (← q) at (stack_pass_lem base at end h f l)

    pub stack_more : (base at end : ℕ) → at < length stack → end ≡ at + up_to semicolon (drop at stack) → end ≤ length stack
        → Ok tt ≡ frame_pass move (base + at) (take (end - at) (drop at stack))
        → pass_over (frame_pass move) (base + at) (frames_of (drop at stack)) ≡ pass_over (frame_pass move) (base + (end + 1)) (frames_of (drop (end + 1) stack))
    stack_more base at end h f l q = rw (← q) at (stack_pass_lem base at end h f l)

  -- a line's pass is that of its frames
  pub frames_pass : (at : ℕ) (line : List ℕ) → line_pass move at line ≡ pass_over (frame_pass move) at (frames_in line)
  unfolding line_pass stack_pass pass_over
  frames_pass at line = go (line_of line)
    where
      go : (l : Option Line) → on_line l (λ stack count. pass_over (frame_pass move) at (frames_of (take stack line))) (Ok tt)
          ≡ pass_over (frame_pass move) at (on_line l (λ stack count. frames_of (take stack line)) [])
      go (Some l) = refl
      go None = refl

  module _ (profile : List ℕ) where
    -- a line with a frame whose walk is lost, and one with none
    pub lines_lost : (at end : ℕ) (e : Damaged) → at < length profile → end ≡ at + up_to lf (drop at profile) → end ≤ length profile
        → Err e ≡ line_pass move at (take (end - at) (drop at profile)) → pass_over (line_pass move) at (lines_of (drop at profile)) ≡ Err e
    lines_lost at end e h f l q = rw (← q) at (lines_pass_lem (line_pass move) profile at end h f l)

    pub lines_more : (at end : ℕ) → at < length profile → end ≡ at + up_to lf (drop at profile) → end ≤ length profile
        → Ok tt ≡ line_pass move at (take (end - at) (drop at profile))
        → pass_over (line_pass move) at (lines_of (drop at profile)) ≡ pass_over (line_pass move) (end + 1) (lines_of (drop (end + 1) profile))
    lines_more at end h f l q = rw (← q) at (lines_pass_lem (line_pass move) profile at end h f l)

-- ---- what is reported

module _ (move : ℕ → ℕ → Option Moved) (rules : ℕ → ℕ) where
  -- ---- a frame

  module _ (frame : List ℕ) (at row : ℕ) where
    pub rules_end : length frame ≤ at → rules_from move rules row (drop at frame) ≡ 0
    unfolding rules_from
    rules_end h = rw drop_of_length-le

    pub rules_more : (m : Moved) → at < length frame → move row (get_or frame at 0) ≡ Some m
        → rules_from move rules row (drop at frame) ≡ bit_or (rules m.row) (rules_from move rules m.row (drop (at + 1) frame))
    unfolding rules_from
    rules_more m h e = rw (drop-cons frame at 0, e, add-one at)

  -- ---- the frames of a stack

  module _ (stack : List ℕ) where
    pub stack_rules_end : (at : ℕ) → length stack ≤ at → rules_over move rules (frames_of (drop at stack)) ≡ 0
    unfolding rules_over split frame_rules rules_from
    stack_rules_end at h = rw drop_of_length-le (or_zero_r 0)

    pub stack_rules_step : (at end : ℕ) → at < length stack → end ≡ at + up_to semicolon (drop at stack) → end ≤ length stack
        → rules_over move rules (frames_of (drop at stack)) ≡ bit_or (frame_rules move rules (piece stack at end)) (rules_over move rules (frames_of (drop (end + 1) stack)))
    unfolding rules_over split frame_rules rules_from
    stack_rules_step at end h e l = go (step semicolon ([] ∷ []) (λ c. refl) stack at end h e l)
      where
        go : Step semicolon ([] ∷ []) (λ c. refl) stack at end
            → rules_over move rules (frames_of (drop at stack)) ≡ bit_or (frame_rules move rules (piece stack at end)) (rules_over move rules (frames_of (drop (end + 1) stack)))
        go (inl s) = rw s
        go (inr s) = rw (s.0, s.1, or_zero_r 0)

  -- ---- lines

  -- by the line's count and its frames, of which one that breaks the rules has none
  pub line_adds : (line sums : List ℕ) → line_sums move rules line sums ≡ add_all (count_in line) (members most_rules (rules_over move rules (frames_in line))) sums
  unfolding line_sums stack_rules rules_over add_all
  line_adds line sums = go (line_of line)
    where
      go : (l : Option Line) → on_line l (λ stack count. add_all count (members most_rules (stack_rules move rules (take stack line))) sums) sums
          ≡ add_all (on_line l (λ stack count. count) 0) (members most_rules (rules_over move rules (on_line l (λ stack count. frames_of (take stack line)) []))) sums
      go (Some l) = refl
      go None = rw (members-empty most_rules)

  pub line_room : (a b : ℕ) (line sums : List ℕ) → most_rules + b ≤ a → Room a sums → Room b (line_sums move rules line sums)
  line_room a b line sums h r =
      let set = rules_over move rules (frames_in line) in
      rw (line_adds line sums) (room_add (count_in line) a b (members most_rules set) sums (count_right line).0 (omega (arith, members-le most_rules set)) r)

  pub line_length : (line sums : List ℕ) → length (line_sums move rules line sums) ≡ length sums
  line_length line sums = rw (line_adds line sums) (length_add (count_in line) (members most_rules (rules_over move rules (frames_in line))) sums)

  over-length : (ls : List (List ℕ)) (sums : List ℕ) → length (sums_over move rules ls sums) ≡ length sums
  unfolding sums_over
  over-length [] sums = refl
  over-length (l ∷ ls) sums = over-length ls (line_sums move rules l sums) ∙ line_length l sums

  pub sums_length : (profile sums : List ℕ) → length (lines_sums move rules profile sums) ≡ length sums
  unfolding lines_sums
  sums_length profile sums = over-length (lines_of profile) sums

  pub sums_step : (text : List ℕ) (at end : ℕ) (sums : List ℕ) → at < length text → end ≡ at + up_to lf (drop at text) → end ≤ length text
      → sums_over move rules (lines_of (drop at text)) sums ≡ sums_over move rules (lines_of (drop (end + 1) text)) (line_sums move rules (piece text at end) sums)
  unfolding sums_over
  sums_step text at end sums h e l = rw (lines_step text at end h e l)

  pub sums_end : (text : List ℕ) (at : ℕ) (sums : List ℕ) → length text ≤ at → sums_over move rules (lines_of (drop at text)) sums ≡ sums
  unfolding sums_over split
  sums_end text at sums h = rw drop_of_length-le

-- ---- what a turn of each loop goes by, and its end

pub ruleset of_frames = (frame_lost, frame_more, frame_end, rules_more, rules_end, or_none, union_assoc)

pub ruleset of_stacks = (stack_lost, stack_more, stack_end, stack_rules_step, stack_rules_end, or_none, union_assoc)

pub ruleset of_lines = (lines_lost, lines_more, lines_end, sums_step, sums_end, line_room, room_less)
