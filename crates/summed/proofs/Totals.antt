-- Each sum is a total of lines' counts; a tally over the tables of rules gets through, and its sums are those of the rules and the profile alone.
-- Assumes nothing.
use mathlib.Core.Bool.{Bool, true, false, cond, ◌||◌}
use mathlib.Core.List.{List, [], ◌∷◌}
use mathlib.Core.Path.{◌≡◌, refl, ap, ◌∙◌}
use Prim.Native.Nat.{ℕ, suc, ◌+◌, ◌≤◌, ◌<◌}
use native.Mathlib.Nat.{add-zero, zero-add, add_assoc}
use native.Mathlib.Omega.{arith}
use lib.ListN.{length, get_or, replicate}
use Rattle.std.specs.Prelude.{Option, Ok}
use Rattle.rows.specs.Rows.{ByteText, IsRow}
use Rattle.sets.specs.Sets.{has}
use Rattle.sets.specs.Sums.{sum_over}
use Rattle.sets.specs.Table.{rules_at}
use Rattle.sets.proofs.Laws.{has-empty, has_or}
use Rattle.sets.proofs.Sums.{sum_le}
use Rattle.sets.proofs.Zeros.{zero_at}
use Rattle.meaning.specs.Rules.{Rules}
use Rattle.meaning.specs.Standing.{Same}
use Rattle.meaning.specs.Tables.{Five, Tables}
use Rattle.meaning.proofs.Looks.{row_first}
use Rattle.book.specs.Limits.{most_rules}
use Rattle.lent.specs.Lent.{lent}
use Rattle.one_byte.specs.declared.Moved.{Moved}
use Rattle.listed.proofs.Demands.{moves}
use Rattle.lines.specs.Lines.{lines_of}
use Rattle.tally.specs.Tally.{pass_from, rules_from, frame_pass, frame_rules, rules_over, line_pass, line_sums, sums_over, lines_pass, lines_sums, sums_of, move_by}
use Rattle.lines.specs.Profile.{frames_in, count_in, counts}
use Rattle.lines.proofs.First.{pass_through}
use Rattle.lines.proofs.Bytes.{EachBytes, lines-bytes, frames-bytes}
use Rattle.summed.specs.Totals.{once, part_of, total_where, ends_from, occurs_in}
use Rattle.tally.proofs.Adding.{add_members}
use Rattle.tally.proofs.Walks.{frames_pass, line_adds, line_length}

-- ---- sums, whatever lies behind a move

-- one of two tests is passed
either : (a b : Bool) (count : ℕ) → cond (a || b) count 0 ≡ cond a count (cond b count 0)
either true b count = refl
either false b count = refl

module _ (move : ℕ → ℕ → Option Moved) (rules : ℕ → ℕ) (k : ℕ) (small : k < most_rules) where
  -- whether a frame reports rule k
  abbrev reporting : List ℕ → Bool
  reporting frame = has (frame_rules move rules frame) k

  frames-once : (count : ℕ) (fs : List (List ℕ)) → cond (has (rules_over move rules fs) k) count 0 ≡ once reporting count fs
  unfolding rules_over once
  frames-once count [] = rw (has-empty k)
  frames-once count (f ∷ fs) =
      rw has_or (either (reporting f) (has (rules_over move rules fs) k) count) ∙ ap (cond (reporting f) count) (frames-once count fs)

  line_part : (line sums : List ℕ) → k < length sums → get_or (line_sums move rules line sums) k 0 ≡ get_or sums k 0 + once reporting (count_in line) (frames_in line)
  line_part line sums h =
      rw (line_adds move rules line sums) (add_members (count_in line) most_rules (rules_over move rules (frames_in line)) k sums small h)
      ∙ ap (λ m. get_or sums k 0 + m) (frames-once (count_in line) (frames_in line))

  lines-part : (ls : List (List ℕ)) (sums : List ℕ) → k < length sums → get_or (sums_over move rules ls sums) k 0 ≡ get_or sums k 0 + sum_over (part_of reporting) ls
  unfolding sums_over sum_over
  lines-part [] sums h = rw add-zero
  lines-part (l ∷ ls) sums h = lines-part ls (line_sums move rules l sums) (rw (line_length move rules l sums) h) ∙ rw (line_part l sums h, add_assoc)

  pub sum_is : (profile : List ℕ) → get_or (sums_of move rules profile) k 0 ≡ total_where reporting profile
  unfolding lines_sums
  sum_is profile = lines-part (lines_of profile) (replicate most_rules 0) small ∙ rw (zero_at most_rules k, zero-add)

-- two tests of a frame that agree on bytes have the same totals over a profile of bytes
module _ (f g : List ℕ → Bool) (same : (frame : List ℕ) → ByteText frame → f frame ≡ g frame) where
  once-same : (count : ℕ) (fs : List (List ℕ)) → EachBytes fs → once f count fs ≡ once g count fs
  unfolding once
  once-same count [] a = refl
  once-same count (x ∷ fs) a = rw (same x (a 0), once-same count fs (λ i. a (suc i)))

  parts_same : (ls : List (List ℕ)) → EachBytes ls → sum_over (part_of f) ls ≡ sum_over (part_of g) ls
  unfolding sum_over
  parts_same [] a = refl
  parts_same (l ∷ ls) a = rw (once-same (count_in l) (frames_in l) (frames-bytes l (a 0)), parts_same ls (λ i. a (suc i)))

  total-same : (profile : List ℕ) → ByteText profile → total_where f profile ≡ total_where g profile
  total-same profile bytes = parts_same (lines_of profile) (lines-bytes profile bytes)

-- no more than the counts of all lines
module _ (test : List ℕ → Bool) where
  once-le : (count : ℕ) (fs : List (List ℕ)) → once test count fs ≤ count
  unfolding once
  once-le count [] = omega arith
  once-le count (f ∷ fs) = go (test f) (once-le count fs)
    where
      go : (t : Bool) → once test count fs ≤ count → cond t count (once test count fs) ≤ count
      go true h = omega arith
      go false h = h

  pub total-le : (profile : List ℕ) → total_where test profile ≤ counts profile
  total-le profile = sum_le (part_of test) count_in (λ line. once-le (count_in line) (frames_in line)) (lines_of profile)

module _ {r : Rules} {b : Five} {n : ℕ} (tables : Tables r b n) (lends : n ≤ lent b) where
  abbrev move : ℕ → ℕ → Option Moved
  move = move_by b n

  abbrev rules : ℕ → ℕ
  rules = rules_at b.out

  -- ---- each walk gets through

  from_through : (frame : List ℕ) → ByteText frame → (at : ℕ) {t : List ℕ} {i : ℕ} → IsRow (Same r) tables.texts t i → pass_from move at i frame ≡ Ok tt
  unfolding pass_from
  from_through [] bytes at x = refl
  from_through (c ∷ frame) bytes at {t} {i} x =
      let (e, m, o, y) = moves r b n tables lends t i c x (bytes 0) in
      rw m (from_through frame (λ j. bytes (suc j)) (at + 1) y)

  frame_through : (at : ℕ) (frame : List ℕ) → ByteText frame → frame_pass move at frame ≡ Ok tt
  unfolding frame_pass
  frame_through at frame bytes = from_through frame bytes at (row_first tables)

  line_through : (at : ℕ) (line : List ℕ) → ByteText line → line_pass move at line ≡ Ok tt
  line_through at line bytes = frames_pass move at line ∙ pass_through (frame_pass move) (frames_in line) at (λ i l. frame_through _ _ (frames-bytes line bytes i))

  pub lines-through : (profile : List ℕ) → ByteText profile → lines_pass move profile ≡ Ok tt
  unfolding lines_pass
  lines-through profile bytes = pass_through (line_pass move) (lines_of profile) 0 (λ i l. line_through _ _ (lines-bytes profile bytes i))

  -- ---- the sums

  module _ (k : ℕ) (small : k < most_rules) where
    from_ends : (frame : List ℕ) → ByteText frame → {t : List ℕ} {i : ℕ} → IsRow (Same r) tables.texts t i → has (rules_from move rules i frame) k ≡ ends_from r k t frame
    unfolding rules_from ends_from
    from_ends [] bytes x = has-empty k
    from_ends (c ∷ frame) bytes {t} {i} x =
        let (e, m, o, y) = moves r b n tables lends t i c x (bytes 0) in
        rw (m, o, has_or, from_ends frame (λ j. bytes (suc j)) y)

    frame_occurs : (frame : List ℕ) → ByteText frame → has (frame_rules move rules frame) k ≡ occurs_in r k frame
    unfolding frame_rules
    frame_occurs frame bytes = from_ends frame bytes (row_first tables)

    pub sum_occurs : (profile : List ℕ) → ByteText profile → get_or (sums_of move rules profile) k 0 ≡ total_where (occurs_in r k) profile
    sum_occurs profile bytes = sum_is move rules k small profile ∙ total-same (reporting move rules k small) (occurs_in r k) frame_occurs profile bytes
