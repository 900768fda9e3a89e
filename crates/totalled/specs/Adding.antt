-- What adding a profile to a record of leaf totals comes to, over any tables. Assumes nothing.
use Rattle.std.specs.Prelude.{Result, Bool, cond, List, [], ◌∷◌, ◌⊎◌, ◌≢◌, ◌≡◌, ℕ, ◌+◌, ◌-◌, ◌≤◌, ◌<◌, eqb, length, get_or}
use Rattle.sets.specs.Sums.{sum_over}
use Rattle.meaning.specs.Tables.{Five}
use Rattle.book.specs.Limits.{most_rules, most_bytes}
use Rattle.lent.specs.Lent.{lent}
use Rattle.one_byte.specs.Move.{move_of}
use Rattle.answers.specs.declared.Walked.{Walked}
use Rattle.answers.specs.declared.WalkRefusal.{WalkRefusal}
use Rattle.answers.specs.Walked.{number_of as number_of_walk, value_of as value_of_walk}
use Rattle.walk.specs.Walk.{walk_of}
use Rattle.lines.specs.Lines.{lines_of}
use Rattle.lines.specs.Written.{start_of}
use Rattle.lines.specs.Profile.{AllSound, FirstBroken, frames_in, count_in, counts}
use Rattle.shares.specs.Below.{sum_below}
use Rattle.shares.specs.Shares.{all_places, limit}
use Rattle.shares.specs.Demands.{Demanded}
use Rattle.leaf_totals.specs.declared.LeafTotals.{LeafTotals}
use Rattle.leaves.specs.declared.Handed.{Handed}
use Rattle.leaf.specs.Leaf.{end_of, on_end, unnamed, family_at}
use Rattle.leaf_totals.specs.Record.{most_profiles, total_at, totals_in, whole_in, empty_totals}
use Rattle.leaf_totals.specs.Totalled.{number_of, value_of}
use Rattle.leaves.specs.Totals.{add_of}

-- ---- a call

pub record AddCall : Type 0 where
  pub tables : Five
  pub n : ℕ
  pub profile : List ℕ
  pub old : LeafTotals

-- its answer, and the record after it
abbrev pub comes_to : AddCall → Handed
comes_to w = add_of w.tables w.n w.profile w.old

abbrev pub record_left : AddCall → LeafTotals
record_left w = (comes_to w).back

-- it answers with this number and this value
pub record AddAnswers (w : AddCall) (number value : ℕ) : Type 0 where
  pub number_is : number_of (comes_to w).answer ≡ number
  pub value_is : value_of (comes_to w).answer ≡ value

-- ---- leaves

-- the last frame of a line that is sound, and where it starts in the line
abbrev pub leaf_in : List ℕ → List ℕ
leaf_in line = get_or (frames_in line) (length (frames_in line) - 1) []

abbrev pub leaf_from : List ℕ → ℕ
leaf_from line = start_of 0 (frames_in line) (length (frames_in line) - 1)

-- line i
abbrev pub line_at : AddCall → ℕ → List ℕ
line_at w i = get_or (lines_of w.profile) i []

-- the walk over its leaf as a text of its own; 13 comes before 14, so that it has no room does not matter
abbrev pub leaf_walk : AddCall → ℕ → Result Walked WalkRefusal
leaf_walk w i = walk_of w.tables w.n (leaf_in (line_at w i)) 0

-- line i is the first whose leaf's walk is refused with 13, at the leaf's byte x
pub record FirstFails (w : AddCall) (i x : ℕ) : Type 0 where
  pub line : i < length (lines_of w.profile)
  pub fails : number_of_walk (leaf_walk w i) ≡ 13
  pub byte : value_of_walk (leaf_walk w i) ≡ x
  pub before : (k : ℕ) → k < i → number_of_walk (leaf_walk w k) ≢ 13

-- no walk over a leaf is refused with 13
abbrev pub NoneFails : AddCall → Type 0
NoneFails w = (i : ℕ) → i < length (lines_of w.profile) → number_of_walk (leaf_walk w i) ≢ 13

-- the family of a leaf over tables, or `unnamed`
abbrev pub family_over : Five → ℕ → List ℕ → ℕ
family_over b n leaf = on_end (end_of (move_of b.goto b.fall n) leaf) (λ row. family_at b.held b.live b.out row (length leaf)) (λ at. unnamed)

-- The total of the counts of the lines whose leaf passes a test.
abbrev pub counts_where : (List ℕ → Bool) → List ℕ → ℕ
counts_where test profile = sum_over (λ line. cond (test (leaf_in line)) (count_in line) 0) (lines_of profile)

-- that of the lines whose leaf is of the family p
abbrev pub counts_of : Five → ℕ → ℕ → List ℕ → ℕ
counts_of b n p profile = counts_where (λ leaf. eqb (family_over b n leaf) p) profile

-- ---- the answer

-- what comes before the lines: the record is not full, the profile is not too long, the rows are some and lent
pub record Begins (w : AddCall) : Type 0 where
  pub few : w.old.profiles < most_profiles
  pub short : length w.profile ≤ most_bytes
  pub some : w.n ≢ 0
  pub lends : w.n ≤ lent w.tables

-- It is refused with 21, 11, 12, 15, 13 and 20 in that order, exactly where the paper says; no refusal changes the record; accepted, each place has the
-- counts of its lines more, and there is one profile more.
pub record AddRefusals (w : AddCall) : Type 0 where
  pub full : most_profiles ≤ w.old.profiles → AddAnswers w 21 most_profiles
  pub too_long : w.old.profiles < most_profiles → most_bytes < length w.profile → AddAnswers w 11 most_bytes
  pub bad_rows : w.old.profiles < most_profiles → length w.profile ≤ most_bytes → (w.n ≡ 0) ⊎ (lent w.tables < w.n) → AddAnswers w 12 w.n
  pub bad_line : Begins w → (i : ℕ) → FirstBroken (lines_of w.profile) i → AddAnswers w 15 (start_of 0 (lines_of w.profile) i)
  pub damaged : Begins w → AllSound (lines_of w.profile) → (i x : ℕ) → FirstFails w i x
      → AddAnswers w 13 (start_of 0 (lines_of w.profile) i + leaf_from (line_at w i) + x)
  pub past : Begins w → AllSound (lines_of w.profile) → NoneFails w → limit < whole_in w.old + counts w.profile → AddAnswers w 20 limit
  pub accepted : Begins w → AllSound (lines_of w.profile) → NoneFails w → whole_in w.old + counts w.profile ≤ limit → AddAnswers w 0 0
  pub unaltered : number_of (comes_to w).answer ≢ 0 → record_left w ≡ w.old
  pub totals : AddAnswers w 0 0 → (p : ℕ) → p < all_places → total_at (record_left w) p ≡ total_at w.old p + counts_of w.tables w.n p w.profile
  pub profiles : AddAnswers w 0 0 → (record_left w).profiles ≡ w.old.profiles + 1

abbrev pub AddRefuses : Type 0
AddRefuses = (w : AddCall) → AddRefusals w

-- ---- the parts add up

-- The total of a record is that of its 256 families and of unnamed.
abbrev pub WholeIs : Type 0
WholeIs = (t : LeafTotals) → whole_in t ≡ sum_below (λ k. get_or t.totals k 0) most_rules + t.unnamed

-- After an accepted call it is what it was, and the counts of the profile's lines.
abbrev pub AddsUp : Type 0
AddsUp = (w : AddCall) → AddAnswers w 0 0 → (whole_in (record_left w) ≡ whole_in w.old + counts w.profile) × (whole_in (record_left w) ≤ limit)

-- a profile, with the tables that it is added over
pub record OneProfile : Type 0 where
  pub tables : Five
  pub n : ℕ
  pub profile : List ℕ

abbrev pub call_of : OneProfile → LeafTotals → AddCall
call_of s t = record { tables = s.tables; n = s.n; profile = s.profile; old = t }

-- a run of accepted profiles from an empty record, the latest first, and the record that it comes to
pub data Run : List OneProfile → LeafTotals → Type 0 where
  start : Run [] empty_totals
  next : {ss : List OneProfile} {t : LeafTotals} (s : OneProfile) → Run ss t → AddAnswers (call_of s t) 0 0 → Run (s ∷ ss) (record_left (call_of s t))

pub record RunTells (ss : List OneProfile) (t : LeafTotals) : Type 0 where
  -- the total is that of all the lines' counts
  pub whole : whole_in t ≡ sum_over (λ s. counts s.profile) ss
  -- each place has the counts of its lines
  pub each : (p : ℕ) → p < all_places → total_at t p ≡ sum_over (λ s. counts_of s.tables s.n p s.profile) ss
  pub profiles : t.profiles ≡ length ss
  pub few : length ss ≤ most_profiles

abbrev pub RunsAddUp : Type 0
RunsAddUp = (ss : List OneProfile) (t : LeafTotals) → Run ss t → RunTells ss t

-- ---- shares

-- What is demanded of shares holds of those of a record.
abbrev pub SharesFair : Type 0
SharesFair = (t : LeafTotals) → Demanded (totals_in t)
