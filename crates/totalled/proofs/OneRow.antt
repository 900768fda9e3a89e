-- Cases over one row that no build left: a walk that is lost, and where a count goes. Assumes nothing.
use mathlib.Core.List.{List, [], ◌∷◌}
use mathlib.Core.Logic.{◌≢◌}
use mathlib.Core.Path.{◌≡◌, refl}
use Prim.Native.Nat.{ℕ, zero, suc, ◌+◌, ◌≤◌}
use native.Mathlib.Omega.{arith}
use lib.ListN.{length, get_or}
use Rattle.sets.specs.Sets.{has, those, members, set_of}
use Rattle.sets.specs.Sums.{sum_over}
use Rattle.sets.specs.Table.{row_set, rules_at}
use Rattle.meaning.specs.Tables.{Five}
use Rattle.book.specs.Limits.{most_bytes}
use Rattle.lent.specs.Lent.{lent}
use Rattle.one_byte.specs.Move.{look_at, move_in, move_from}
use Rattle.walk.specs.Walk.{reported, run_from}
use Rattle.std.specs.Prelude.{None}
use Rattle.lines.specs.Lines.{split, lines_of, pass_over, last_mark_of, number_from, count_of, line_of, line_check, check_of}
use Rattle.lines.specs.Written.{start_of}
use Rattle.lines.specs.Profile.{AllSound}
use Rattle.shares.specs.Below.{sum_below}
use Rattle.book.specs.Content.{table}
use Rattle.leaf.specs.Leaf.{end_from, end_of, lowest_of, family_at, stack_leaf, line_leaf}
use Rattle.leaf_totals.specs.Record.{empty_totals}
use Rattle.leaves.specs.Totals.{leaf_pass, leaves_pass, line_adds, profile_adds, with_parts, add_answer}
use Rattle.totalled.specs.Adding.{AddCall, leaf_from, FirstFails, Begins}
use Rattle.totalled.specs.Cases.{a_1, b_xa_1, a_b_1, empty_5, b_1, b257_1, one_row, loses, credits, LeafHolds}
use Rattle.totalled.proofs.Adding.{add_refuses}

-- ---- a walk that is lost

losing : (b : Five) (profile : List ℕ) {i x : ℕ} → length profile ≤ most_bytes → 1 ≤ lent b → AllSound (lines_of profile)
    → FirstFails (record { tables = b; n = 1; profile = profile; old = empty_totals }) i x → LeafHolds (loses b profile 13 (start_of 0 (lines_of profile) i + leaf_from (get_or (lines_of profile) i []) + x))
losing b profile {i} {x} short lends sound f old room =
    let w : AddCall = record { tables = b; n = 1; profile = profile; old = old } in
    let y : Begins w = record { few = room; short = short; some = λ z. omega (arith, z); lends = lends } in
    let a = (add_refuses w).damaged y sound i x (record { line = f.line; fails = f.fails; byte = f.byte; before = f.before }) in
    record { answers = a; unaltered = (add_refuses w).unaltered (λ z. omega (arith, a.number_is, z)) }

first_lost : FirstFails (record { tables = one_row 65535 0 0; n = 1; profile = a_1; old = empty_totals }) 0 0
unfolding split last_mark_of number_from count_of line_of run_from move_from move_in look_at
first_lost = record { line = omega arith; fails = refl; byte = refl; before = λ k l. absurd (omega arith) }

second_lost : FirstFails (record { tables = one_row 65535 0 0; n = 1; profile = b_xa_1; old = empty_totals }) 0 1
unfolding split last_mark_of number_from count_of line_of run_from move_from move_in look_at reported those members rules_at row_set set_of has
second_lost = record { line = omega arith; fails = refl; byte = refl; before = λ k l. absurd (omega arith) }

-- its lines are sound
one-sound : (line : List ℕ) → line_of line ≢ None → AllSound (line ∷ [])
one-sound line s zero l = s
one-sound line s (suc i) l = absurd (omega arith)

pub lost_at_0 : LeafHolds (loses (one_row 65535 0 0) a_1 13 0)
unfolding split last_mark_of number_from count_of line_of start_of
lost_at_0 = losing (one_row 65535 0 0) a_1 (omega arith) (omega arith) (one-sound a_1 (λ e. let z : ◌≡◌ {A = ℕ} 0 1 = cc in omega arith)) first_lost

pub lost_at_3 : LeafHolds (loses (one_row 65535 0 0) b_xa_1 13 3)
unfolding split last_mark_of number_from count_of line_of start_of
lost_at_3 = losing (one_row 65535 0 0) b_xa_1 (omega arith) (omega arith) (one-sound b_xa_1 (λ e. let z : ◌≡◌ {A = ℕ} 0 1 = cc in omega arith)) second_lost

-- ---- where a count goes

pub not_met : LeafHolds (credits (one_row 65535 0 0) a_b_1 0 1)
unfolding split last_mark_of number_from count_of line_of line_check check_of pass_over sum_over sum_below table start_of look_at move_in move_from has those set_of row_set rules_at end_from end_of lowest_of family_at stack_leaf line_leaf leaf_pass leaves_pass line_adds profile_adds with_parts add_answer
not_met = record { answers = record { number_is = refl; value_is = refl }; first_is = refl; unnamed_is = refl }

pub empty_named : LeafHolds (credits (one_row 0 0 1) empty_5 5 0)
unfolding split last_mark_of number_from count_of line_of line_check check_of pass_over sum_over sum_below table start_of look_at move_in move_from has those set_of row_set rules_at end_from end_of lowest_of family_at stack_leaf line_leaf leaf_pass leaves_pass line_adds profile_adds with_parts add_answer
empty_named = record { answers = record { number_is = refl; value_is = refl }; first_is = refl; unnamed_is = refl }

pub one_byte : LeafHolds (credits (one_row 0 1 1) b_1 1 0)
unfolding split last_mark_of number_from count_of line_of line_check check_of pass_over sum_over sum_below table start_of look_at move_in move_from has those set_of row_set rules_at end_from end_of lowest_of family_at stack_leaf line_leaf leaf_pass leaves_pass line_adds profile_adds with_parts add_answer
one_byte = record { answers = record { number_is = refl; value_is = refl }; first_is = refl; unnamed_is = refl }

pub many-bytes : LeafHolds (credits (one_row 0 1 1) b257_1 0 1)
unfolding split last_mark_of number_from count_of line_of line_check check_of pass_over sum_over sum_below table start_of look_at move_in move_from has those set_of row_set rules_at end_from end_of lowest_of family_at stack_leaf line_leaf leaf_pass leaves_pass line_adds profile_adds with_parts add_answer
many-bytes = record { answers = record { number_is = refl; value_is = refl }; first_is = refl; unnamed_is = refl }
