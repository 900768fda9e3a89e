-- The paper's numbers to check by, one theorem: what a text comes to over a book is computed, and the promises and the demands say the rest.
-- Assumes nothing.
use mathlib.Core.Path.{refl}
use mathlib.Core.List.{[]}
use native.Mathlib.Omega.{arith}
use Rattle.rows.proofs.Bytes.{is_bytes}
use Rattle.sets.specs.Sets.{has, set_where, those, members, reports, set_of}
use Rattle.sets.specs.Table.{row_set, rules_at}
use Rattle.sets.specs.Sums.{sum_over}
use Rattle.meaning.specs.Rules.{fits, fits_at, stands}
use Rattle.meaning.specs.Standing.{level, opens, largest, held, ends, out}
use Rattle.meaning.specs.Falls.{longest, next_longest, fits_with, falls_from, falls, falls_in}
use Rattle.book.specs.Content.{member, table}
use Rattle.one_byte.specs.Move.{look_at, move_in, move_from}
use Rattle.walk.specs.Walk.{reported, run_from, reports_from, written}
use Rattle.meaning.proofs.Occurrences.{occurrences_from}
use Rattle.lines.specs.Lines.{split, lines_of, last_mark_of, number_from, count_of, line_of}
use Rattle.lines.specs.Written.{start_of}
use Rattle.lines.specs.Profile.{FirstBroken}
use Rattle.lines.proofs.First.{are_sound}
use Rattle.summed.specs.Totals.{ends_from, once}
use Rattle.numbers.specs.Inputs.{aab1_ab_3, a_01}
use Rattle.numbers.specs.Cases.{cases, All, none, also}
use Rattle.numbers.proofs.Books.{empty-refused, means-A, means-AA, means-X, means-Y, A-right, X-right, Y-right}
use Rattle.numbers.proofs.Builds.{refusing, enough, fewer}
use Rattle.numbers.proofs.Walks.{gives, fitting, lacking}
use Rattle.numbers.proofs.Tallies.{refused, summing}

a_01_broken : FirstBroken (lines_of a_01) 0
unfolding split last_mark_of number_from count_of line_of
a_01_broken = record { below = omega arith; broken = refl; before = λ j l. absurd (omega arith) }

pub numbers : All cases
unfolding is_bytes are_sound table member has set_where those members reports set_of row_set rules_at fits fits_at stands level opens largest held ends out longest next_longest fits_with falls_from falls falls_in occurrences_from look_at move_in move_from reported run_from reports_from written split last_mark_of number_from count_of line_of start_of ends_from once sum_over
numbers =
    also (refusing [] empty-refused)
    (also (enough means-A A-right refl refl refl)
    (also (fewer means-A A-right refl 1 (omega arith))
    (also (enough means-X X-right refl refl refl)
    (also (enough means-Y Y-right refl refl refl)
    (also (fitting means-X refl refl)
    (also (fitting means-X refl refl)
    (also (fitting means-Y refl refl)
    (also (lacking means-Y refl refl)
    (also (fitting means-AA refl refl)
    (also (fitting means-X refl refl)
    (also (gives refl refl refl)
    (also (gives refl refl refl)
    (also (summing means-Y aab1_ab_3 refl refl)
    (also (refused a_01 (omega arith) a_01_broken)
    none))))))))))))))
