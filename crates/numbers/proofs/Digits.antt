-- The numbers of a book whose pictures share bytes, by computation and from the promises. Assumes nothing.
use mathlib.Core.Path.{refl}
use mathlib.Core.List.{[], ◌∷◌}
use native.Mathlib.Omega.{arith}
use Rattle.rows.proofs.Bytes.{is_bytes}
use Rattle.sets.specs.Sets.{has, set_where, those, members, reports, set_of}
use Rattle.sets.specs.Table.{row_set, rules_at}
use Rattle.meaning.specs.Rules.{fits, fits_at, stands}
use Rattle.meaning.specs.Standing.{level, opens, largest, held, live, ends, out}
use Rattle.meaning.specs.Falls.{longest, next_longest, fits_with, falls_from, falls, falls_in}
use Rattle.worked.specs.Books.{Written, Right}
use Rattle.meaning.proofs.Tested.{below}
use Rattle.worked.proofs.Checked.{same_text, is_before, any_of, bound, right}
use Rattle.book.specs.Content.{Content, member, table}
use Rattle.book.specs.Grown.{symbols_of}
use Rattle.format.specs.Format.{meaning_of, fields, follow, ended, field_at, field_of, head_at, picture_field, judge_picture, ascending_body, rises, rule_field, outcome, judge_rule, judge_symbol, first_of, judge_symbols}
use Rattle.book.specs.Meant.{rules_of}
use Rattle.one_byte.specs.Move.{look_at, move_in, move_from}
use Rattle.walk.specs.Walk.{reported, run_from, reports_from, written}
use Rattle.meaning.proofs.Occurrences.{occurrences_from}
use Rattle.numbers.specs.Cases.{All, none, also}
use Rattle.numbers.specs.Digits.{decimal_digits, hexadecimal_digits, bytes_d, digits}
use Rattle.numbers.proofs.Books.{Means}
use Rattle.numbers.proofs.Builds.{enough, fewer}
use Rattle.numbers.proofs.Walks.{fitting}

abbrev content_d : Content
content_d = record { pictures = hexadecimal_digits ∷ decimal_digits ∷ []; rules = (256 ∷ 257 ∷ []) ∷ (257 ∷ 97 ∷ []) ∷ [] }

means-D : Means bytes_d content_d
unfolding meaning_of fields follow ended field_at field_of head_at picture_field judge_picture ascending_body rises rule_field outcome judge_rule judge_symbols judge_symbol first_of symbols_of
means-D = record { meant = refl }

-- the rows' texts, the latest byte first
abbrev rows_d : Written
rows_d = record {
  book = rules_of content_d;
  rows = [] ∷ (48 ∷ []) ∷ (97 ∷ []) ∷ (48 ∷ 48 ∷ []) ∷ (97 ∷ 48 ∷ []) ∷ [];
  fall = 0 ∷ 0 ∷ 0 ∷ 1 ∷ 2 ∷ [];
  held = 0 ∷ 1 ∷ 1 ∷ 2 ∷ 2 ∷ [];
  live = 0 ∷ 3 ∷ 1 ∷ 1 ∷ 2 ∷ [];
  out = 0 ∷ 0 ∷ 0 ∷ 1 ∷ 2 ∷ [];
}

D-right : Right rows_d
unfolding same_text is_before any_of bound below level stands fits_at fits set_where opens largest held live ends out member
D-right = right rows_d (record { root = refl; some = tt; texts = tt; differ = tt; closed = tt; falls = tt; helds = tt; lives = tt; outs = tt })

pub numbers-digits : All digits
unfolding is_bytes below table member has set_where those members reports set_of row_set rules_at fits fits_at stands level opens largest held ends out longest next_longest fits_with falls_from falls falls_in occurrences_from look_at move_in move_from reported run_from reports_from written
numbers-digits =
    also (enough means-D D-right refl refl refl)
    (also (fewer means-D D-right refl 4 (omega arith))
    (also (fitting means-D refl refl)
    (also (fitting means-D refl refl)
    none)))
