-- The numbers of a book of 65 rules, by computation and from the promises. Assumes nothing.
use mathlib.Core.Path.{refl}
use mathlib.Core.List.{[], ◌∷◌, ◌++◌}
use lib.ListN.{replicate}
use Rattle.rows.proofs.Bytes.{is_bytes}
use Rattle.sets.specs.Sets.{has, set_where, those, members, reports}
use Rattle.meaning.specs.Rules.{fits, fits_at, stands}
use Rattle.meaning.specs.Standing.{level, opens, largest, held, ends, out}
use Rattle.meaning.specs.Falls.{longest, next_longest, fits_with, falls_from, falls, falls_in}
use Rattle.book.specs.Content.{Content, member}
use Rattle.format.specs.Largest.{repeated}
use Rattle.book.specs.Grown.{symbols_of}
use Rattle.format.specs.Format.{meaning_of, fields, follow, ended, field_at, field_of, head_at, rule_field, outcome, judge_rule, judge_symbol, first_of, judge_symbols}
use Rattle.walk.specs.Walk.{written}
use Rattle.meaning.proofs.Occurrences.{occurrences_from}
use Rattle.numbers.specs.Cases.{All, none, also}
use Rattle.numbers.specs.Many.{bytes_m, many}
use Rattle.numbers.proofs.Books.{Means}
use Rattle.numbers.proofs.Walks.{fitting, lacking}

abbrev content_m : Content
content_m = record { pictures = []; rules = replicate 64 (97 ∷ []) ++ (98 ∷ []) ∷ [] }

means-M : Means bytes_m content_m
unfolding repeated meaning_of fields follow ended field_at field_of head_at rule_field outcome judge_rule judge_symbols judge_symbol first_of symbols_of
means-M = record { meant = refl }

pub numbers-many : All many
unfolding is_bytes member has set_where those members reports fits fits_at stands level opens largest held ends out longest next_longest fits_with falls_from falls falls_in occurrences_from written
numbers-many = also (fitting means-M refl refl) (also (lacking means-M refl refl) none)
