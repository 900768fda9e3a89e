-- A rule of a row stands at its bit of its word. Assumes nothing.
use mathlib.Core.Path.{ap, ◌∙◌}
use Prim.Native.Nat.{◌/◌, ◌%◌}
use native.Mathlib.Omega.{arith}
use Rattle.sets.specs.Sets.{has}
use Rattle.sets.specs.Table.{row_words}
use Rattle.sets.specs.Places.{RuleAtItsBit}
use Rattle.sets.proofs.InWords.{has-set_of}
use Rattle.sets.proofs.Table.{row_of, rules-part, row_word, words_row}

pub rule_at_its_bit : RuleAtItsBit
unfolding has
rule_at_its_bit table small i k h =
    ap (λ s. has s k) (rules-part table i) ∙ has-set_of (row_of table i) (words_row row_words table i small) k
    ∙ ap (λ w. has w (k % 64)) (row_word table i (k / 64) (omega arith))
