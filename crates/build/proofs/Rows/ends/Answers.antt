-- The words are united.
use mathlib.Core.Path.{sym, ap, ap₂, ◌∙◌}
use native.Mathlib.Omega.{arith}
use lib.Bits.{bit_or}
use lib.ListN.{length}
use Rattle.sets.specs.Table.{rules_at}
use Rattle.sets.proofs.InWords.{length-united}
use Rattle.sets.proofs.Table.{rules-part, row_long}
use Rattle.build.proofs.Rows.ends.Goals as goal

pub returns : goal.returns
returns c =
    let e = c.ended-all.ensures in
    let out = c.args.self.now.out.now in
    let below = c.args.key.now.fall in
    let set = c.unite.ensures.as_sets (rw (c.words_of.ensures, c.from-2.ensures, row_long out below (omega (arith, c.requires.ready.room)), e.1) (omega arith)) in
    (set ∙ ap₂ bit_or {v = rules_at out below} (rw c.from.ensures at e.0) (rw (c.words_of.ensures, c.from-2.ensures) (sym (rules-part out below))), ap length c.unite.ensures.each ∙ length-united _ _ ∙ e.1)
