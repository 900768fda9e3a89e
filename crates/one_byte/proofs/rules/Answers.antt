-- The words written are those of the row, copied where it is whole, and a row past the table's end reports nothing.
use Rattle.std.proofs.Common.{◌≡◌, sym, ap, ◌∙◌, ℕ, ◌+◌, ◌*◌, ◌≤◌, arith}
use native.Mathlib.Nat.{zero-add}
use lib.ListN.{length, get_or-eq_default}
use Rattle.sets.specs.Sets.{set_of}
use Rattle.sets.specs.Table.{row_words, rules_at}
use Rattle.sets.proofs.Table.{rules-words, rules-none, rules-part, part_row, row_long}
use Rattle.one_byte.proofs.rules.Goals as goal

past : (n row j : ℕ) → n ≤ row → n ≤ row_words * row + j
past n row j h = omega arith

pub returns-then-out-row : goal.returns-then-out-row
unfolding set_of
returns-then-out-row c =
    let a = c.args in
    let none : rules_at a.out.now a.row ≡ 0 = rules-none a.out.now a.row (λ j h. get_or-eq_default a.out.now 0 (past _ a.row j c.if-out-row.true)) in
    (ap set_of c.none-set.ensures.all_empty ∙ sym none, omega arith)

pub returns-then-start-out : goal.returns-then-start-out
returns-then-start-out c =
    let a = c.args in
    let row = c.copy_from_slice.ensures.after ∙ part_row a.out.now a.row in
    (ap set_of row ∙ sym (rules-part a.out.now a.row), ap length row ∙ row_long a.out.now a.row (omega (arith, c.if-start-out.true)))

pub returns : goal.returns
returns c =
    let w = c.loop-i.invariant in
    (sym (rules-words c.args.out.now c.args.row c.loop-i.set (omega (arith, w.long)) (λ j h. sym (rw zero-add at (w.done j (omega arith))))), w.long)
