-- The body has a byte, and the test of neighbours says whether they rise.
use Rattle.std.proofs.Common.{sym, rules, arith, ltb, length}
use borrow.Author.Tests.{lt-ltb, eqb-false}
use Rattle.std.proofs.lemmas.List.Sorted.{answers_always}
use Rattle.format.specs.Format.{ascending_body}
use Rattle.format.proofs.Members.{rises-test}
use Rattle.format.proofs.is_ascending.Goals as goal

pub returns-then-not-is_empty : goal.returns-then-not-is_empty
unfolding ascending_body
returns-then-not-is_empty c =
    let h = c.is_sorted_by.ensures.cases ltb (answers_always _ _ _ (λ f a r g h. search rules)) in
    rw (lt-ltb 0 (length c.args.body.now) (omega (arith, eqb-false (length c.args.body.now) 0 (sym c.if-not-is_empty.ensures)))) (rises-test _ _ h)

pub returns-else-not-is_empty : goal.returns-else-not-is_empty
unfolding ascending_body
returns-else-not-is_empty c = search rules
