-- The number that the digits left make is that of all: a turn takes in a digit.
use Rattle.std.proofs.Common.{arith, sym, ap, ◌∙◌, ◌≡◌, ◌+◌, ◌*◌, drop, le-ltb}
use Rattle.std.proofs.lemmas.Bool.{eqb-false}
use Rattle.lines.specs.Lines.{number_from, limited, count_of}
use Rattle.lines.proofs.Lines.{judged, number_end, number_other, number_more, over}
use Rattle.lines.proofs.read_count.Goals as goal
use Rattle.lines.proofs.read_count.Goals.{After-from-next}

-- the number with the digit in it
turn : (c : After-from-next) →
    let l = c.loop-byte in
    let s = c.args.digits.now in
    limited (number_from (10 * l.value + c.from-next.result) (drop (l.byte-index + 1) s)) ≡ count_of s
turn c =
    let l = c.loop-byte in
    rw c.from-next.ensures
    (sym (ap limited (number_more _ _ _ c.loop-byte-test.true (sym c.if-not-is_ascii_digit.ensures.value))) ∙ l.invariant.1)

pub loop-byte-init : goal.loop-byte-init
loop-byte-init c = (omega arith, sym (judged c.args.digits.now (eqb-false _ _ (sym c.if-is_empty.ensures)) (omega arith) c.if-digits-eq48.false))

pub returns-then-not-is_ascii_digit : goal.returns-then-not-is_ascii_digit
returns-then-not-is_ascii_digit c =
    let l = c.loop-byte in
    sym (ap limited (number_other _ _ l.value c.loop-byte-test.true (sym c.if-not-is_ascii_digit.ensures.value))) ∙ l.invariant.1

-- the limit, before the digit is taken in
pub returns-then-next-value : goal.returns-then-next-value
returns-then-next-value c = sym (over _ _ (omega arith)) ∙ turn (goal.at.returns-then-next-value c).After-from-next

pub loop-byte-preserved : goal.loop-byte-preserved
loop-byte-preserved c = (omega arith, turn (goal.at.loop-byte-preserved c).After-from-next)

pub returns : goal.returns
returns c = let l = c.loop-byte in rw (number_end _ _ _ c.loop-byte-test.false, le-ltb _ _ l.invariant.0) at l.invariant.1
