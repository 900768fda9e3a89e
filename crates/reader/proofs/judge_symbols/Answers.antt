-- A turn judges one pair: at fault, it is the answer; sound, the rest is judged.
use Rattle.std.proofs.Common.{◌∙◌, ◌≡◌, ◌+◌, sym, arith, inl, inr, length, length-append, get_or}
use Rattle.format.specs.Which.{IsSymbol, unknown, undefined}
use Rattle.format.proofs.Turns.{judge_stops, judge_goes, judge_ends}
use Rattle.reader.proofs.judge_symbols.Goals as goal
use Rattle.reader.proofs.judge_symbols.Goals.{else-kind-eq1-via-then-kind-eq1+else-pictures-pair, else-kind-eq1-via-else-kind-eq1}

pub returns-then-kind-gt1 : goal.returns-then-kind-gt1
returns-then-kind-gt1 c =
    let s = c.in-Some.ensures.steps in
    let i = c.loop-i.invariant in
    rw s.1 (sym (i.rest ∙ judge_stops _ _ _ _ _ _ s.0.1.0 (s.0.1.1 ∙ i.pairs) (unknown c.if-kind-gt1.true)))

pub returns-then-pictures-pair : goal.returns-then-pictures-pair
returns-then-pictures-pair c =
    let s = c.in-Some.ensures.steps in
    let i = c.loop-i.invariant in
    rw s.1 (sym (i.rest ∙ judge_stops _ _ _ _ _ _ s.0.1.0 (s.0.1.1 ∙ i.pairs) (undefined (omega arith) (omega arith))))

pub loop-i-preserved : goal.loop-i-preserved
loop-i-preserved c =
    let s = c.in-Some.ensures.steps in
    let i = c.loop-i.invariant in
    let pair = c.in-Some.pair.now in
    let two : length pair ≡ 2 = s.0.1.1 ∙ i.pairs in
    let long : length c.loop-i.i-iterator.iter.rest.now ≡ 2 + length c.next.new.self.iter.rest.now = rw (s.0.1.0, length-append, two) in
    let sound : IsSymbol c.args.pictures (get_or pair 0 0) (get_or pair 1 0) =
    elim c.else-kind-eq1.branch [
      | else-kind-eq1-via-then-kind-eq1+else-pictures-pair w ↦ inr (omega arith, omega arith)
      | else-kind-eq1-via-else-kind-eq1 w ↦ let n = w.if-kind-eq1.false in inl (omega arith)
    ] in
    record { pairs = s.0.0 ∙ i.pairs; places = omega arith; rest = rw s.2 (i.rest ∙ judge_goes _ _ _ _ _ _ s.0.1.0 two sound) }

pub returns : goal.returns
returns c =
    let i = c.loop-i.invariant in
    sym (i.rest ∙ judge_ends _ _ _ (omega (arith, c.in-None.ensures.steps.0.1.0)))
