-- A turn takes the first of what is left, and keeps it where it passes.
use Prim.Native.Nat.{ℕ, ◌+◌}
use mathlib.Core.Path.{◌≡◌, sym, ◌∙◌}
use mathlib.Core.Bool.{Bool, true, false, ◌&&◌, and-false, or-false}
use borrow.Author.Tests.{le-ltb, lt-ltb}
use lib.Dec.{ltb}
use Rattle.sets.specs.Sets.{among, members}
use Rattle.sets.proofs.Among.{among-members}
use Rattle.sets.proofs.Laws.{has-empty}
use Rattle.build.proofs.Laws.{kept-in, kept_out}
use Rattle.build.proofs.word_of.Goals as goal
use Rattle.build.proofs.word_of.Goals.{else-k-rules-via-then-k-rules+else-test, else-k-rules-via-else-k-rules}

pub loop-bit-init : goal.loop-bit-init
loop-bit-init g c = λ p h b l. rw (c.into_iter-bit-iterator.ensures.into_iter_gives, has-empty, among-members b 64 c.args.word l)

pub loop-bit-preserved-then-test : goal.loop-bit-preserved-then-test
loop-bit-preserved-then-test g c = λ p h b l.
    let a = c.args in
    let k = c.in-Some.bit in
    let q : ℕ → Bool = λ b. ltb (a.base + b) a.rules && p (a.base + b) in
    let passes : q k ≡ true = rw (lt-ltb (a.base + k) a.rules c.if-k-rules.true) (sym (h (a.base + k) true c.if-k-rules.true c.if-test.ensures)) in
    rw (c.with-those.ensures, kept-in q c.loop-bit.those k (members 64 c.next.new.self.0) b l passes)
    (rw c.in-Some.ensures.steps.1 at (c.loop-bit.invariant p h b l))

pub loop-bit-preserved : goal.loop-bit-preserved
loop-bit-preserved g c = λ p h b l.
    let a = c.args in
    let k = c.in-Some.bit in
    let q : ℕ → Bool = λ b. ltb (a.base + b) a.rules && p (a.base + b) in
    let out : q k ≡ false = elim c.else-k-rules.branch [
      | else-k-rules-via-then-k-rules+else-test w ↦ rw (lt-ltb (a.base + k) a.rules w.if-k-rules.true) (sym (h (a.base + k) w.test.result w.if-k-rules.true w.test.ensures) ∙ w.if-test.false)
      | else-k-rules-via-else-k-rules w ↦ rw (le-ltb (a.base + k) a.rules w.if-k-rules.false)
    ] in
    rw (kept_out q c.loop-bit.those k (members 64 c.next.new.self.0) b out)
    (rw c.in-Some.ensures.steps.1 at (c.loop-bit.invariant p h b l))

pub returns : goal.returns
unfolding among
returns g c = record { passed = λ p h b l. rw (c.in-None.ensures.steps.0, and-false, or-false) at (c.loop-bit.invariant p h b l) }
