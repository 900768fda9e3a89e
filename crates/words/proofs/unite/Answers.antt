-- What is written is the union word by word, and so the union of the sets.
use Rattle.std.proofs.Common.{arith, ◌≡◌, sym, ◌∙◌, ◌<◌, List, ℕ, length, get_or}
use native.Mathlib.Nat.{zero-add}
use Rattle.std.specs.Int.Bits.{bit_or}
use lib.Seq.{ext_get_or}
use Rattle.sets.specs.Sets.{united}
use Rattle.sets.proofs.InWords.{length-united, word_united, set_of-united}
use Rattle.sets.proofs.Writing.{Writing}
use Rattle.words.proofs.unite.Goals as goal

joined : (us vs ws : List ℕ) (i : ℕ) → i ≡ length us → Writing (λ j. bit_or (get_or us j 0) (get_or vs j 0)) us 0 i ws → ws ≡ united us vs
joined us vs ws i all w =
    ext_get_or 0 ws (united us vs) (w.long ∙ sym (length-united us vs))
    (λ j h. let l : j < length us = omega (arith, w.long) in rw zero-add at (w.done j (omega arith)) ∙ sym (word_united us vs j l))

pub returns-clause-each : goal.returns-clause-each
returns-clause-each c =
    let a = c.args in
    joined a.words.now a.more.now c.loop-i.words c.loop-i.i (omega arith) c.loop-i.invariant.0

pub returns-clause-as_sets : goal.returns-clause-as_sets
returns-clause-as_sets c = λ h.
    let a = c.args in
    let e = joined a.words.now a.more.now c.loop-i.words c.loop-i.i (omega arith) c.loop-i.invariant.0 in
    rw e (set_of-united a.words.now a.more.now c.loop-i.invariant.1 (λ i. (c.type_inv.more i).fits) h)
