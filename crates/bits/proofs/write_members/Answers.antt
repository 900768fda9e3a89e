-- A turn takes the first of what is left, for which there is room; where the loop stops nothing is left that has room.
use Rattle.std.proofs.Common.{arith, ◌≡◌, sym, ap, ap₂, ◌∙◌, ℕ, suc, ◌+◌, ◌-◌, ◌*◌, ◌≤◌, List, [], ◌∷◌, length, take, add-one}
use mathlib.Core.List.{append-nil}
use native.Mathlib.Numerals.{add-two}
use lib.ListN.{length-set, length-map, take-append-drop}
use lib.Seq.{sets, take-nil}
use Rattle.sets.specs.Sets.{members, reports, pairs_from, plus_each, replaced}
use Rattle.sets.proofs.Members.{reports_stored}
use Rattle.bits.proofs.write_members.Invariants.{due}
use Rattle.bits.proofs.write_members.Goals as goal

-- a turn takes the first of what is left, and there is room for it
turn : (n to s k r : ℕ) → 2 ≤ n - to → members 64 s ≡ k ∷ members 64 r → due n to s ≡ k ∷ due n (to + 2) r
turn n to s k r room e =
    let more : pairs_from n to ≡ suc (pairs_from n (to + 2)) = omega arith in
    ap₂ take more e

-- what was stored up to there is what is to be there
stored : (base end at to : ℕ) (ks out old : List ℕ) → to ≡ at + 2 * length ks → to ≤ length old → out ≡ sets old at (reports end (plus_each base ks)) → out ≡ replaced at to (reports end (plus_each base ks)) old
stored base end at to ks out old e h q =
    let as_many : to ≡ at + 2 * length (plus_each base ks) = rw length-map e in
    q ∙ reports_stored end (plus_each base ks) old at to as_many h

pub returns-then-out-at-clause-wrote : goal.returns-then-out-at-clause-wrote
unfolding reports
returns-then-out-at-clause-wrote c =
    let a = c.args in
    let none : pairs_from (length a.out.now) a.at ≡ 0 = omega arith in
    rw none (rw (append-nil (take a.at a.out.now)) (sym (take-append-drop a.at a.out.now)))

pub loop-k-preserved : goal.loop-k-preserved
unfolding reports
loop-k-preserved c =
    let l = c.loop-k in
    let e : due (length c.args.out.now) l.to l.k-iterator.0 ≡ c.in-Some.k ∷ due (length c.args.out.now) (l.to + 2) c.next.new.self.0 =
    turn _ l.to l.k-iterator.0 c.in-Some.k c.next.new.self.0 (omega arith) c.in-Some.ensures.steps.1 in
    (simp length-set (omega arith), omega arith, omega (arith, ap length e), rw (c.from.ensures, add-one, add-two) (rw (e, add-two) at l.invariant.3))

-- nothing that is due is left
written : (base end at to n s left : ℕ) (out old : List ℕ) → due n to left ≡ [] → to ≤ length old → to + 2 * length (due n to left) ≡ at + 2 * length (due n at s)
    → sets out to (reports end (plus_each base (due n to left))) ≡ sets old at (reports end (plus_each base (due n at s)))
    → out ≡ replaced at to (reports end (plus_each base (due n at s))) old
unfolding reports
written base end at to n s left out old none h e q = stored base end at to (due n at s) out old (omega (arith, ap length none)) h (rw none at q)

pub returns-in-None-clause-wrote : goal.returns-in-None-clause-wrote
returns-in-None-clause-wrote c =
    let l = c.loop-k in
    written _ _ _ l.to _ _ l.k-iterator.0 _ _ (rw (c.in-None.ensures.steps.0, take-nil)) (omega arith) l.invariant.2 l.invariant.3

pub returns-then-out-to-lt2-clause-wrote : goal.returns-then-out-to-lt2-clause-wrote
returns-then-out-to-lt2-clause-wrote c =
    let l = c.loop-k in
    let few : pairs_from (length c.args.out.now) l.to ≡ 0 = omega arith in
    written _ _ _ l.to _ _ l.k-iterator.0 _ _ (rw few) (omega arith) l.invariant.2 l.invariant.3
