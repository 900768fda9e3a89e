-- A record of leaf totals, place by place: its total is that of its parts, and what more it has with parts joined. Assumes nothing.
use mathlib.Core.Bool.{Bool, true, false, cond}
use mathlib.Core.Path.{◌≡◌, refl, sym, ap, ap₂, ◌∙◌}
use Prim.Native.Nat.{ℕ, ◌+◌, ◌<◌}
use native.Mathlib.Decide.{dec_lt}
use native.Mathlib.Omega.{arith}
use lib.ListN.{get_or}
use borrow.Author.Tests.{lt-ltb, le-ltb}
use lib.Dec.{ltb}
use Rattle.sets.proofs.Zeros.{zero_at}
use Rattle.book.specs.Limits.{most_rules}
use Rattle.shares.specs.Below.{sum_below}
use Rattle.book.specs.Content.{table}
use Rattle.shares.specs.Shares.{all_places}
use Rattle.shares.proofs.Below.{sum_next, sum_same, sum_plus, zeros-below}
use Rattle.book.proofs.Tables.{get_or_table}
use Rattle.shares.proofs.Tables.{total_table}
use Rattle.leaf_totals.specs.declared.LeafTotals.{LeafTotals}
use Rattle.leaf.specs.Leaf.{unnamed}
use Rattle.leaf_totals.specs.Record.{total_at, whole_in, empty_totals}
use Rattle.leaves.specs.Totals.{with_parts}
use Rattle.totalled.specs.Adding.{WholeIs}

-- ---- the total

pub whole_is : WholeIs
whole_is t =
    total_table (total_at t) ∙ sum_next (total_at t) most_rules
    ∙ ap₂ ◌+◌ (sum_same (total_at t) (λ k. get_or t.totals k 0) most_rules (λ k h. rw (lt-ltb k most_rules h))) refl

-- ---- parts joined

module _ (t : LeafTotals) (part : ℕ → ℕ) where
  pub joined_at : (p : ℕ) → p < all_places → total_at (with_parts t part) p ≡ total_at t p + part p
  unfolding with_parts
  joined_at p h = elim (dec_lt p unnamed) [
    | yes l ↦
        ap (λ (b : Bool). cond b (get_or (table most_rules (λ k. total_at t k + part k)) p 0) (total_at t unnamed + part unnamed)) (lt-ltb p unnamed l)
        ∙ get_or_table most_rules (λ k. total_at t k + part k) p 0 l
    | no l ↦
        let e : p ≡ unnamed = omega arith in
        ap (λ (b : Bool). cond b (get_or (table most_rules (λ k. total_at t k + part k)) p 0) (total_at t unnamed + part unnamed)) (le-ltb p unnamed (omega arith))
        ∙ ap (λ (k : ℕ). total_at t k + part k) (sym e)
  ]

  pub joined-whole : whole_in (with_parts t part) ≡ whole_in t + sum_below part all_places
  joined-whole =
      total_table (total_at (with_parts t part)) ∙ sum_same (total_at (with_parts t part)) (λ p. total_at t p + part p) all_places joined_at
      ∙ sum_plus (total_at t) part all_places ∙ ap (λ (k : ℕ). k + sum_below part all_places) (sym (total_table (total_at t)))

  pub joined_profiles : (with_parts t part).profiles ≡ t.profiles + 1
  unfolding with_parts
  joined_profiles = refl

-- ---- nothing counted

pub empty-totals : (p : ℕ) → total_at empty_totals p ≡ 0
empty-totals p = go (ltb p unnamed)
  where
    go : (b : Bool) → cond b (get_or empty_totals.totals p 0) 0 ≡ 0
    go true = zero_at most_rules p
    go false = refl

pub empty-whole : whole_in empty_totals ≡ 0
empty-whole = total_table (total_at empty_totals) ∙ zeros-below (total_at empty_totals) all_places (λ p h. empty-totals p)
