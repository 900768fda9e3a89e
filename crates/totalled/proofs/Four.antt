-- A record whose totals are 0 past the fourth: its totals, and its shares by those of the first four places and of unnamed. Assumes nothing.
use mathlib.Core.Bool.{cond}
use mathlib.Core.List.{[], ◌∷◌}
use mathlib.Core.Path.{◌≡◌, ◌∙◌}
use Prim.Native.Nat.{ℕ, zero, suc, ◌<◌}
use native.Mathlib.Omega.{arith}
use lib.Dec.{ltb}
use lib.ListN.{get_or, get_or-eq_default}
use borrow.Author.Tests.{lt-ltb}
use Rattle.shares.specs.Shares.{all_places, amount_at}
use Rattle.shares.specs.Demands.{share}
use Rattle.book.proofs.Tables.{get_or_table}
use Rattle.leaf_totals.specs.declared.LeafTotals.{LeafTotals}
use Rattle.leaf_totals.specs.Record.{total_at, totals_in}
use Rattle.totalled.proofs.Rounded.{AtEnds, none_between}
use Rattle.totalled.proofs.Shared.{SharesAre}

-- what it has at place p
abbrev pub totals_are_lem : ℕ → ℕ → ℕ → ℕ → ℕ → ℕ → ℕ
totals_are_lem a b c d rest p = cond (ltb p 256) (get_or (a ∷ b ∷ c ∷ d ∷ []) p 0) rest

pub record FourOf (t : LeafTotals) (a b c d rest : ℕ) : Type 0 where
  pub at : (p : ℕ) → p < 257 → total_at t p ≡ totals_are_lem a b c d rest p

module _ {t : LeafTotals} {a b c d rest : ℕ} (x : FourOf t a b c d rest) where
  amount : (p : ℕ) → p < 257 → amount_at (totals_in t) p ≡ totals_are_lem a b c d rest p
  amount p l = get_or_table all_places (total_at t) p 0 l ∙ x.at p l

  pub four-first : (p : ℕ) → p < 256 → get_or t.totals p 0 ≡ get_or (a ∷ b ∷ c ∷ d ∷ []) p 0
  four-first p l = rw (lt-ltb p 256 l) at (x.at p (omega arith))

  pub at_ends : AtEnds (totals_in t) a b c d rest
  at_ends = record {
    at0 = amount 0 (omega arith);
    at1 = amount 1 (omega arith);
    at2 = amount 2 (omega arith);
    at3 = amount 3 (omega arith);
    last = amount 256 (omega arith);
    between = λ p g l. amount p (omega arith) ∙ rw (lt-ltb p 256 l) (get_or-eq_default (a ∷ b ∷ c ∷ d ∷ []) 0 {n = p} g);
  }

  pub four_shares : {s u v y z : ℕ} → SharesAre (totals_in t) s u v y z → (p : ℕ) → p < 256 → share (totals_in t) p ≡ get_or (s ∷ u ∷ v ∷ y ∷ []) p 0
  four_shares q zero l = q.first
  four_shares q (suc zero) l = q.second
  four_shares q (suc (suc zero)) l = q.third
  four_shares q (suc (suc (suc zero))) l = q.fourth
  four_shares q (suc (suc (suc (suc p)))) l = none_between at_ends (suc (suc (suc (suc p)))) (omega arith) l
