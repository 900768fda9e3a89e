-- A run has at most as many reports a byte as there may be rules. Assumes nothing.
use Rattle.std.specs.Prelude.{Option, Some, None, Result, Ok, Err}
use mathlib.Core.List.{List, [], ◌∷◌}
use mathlib.Core.Path.{subst}
use Prim.Native.Nat.{ℕ, suc, ◌+◌, ◌*◌, ◌≤◌}
use native.Mathlib.Omega.{arith}
use lib.ListN.{length}
use Rattle.sets.specs.Table.{rules_at}
use Rattle.sets.proofs.Members.{members-le}
use Rattle.book.specs.Limits.{most_rules}
use Rattle.one_byte.specs.Move.{move_from, on_move}
use Rattle.walk.specs.Walk.{stopped, reported, run_from, run_of}
use Rattle.walk.specs.declared.Run.{Run}
use Rattle.answers.specs.declared.Damaged.{Damaged}
use Rattle.one_byte.specs.declared.Moved.{Moved}
use Rattle.listed.specs.Demands.{FewReports}

reported-le : (out : List ℕ) (row : ℕ) → length (reported out row) ≤ most_rules
unfolding reported
reported-le out row = members-le most_rules (rules_at out row)

-- a run that starts with so many has at most so many when it is read
abbrev AtMost : ℕ → Result Run Damaged → Type 0
AtMost most (Ok r) = r.made ≤ most
AtMost most (Err d) = Unit {0}

at_most : {a b : ℕ} (r : Result Run Damaged) → a ≤ b → AtMost a r → AtMost b r
at_most (Ok r) h l = omega arith
at_most (Err d) h l = tt

module _ (goto fall out : List ℕ) (n : ℕ) where
  run-few : (text : List ℕ) (at row falls made : ℕ) → AtMost (made + most_rules * length text) (run_from goto fall out n at row falls made text)
  unfolding run_from
  run-few [] at row falls made = omega arith
  run-few (c ∷ text) at row falls made = go (move_from goto fall n row c 0) (λ to f m. run-few text (at + 1) to f m)
    where
      go : (m : Option Moved) → ((to f m : ℕ) → AtMost (m + most_rules * length text) (run_from goto fall out n (at + 1) to f m text))
          → AtMost (made + most_rules * suc (length text)) (on_move m (λ to more. run_from goto fall out n (at + 1) to (falls + more) (made + length (reported out to)) text) (stopped at))
      go (Some v) ih = at_most (run_from goto fall out n (at + 1) v.row (falls + v.falls) (made + length (reported out v.row)) text) (omega (arith, reported-le out v.row)) (ih v.row (falls + v.falls) (made + length (reported out v.row)))
      go None ih = tt

pub few-reports : FewReports
few-reports goto fall out text n made falls row e = subst (AtMost (most_rules * length text)) e (at_most (run_of goto fall out n text) (omega arith) (run-few goto fall out n text 0 0 0 0))
