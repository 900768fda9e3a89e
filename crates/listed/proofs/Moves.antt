-- The looks of a run that reads its whole text: one a byte goes on. Assumes nothing.
use Rattle.std.specs.Prelude.{Option, Some, None}
use mathlib.Core.List.{List, [], ◌∷◌, ◌++◌}
use mathlib.Core.Path.{◌≡◌, refl, ◌∙◌}
use Prim.Native.Nat.{ℕ, zero, suc, ◌+◌}
use native.Mathlib.Numerals.{one-add}
use native.Mathlib.Omega.{arith}
use lib.ListN.{length}
use Rattle.sets.specs.Sums.{sum_over}
use Rattle.sets.proofs.Sums.{sum_append}
use Rattle.one_byte.specs.declared.Moved.{Moved}
use Rattle.one_byte.specs.declared.Look.{Look}
use Rattle.one_byte.specs.declared.Look.TheVariants.{Go, Fall, Wrong}
use Rattle.one_byte.specs.Move.{reached, look_at, on_look, move_in, move_from, on_move}
use Rattle.walk.specs.Walk.{read, stopped, reported, run_from}
use Rattle.listed.specs.Looks.{after_look, looks_in, looks_from, going, goings}

module _ (goto fall out : List ℕ) (n : ℕ) where
  one-look : (falls : ℕ) (l : Look) (k : ℕ → Option Moved) (ls : ℕ → List Look) {e f : ℕ}
      → ((to : ℕ) → k to ≡ reached e f → goings (ls to) ≡ 1) → on_look l falls k ≡ reached e f → goings (l ∷ after_look l ls) ≡ 1
  unfolding sum_over
  one-look falls (Go to) k ls ih q = refl
  one-look falls (Fall to) k ls ih q = omega (arith, ih to q)
  one-look falls Wrong k ls ih q = cc

  one-move : (k row c falls : ℕ) {e f : ℕ} → move_in goto fall n k row c falls ≡ reached e f → goings (looks_in goto fall n k row c) ≡ 1
  unfolding move_in looks_in
  one-move zero row c falls q = cc
  one-move (suc k) row c falls q = one-look falls (look_at goto fall n row c) _ _ (λ to p. one-move k to c (falls + 1) p) q

  one_byte : (at row falls made c : ℕ) (text : List ℕ) {m f last : ℕ} (v : Option Moved) → move_from goto fall n row c 0 ≡ v
      → ((to falls made : ℕ) → run_from goto fall out n (at + 1) to falls made text ≡ read m f last → goings (looks_from goto fall n to text) ≡ length text)
      → on_move v (λ to more. run_from goto fall out n (at + 1) to (falls + more) (made + length (reported out to)) text) (stopped at) ≡ read m f last
      → goings (looks_in goto fall n (suc row) row c ++ on_move v (λ to more. looks_from goto fall n to text) []) ≡ suc (length text)
  unfolding move_from
  one_byte at row falls made c text (Some v) e ih q =
      sum_append going (looks_in goto fall n (suc row) row c) (looks_from goto fall n v.row text)
      ∙ rw (one-move (suc row) row c 0 e, ih v.row (falls + v.falls) (made + length (reported out v.row)) q) (one-add (length text))
  one_byte at row falls made c text None e ih q = cc

  pub one_a_byte : (text : List ℕ) (at row falls made : ℕ) {m f last : ℕ} → run_from goto fall out n at row falls made text ≡ read m f last
      → goings (looks_from goto fall n row text) ≡ length text
  unfolding run_from looks_from sum_over
  one_a_byte [] at row falls made q = refl
  one_a_byte (c ∷ text) at row falls made q =
      one_byte at row falls made c text (move_from goto fall n row c 0) refl (λ to f m p. one_a_byte text (at + 1) to f m p) q
