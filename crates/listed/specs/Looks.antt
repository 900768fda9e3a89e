-- The looks of a run over tables, in order, and how many of them go on. Assumes nothing.
use Rattle.std.specs.Prelude.{List, [], ◌∷◌, ◌++◌, ℕ, zero, suc}
use Rattle.sets.specs.Sums.{sum_over}
use Rattle.one_byte.specs.declared.Look.{Look}
use Rattle.one_byte.specs.declared.Look.TheVariants.{Go, Fall, Wrong}
use Rattle.one_byte.specs.Move.{look_at, move_from, on_move}

-- the looks after one, where it falls
abbrev pub after_look : Look → (ℕ → List Look) → List Look
after_look (Go e) k = []
after_look (Fall f) k = k f
after_look Wrong k = []

module _ (goto fall : List ℕ) (n : ℕ) where
  -- the looks of a byte's move, in order, as many as `move_in` makes
  unfoldable pub looks_in : ℕ → ℕ → ℕ → List Look
  looks_in zero row c = []
  looks_in (suc k) row c = look_at goto fall n row c ∷ after_look (look_at goto fall n row c) (λ f. looks_in k f c)

  -- those of the run over a text
  unfoldable pub looks_from : ℕ → List ℕ → List Look
  looks_from row [] = []
  looks_from row (c ∷ text) = looks_in (suc row) row c ++ on_move (move_from goto fall n row c 0) (λ to more. looks_from to text) []

-- 1 for a look that goes on
abbrev pub going : Look → ℕ
going (Go e) = 1
going (Fall f) = 0
going Wrong = 0

-- how many of them go on
abbrev pub goings : List Look → ℕ
goings ls = sum_over going ls
