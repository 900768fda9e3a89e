-- The members of a set below 64, passed one by one. Assumes nothing.
use Rattle.std.specs.Prelude.{Option, MatchOption, ◌≡◌, [], ◌∷◌, ℕ, ◌<◌}
use Rattle.sets.specs.Sets.{members}

-- the least of the set s is given, and t is what is left; or nothing, where s is empty
abbrev pub Passes : ℕ → Option ℕ → ℕ → Type 0
Passes s r t = MatchOption r ((members 64 s ≡ []) × (members 64 t ≡ [])) (λ k. (k < 64) × (members 64 s ≡ k ∷ members 64 t))
