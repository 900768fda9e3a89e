-- Widening by numbers written out: the lengths of the old live and out and of the new, and a buffer after it. Assumes nothing.
use Rattle.std.specs.Prelude.{◌≡◌, [], ◌∷◌, ℕ, replicate}
use Rattle.widen.specs.Widen.{widen_of, buffer_of, number_of, value_of}

-- a widening from and to buffers of these lengths has this number and this value
pub record Widens (old_live old_out live out number value : ℕ) : Type 0 where
  pub number_is : number_of (widen_of old_live old_out live out) ≡ number
  pub value_is : value_of (widen_of old_live old_out live out) ≡ value

pub record WidenedLengths : Type 0 where
  pub room : Widens 2 3 8 12 0 0
  pub more_room : Widens 2 3 11 15 0 0
  pub no_row : Widens 0 0 0 0 0 0
  pub live_short : Widens 2 3 7 12 33 2
  pub out_short : Widens 2 3 8 11 33 3
  -- live first
  pub both_short : Widens 2 3 7 11 33 2
  pub most : Widens 4096 4096 16384 16384 0 0
  pub most_short : Widens 4096 4096 16384 16383 33 4096

-- the old numbers 5 and 6, put into buffers of sevens
pub record WidenedBuffers : Type 0 where
  pub done : buffer_of (widen_of 2 2 8 8) (5 ∷ 6 ∷ []) (replicate 8 7) ≡ 5 ∷ 0 ∷ 0 ∷ 0 ∷ 6 ∷ 0 ∷ 0 ∷ 0 ∷ []
  pub longer : buffer_of (widen_of 2 2 10 8) (5 ∷ 6 ∷ []) (replicate 10 7) ≡ 5 ∷ 0 ∷ 0 ∷ 0 ∷ 6 ∷ 0 ∷ 0 ∷ 0 ∷ 0 ∷ 0 ∷ []
  pub short : buffer_of (widen_of 2 2 8 7) (5 ∷ 6 ∷ []) (replicate 8 7) ≡ replicate 8 7
