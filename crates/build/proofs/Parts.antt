-- A list whose part was lent and came back, entry by entry. Assumes nothing.
use Prim.Native.Nat.{ℕ, ◌+◌, ◌≤◌, ◌<◌}
use mathlib.Core.Path.{◌≡◌}
use mathlib.Core.List.{List}
use lib.ListN.{length, get_or}
use borrow.Rule.Slice.PartMut.{put_mid}
use Rattle.std.proofs.Common.{rules}
use Rattle.std.proofs.lemmas.List.{places}

module _ (xs ys : List ℕ) (a k : ℕ) (fits : a + k ≤ length xs) (long : length ys ≡ k) where
  -- before the part, in it, and after it
  pub put_before : (j : ℕ) → j < a → get_or (put_mid a k xs ys) j 0 ≡ get_or xs j 0
  put_before j h = search (rules, places)

  pub put_in : (j : ℕ) → j < k → get_or (put_mid a k xs ys) (a + j) 0 ≡ get_or ys j 0
  put_in j h = search (rules, places)

  pub put_after : (j : ℕ) → get_or (put_mid a k xs ys) (a + (k + j)) 0 ≡ get_or xs (a + (k + j)) 0
  put_after j = search (rules, places)
