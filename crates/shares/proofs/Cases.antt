-- The answer and the shares, case by case. Assumes nothing.
use mathlib.Core.Path.{◌≡◌}
use mathlib.Core.List.{List}
use Prim.Native.Nat.{ℕ, ◌≤◌, ◌<◌}
use native.Mathlib.Omega.{arith}
use lib.ListN.{replicate}
use Rattle.std.specs.Prelude.{Ok, Err}
use borrow.Author.Tests.{lt-ltb, le-ltb, eq-eqb, ne_eqb}
use Rattle.book.specs.Content.{table}
use Rattle.shares.specs.Shares.{all_places, limit, share_in, amount_at, total_of, shares_of}

module _ (totals : List ℕ) where
  pub is_past : limit < total_of totals → record { answer = Err (record {}); parts = replicate all_places 0 } ≡ shares_of totals
  is_past h = rw (lt-ltb limit (total_of totals) h)

  pub is_nothing : total_of totals ≡ 0 → record { answer = Ok tt; parts = replicate all_places 0 } ≡ shares_of totals
  is_nothing e = rw (le-ltb limit (total_of totals) (omega arith), eq-eqb (total_of totals) 0 e)

  pub is_given : 0 < total_of totals → total_of totals ≤ limit → record { answer = Ok tt; parts = table all_places (share_in (amount_at totals) all_places (total_of totals)) } ≡ shares_of totals
  is_given h l = rw (le-ltb limit (total_of totals) l, ne_eqb (total_of totals) 0 (λ e. omega arith))
