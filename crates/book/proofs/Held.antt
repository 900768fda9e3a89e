-- What a record that holds a content says at each place. Assumes nothing.
use Prim.Native.Nat.{ℕ, ◌≤◌}
use mathlib.Core.Path.{◌≡◌, ap}
use native.Mathlib.Omega.{arith}
use lib.ListN.{length, get_or, get_or-eq_default}
use Rattle.book.specs.declared.Book.{Book}
use Rattle.book.specs.Limits.{most_rules, most_symbols}
use Rattle.book.specs.Content.{Content, sizes, record_of}
use Rattle.book.specs.Sound.{Sound}
use Rattle.book.proofs.Cases.{by_lt}
use Rattle.book.proofs.Tables.{length_table, get_or-sizes}

module _ {b : Book} (a : Content) (e : b ≡ record_of a) where
  pub rules-held : b.rules ≡ length a.rules
  unfolding record_of
  rules-held = ap (λ x. x.rules) e

  pub lengths_held : b.lengths ≡ sizes most_rules a.rules
  unfolding record_of
  lengths_held = ap (λ x. x.lengths) e

  pub short_held : Sound a → (k : ℕ) → get_or b.lengths k 0 ≤ most_symbols
  unfolding sizes
  short_held S k =
      rw lengths_held
      (by_lt k most_rules
      (λ h. rw (get_or-sizes most_rules a.rules k h) (S.short k))
      (λ h. rw (get_or-eq_default (sizes most_rules a.rules) 0 {n = k} (rw length_table h)) (omega arith)))
