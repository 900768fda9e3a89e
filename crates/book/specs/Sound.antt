-- What a book may hold, which every accepted one keeps to: the limits, the symbols and the pictures. Assumes nothing.
use Rattle.std.specs.Prelude.{ℕ, suc, ◌+◌, ◌≤◌, ◌<◌, ◌≡◌, true, List, [], length, get_or}
use Rattle.book.specs.Limits.{most_pictures, most_rules, most_symbols}
use Rattle.book.specs.Content.{Content, member, symbol_at}

-- picture p of a
abbrev pub picture_at : Content → ℕ → List ℕ
picture_at a p = get_or a.pictures p []

-- the limits are kept; a rule has a symbol, each a byte or a picture of the book; a picture has 1 to 256 bytes, strictly ascending
pub record Sound (a : Content) : Type 0 where
  pub few_pictures : length a.pictures ≤ most_pictures
  pub few_rules : length a.rules ≤ most_rules
  pub not_empty : (k : ℕ) → k < length a.rules → 0 < length (get_or a.rules k [])
  pub short : (k : ℕ) → length (get_or a.rules k []) ≤ most_symbols
  pub symbols : (k j : ℕ) → symbol_at a.rules k j < 256 + length a.pictures
  pub filled : (p : ℕ) → p < length a.pictures → 0 < length (picture_at a p)
  pub up_to : (p : ℕ) → length (picture_at a p) ≤ 256
  pub rising : (p i : ℕ) → suc i < length (picture_at a p) → get_or (picture_at a p) i 0 < get_or (picture_at a p) (suc i) 0
  pub bytes : (p c : ℕ) → member c (picture_at a p) ≡ true → c < 256
