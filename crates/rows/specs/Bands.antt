-- The order of texts, and the rows where standings go by three bands of bytes, by bytes written out. Assumes nothing.
use Rattle.std.specs.Prelude.{List, [], ◌∷◌, ◌≡◌, ℕ, ◌/◌}
use Rattle.rows.specs.Rows.{Before, Ascending, IsRows}

-- t comes before u, and not u before t
abbrev pub ComesFirst : List ℕ → List ℕ → Type 0
ComesFirst t u = Before t u × (¬ Before u t)

-- a smaller byte; a shorter text, whichever its bytes; and of two bytes the first as it is read, which stands last here
pub record TextsByBytes : Type 0 where
  pub smaller : ComesFirst (1 ∷ []) (2 ∷ [])
  pub shorter : ComesFirst (255 ∷ []) (0 ∷ 0 ∷ [])
  pub read : ComesFirst (9 ∷ 1 ∷ []) (0 ∷ 2 ∷ [])

-- Bytes in three bands, 0 to 96, 97 to 193 and 194 to 255, as for two rules of one symbol each: texts stand alike where their last bytes are in one band.
abbrev pub band : List ℕ → ℕ
band [] = 0
band (c ∷ t) = c / 97

abbrev pub SameBand : List ℕ → List ℕ → Type 0
SameBand t u = band t ≡ band u

-- the rows; and lists that are not: with a text that is not the least, and in another order
pub record RowsByBytes : Type 0 where
  pub rows : IsRows SameBand ([] ∷ (97 ∷ []) ∷ (194 ∷ []) ∷ [])
  pub not_least : ¬ Ascending SameBand ([] ∷ (98 ∷ []) ∷ (194 ∷ []) ∷ [])
  pub not_in_order : ¬ Ascending SameBand ([] ∷ (194 ∷ []) ∷ (97 ∷ []) ∷ [])
