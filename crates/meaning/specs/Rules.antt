-- A rule book without its format: the rules, each a list of symbols, and the members of each picture. A text is a list of bytes, the latest read first.
-- Assumes nothing.
use Rattle.std.specs.Prelude.{◌≡◌, ◌↔◌, Bool, true, false, ◌&&◌, cond, List, [], ◌∷◌, ℕ, zero, suc, ◌+◌, ◌-◌, ◌≤◌, ◌<◌, ltb, eqb, length, get_or}

-- A symbol below 256 is that byte, and 256 + p is picture p; `member p c` says that the byte c is a member of picture p.
pub record Rules : Type 0 where
  pub rules : List (List ℕ)
  pub member : ℕ → ℕ → Bool

-- how many rules there are
abbrev pub count : Rules → ℕ
count r = length r.rules

-- how many symbols rule k has
abbrev pub size : Rules → ℕ → ℕ
size r k = length (get_or r.rules k [])

-- symbol j of rule k
abbrev pub symbol : Rules → ℕ → ℕ → ℕ
symbol r k j = get_or (get_or r.rules k []) j 0

-- the byte c fits the symbol s: it is that byte or a member of that picture
unfoldable pub fits : Rules → ℕ → ℕ → Bool
fits r c s = cond (ltb s 256) (eqb c s) (r.member (s - 256) c)

-- in plain words: a symbol below 256 is fitted by that byte alone, and 256 + p by the members of picture p
pub record FitsSymbol (r : Rules) (c : ℕ) : Type 0 where
  pub byte : (b : ℕ) → b < 256 → (fits r c b ≡ true) ↔ (c ≡ b)
  pub picture : (p : ℕ) → fits r c (256 + p) ≡ r.member p c

abbrev pub FitsSymbols : Type 0
FitsSymbols = (r : Rules) (c : ℕ) → FitsSymbol r c

-- rule k has a symbol j, and the byte c fits it
unfoldable pub fits_at : Rules → ℕ → ℕ → ℕ → Bool
fits_at r c k j = ltb j (size r k) && fits r c (symbol r k j)

-- the last j bytes of the text fit the first j symbols of rule k
unfoldable pub stands : Rules → List ℕ → ℕ → ℕ → Bool
stands r t k zero = true
stands r [] k (suc j) = false
stands r (c ∷ t) k (suc j) = fits_at r c k j && stands r t k j

-- the same by index: byte i of the last j, as they are read, is number j - 1 - i of the text, whose latest byte is number 0
pub record Fits (r : Rules) (t : List ℕ) (k j : ℕ) : Type 0 where
  pub bytes : j ≤ length t
  pub symbols : j ≤ size r k
  pub each : (i : ℕ) → i < j → fits r (get_or t (j - suc i) 0) (symbol r k i) ≡ true

abbrev pub StandsIff : Type 0
StandsIff = (r : Rules) (t : List ℕ) (k j : ℕ) → (stands r t k j ≡ true) ↔ Fits r t k j
