-- The rows of a rule book: the different standings of all texts, each by its least text, in order. `Same t u` says that t and u have equal standings.
-- A text is the list of its bytes, the latest first. Assumes nothing.
use Rattle.std.specs.Prelude.{◌≡◌, List, [], ◌∷◌, ℕ, suc, ◌≤◌, ◌<◌, length, get_or}

-- Every element is a byte.
abbrev pub ByteText : List ℕ → Type 0
ByteText t = (i : ℕ) → get_or t i 0 < 256

-- Shorter first, and among equal lengths the bytewise smaller, as texts are read: so the heads, which are read last, are compared last.
pub data Before : List ℕ → List ℕ → Type 0 where
  none : {d : ℕ} {u : List ℕ} → Before [] (d ∷ u)
  earlier : {c d : ℕ} {t u : List ℕ} → Before t u → Before (c ∷ t) (d ∷ u)
  last : {c d : ℕ} {t : List ℕ} → c < d → Before (c ∷ t) (d ∷ t)

module _ (Same : List ℕ → List ℕ → Type 0) where
  -- Row i is the row of t.
  pub record IsRow (ts : List (List ℕ)) (t : List ℕ) (i : ℕ) : Type 0 where
    pub below : i < length ts
    pub same : Same t (get_or ts i [])

  -- Some row is the row of t.
  abbrev pub HasRow : List (List ℕ) → List ℕ → Type 0
  HasRow ts t = (i : ℕ) × IsRow ts t i

  -- The texts ascend, and each is the least of its standing: so no two have the same standing.
  pub record Ascending (ts : List (List ℕ)) : Type 0 where
    pub bytes : (i : ℕ) → i < length ts → ByteText (get_or ts i [])
    pub ordered : (i j : ℕ) → i < j → j < length ts → Before (get_or ts i []) (get_or ts j [])
    pub least : (i : ℕ) → i < length ts → {u : List ℕ} → ByteText u → Same u (get_or ts i []) → ¬ Before u (get_or ts i [])

  -- They are the rows: every text has its row among them.
  pub record IsRows (ts : List (List ℕ)) : Type 0 where
    pub ascending : Ascending ts
    pub complete : (u : List ℕ) → ByteText u → HasRow ts u

  -- There are more than n standings: n + 1 texts, no two of the same.
  pub record MoreThan (n : ℕ) : Type 0 where
    pub texts : List (List ℕ)
    pub long : length texts ≡ suc n
    pub bytes : (i : ℕ) → i < length texts → ByteText (get_or texts i [])
    pub different : (i j : ℕ) → i < j → j < length texts → ¬ Same (get_or texts i []) (get_or texts j [])

  -- There are at most n: the rows are so many.
  pub record AtMost (n : ℕ) : Type 0 where
    pub texts : List (List ℕ)
    pub rows : IsRows texts
    pub few : length texts ≤ n
