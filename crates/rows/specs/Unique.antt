-- What is proved of rows, whichever the equality of standings: a text has one row, row 0 is the empty text, no two lists are the rows, and there are at
-- most n standings or more, never both. Assumes nothing.
use Rattle.std.specs.Prelude.{◌≡◌, ◌⊎◌, List, [], ◌∷◌, ℕ, ◌<◌, length, get_or}
use Rattle.rows.specs.Rows.{IsRow, Ascending, IsRows, MoreThan, AtMost}

-- What is used of equality of standings: it is an equality, and one byte more keeps it.
pub record Congruence (Same : List ℕ → List ℕ → Type 0) : Type 0 where
  pub same : (t : List ℕ) → Same t t
  pub flip : {t u : List ℕ} → Same t u → Same u t
  pub join : {t u v : List ℕ} → Same t u → Same u v → Same t v
  pub more : (c : ℕ) {t u : List ℕ} → Same t u → Same (c ∷ t) (c ∷ u)

pub record Settled (Same : List ℕ → List ℕ → Type 0) : Type 0 where
  -- a text has one row
  pub one_row : {ts : List (List ℕ)} → Ascending Same ts → {t : List ℕ} {i j : ℕ} → IsRow Same ts t i → IsRow Same ts t j → i ≡ j
  -- row 0 is the empty text
  pub root : {ts : List (List ℕ)} → IsRows Same ts → (0 < length ts) × (get_or ts 0 [] ≡ [])
  -- no two lists are the rows
  pub unique : {ts us : List (List ℕ)} → IsRows Same ts → IsRows Same us → ts ≡ us
  -- where there are at most n standings there are not more
  pub not_both : {n : ℕ} → AtMost Same n → ¬ MoreThan Same n

abbrev pub Settles : Type 1
Settles = (Same : List ℕ → List ℕ → Type 0) → Congruence Same → Settled Same

-- Where equality of standings is decided, there are at most n or there are more.
abbrev pub Exists : Type 1
Exists = (Same : List ℕ → List ℕ → Type 0) → Congruence Same → ((t u : List ℕ) → Dec (Same t u)) → (n : ℕ) → MoreThan Same n ⊎ AtMost Same n
